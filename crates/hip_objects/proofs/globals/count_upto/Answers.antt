use Rattle.std.proofs.Common.{rules}
use Rattle.std.proofs.lemmas.List.Sorted.{IsPartitionPoint-from_clause}
use Rattle.std.specs.Prelude.{nat_le}
use Rattle.hip_objects.proofs.Search.{split_by, starts-in-order}
use Rattle.hip_objects.proofs.globals.count_upto.Goals as goal

pub returns-clause-split : goal.returns-clause-split
returns-clause-split c =
    split_by (λ p. p.start) (λ p. p.size) (λ p. p.number) c.args.places.now c.args.addr c.partition_point.result
    (IsPartitionPoint-from_clause (λ p. nat_le p.start c.args.addr) c.args.places.now c.partition_point.result c.partition_point.ensures.partitioned
    (starts-in-order (λ p. p.start) (λ p. p.size) (λ p. p.number) c.args.places.now c.args.addr c.requires) (λ a r f called. search rules))
