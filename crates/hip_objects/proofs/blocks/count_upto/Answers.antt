use Rattle.std.proofs.Common.{rules}
use Rattle.std.proofs.lemmas.List.Sorted.{IsPartitionPoint-from_clause}
use Rattle.std.specs.Prelude.{nat_le}
use Rattle.hip_objects.proofs.Search.{split_by, starts-in-order}
use Rattle.hip_objects.proofs.blocks.count_upto.Goals as goal

pub returns-clause-split : goal.returns-clause-split
returns-clause-split c =
    split_by (λ b. b.addr) (λ b. b.size) (λ b. b.site) c.args.blocks.now c.args.addr c.partition_point.result
    (IsPartitionPoint-from_clause (λ b. nat_le b.addr c.args.addr) c.args.blocks.now c.partition_point.result c.partition_point.ensures.partitioned
    (starts-in-order (λ b. b.addr) (λ b. b.size) (λ b. b.site) c.args.blocks.now c.args.addr c.requires) (λ a r f called. search rules))
