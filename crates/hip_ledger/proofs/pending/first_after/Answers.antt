use Rattle.std.proofs.Common.{arith, rules, ◌∙◌, leb, ◌^◌, sym, ◌≡◌, slice_get}
use Rattle.std.proofs.lemmas.List.Sorted.{IsPartitionPoint-from_clause, IsPartitionedBy-leb}
use Rattle.hip_ledger.specs.Pending.{first_after}
use Rattle.hip_ledger.proofs.Searches.{first_placed, flushed_at, flushes_rise, got, got_none}
use Rattle.hip_ledger.proofs.pending.first_after.Goals as goal

pub returns-in-Some : goal.returns-in-Some
returns-in-Some c =
    let parted = IsPartitionedBy-leb flushed_at c.args.flushes.now c.args.step (flushes_rise 0 (2 ^ 128) c.args.flushes.now c.requires) in
    let point = IsPartitionPoint-from_clause (λ f. leb (flushed_at f) c.args.step) c.args.flushes.now c.partition_point-at.result c.partition_point-at.ensures.partitioned parted (λ a r q k. search rules) in
    let at : slice_get c.args.flushes.now c.partition_point-at.result ≡ first_after c.args.step c.args.flushes.now = first_placed c.args.step c.args.flushes.now c.partition_point-at.result (λ k d lt w. point.0 k d (omega arith) lt) (λ k d le w. point.1 k d le w) in
    sym (got c.args.flushes.now c.partition_point-at.result c.in-Some.flush.now c.in-Some.ensures.lookup.3.0 c.in-Some.ensures.lookup.1) ∙ at

pub returns-in-None : goal.returns-in-None
returns-in-None c =
    let parted = IsPartitionedBy-leb flushed_at c.args.flushes.now c.args.step (flushes_rise 0 (2 ^ 128) c.args.flushes.now c.requires) in
    let point = IsPartitionPoint-from_clause (λ f. leb (flushed_at f) c.args.step) c.args.flushes.now c.partition_point-at.result c.partition_point-at.ensures.partitioned parted (λ a r q k. search rules) in
    let at : slice_get c.args.flushes.now c.partition_point-at.result ≡ first_after c.args.step c.args.flushes.now = first_placed c.args.step c.args.flushes.now c.partition_point-at.result (λ k d lt w. point.0 k d (omega arith) lt) (λ k d le w. point.1 k d le w) in
    sym (got_none c.args.flushes.now c.partition_point-at.result c.in-None.ensures.lookup.3) ∙ at
