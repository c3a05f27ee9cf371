use Rattle.std.proofs.Common.{arith, rules, ◌∙◌, ltb, sym, ◌^◌, slice_get, Some, ap}
use Rattle.std.proofs.lemmas.List.Sorted.{IsPartitionPoint-from_clause, IsPartitionedBy-ltb}
use Rattle.hip_ledger.proofs.Searches.{IsPlaced, found_note, got, got_none, if_some, none_note, placed, stored_at, stores_rise, there_note}
use Rattle.hip_ledger.proofs.pending.find_in.Goals as goal

pub returns-in-Some-clause-found : goal.returns-in-Some-clause-found
returns-in-Some-clause-found c =
    let parted = IsPartitionedBy-ltb stored_at c.args.notes.now c.args.tag (stores_rise 0 (2 ^ 128) c.args.notes.now c.requires) in
    let point = IsPartitionPoint-from_clause (λ x. ltb (stored_at x) c.args.tag) c.args.notes.now c.partition_point-at.result c.partition_point-at.ensures.partitioned parted (λ a r q k. search rules) in
    let at : IsPlaced c.args.notes.now c.args.tag (slice_get c.args.notes.now c.partition_point-at.result) = placed 0 (2 ^ 128) c.args.tag c.args.notes.now c.partition_point-at.result c.requires (λ k d lt w. point.0 k d (omega arith) lt) (λ k d le w. point.1 k d le w) in
    if_some _ _ c.this_one.result c.this_one.ensures.found (λ found h. found_note c.args.notes.now c.args.tag _ c.in-Some.note.now at (got c.args.notes.now c.partition_point-at.result c.in-Some.note.now c.in-Some.ensures.lookup.3.0 c.in-Some.ensures.lookup.1) h.1 ∙ ap Some (sym h.0))

pub returns-in-Some-clause-there : goal.returns-in-Some-clause-there
returns-in-Some-clause-there c some =
    let parted = IsPartitionedBy-ltb stored_at c.args.notes.now c.args.tag (stores_rise 0 (2 ^ 128) c.args.notes.now c.requires) in
    let point = IsPartitionPoint-from_clause (λ x. ltb (stored_at x) c.args.tag) c.args.notes.now c.partition_point-at.result c.partition_point-at.ensures.partitioned parted (λ a r q k. search rules) in
    let at : IsPlaced c.args.notes.now c.args.tag (slice_get c.args.notes.now c.partition_point-at.result) = placed 0 (2 ^ 128) c.args.tag c.args.notes.now c.partition_point-at.result c.requires (λ k d lt w. point.0 k d (omega arith) lt) (λ k d le w. point.1 k d le w) in
    c.this_one.ensures.there (there_note c.args.notes.now c.args.tag _ c.in-Some.note.now at (got c.args.notes.now c.partition_point-at.result c.in-Some.note.now c.in-Some.ensures.lookup.3.0 c.in-Some.ensures.lookup.1) some)

pub returns-in-None-clause-there : goal.returns-in-None-clause-there
returns-in-None-clause-there c some =
    let parted = IsPartitionedBy-ltb stored_at c.args.notes.now c.args.tag (stores_rise 0 (2 ^ 128) c.args.notes.now c.requires) in
    let point = IsPartitionPoint-from_clause (λ x. ltb (stored_at x) c.args.tag) c.args.notes.now c.partition_point-at.result c.partition_point-at.ensures.partitioned parted (λ a r q k. search rules) in
    let at : IsPlaced c.args.notes.now c.args.tag (slice_get c.args.notes.now c.partition_point-at.result) = placed 0 (2 ^ 128) c.args.tag c.args.notes.now c.partition_point-at.result c.requires (λ k d lt w. point.0 k d (omega arith) lt) (λ k d le w. point.1 k d le w) in
    absurd (none_note c.args.notes.now c.args.tag _ at (got_none c.args.notes.now c.partition_point-at.result c.in-None.ensures.lookup.3) some)
