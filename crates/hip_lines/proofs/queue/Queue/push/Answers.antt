use Rattle.std.proofs.Common.{◌≡◌, ℕ, ◌+◌, ◌%◌, ◌≤◌, ◌&&◌, [], ◌∷◌, nat_le, nat_lt, ap, ◌∙◌, cond, length, slice_index, arith, length-append}
use Rattle.hip_lines.specs.Parts.{part_covers}
use Rattle.hip_lines.proofs.Covered.{covered_place}
use Rattle.hip_lines.proofs.Shows.{numbers-pushed, shows-pushed}
use Rattle.hip_lines.proofs.queue.Queue.push.Goals as goal

pub invariant_of-self-clause-numbered : goal.invariant_of-self-clause-numbered
invariant_of-self-clause-numbered c =
    let q = c.args.self.now in
    let longer = length-append q.tags.items (c.args.part.tag ∷ []) in
    let from = c.args.part.offset % 64 in
    numbers-pushed (length q.tags.items) _ (c.len.result + 1) q.numbers _ (λ i. nat_le from i && nat_lt i (from + c.args.part.size)) (omega (arith, longer, c.len.ensures, q.tags.ok.0, ap length c.push_reserved.ensures.items)) (omega (arith, longer, ap length c.push_reserved.ensures.items)) c.number_bytes.ensures.numbers q.numbered

pub invariant_of-self-clause-shows : goal.invariant_of-self-clause-shows
invariant_of-self-clause-shows c =
    let q = c.args.self.now in
    shows-pushed q.tags.items q.flushed q.numbers q.line q.history.pending q.numbered q.within q.shows _ _ _ c.args.part (c.len.result + 1) c.push_reserved.ensures.items (ap (λ n. n + 1) (c.len.ensures ∙ q.tags.ok.0))
    (λ b e. c.number_bytes.ensures.numbers (b % 64) ∙ ap (λ t. cond t (c.len.result + 1) (slice_index q.numbers (b % 64))) (covered_place c.args.part q.line b c.requires.first e)) c.then-history.ensures
