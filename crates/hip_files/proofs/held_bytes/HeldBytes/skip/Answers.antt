use Rattle.std.proofs.Common.{ℕ, ◌-◌, ◌≤◌, ◌∙◌, length, take, drop, slice_range, arith, ap}
use Rattle.std.proofs.lemmas.List.{length-take, with_items_is}
use Rattle.hip_files.proofs.Pieces.{skipped}
use Rattle.hip_files.proofs.held_bytes.HeldBytes.skip.Goals as goal

pub returns : goal.returns
returns c =
    let h = c.self.inside in
    let fits : c.args.count ≤ length (take h.count h.buffer.items) = rw c.self.view_is c.requires in
    let back = with_items_is h.buffer c.move_down.new.bytes (omega (arith, c.move_down.ensures.len, c.as_mut_slice.ensures.len)) in
    ap (take (h.count - c.args.count)) back ∙ c.move_down.ensures.moved
    ∙ ap (λ xs. slice_range xs c.args.count h.count) c.as_mut_slice.ensures.value
    ∙ skipped h.buffer.items h.count c.args.count (omega (arith, length-take {A = ℕ})) ∙ ap (drop c.args.count) c.self.view_is
