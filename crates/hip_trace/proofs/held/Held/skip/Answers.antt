use Rattle.std.proofs.Common.{ℕ, ◌≤◌, length, slice_range, arith, ap, drop, ◌∙◌}
use Rattle.std.proofs.lemmas.List.{length-take, length-drop}
use Rattle.hip_trace.proofs.HeldLaws.{skipped}
use Rattle.hip_trace.proofs.held.Held.skip.Goals as goal

pub returns : goal.returns
returns c =
    let h = c.self.inside in
    let fits : c.args.count ≤ length (slice_range h.bytes h.start h.end) = rw c.self.view_is c.requires in
    skipped h.bytes h.start h.end c.args.count (omega (arith, length-take {A = ℕ}, length-drop {A = ℕ})) ∙ ap (drop c.args.count) c.self.view_is
