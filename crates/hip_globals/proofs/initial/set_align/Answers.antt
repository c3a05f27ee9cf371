use Rattle.std.proofs.Common.{◌≡◌, ◌+◌, ◌-◌, length, ap, ◌∙◌}
use Rattle.hip_globals.proofs.ByteLists.{align_past}
use Rattle.hip_globals.proofs.initial.set_align.Goals as goal

pub returns-in-Some-checked_next_multiple_of : goal.returns-in-Some-checked_next_multiple_of
returns-in-Some-checked_next_multiple_of c =
    let at : c.in-Some.at ≡ c.args.address + (length c.args.bytes.now - c.args.start) = c.in-Some.ensures.1 ∙ ap (λ n. c.args.address + (n - c.args.start)) c.len.ensures in
    rw (← align_past c.args.bytes.now c.args.start c.args.address c.args.align c.in-Some.at c.requires at, ← c.in-Some-checked_next_multiple_of.ensures.1) c.push_zeros.ensures.ok
