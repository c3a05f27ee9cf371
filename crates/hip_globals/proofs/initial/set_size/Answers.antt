use Rattle.std.proofs.Common.{◌≤◌, ◌-◌, length, arith, ◌∙◌}
use Rattle.hip_globals.proofs.ByteLists.{cut_past, fill_past}
use Rattle.hip_globals.proofs.initial.set_size.Goals as goal

pub returns-then-size-len : goal.returns-then-size-len
returns-then-size-len c =
    let short : c.args.size ≤ length c.args.bytes.now - c.args.start = omega arith in
    c.truncate.ensures ∙ cut_past c.args.bytes.now c.args.start c.args.size c.requires short

pub returns : goal.returns
returns c =
    let long : length c.args.bytes.now - c.args.start ≤ c.args.size = omega arith in
    rw (← fill_past c.args.bytes.now c.args.start c.args.size c.requires long, ← c.len.ensures) c.push_zeros.ensures.ok
