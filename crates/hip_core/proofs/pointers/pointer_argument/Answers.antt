use Rattle.std.proofs.Common.{sym, ◌∙◌}
use Rattle.hip_core.proofs.NamedPointers.{pointer_there}
use Rattle.hip_core.proofs.pointers.pointer_argument.Goals as goal

pub returns-then-left-eq0 : goal.returns-then-left-eq0
returns-then-left-eq0 c =
    pointer_there c.args.args.now c.args.operand c.looking.left c.looking.place c.index-args-place.result c.looking-test.true c.index-args-place.is (sym c.is_pointer.ensures ∙ c.if-is_pointer.true) c.if-left-eq0.true c.looking.invariant
