use Rattle.std.proofs.Common.{sym, ◌∙◌}
use Rattle.hip_tree.specs.declared.instr.Arg.{Arg}
use Rattle.hip_sound.specs.Registers.{Use, use_of}
use Rattle.hip_typing.specs.Seen.UsesSeen.{operand_fits}
use Rattle.hip_typing.proofs.ListTests.{item_decides, list_next, rest_decides}
use Rattle.hip_typing.proofs.places.operands.args_fit.Goals as goal

pub each-preserved : goal.each-preserved
each-preserved c = rest_decides _ _ _ _ (list_next (λ (u : Use). operand_fits u.operand) (λ (a : Arg). use_of a.value a.ty) c.args.args.now c.each.arg-index c.arg-item.result c.each-test.true c.arg-item.is) c.each.invariant (sym c.operand_fits.ensures ∙ c.if-not-operand_fits.false)

pub returns-then-not-operand_fits : goal.returns-then-not-operand_fits
returns-then-not-operand_fits c = item_decides _ _ _ _ (list_next (λ (u : Use). operand_fits u.operand) (λ (a : Arg). use_of a.value a.ty) c.args.args.now c.each.arg-index c.arg-item.result c.each-test.true c.arg-item.is) c.each.invariant (sym c.operand_fits.ensures ∙ c.if-not-operand_fits.true)
