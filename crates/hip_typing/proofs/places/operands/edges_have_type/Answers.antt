use Rattle.std.proofs.Common.{sym, ◌∙◌}
use Rattle.hip_tree.specs.declared.block.Edge.{Edge}
use Rattle.hip_sound.specs.Registers.{Use, use_of}
use Rattle.hip_typing.specs.Seen.UsesSeen.{operand_agrees}
use Rattle.hip_typing.proofs.ListTests.{item_decides, list_next, rest_decides}
use Rattle.hip_typing.proofs.places.operands.edges_have_type.Goals as goal

pub each-preserved : goal.each-preserved
each-preserved c = rest_decides _ _ _ _ (list_next (λ (u : Use). operand_agrees c.args.registers.now.names c.args.registers.now.values u.operand u.ty) (λ (e : Edge). use_of e.value c.args.phi.now.ty) c.as_slice-edge-items.result.now c.each.edge-index c.edge-item.result c.each-test.true c.edge-item.is) c.each.invariant (sym c.operand_agrees.ensures ∙ c.if-not-operand_agrees.false)

pub returns-then-not-operand_agrees : goal.returns-then-not-operand_agrees
returns-then-not-operand_agrees c = item_decides _ _ _ _ (list_next (λ (u : Use). operand_agrees c.args.registers.now.names c.args.registers.now.values u.operand u.ty) (λ (e : Edge). use_of e.value c.args.phi.now.ty) c.as_slice-edge-items.result.now c.each.edge-index c.edge-item.result c.each-test.true c.edge-item.is) c.each.invariant (sym c.operand_agrees.ensures ∙ c.if-not-operand_agrees.true)
