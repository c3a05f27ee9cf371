use Rattle.std.proofs.Common.{◌≡◌, ◌∙◌, Some, ap, arith, slice_get, sym, subst}
use Rattle.std.proofs.lemmas.Option.{get_or_from_slice_get}
use Rattle.hip_tree.specs.declared.instr.Instr.{Instr}
use Rattle.hip_core.specs.PointerOperands.{IsPointerArg, TellsPointer}
use Rattle.hip_core.proofs.NamedPointers.{tells_call, tells_store}
use Rattle.hip_core.proofs.pointers.pointer_here.Goals as goal

pub returns-else-operand-gt0 : goal.returns-else-operand-gt0
returns-else-operand-gt0 c =
    let code = c.args.code.now in
    let core = c.args.core.now in
    let op = c.index-op.result.now in
    let here : slice_get code.ops.items core.top.place ≡ Some op = c.requires.here ∙ ap Some (sym (c.index-op.ensures ∙ get_or_from_slice_get code.ops.items core.top.place c.requires.op op c.requires.here)) in
    subst (λ (i : Instr). TellsPointer code core i c.args.operand c.address_of.result) (sym c.in-Store.is) (tells_store op here (omega (arith, c.if-operand-gt0.false)) c.address_of.ensures)

pub returns-in-Some : goal.returns-in-Some
returns-in-Some c =
    let code = c.args.code.now in
    let core = c.args.core.now in
    let op = c.index-op.result.now in
    let here : slice_get code.ops.items core.top.place ≡ Some op = c.requires.here ∙ ap Some (sym (c.index-op.ensures ∙ get_or_from_slice_get code.ops.items core.top.place c.requires.op op c.requires.here)) in
    let p = subst (λ xs. IsPointerArg xs c.args.operand c.in-Some.place) c.as_slice.ensures c.in-Some.ensures in
    subst (λ (i : Instr). TellsPointer code core i c.args.operand c.argument_of.result) (sym c.in-Call.is) (tells_call op c.in-Some.place here p c.argument_of.ensures.calls c.argument_of.ensures.other)
