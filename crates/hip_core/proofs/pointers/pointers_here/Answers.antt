use Rattle.std.proofs.Common.{◌≡◌, ◌∙◌, ℕ, Some, ap, slice_get, sym, subst}
use Rattle.std.proofs.lemmas.Option.{get_or_from_slice_get}
use Rattle.hip_tree.specs.declared.instr.Instr.{Instr}
use Rattle.hip_core.specs.PointerOperands.{TellsPointer, pointers_among}
use Rattle.hip_core.proofs.PassedPointers.{if_both_ok, if_ok, tells_passed, tells_stored}
use Rattle.hip_core.proofs.pointers.pointers_here.Goals as goal

pub returns-in-Store : goal.returns-in-Store
returns-in-Store c =
    let code = c.args.code.now in
    let core = c.args.core.now in
    let op = c.index-op.result.now in
    let here : slice_get code.ops.items core.top.place ≡ Some op = c.requires.here ∙ ap Some (sym (c.index-op.ensures ∙ get_or_from_slice_get code.ops.items core.top.place c.requires.op op c.requires.here)) in
    if_ok _ _ (λ values stated. subst (λ (i : Instr). (k : ℕ) → TellsPointer code core i k (slice_get values k)) (sym c.in-Store.is) (tells_stored op here stated))
    c.address_in.result c.address_in.ensures

pub returns-in-Call : goal.returns-in-Call
returns-in-Call c =
    let code = c.args.code.now in
    let core = c.args.core.now in
    let op = c.index-op.result.now in
    let here : slice_get code.ops.items core.top.place ≡ Some op = c.requires.here ∙ ap Some (sym (c.index-op.ensures ∙ get_or_from_slice_get code.ops.items core.top.place c.requires.op op c.requires.here)) in
    if_both_ok _ _ _ (λ values calls other. subst (λ (i : Instr). (k : ℕ) → TellsPointer code core i k (slice_get values k)) (sym c.in-Call.is)
    (tells_passed op here (λ vs passes. calls vs passes ∙ ap (λ args. pointers_among args vs) c.as_slice.ensures) other))
    c.pointers_in.result c.pointers_in.ensures.calls c.pointers_in.ensures.other
