-- A call has pointer operands where it is of a defined function.
use Rattle.std.proofs.Common.{◌≡◌, ℕ, cond, is_none, count_by, List, Some, sym, ap, ap₂, ◌∙◌}
use Rattle.hip_externs.specs.Externs.{call_of}
use Rattle.hip_tree.specs.Sites.{instr_of}
use Rattle.hip_tree.specs.declared.instr.Arg.{Arg}
use Rattle.hip_tree.specs.declared.instr.Instr.{Instr}
use Rattle.hip_tree.specs.declared.instr.Instr.TheVariants.{Call}
use Rattle.hip_tree.specs.declared.program.Program.{Program}
use Rattle.hip_plan.specs.Worths.{is_pointer}
use Rattle.hip_plan.proofs.Calls.{call_operands}
use Rattle.hip_plan.proofs.scores.operand_count.Goals as goal

pub returns-in-Some-Call : goal.returns-in-Some-Call
returns-in-Some-Call c =
    let call = c.in-Some-Call in
    let here : instr_of c.args.checked.now c.args.site ≡ Some (Call call.field-0-0 call.field-0-1 call.callee call.args) =
    ap (λ (p : Program). instr_of p c.args.site) (sym c.program.ensures.is) ∙ sym call.ensures ∙ ap (λ (i : Instr). Some i) call.field-0-is in
    c.call_operand_count.ensures
    ∙ ap₂ (λ (name : List ℕ) (args : List Arg). cond (is_none (call_of name)) (count_by is_pointer args) 0) c.as_slice.ensures c.as_slice-in-Some-Call.ensures
    ∙ sym (call_operands c.args.checked.now c.program.ensures.sound c.program.ensures.calls c.args.site _ _ _ _ here)
