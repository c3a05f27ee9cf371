use Rattle.std.proofs.Common.{rules, subst, sym}
use Rattle.std.proofs.lemmas.List.Sorted.{answers_always}
use Rattle.hip_code.specs.declared.op.EdgeCase.{EdgeCase}
use Rattle.hip_end_ops.specs.Switched.{IsSorted}
use Rattle.hip_end_ops.proofs.CaseOrder.{is_sorted}
use Rattle.hip_end_ops.proofs.ends.sorted.Goals as goal

pub returns-in-Ok : goal.returns-in-Ok
returns-in-Ok c =
    let keys = answers_always _ _ _ (λ f a r next called. search rules) in
    subst (IsSorted c.args.cases) (sym c.from_vec.ensures)
    (subst (λ cs. IsSorted cs c.sort_by_key.new.self.items) c.into_vec-cases.ensures
    (is_sorted _ _ (c.in-Ok.ensures.sorted (λ (x : EdgeCase). x.value) keys) c.sort_by_key.ensures.permutation (c.sort_by_key.ensures.stable (λ (x : EdgeCase). x.value) keys)))
