use Rattle.std.proofs.Common.{List, ap, sym, ◌∙◌}
use Rattle.std.proofs.lemmas.List.Sorted.{length_permutation}
use Rattle.hip_code.specs.Numbers.{Tables}
use Rattle.hip_code.specs.declared.op.EdgeCase.{EdgeCase}
use Rattle.hip_scope.specs.Grown.{grown}
use Rattle.hip_end_ops.proofs.ends.put_cases.Goals as goal

pub returns : goal.returns
returns c =
    let before : Tables = grown c.args.tables.now in
    record {
      sorted = c.in_ok-cases.cases;
      is = c.in_ok-cases.ensures;
      are = ap (λ (cs : List EdgeCase). record before { cases = cs }) c.in_ok-append.ensures.ok;
      from = c.in_ok-from.ensures ∙ c.len.ensures;
      count = c.in_ok-count.ensures ∙ c.len-2.ensures ∙ sym (length_permutation _ _ c.in_ok-cases.ensures.same);
    }
