use Rattle.std.proofs.Common.{sym, subst, inr}
use Rattle.hip_tree.specs.declared.block.End.{End}
use Rattle.hip_names.specs.Names.{IsAmong}
use Rattle.hip_sound.specs.Registers.{end_labels}
use Rattle.hip_end_ops.proofs.EndOps.{case_named, ends_switch, lead_cases, lead_kept}
use Rattle.hip_end_ops.proofs.ends.switch.Goals as goal

pub cases_of-requires-clause-lead : goal.cases_of-requires-clause-lead
cases_of-requires-clause-lead c = lead_kept _ _ _ _ _ c.requires.lead c.in_ok-value.ensures.stands.grows c.in_ok-value.ensures.others.edges

pub cases_of-requires-clause-named : goal.cases_of-requires-clause-named
cases_of-requires-clause-named c = record {
  at = λ k d e. subst (λ (x : End). IsAmong (end_labels x) d.label) (sym c.requires.last.1) (inr (case_named c.args.targets.now.cases.now k d e));
}

pub edge-requires-clause-lead : goal.edge-requires-clause-lead
edge-requires-clause-lead c = lead_cases c.args.scope.now c.args.source.now _ _ _ _ c.in_ok-cases.ensures.lead c.in_ok-cases-2.ensures

pub returns : goal.returns
returns c =
    ends_switch _ _ _ _ _ _ _ c.requires.last.0 _ _ _ _ _ _ _ c.requires.last.1 c.in_ok-value.ensures.stands c.in_ok-cases.ensures c.in_ok-cases-2.ensures
    c.in_ok-other.ensures
