use Rattle.std.proofs.Common.{Bool, ap, ◌∙◌}
use Rattle.std.specs.List.{list_all}
use Rattle.hip_runs.specs.declared.report.Report.{Report}
use Rattle.hip_many.proofs.Decided.{decided}
use Rattle.hip_many.specs.MendingTests.{mends_by}
use Rattle.hip_many.proofs.mending.mends_all.Goals as goal

pub returns-clause-exact : goal.returns-clause-exact
returns-clause-exact c =
    decided c.args.plan.now c.args.findings.now c.in_ok-planned.planned c.mends_each.result c.in_ok-planned.ensures
    (c.mends_each.ensures ∙ ap (λ (rs : _). list_all (mends_by c.in_ok-planned.planned) rs) c.reports.ensures)

pub returns-clause-clean : goal.returns-clause-clean
returns-clause-clean c = λ yes_all P skip I sound valid quiet found.
    c.mending_plans_are_clean.ensures.clean P c.args.plan.now skip I c.args.findings.now sound valid quiet found
    ((returns-clause-exact c).0 yes_all)
