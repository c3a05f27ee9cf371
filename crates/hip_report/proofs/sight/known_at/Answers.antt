use Rattle.std.proofs.Common.{[], ◌∙◌, Option, ap, subst}
use Rattle.hip_types.specs.Distinct.{met}
use Rattle.hip_runs.specs.Found.Marks.{mark_of, same_mark}
use Rattle.hip_runs.specs.declared.event.Object.{Object}
use Rattle.hip_ledger.specs.Sights.{AddAlike}
use Rattle.hip_report.proofs.sight.known_at.Goals as goal

pub returns-clause-marks : goal.returns-clause-marks
returns-clause-marks c =
    ap (met same_mark c.args.ledger.now.marks.keys) c.new.ensures
    ∙ subst (λ (o : Option Object). AddAlike c.args.ledger.now.marks.keys [] (mark_of c.args.site 0 o)) c.target_at-target.ensures.object (c.is_known.ensures c.if-not-is_known.false)
