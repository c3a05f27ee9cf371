use Rattle.std.proofs.Common.{ap, Some, sym, ◌∙◌}
use Rattle.hip_runs.specs.declared.report.Mark.{Mark}
use Rattle.hip_ledger.proofs.MarkTests.{same_marks}
use Rattle.hip_ledger.proofs.marks.is_mark.Goals as goal

pub returns-in-Some : goal.returns-in-Some
returns-in-Some c e = c.in-Some.is ∙ ap (λ (m : Mark). Some m) (same_marks c.in-Some.known c.args.mark (sym c.eq.ensures ∙ e))
