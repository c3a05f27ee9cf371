use Rattle.std.proofs.Common.{◌≡◌, ◌++◌, ℕ, List}
use Rattle.hip_io.specs.Sinks.{Writes}
use Rattle.hip_report_lines.specs.Reports.{report_lines}
use Rattle.hip_report_lines.proofs.reports.put_each.Given as goal

-- A text was written. Followed by the lines of the reports that are left, it is the whole text.
abbrev pub invariant-each : goal.invariant-each
invariant-each g l =
    (text : List ℕ) × Writes l.initial.put l.put (g.S.Sink.state l.initial.out) (g.S.Sink.state l.out) text
    × (text ++ report_lines l.program l.report-iterator ≡ report_lines l.program l.reports)
