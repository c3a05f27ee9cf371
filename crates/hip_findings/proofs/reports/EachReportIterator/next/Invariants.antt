use Rattle.std.proofs.Common.{◌≡◌, length}
use Rattle.hip_findings.specs.Shared.{reports_left}
use Rattle.hip_findings.proofs.reports.EachReportIterator.next.Given as goal

abbrev pub invariant-checks : goal.invariant-checks
invariant-checks l =
    reports_left l.self-inside.check_entry l.self-inside.stores.now l.self-inside.checks.now
    ≡ reports_left l.initial.self-inside.check_entry l.initial.self-inside.stores.now l.initial.self-inside.checks.now

abbrev pub decreases-checks : goal.decreases-checks
decreases-checks l = length l.self-inside.checks.now
