use Rattle.std.proofs.Common.{◌≡◌}
use Rattle.std.specs.List.{list_all}
use Rattle.hip_many.specs.MendingTests.{mends_by}
use Rattle.hip_many.proofs.mending.mends_each.Given as goal

abbrev pub invariant-each : goal.invariant-each
invariant-each l = list_all (mends_by l.planned) l.report-iterator ≡ list_all (mends_by l.planned) l.reports
