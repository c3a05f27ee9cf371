use Rattle.hip_plan.proofs.Limits.{AreBounds}
use Rattle.hip_plan.proofs.worth_table.greatest_among.Given as goal

abbrev pub invariant-each : goal.invariant-each
invariant-each l = AreBounds l.greatest l.worth-iterator l.worths.entries
