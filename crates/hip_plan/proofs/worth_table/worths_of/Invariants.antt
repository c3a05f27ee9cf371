use Rattle.std.proofs.Common.{take}
use Rattle.hip_plan.specs.Worths.{HasWorths}
use Rattle.hip_plan.proofs.worth_table.worths_of.Given as goal

abbrev pub invariant-each : goal.invariant-each
invariant-each l = HasWorths l.worths.entries l.fn.hit (take l.mark-index l.pointed)
