use Rattle.std.proofs.Common.{take}
use Rattle.hip_plan.proofs.Numbers.{HasNumbers}
use Rattle.hip_plan.proofs.worth_table.set_of.Given as goal

abbrev pub invariant-each : goal.invariant-each
invariant-each l = HasNumbers (take l.number-index l.numbers) l.set.keys
