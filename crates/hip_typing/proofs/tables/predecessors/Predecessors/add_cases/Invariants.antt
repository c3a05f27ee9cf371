use Rattle.std.proofs.Common.{take}
use Rattle.hip_typing.specs.Seen.Arrivals.{Arrives}
use Rattle.hip_typing.specs.Seen.TargetsSeen.{case_labels}
use Rattle.hip_typing.proofs.tables.predecessors.Predecessors.add_cases.Given as goal

abbrev pub invariant-each : goal.invariant-each
invariant-each l = Arrives l.initial.self.sets l.self.sets (case_labels (take l.case-index l.cases)) l.from
