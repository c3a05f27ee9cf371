use Rattle.std.proofs.Common.{[]}
use Rattle.hip_runs.specs.Seen.{state_of}
use Rattle.hip_ledger.specs.Sights.{AddAlike, marks_to}
use Rattle.hip_report.proofs.sight.are_known.Given as goal

abbrev pub invariant-operands : goal.invariant-operands
invariant-operands l = AddAlike l.ledger.marks.keys [] (marks_to l.machine.program l.machine.input (state_of l.machine) l.site l.operand)
