use Rattle.std.proofs.Common.{◌-◌, ◌^◌}
use Rattle.hip_runs.specs.Seen.{state_of}
use Rattle.hip_ledger.specs.Sights.{AddAlike, marks_to}
use Rattle.hip_report.specs.BeforeStep.{TellsGlobal}
use Rattle.hip_report.proofs.sight.pointed_among.Given as goal

abbrev pub invariant-operands : goal.invariant-operands
invariant-operands l = record {
  marks : AddAlike l.ledger.marks.keys l.pointed.marks (marks_to l.machine.program l.machine.input (state_of l.machine) l.site l.operand);
  last : TellsGlobal l.machine.program l.machine.input l.pointed.last;
}

abbrev pub decreases-operands : goal.decreases-operands
decreases-operands l = 2 ^ 64 - l.operand
