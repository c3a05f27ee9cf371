use Rattle.std.proofs.Common.{◌≡◌, drop}
use Rattle.hip_types.specs.Distinct.{met}
use Rattle.hip_runs.specs.Found.Marks.{same_mark}
use Rattle.hip_ledger.specs.MetMarks.{AreMet}
use Rattle.hip_ledger.proofs.marks.note_marks.Given as goal

abbrev pub invariant-each : goal.invariant-each
invariant-each l = record {
  marks : met same_mark l.marks.keys (drop l.mark-index l.ahead) ≡ met same_mark l.fn.marks.keys l.ahead;
  known : AreMet l.marks.keys l.recent.items;
}
