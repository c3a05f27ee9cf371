-- The answers of `check`, `repair` and `rerun`.
use Rattle.std.specs.Prelude.{ℕ, ◌≡◌, List, [], length}
use Rattle.hip_answers.specs.Answers.{Answer}
use Rattle.hip_answers.specs.RunAnswers.{TraceAnswers}
use Rattle.hip_answers.specs.declared.status.Status.TheVariants.{Done}
use Rattle.hip_io.specs.Cabinets.{CabinetState}
use Rattle.hip_grammar.specs.Show.{show}
use Rattle.hip_tree.specs.declared.program.Program.{Program}
use Rattle.hip_repair_answers.specs.Cured.{IsCured, repaired_for}
use Rattle.hip_repairs.specs.Choice.{plan_for}
use Rattle.hip_repairs.specs.CloneNumbers.{clone_numbers}
use Rattle.hip_report_lines.specs.Counts.{check_counts, repair_counts, rerun_counts}
use Rattle.hip_report_lines.specs.Reports.{report_lines}
use Rattle.hip_run_traces.specs.Traces.{IsTrace}
use Rattle.hip_runs.specs.Found.Marks.{IsFound}
use Rattle.hip_runs.specs.declared.input.Input.{Input}
use Rattle.hip_runs.specs.declared.report.Findings.{Findings}
use Rattle.hip_trace.specs.Texts.{lines_of}
use Rattle.hip_trace.specs.declared.entry.Entry.{Entry}

-- `out` has a line for each report of the run, and notes how many there are.
pub record HasChecked (P : Program) (I : Input) (found : Findings) (answer : Answer) : Type 0 where
  pub status_is : answer.status ≡ Done
  pub out_is : answer.out ≡ report_lines P found.reports
  pub notes_is : answer.notes ≡ check_counts (length found.reports)

-- Out has the canonical text of the repaired program, and notes how many reports, flushes, fences, hoisted calls and
-- clones there are. The repaired program does no harm, is clean on the trace's input and has its hoisted calls covered.
pub record HasRepaired (P : Program) (I : Input) (found : Findings) (answer : Answer) : Type 0 where
  pub status_is : answer.status ≡ Done
  pub out_is : answer.out ≡ show (repaired_for P found)
  pub notes_is : answer.notes
      ≡ repair_counts (length found.reports) (plan_for P found) (length (clone_numbers P (plan_for P found)))
  pub cured : IsCured P I found

-- `out` has the trace of the repaired program's run on the same input, a line for each entry, and notes has the
-- number of reports of the program's run and that of the repaired program's run.
pub record HasRerun (P : Program) (I : Input) (found : Findings) (answer : Answer) : Type 0 where
  pub trace : List Entry
  pub is_trace : IsTrace (repaired_for P found) I trace
  pub after : Findings
  pub after_is : IsFound (repaired_for P found) I after
  pub none_left : after.reports ≡ []
  pub status_is : answer.status ≡ Done
  pub out_is : answer.out ≡ lines_of trace
  pub notes_is : answer.notes ≡ rerun_counts (length found.reports) (length after.reports)

-- The answers of `check`: if there is a run, its reports.
abbrev pub CheckAnswers : CabinetState → CabinetState → List ℕ → List ℕ → Answer → Type 0
CheckAnswers = TraceAnswers HasChecked

-- The answers of `repair`: if there is a run, the program repaired for it.
abbrev pub RepairAnswers : CabinetState → CabinetState → List ℕ → List ℕ → Answer → Type 0
RepairAnswers = TraceAnswers HasRepaired

-- The answers of `rerun`: if there is a run, the trace of the repaired program's run on the same input.
abbrev pub RerunAnswers : CabinetState → CabinetState → List ℕ → List ℕ → Answer → Type 0
RerunAnswers = TraceAnswers HasRerun
