-- The answers of `demo`.
use Rattle.std.specs.Prelude.{ℕ, ◌≡◌, List, [], ◌++◌, codes, length}
use Rattle.std.specs.Fmt.{decimal}
use Rattle.hip_answers.specs.Answers.{Answer}
use Rattle.hip_answers.specs.declared.status.Status.TheVariants.{Done}
use Rattle.hip_runs.specs.FirstInput.{first_input}
use Rattle.hip_demo.specs.declared.shown.Shown.{Shown}
use Rattle.hip_runs.specs.declared.limits.TheConstants.{DEFAULT_LIMIT}
use Rattle.hip_gen.specs.Generated.{generated_program}
use Rattle.hip_gen.specs.Read.{IsReadAsSound}
use Rattle.hip_io.specs.Cabinets.{CabinetState}
use Rattle.hip_tree.specs.declared.program.Program.{Program}
use Rattle.hip_repair_answers.specs.Cured.{IsCured, repaired_for}
use Rattle.hip_repairs.specs.Choice.{plan_for}
use Rattle.hip_repairs.specs.CloneNumbers.{clone_numbers}
use Rattle.hip_report_lines.specs.Counts.{count_line, repair_counts}
use Rattle.hip_run_traces.specs.Traces.{IsTrace}
use Rattle.hip_runs.specs.Found.Marks.{IsFound}
use Rattle.hip_runs.specs.declared.input.Input.{Input}
use Rattle.hip_runs.specs.declared.report.Findings.{Findings}
use Rattle.hip_trace.specs.declared.entry.Entry.{Entry}
use Rattle.hip_types.specs.declared.limits.TheConstants.{LOWEST_BASE}

-- ---- the text

-- `seed D size Z`, on a line.
abbrev pub first_line : ℕ → ℕ → List ℕ
first_line seed size = codes "seed " ++ decimal seed ++ codes " size " ++ decimal size ++ codes "\n"

-- The seed and the size; the entries of the run's trace; the five counts of its repair; the entries of the repaired
-- program's trace; and the reports of its run.
abbrev pub demo_text : ℕ → ℕ → Shown → List ℕ
demo_text seed size shown =
    first_line seed size ++ count_line (codes "entries") shown.entries
    ++ repair_counts shown.reports shown.plan shown.clones ++ count_line (codes "rerun") shown.rerun
    ++ count_line (codes "after") shown.after

-- ---- the answers

-- The program has run on an input, was repaired for what the run found, and the repaired program has run on the same
-- input, where nothing is left to report: this is what was counted.
pub record HasShown (P : Program) (I : Input) (shown : Shown) : Type 0 where
  pub found : Findings
  pub found_is : IsFound P I found
  pub trace : List Entry
  pub is_trace : IsTrace P I trace
  pub cured : IsCured P I found
  pub after : Findings
  pub after_is : IsFound (repaired_for P found) I after
  pub none_left : after.reports ≡ []
  pub rerun : List Entry
  pub is_rerun : IsTrace (repaired_for P found) I rerun
  pub shown_is : shown ≡ record {
    entries = length trace;
    reports = length found.reports;
    plan = plan_for P found;
    clones = length (clone_numbers P (plan_for P found));
    rerun = length rerun;
    after = length after.reports;
  }

-- The input of a run that begins with the initialisers' bytes, and is given no numbers, base or limit.
abbrev pub demo_input : ℕ → ℕ → Input
demo_input seed size = first_input (generated_program seed size) LOWEST_BASE DEFAULT_LIMIT []

-- The text for the seed and the size reads as the generated program, which is sound. What is shown of it goes to out,
-- and nothing to notes; no file is looked at.
pub record HasDemonstrated (seed size : ℕ) (old new : CabinetState) (answer : Answer) : Type 0 where
  pub met : new ≡ old
  pub generated : IsReadAsSound seed size
  pub shown : Shown
  pub has_shown : HasShown (generated_program seed size) (demo_input seed size) shown
  pub status_is : answer.status ≡ Done
  pub out_is : answer.out ≡ demo_text seed size shown
  pub notes_is : answer.notes ≡ []

-- The answers of `demo`; none is a refusal, since it reads no file.
abbrev pub DemoAnswers : ℕ → ℕ → CabinetState → CabinetState → Answer → Type 0
DemoAnswers = HasDemonstrated
