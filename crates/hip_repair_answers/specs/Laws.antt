-- What the definitions of the answers imply.
pub mod Cures
pub mod Repairs
use Rattle.std.specs.Prelude.{ℕ, ◌≡◌, ◌≤◌, false, List, [], length, Some}
use Rattle.hip_answers.specs.Answers.{Answer}
use Rattle.hip_answers.specs.declared.status.Status.TheVariants as statuses
use Rattle.hip_io.specs.Cabinets.{CabinetState, file_of}
use Rattle.hip_io.specs.declared.cabinet.NamedFile.{NamedFile}
use Rattle.hip_grammar.specs.Show.{show}
use Rattle.hip_tree.specs.declared.program.Program.{Program}
use Rattle.hip_program_files.specs.Outside.{HasMet}
use Rattle.hip_program_files.specs.declared.limits.TheConstants.{TEXT_LIMIT}
use Rattle.hip_repair_answers.specs.Answers.{HasRepaired}
use Rattle.hip_answers.specs.RunAnswers.{HasRunOf}
use Rattle.hip_repair_answers.specs.Cured.{repaired_for}
use Rattle.hip_repairs.specs.Suits.{no_repairs}
use Rattle.hip_report_lines.specs.Counts.{repair_counts}
use Rattle.hip_run_traces.specs.Misfits.{IsTraceOf}
use Rattle.hip_run_traces.specs.Traces.{IsTrace}
use Rattle.hip_runs.specs.Found.Marks.{IsFound}
use Rattle.hip_runs.specs.Validity.{IsInput, IsValid}
use Rattle.hip_runs.specs.declared.input.Input.{Input}
use Rattle.hip_runs.specs.declared.report.Findings.{Findings}
use Rattle.hip_trace.specs.Texts.{lines_of}
use Rattle.hip_trace.specs.declared.entry.Entry.{Entry}
use Rattle.hip_sound.specs.Sound.{IsSound}

-- ---- `repair`

-- What `repair` writes to the notes if there is nothing to repair: five zeros.
abbrev pub no_counts : List ℕ
no_counts = repair_counts 0 no_repairs 0

-- If the run reports nothing, `repair` gives the program's canonical text and five zeros.
abbrev pub NothingToRepair : Type 0
NothingToRepair =
    (P : Program) → (I : Input) → (found : Findings) → (a : Answer) → found.reports ≡ []
    → HasRepaired P I found a
    → (a.out ≡ show P) × (a.notes ≡ no_counts)

-- One file has the text of the program that is repaired for a run, of at most 16,777,216 bytes, and another has the
-- trace of the repaired program's run on the same input.
pub record AreRepairedFiles (files : List NamedFile) (p t : List ℕ) (P : Program) (I : Input) (found : Findings) :
    Type 0 where
  pub text : file_of files p ≡ Some (show (repaired_for P found))
  pub fits : length (show (repaired_for P found)) ≤ TEXT_LIMIT
  pub trace : List Entry
  pub is_trace : IsTrace (repaired_for P found) I trace
  pub lines : file_of files t ≡ Some (lines_of trace)

-- A second repair changes nothing: on these files `repair` answers with the same text and five zeros.
abbrev pub SecondRepair : Type 0
SecondRepair =
    (P : Program) → (I : Input) → (found : Findings) → IsSound P → IsInput I → IsValid P I
    → IsFound P I found
    → (files : List NamedFile) → (p t : List ℕ) → AreRepairedFiles files p t P I found
    → (old new : CabinetState) → old.files ≡ Some files → HasMet false false old new
    → HasRunOf HasRepaired old new p t
    (record { status = statuses.Done; out = show (repaired_for P found); notes = no_counts })

-- The lines of the repaired program's trace are the trace of its run, so the second file has no misfit.
abbrev pub RerunsAreTraces : Type 0
RerunsAreTraces =
    (P : Program) → (I : Input) → (found : Findings) → IsSound P → IsInput I → IsValid P I
    → (es : List Entry)
    → IsTrace (repaired_for P found) I es → IsTraceOf (repaired_for P found) (lines_of es) I
