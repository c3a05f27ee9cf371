-- Repaired texts that can be repaired again. (This project's own.)
use Rattle.std.specs.Prelude.{ℕ, ◌≡◌, ◌≤◌, false, Bool, List, length, Some}
use Rattle.hip_answers.specs.RunAnswers.{HasRunOf}
use Rattle.hip_answers.specs.declared.status.Status.TheVariants.{Done}
use Rattle.hip_grammar.specs.Show.{show}
use Rattle.hip_io.specs.Cabinets.{CabinetState, file_of}
use Rattle.hip_io.specs.declared.cabinet.NamedFile.{NamedFile}
use Rattle.hip_program_files.specs.Outside.{HasMet}
use Rattle.hip_program_files.specs.declared.limits.TheConstants.{TEXT_LIMIT}
use Rattle.hip_repair_answers.specs.Answers.{HasRepaired}
use Rattle.hip_repair_answers.specs.Cured.{repaired_for}
use Rattle.hip_repair_answers.specs.Laws.{no_counts}
use Rattle.hip_repairs.specs.Repaired.{repaired}
use Rattle.hip_repairs.specs.declared.plan.Plan.{Plan}
use Rattle.hip_run_traces.specs.Traces.{IsTrace}
use Rattle.hip_runs.specs.Found.Marks.{IsFound}
use Rattle.hip_runs.specs.Validity.{IsInput, IsValid}
use Rattle.hip_runs.specs.declared.input.Input.{Input}
use Rattle.hip_runs.specs.declared.report.Findings.{Findings}
use Rattle.hip_sound.specs.Sound.{IsSound}
use Rattle.hip_trace.specs.Texts.{lines_of}
use Rattle.hip_trace.specs.declared.entry.Entry.{Entry}
use Rattle.hip_tree.specs.declared.program.Program.{Program}
use Rattle.hip_tree.specs.declared.site.Site.{Site}

-- The canonical text of the program is so short that the text of each repair of it can be read.
abbrev pub IsRepairable : Program → Type 0
IsRepairable P = length (show P) ≤ 1677711

-- The text of each repair of such a program has at most 16,777,216 bytes.
abbrev pub RepairsFit : Type 0
RepairsFit =
    (P : Program) (plan : Plan) (skip : Site → Bool) → IsRepairable P → length (show (repaired P plan skip)) ≤ TEXT_LIMIT

-- One file has the text of the program that is repaired for a run, and another the trace of the repaired program's run
-- on the same input.
pub record HasBothFiles (files : List NamedFile) (p t : List ℕ) (P : Program) (I : Input) (found : Findings) : Type 0
  where
    pub text : file_of files p ≡ Some (show (repaired_for P found))
    pub trace : List Entry
    pub is_trace : IsTrace (repaired_for P found) I trace
    pub lines : file_of files t ≡ Some (lines_of trace)

-- A second repair of such a program changes nothing: on these files `repair` answers with the same text and five zeros.
abbrev pub RepairsTwice : Type 0
RepairsTwice =
    (P : Program) → (I : Input) → (found : Findings) → IsRepairable P → IsSound P → IsInput I → IsValid P I
    → IsFound P I found
    → (files : List NamedFile) → (p t : List ℕ) → HasBothFiles files p t P I found
    → (old new : CabinetState) → old.files ≡ Some files → HasMet false false old new
    → HasRunOf HasRepaired old new p t
    (record { status = Done; out = show (repaired_for P found); notes = no_counts })
