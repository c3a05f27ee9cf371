-- What `hippo` answers if nothing fails: the headline, for `repair`, and all orders.
use Rattle.std.specs.Prelude.{ℕ, ℤ, ◌≡◌, ◌⊎◌, ◌-◌, ◌^◌, ◌<◌, true, List, [], ◌∷◌, Some, codes}
use Rattle.hip_answers.specs.Answers.{Answer, HasAnswer, HasAnswered, Sinks, WritesBoth}
use Rattle.hip_answers.specs.Endings.{ending_line, status_of_ending}
use Rattle.hip_answers.specs.Traces.{GivesTrace}
use Rattle.hip_answers.specs.declared.status.Status.{Status}
use Rattle.hip_answers.specs.declared.status.Status.TheVariants.{NoMemory}
use Rattle.hip_run_commands.specs.Crash.{CrashTexts}
use Rattle.hip_demo.specs.Demo.{DemoAnswers}
use Rattle.hip_io.specs.Cabinets.{CabinetState}
use Rattle.hip_io.specs.declared.cabinet.NamedFile.{NamedFile}
use Rattle.hip_tree.specs.declared.program.Program.{Program}
use Rattle.hip_program_files.specs.LoadedPrograms.{IsProgramOf}
use Rattle.hip_repair_commands.specs.ManyRuns.{AreRunsOf, TracedRun}
use Rattle.hip_types.specs.declared.pick.Pick.{Pick}
use Rattle.hip_repair_answers.specs.Answers.{HasRerun}
use Rattle.hip_answers.specs.TraceFiles.{IsTraceFile}
use Rattle.hip_replay.specs.PrintedText.{IsPrinted}
use Rattle.hip_runs.specs.FirstInput.{first_input}
use Rattle.hip_runs.specs.Found.Marks.{IsFound}
use Rattle.hip_runs.specs.declared.event.Ending.{Ending}
use Rattle.hip_runs.specs.declared.input.Input.{Input}
use Rattle.hip_runs.specs.declared.report.Findings.{Findings}
use Rattle.hip_tool.specs.Call.{AnswersTo, begins}
use Rattle.hip_tool.specs.Checks.{HasCheckedBytes}
use Rattle.hip_tool.specs.Repair.{HasPlanned, HasPlannedMany, HasPlannedThin}
use Rattle.hip_types.specs.declared.limits.TheConstants.{LOWEST_BASE}
use Rattle.hip_words.specs.Order.{order}
use Rattle.hip_words.specs.Plain.{is_plain}
use Rattle.hip_words.specs.declared.order.Order.{Order}
use Rattle.hip_words.specs.declared.order.Order.TheVariants.{Run, Record, Check, Repair, Rerun, Demo, Many, Crash, Thin}

-- ---- nothing fails

-- A count stays the same, though it could have risen: it is below the last value that it can have.
pub record Stays (before after : ℕ) : Type 0 where
  pub same : after ≡ before
  pub room : before < 2 ^ 64 - 1

-- No file is missing, no read fails and no write fails in the call: none of the four counts rises.
pub record NothingFails (old new : CabinetState) (s : Sinks) : Type 0 where
  pub misses : Stays old.misses new.misses
  pub reads : Stays old.faults new.faults
  pub out : Stays s.out.faults s.out_new.faults
  pub notes : Stays s.notes.faults s.notes_new.faults

-- A call for this order, in which nothing fails, ends with this status.
pub record CallEnds (order : Order) (old new : CabinetState) (s : Sinks) (status : Status) : Type 0 where
  pub answered : HasAnswered (AnswersTo (Some order) old new) (begins (Some order)) old new s status
  pub nothing : NothingFails old new s

-- A call with these words, in which nothing fails, ends with this status. The words come without the program's name.
pub record IsCallOfWords (words : List (List ℕ)) (old new : CabinetState) (s : Sinks) (status : Status) : Type 0 where
  pub answered : HasAnswered (AnswersTo (order words) old new) (begins (order words)) old new s status
  pub nothing : NothingFails old new s

-- The call ends out of memory, or it has an answer of this kind and writes both texts of the answer.
abbrev pub Gives : (Answer → Type 0) → Sinks → Status → Type 0
Gives Is s status = (status ≡ NoMemory) ⊎ HasAnswer Is status (WritesBoth s)

-- ---- the headline

-- The run on the input finds something, and the answer has the texts for it.
abbrev pub OfRun : (Program → Input → Findings → Answer → Type 0) → Program → Input → Answer → Type 0
OfRun Texts P I answer = (found : Findings) × IsFound P I found × Texts P I found answer

-- Let the cabinet's files be known, let one be the text of a sound program of at most 16,777,216 bytes, let another
-- be the trace of its run on an input, let the call have the words `repair`, the one's name and the other's, none of
-- which begins with `-`, and let nothing fail. Then the call ends out of memory, or it writes the program that is
-- repaired by exactly the plan for what the run found.
abbrev pub Headline : Type 0
Headline =
    (files : List NamedFile) (program trace : List ℕ) (P : Program) (I : Input) (old new : CabinetState) (s : Sinks)
    (status : Status) → old.files ≡ Some files → IsProgramOf (Some files) program P
    → IsTraceFile files trace P I → is_plain program ≡ true → is_plain trace ≡ true →
    IsCallOfWords (codes "repair" ∷ program ∷ trace ∷ []) old new s status → Gives (OfRun HasPlanned P I) s status

-- ---- all orders

-- The text for out is all that the program prints on the input; the status and the text for notes say how the run ends.
pub record WritesOutput (P : Program) (I : Input) (answer : Answer) : Type 0 where
  pub ending : Ending
  pub printed : IsPrinted P I answer.out ending
  pub status_is : answer.status ≡ status_of_ending ending
  pub notes_is : answer.notes ≡ ending_line ending

-- If one file has the program and nothing fails, `run` and `record` answer with its run, and `many` with a repair for
-- the runs of all traces.
pub record AnswersPrograms (files : List NamedFile) (program : List ℕ) (P : Program) (old new : CabinetState)
    (s : Sinks) (status : Status) : Type 0 where
  pub run : (limit : ℕ) (numbers : List ℤ) → CallEnds (Run program limit numbers) old new s status →
      Gives (WritesOutput P (first_input P LOWEST_BASE limit numbers)) s status
  pub recorded : (base limit : ℕ) (numbers : List ℤ)
      → CallEnds (Record program base limit numbers) old new s status →
      Gives (GivesTrace P (first_input P base limit numbers)) s status
  pub many : (names : List (List ℕ)) (runs : List TracedRun) → AreRunsOf (Some files) P names runs →
      CallEnds (Many program names) old new s status → Gives (HasPlannedMany P runs) s status

-- If another file is the trace of its run on an input, the orders that take a trace answer with that run.
pub record AnswersTraces (program trace : List ℕ) (P : Program) (I : Input) (old new : CabinetState) (s : Sinks)
    (status : Status) : Type 0 where
  pub check : CallEnds (Check program trace) old new s status → Gives (OfRun HasCheckedBytes P I) s status
  pub repair : CallEnds (Repair program trace) old new s status → Gives (OfRun HasPlanned P I) s status
  pub rerun : CallEnds (Rerun program trace) old new s status → Gives (OfRun HasRerun P I) s status
  pub thin : CallEnds (Thin program trace) old new s status → Gives (OfRun HasPlannedThin P I) s status
  pub crash : (entry : ℕ) (picks : List Pick) → CallEnds (Crash program trace entry picks) old new s status →
      Gives (OfRun (CrashTexts entry picks) P I) s status

-- What each order answers if nothing fails.
pub record OrdersAreAnswered : Type 0 where
  pub programs : (files : List NamedFile) (program : List ℕ) (P : Program) (old new : CabinetState) (s : Sinks)
      (status : Status) → old.files ≡ Some files → IsProgramOf (Some files) program P →
      AnswersPrograms files program P old new s status
  pub traces : (files : List NamedFile) (program trace : List ℕ) (P : Program) (I : Input) (old new : CabinetState)
      (s : Sinks) (status : Status) → old.files ≡ Some files → IsProgramOf (Some files) program P →
      IsTraceFile files trace P I → AnswersTraces program trace P I old new s status
  pub demo : (seed size : ℕ) (old new : CabinetState) (s : Sinks) (status : Status) →
      CallEnds (Demo seed size) old new s status → Gives (DemoAnswers seed size old new) s status
