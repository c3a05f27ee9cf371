-- A trace in memory is replayed whole.
use Rattle.std.proofs.Common.{◌≡◌, ℕ, List, [], ◌∷◌, Some, codes, refl, sym, ap, ◌∙◌, subst, length}
use Rattle.std.specs.Prelude.{IfOk, IfSome, true, Option, Result, Ok, Err}
use Rattle.hip_demo.specs.Replays as spec
use Rattle.hip_demo.specs.declared.replayed.Kept.{Kept}
use Rattle.hip_io.specs.Cabinets.{CabinetState, IsFirstFile, file_of}
use Rattle.hip_io.specs.declared.cabinet.NamedFile.{NamedFile}
use Rattle.hip_tree.specs.declared.program.Program.{Program}
use Rattle.hip_ledger.specs.declared.sought.Sought.TheVariants.{Findings}
use Rattle.hip_lockstep.specs.Refusals.{HasMisfit}
use Rattle.hip_replay.specs.Replays.{HasReplayed}
use Rattle.hip_replay.specs.declared.compared.Replayed.{Replayed}
use Rattle.hip_answers.specs.TraceLaws.{one_input}
use Rattle.hip_run_traces.specs.Misfits.{IsMisfit, IsTraceOf}
use Rattle.hip_run_traces.specs.Traces.{IsTrace}
use Rattle.hip_run_traces.specs.declared.misfit.MisfitKind.{MisfitKind}
use Rattle.hip_runs.specs.Found.Marks.{IsFound}
use Rattle.hip_runs.specs.declared.input.Input.{Input}
use Rattle.hip_trace.specs.Reads.{ReaderState}
use Rattle.hip_trace.specs.Texts.{lines_of}
use Rattle.hip_trace.specs.declared.entry.Entry.{Entry}
use Rattle.hip_types.specs.declared.memory.NoMemory.{NoMemory}

abbrev TracesAreOne : Type 0
TracesAreOne = (P : Program) → (I : Input) → (es fs : List Entry) → IsTrace P I es → IsTrace P I fs → es ≡ fs

abbrev NoMisfits : Type 0
NoMisfits =
    (P : Program) → (bytes : List ℕ) → (I : Input) → (e : ℕ) → (k : MisfitKind) → IsTraceOf P bytes I
    → IsMisfit P bytes true e k → ⊥

-- The files of a cabinet with the one file `trace`.
abbrev pub one_file : List ℕ → List NamedFile
one_file text = record { name = codes "trace"; bytes = text } ∷ []

found_there : (text : List ℕ) → file_of (one_file text) (codes "trace") ≡ Some text
found_there text = refl

-- The whole text of the fetched file is ahead.
pub ahead_is : (files : List NamedFile) (text : List ℕ) (new : CabinetState) → files ≡ one_file text
    → IsFirstFile files (codes "trace") new → new.rest ≡ Some text
ahead_is files text new same h =
    h.rest ∙ sym h.found ∙ ap (λ fs. file_of fs (codes "trace")) same ∙ found_there text

pub not_misfit : NoMisfits → (P : Program) (text : List ℕ) (r : ReaderState) (old new : CabinetState) (entry : ℕ)
    (kind : MisfitKind) → ((I : Input) × IsTraceOf P text I) → old.rest ≡ Some text → HasMisfit P r old new entry kind
    → ⊥
not_misfit none P text r old new entry kind traced rest h =
    none P text traced.0 entry kind traced.1
    (subst (λ (o : Option (List ℕ)). IfSome o (λ bytes. IsMisfit P bytes true entry kind)) rest h.stated)

pub replayed_whole : TracesAreOne → (P : Program) (text : List ℕ) (r : ReaderState) (old new : CabinetState)
    (replayed : Replayed) → old.rest ≡ Some text → HasReplayed P Findings r old new replayed → spec.HasReplayedText P text replayed
replayed_whole one P text r old new replayed rest h =
    let traced : IsTraceOf P text replayed.input =
    subst (λ (o : Option (List ℕ)). IfSome o (λ bytes. IsTraceOf P bytes replayed.input)) rest h.stated in
    record {
      traced = traced;
      found = h.found;
      entries = h.entries ∙ ap (λ es. length es) (one P replayed.input h.trace traced.trace h.is_trace traced.is_trace);
    }

-- ---- the input

pub trace_of_kept : (P : Program) (I : Input) (kept : Kept)
    → ((es : List Entry) → IsTrace P I es → IsTraceOf P (lines_of es) I) → spec.HasKept P I kept
    → IsTraceOf P kept.text I
trace_of_kept P I kept reads k = subst (λ text. IsTraceOf P text I) (sym k.text_is) (reads k.trace k.is_trace)

pub found_again : (P : Program) (I : Input) (text : List ℕ) (replayed : Replayed) → IsTraceOf P text I
    → spec.HasReplayedText P text replayed → spec.HasFoundAgain P I replayed
found_again P I text replayed traced h =
    let same = one_input P text replayed.input I h.traced traced in
    record {
      input_is = same;
      found = subst (λ J. IsFound P J replayed.findings) same h.found;
      trace = h.traced.trace;
      is_trace = subst (λ J. IsTrace P J h.traced.trace) same h.traced.is_trace;
      entries = h.entries;
    }

pub found_if : (P : Program) (I : Input) (text : List ℕ) (result : Result Replayed NoMemory) → IsTraceOf P text I
    → IfOk result (λ replayed. spec.HasReplayedText P text replayed)
    → IfOk result (λ replayed. spec.HasFoundAgain P I replayed)
found_if P I text (Ok replayed) traced h = found_again P I text replayed traced h
found_if P I text (Err e) traced h = tt
