-- The stages of loading a run, as results.
use Rattle.std.proofs.Common.{◌≡◌, ℕ, Bool, false, List, Option, Err, inl, inr, refl, sym, subst, arith}
use Rattle.std.specs.Prelude.{IfSome, Result}
use Rattle.std.specs.Result.{IsErrAnd}
use Rattle.hip_answers.specs.Answers.{Answer, HasAnswered, PutsLine, Sinks, refusal, sinks}
use Rattle.hip_answers.specs.FetchLaws.{lacks_program, lacks_trace}
use Rattle.hip_answers.specs.Laws.{ran_out, refused, unloaded}
use Rattle.hip_answers.specs.Programs.{LacksProgram}
use Rattle.hip_answers.specs.Statuses.{status_of_failure}
use Rattle.hip_answers.specs.declared.status.Status.{Status}
use Rattle.hip_answers.specs.declared.status.Status.TheVariants as statuses
use Rattle.hip_io.specs.Cabinets.{CabinetState}
use Rattle.hip_io.specs.declared.cabinet.NamedFile.{NamedFile}
use Rattle.hip_tree.specs.declared.program.Program.{Program}
use Rattle.hip_program_files.specs.Laws.{fetches_then, met_then}
use Rattle.hip_program_files.specs.LoadedPrograms.{IsProgramOf, Loads}
use Rattle.hip_program_files.specs.Outside.{CountsFetches, HasMet}
use Rattle.hip_program_files.specs.declared.failure.Failure.{Failure}
use Rattle.hip_program_files.specs.declared.failure.Failure.TheVariants as failures
use Rattle.hip_program_files.specs.declared.refusal.LoadRefusal.{LoadRefusal}
use Rattle.hip_answers.specs.TraceFiles.{FailsToRead, HasNoTrace, IsTraceFile, is_missing, status_of_refusal, status_of_trace}
use Rattle.hip_answers.specs.declared.refusal.TraceFileRefusal.{TraceFileRefusal}
use Rattle.hip_answers.specs.declared.refusal.TraceFileRefusal.TheVariants as traces
use Rattle.hip_ledger.specs.declared.sought.Sought.{Sought}
use Rattle.hip_replay.specs.declared.compared.Replayed.{Replayed}
use Rattle.hip_command_io.specs.LoadedTraces.{HasLoadedTrace, LoadsTrace}
use Rattle.hip_command_io.specs.ResultLaws.{on_exit}
use Rattle.hip_command_io.specs.Runs.{FetchesRun, HasLoadedRun, LacksRun, LoadsRun}
use Rattle.hip_command_io.specs.declared.run.LoadedRun.{LoadedRun}

-- There is no program in the file.
pub no_program : (old new : CabinetState) (p t : List ℕ) (sought : Sought) (failure : Failure LoadRefusal)
    (r : Result LoadedRun Status) → Loads p old new (Err failure) → IsErrAnd r (λ s. s ≡ status_of_failure failure)
    → LoadsRun p t sought old new r
no_program old new p t sought failure r h exit =
    on_exit (λ (x : Result LoadedRun Status). LoadsRun p t sought old new x) r (status_of_failure failure) exit
    (λ begins out. record {
      answered = λ notes notes_new status w.
          subst (λ (x : Status). HasAnswered (LacksRun old new p t) begins old new (sinks out out notes notes_new) x) (sym w.is)
          (unloaded (sinks out out notes notes_new) p failure rows h refl w.line);
    })
  where
    rows : (a : Answer) → LacksProgram old new p a → LacksRun old new p t a
    rows a (inl u) = inl u
    rows a (inr u) = inr (inl u)

pub program_fetched : {old new : CabinetState} (failure : Failure LoadRefusal) (r : Result LoadedRun Status)
    → CountsFetches 1 old new → IsErrAnd r (λ s. s ≡ status_of_failure failure) → FetchesRun r old new
program_fetched {old} {new} failure r once exit =
    on_exit (λ (x : Result LoadedRun Status). FetchesRun x old new) r (status_of_failure failure) exit
    (lacks_program 2 (omega arith) failure once)

pub trace_fetched : {old new : CabinetState} (failure : Failure TraceFileRefusal) (r : Result LoadedRun Status)
    → CountsFetches 2 old new → IsErrAnd r (λ s. s ≡ status_of_trace failure) → FetchesRun r old new
trace_fetched {old} {new} failure r both exit =
    on_exit (λ (x : Result LoadedRun Status). FetchesRun x old new) r (status_of_trace failure) exit
    (lacks_trace failure both)

module _ {old mid new : CabinetState} {p t : List ℕ} (P : Program) (met : HasMet false false old mid)
    (program : IsProgramOf old.files p P) (fetched : CountsFetches 1 old mid) where
  row : (why : TraceFileRefusal) → HasMet (is_missing why) false mid new → HasNoTrace mid.files t P why
      → LacksRun old new p t (refusal (status_of_refusal why))
  row why after cause = inr (inr (inl (record {
    program = P;
    loaded = program;
    why = why;
    met = met_then met after;
    cause = subst (λ (fs : Option (List NamedFile)). HasNoTrace fs t P why) met.files cause;
    is = refl;
  })))

  untraced : {begins : Bool} (sought : Sought) (s : Sinks) (failure : Failure TraceFileRefusal) → LoadsTrace P sought t mid new (Err failure)
      → s.out_new ≡ s.out → PutsLine (status_of_trace failure) s.notes s.notes_new
      → HasAnswered (LacksRun old new p t) begins old new s (status_of_trace failure)
  untraced sought s (failures.Refused traces.Missing) h kept line =
      refused s _ refl (row traces.Missing h.0 h.1) kept line
  untraced sought s (failures.Refused (traces.Misfit entry kind)) h kept line =
      refused s _ refl (row (traces.Misfit entry kind) h.0 h.1) kept line
  untraced sought s failures.ReadFault h kept line =
      refused s statuses.ReadFault refl (inr (inr (inr (record {
        program = P;
        loaded = program;
        met = met_then met h.met;
        fetches = fetches_then 1 1 fetched h.fetches;
        unread = subst (λ (fs : Option (List NamedFile)). FailsToRead fs t P new) met.files h.unread;
        is = refl;
      })))) kept line
  untraced sought s failures.NoMemory h kept line = ran_out s (met_then met h) kept line

  pub loaded : (sought : Sought) (replayed : Replayed) → HasLoadedTrace P sought t mid new replayed
      → HasLoadedRun p t sought old new (record { checked = P; replayed = replayed })
  loaded sought replayed h = record {
    program = program;
    trace = record {
      met = met_then met h.met;
      traced =
          subst (λ (fs : Option (List NamedFile)). IfSome fs (λ files. IsTraceFile files t P replayed.input)) met.files
          h.traced;
      left = h.left;
      valid = h.valid;
      found = h.found;
      trace = h.trace;
      is_trace = h.is_trace;
      ended = h.ended;
      entries = h.entries;
    };
  }

-- The file is not the trace of a run.
pub no_trace : {old mid : CabinetState} {p : List ℕ} (new : CabinetState) (t : List ℕ) (P : Program)
    → HasMet false false old mid → IsProgramOf old.files p P → CountsFetches 1 old mid → (sought : Sought)
    (failure : Failure TraceFileRefusal) (r : Result LoadedRun Status) → LoadsTrace P sought t mid new (Err failure)
    → IsErrAnd r (λ s. s ≡ status_of_trace failure) → LoadsRun p t sought old new r
no_trace {old} {mid} {p} new t P met program fetched sought failure r h exit =
    on_exit (λ (x : Result LoadedRun Status). LoadsRun p t sought old new x) r (status_of_trace failure) exit
    (λ begins out. record {
      answered = λ notes notes_new status w.
          subst (λ (x : Status). HasAnswered (LacksRun old new p t) begins old new (sinks out out notes notes_new) x) (sym w.is)
          (untraced P met program fetched sought (sinks out out notes notes_new) failure h refl w.line);
    })
