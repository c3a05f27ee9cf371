-- How the result of a command that loads a run follows from its stages.
use Rattle.std.specs.Prelude.{◌≡◌, ℕ, Bool, List, Result, Err}
use Rattle.std.proofs.Common.{inl, inr, refl, sym}
use Rattle.std.specs.Result.{IsErrAnd}
use Rattle.hip_answers.specs.Answers.{Answer}
use Rattle.hip_answers.specs.FetchLaws.{HasAll}
use Rattle.hip_answers.specs.Fetches.{FetchesFiles}
use Rattle.hip_answers.specs.declared.status.Status.{Status}
use Rattle.hip_command_io.specs.ResultLaws.{given_by, given_with_all, on_exit}
use Rattle.hip_command_io.specs.Results.{GivesOnRun, GivesResult, status_of}
use Rattle.hip_command_io.specs.declared.counts.Counts.{Counts}
use Rattle.hip_io.specs.Cabinets.{CabinetState}
use Rattle.hip_io.specs.Sinks.{SinkState}
use Rattle.hip_tree.specs.declared.program.Program.{Program}
use Rattle.hip_program_files.specs.Outside.{CountsFetches}
use Rattle.hip_answers.specs.RunAnswers.{TraceAnswers}
use Rattle.hip_runs.specs.Found.Marks.{IsFound, findings}
use Rattle.hip_runs.specs.declared.input.Input.{Input}
use Rattle.hip_runs.specs.declared.report.Findings.{Findings}
use Rattle.hip_ledger.specs.declared.sought.Sought.{Sought}
use Rattle.hip_ledger.specs.declared.sought.Sought.TheVariants as soughts
use Rattle.hip_command_io.specs.Runs.{FetchesRun, HasLoadedRun, LacksRun}
use Rattle.hip_command_io.specs.declared.run.LoadedRun.{LoadedRun}

module _ (Texts : Program → Input → Findings → Answer → Type 0) {old new : CabinetState} {p t : List ℕ} where
  lacks : (a : Answer) → LacksRun old new p t a → TraceAnswers Texts old new p t a
  lacks a (inl u) = inl u
  lacks a (inr (inl u)) = inr (inl u)
  lacks a (inr (inr u)) = inr (inr (inl u))

  -- The result of a command if there was no run to load.
  pub run_lacked : (begins : Bool) (out : SinkState) (given : Result Counts Status) (status : Status)
      → IsErrAnd given (λ s. s ≡ status)
      → ((b : Bool) → (o : SinkState) → GivesResult (LacksRun old new p t) b old new o o (Err status))
      → GivesResult (TraceAnswers Texts old new p t) begins old new out out given
  run_lacked begins out given status exit h =
      on_exit (λ r. GivesResult (TraceAnswers Texts old new p t) begins old new out out r) given status exit
      (given_by (Err status) lacks (h begins out))

  ran : (loaded : LoadedRun) (sought : Sought) → HasLoadedRun p t sought old new loaded → (found : Findings)
      → IsFound loaded.checked loaded.replayed.input found → (a : Answer)
      → Texts loaded.checked loaded.replayed.input found a → TraceAnswers Texts old new p t a
  ran loaded sought h found is a texts = inr (inr (inr (record {
    program = loaded.checked;
    loaded = h.program;
    input = loaded.replayed.input;
    traced = h.trace.traced;
    valid = h.trace.valid;
    found = found;
    found_is = is;
    met = h.trace.met;
    texts = texts;
  })))

  -- The result of a command on a run that was loaded with its marks.
  pub run_answered : {begins : Bool} {out out_new : SinkState} (given : Result Counts Status) (loaded : LoadedRun)
      → HasLoadedRun p t soughts.Findings old new loaded
      → GivesOnRun (Texts loaded.checked loaded.replayed.input loaded.replayed.findings) begins out out_new given
      → GivesResult (TraceAnswers Texts old new p t) begins old new out out_new given
  run_answered given loaded h gives =
      given_by given (ran loaded soughts.Findings h loaded.replayed.findings h.trace.found)
      (gives old new h.trace.met)

  -- The result of a command on a run that was loaded without its marks, if its texts depend on the reports alone.
  pub run_reported : {begins : Bool} {out out_new : SinkState} (given : Result Counts Status) (loaded : LoadedRun)
      → HasLoadedRun p t soughts.Reports old new loaded
      → ((found : Findings) → found.reports ≡ loaded.replayed.findings.reports → (a : Answer)
      → Texts loaded.checked loaded.replayed.input loaded.replayed.findings a
      → Texts loaded.checked loaded.replayed.input found a)
      → GivesOnRun (Texts loaded.checked loaded.replayed.input loaded.replayed.findings) begins out out_new given
      → GivesResult (TraceAnswers Texts old new p t) begins old new out out_new given
  run_reported given loaded h alike gives =
      let P = loaded.checked in
      let I = loaded.replayed.input in
      let found = findings P I h.trace.found.steps in
      given_by given
      (λ a texts. ran loaded soughts.Reports h found (record { steps = h.trace.found.steps; ended = h.trace.found.ended; is = refl }) a
      (alike found (sym h.trace.found.are) a texts))
      (gives old new h.trace.met)

  -- How many files a command fetched that gives a result on a run that was loaded.
  pub run_fetched : {begins : Bool} {out out_new : SinkState} {sought : Sought} (given : Result Counts Status)
      (loaded : LoadedRun) → HasLoadedRun p t sought old new loaded → CountsFetches 2 old new
      → HasAll 2 (Texts loaded.checked loaded.replayed.input loaded.replayed.findings)
      → GivesOnRun (Texts loaded.checked loaded.replayed.input loaded.replayed.findings) begins out out_new given
      → FetchesFiles 2 (status_of given) old new
  run_fetched given loaded h both whole gives = given_with_all 2 given (inr both) whole (gives old new h.trace.met)

-- How many files a command fetched that has no run.
pub lacking_fetched : {old new : CabinetState} (given : Result Counts Status) (status : Status)
    → IsErrAnd given (λ s. s ≡ status) → FetchesRun (Err status) old new → FetchesFiles 2 (status_of given) old new
lacking_fetched {old} {new} given status exit f =
    on_exit (λ (r : Result Counts Status). FetchesFiles 2 (status_of r) old new) given status exit f
