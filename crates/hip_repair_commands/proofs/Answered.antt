-- What loading many traces gives, as results of `many`.
use Rattle.std.proofs.Common.{◌≡◌, ◌+◌, ◌-◌, ◌^◌, ℕ, min, false, List, length, Option, Ok, Err, inl, inr, refl, sym, ap, ◌∙◌, subst, arith}
use Rattle.std.specs.Prelude.{IfSome, Result}
use Rattle.std.specs.Result.{IsErrAnd}
use Rattle.std.proofs.lemmas.List.{length-map}
use Rattle.std.specs.List.{All}
use Rattle.hip_answers.specs.Answers.{Answer, HasAnswered, PutsLine, Refused, Sinks, outcome_of, sinks}
use Rattle.hip_answers.specs.Fetches.{FetchesFiles, fetches_by}
use Rattle.hip_answers.specs.Laws as answers
use Rattle.hip_answers.specs.Programs.{LacksProgram}
use Rattle.hip_answers.specs.declared.status.Status.{Status}
use Rattle.hip_answers.specs.declared.status.Status.TheVariants as statuses
use Rattle.hip_io.specs.Cabinets.{CabinetState}
use Rattle.hip_io.specs.Sinks.{AppendsAll, AppendsPrefix, SinkState}
use Rattle.hip_io.specs.declared.cabinet.NamedFile.{NamedFile}
use Rattle.hip_grammar.specs.Show.{show}
use Rattle.hip_tree.specs.declared.program.Program.{Program}
use Rattle.hip_program_files.specs.Laws.{fetches_then, met_then}
use Rattle.hip_program_files.specs.LoadedPrograms.{IsProgramOf}
use Rattle.hip_program_files.specs.Outside.{CountsFetches, HasMet, MakesFetches}
use Rattle.hip_program_files.specs.declared.failure.Failure.{Failure}
use Rattle.hip_program_files.specs.declared.failure.Failure.TheVariants as failures
use Rattle.hip_many.specs.declared.reason.Reason.{Reason}
use Rattle.hip_repair_commands.specs.AskedRuns.{AsksAll, FetchesTraces, HasAskedAll, fetches_of, status_of_traces}
use Rattle.hip_repair_commands.specs.Many.{HasRepairedMany, ManyAnswers, status_in}
use Rattle.hip_command_io.specs.Notes.{many_notes}
use Rattle.hip_command_io.specs.ResultLaws.{given_by, on_exit}
use Rattle.hip_command_io.specs.Results.{GivesOnRun, GivesResult}
use Rattle.hip_command_io.specs.StageLaws.{wrote_part, wrote_whole}
use Rattle.hip_command_io.specs.declared.counts.Counts.{Counts}
use Rattle.hip_command_io.specs.declared.counts.Counts.TheVariants as results
use Rattle.hip_run_repairs.specs.RunRepairs.{IsRepairForAll}
use Rattle.hip_repair_commands.specs.ManyRuns.{AreRunsOf, IsAfterRuns, TracedRun, plans_of, reports_of}
use Rattle.hip_repair_commands.specs.declared.many_runs.AllAsked.{AllAsked}
use Rattle.hip_repair_commands.specs.declared.numbered_refusal.NumberedRefusal.{NumberedRefusal}
use Rattle.hip_run_repairs.specs.declared.many_runs.ManyRepair.{ManyRepair}
use Rattle.hip_repair_answers.specs.Cured.{IsCuredBy}
use Rattle.hip_answers.specs.TraceFiles.{FailsToRead, HasNoTrace}
use Rattle.hip_answers.specs.declared.refusal.TraceFileRefusal.{TraceFileRefusal}
use Rattle.hip_answers.specs.declared.refusal.TraceFileRefusal.TheVariants as traces
use Rattle.hip_repairs.specs.CloneNumbers.{clone_numbers}
use Rattle.hip_repairs.specs.Direct.{direct}
use Rattle.hip_repairs.specs.declared.plan.CloneOf.{CloneOf}

-- One fetch, and then n more or none.
then_made : {old mid new : CabinetState} (n : ℕ) → CountsFetches 1 old mid → MakesFetches n mid new
    → CountsFetches (1 + n) old new
then_made {old} {mid} {new} n once (inl none) = record { count = none.1 ∙ once.count ∙ capped old.fetches n none.0 }
  where
    capped : (a m : ℕ) → m ≡ 0 → min (a + 1) (2 ^ 64 - 1) ≡ min (a + (1 + m)) (2 ^ 64 - 1)
    capped a m e = omega (arith, e)
then_made n once (inr more) = fetches_then 1 n once more

-- ---- a program that is none

pub unloaded_many : (old new : CabinetState) (p : List ℕ) (names : List (List ℕ)) (a : Answer) → LacksProgram old new p a
    → ManyAnswers old new p names a
unloaded_many old new p names a (inl u) = inl u
unloaded_many old new p names a (inr u) = inr (inl u)

-- ---- a trace that is none

follows_alike : {files other : Option (List NamedFile)} {P : Program} {names : List (List ℕ)} {number : ℕ}
    {name : List ℕ} → files ≡ other → IsAfterRuns files P names number name
    → IsAfterRuns other P names number name
follows_alike {files} {other} {P} {names} {number} {name} same b =
    subst (λ (fs : Option (List NamedFile)). IsAfterRuns fs P names number name) same b

module _ {old mid new : CabinetState} {p : List ℕ} {names : List (List ℕ)} (P : Program) (met : HasMet false false old mid)
    (program : IsProgramOf old.files p P) (fetched : CountsFetches 1 old mid) where
  lacks : (failure : Failure NumberedRefusal) → AsksAll P names mid new (Err failure) → (s : Sinks) → s.out_new ≡ s.out
      → PutsLine (status_of_traces failure) s.notes s.notes_new
      → HasAnswered (ManyAnswers old new p names) false old new s (status_of_traces failure)
  lacks (failures.Refused refusal) h s kept line =
      answers.refused s (status_in refusal.number refusal.why) (is_refused refusal.why)
      (inr (inr (inl (record {
        program = P;
        loaded = program;
        number = refusal.number;
        name = h.name;
        follows = follows_alike met.files h.follows;
        why = refusal.why;
        met = met_then met h.met;
        cause = subst (λ (fs : Option (List NamedFile)). HasNoTrace fs h.name P refusal.why) met.files h.cause;
        is = refl;
      })))) kept line
    where
      is_refused : (why : TraceFileRefusal) → outcome_of (status_in refusal.number why) ≡ Refused
      is_refused traces.Missing = refl
      is_refused (traces.Misfit entry kind) = refl
  lacks failures.ReadFault h s kept line =
      answers.refused s statuses.ReadFault refl (inr (inr (inr (inl (record {
        program = P;
        loaded = program;
        number = h.number;
        name = h.name;
        follows = follows_alike met.files h.follows;
        met = met_then met h.met;
        fetches = fetches_then 1 h.number fetched h.fetches;
        unread = subst (λ (fs : Option (List NamedFile)). FailsToRead fs h.name P new) met.files h.unread;
        is = refl;
      }))))) kept line
  lacks failures.NoMemory h s kept line = answers.ran_out s (met_then met h) kept line

  pub untraced : {out : SinkState} (failure : Failure NumberedRefusal) → AsksAll P names mid new (Err failure)
      → GivesResult (ManyAnswers old new p names) false old new out out (Err (status_of_traces failure))
  untraced {out} failure h = record {
    answered = λ notes notes_new status w.
        subst (λ (x : Status). HasAnswered (ManyAnswers old new p names) false old new (sinks out out notes notes_new) x)
        (sym w.is) (lacks failure h (sinks out out notes notes_new) refl w.line);
  }

  -- The result of a command on the runs that were loaded.
  pub answered : {out out_new : SinkState} (given : Result Counts Status) (asked : AllAsked)
      (h : HasAskedAll P names mid new asked) → GivesOnRun (HasRepairedMany P h.runs) false out out_new given
      → GivesResult (ManyAnswers old new p names) false old new out out_new given
  answered given asked h on_run =
      given_by given (λ a texts. inr (inr (inr (inr (record {
        program = P;
        loaded = program;
        runs = h.runs;
        are = subst (λ (fs : Option (List NamedFile)). AreRunsOf fs P names h.runs) met.files h.are;
        met = met_then met h.met;
        texts = texts;
      }))))) (on_run old new (met_then met h.met))

-- There are as many runs as names.
pub many_runs : (files : Option (List NamedFile)) (P : Program) (names : List (List ℕ)) (runs : List TracedRun)
    → AreRunsOf files P names runs → length names ≡ length runs
many_runs files P names runs are =
    ap (λ (ns : List (List ℕ)). length ns) (sym are.named) ∙ length-map runs (λ (r : TracedRun). r.name)

-- ---- one repair

module _ (P : Program) (runs : List TracedRun) (traces reports : ℕ) (made : ManyRepair)
    (many : traces ≡ length runs) (total : reports ≡ reports_of runs) (by : IsRepairForAll P (plans_of P runs) made)
    (cured : All (λ r. IsCuredBy P r.input made.repair.plan (direct P)) runs) where
  -- How many traces there are, what `repair` writes, and the reasons.
  abbrev counts : List ℕ
  counts = many_notes P traces reports made.repair.plan (length made.repair.repaired.clones) made.reasons

  -- The answer of `many`: the repaired program, and the notes.
  abbrev answer : Answer
  answer = record { status = statuses.Done; out = show made.repair.repaired.checked; notes = counts }

  row : HasRepairedMany P runs answer
  row = record {
    plan = made.repair.plan;
    union = by.union;
    status_is = refl;
    out_is = ap show by.repair.applied.program_is;
    notes_is =
        ap (λ n. many_notes P n reports made.repair.plan (length made.repair.repaired.clones) made.reasons) many
        ∙ ap (λ n. many_notes P (length runs) n made.repair.plan (length made.repair.repaired.clones) made.reasons) total
        ∙ ap (λ (cs : List CloneOf). many_notes P (length runs) (reports_of runs) made.repair.plan (length cs)
        made.reasons) by.repair.applied.clones_are
        ∙ ap (λ (rs : List Reason). many_notes P (length runs) (reports_of runs) made.repair.plan
        (length (clone_numbers P made.repair.plan)) rs) by.reasons_are;
    cured = cured;
  }

  -- What the command answers beside the program.
  abbrev made_counts : Counts
  made_counts =
      results.Many (record { checked = P; traces = traces; reports = reports; made = made })

  pub repaired : {out out_new : SinkState} → AppendsAll out out_new (show made.repair.repaired.checked)
      → GivesOnRun (HasRepairedMany P runs) false out out_new (Ok made_counts)
  repaired whole = λ old new met. wrote_whole answer row made_counts refl refl refl whole

  pub repaired_part : {out out_new : SinkState} (given : Result Counts Status) → AppendsPrefix out out_new (show made.repair.repaired.checked)
      → IsErrAnd given (λ s. s ≡ statuses.WriteFault) → GivesOnRun (HasRepairedMany P runs) false out out_new given
  repaired_part {out} {out_new} given part exit = λ old new met.
      on_exit (λ (r : Result Counts Status). GivesResult (HasRepairedMany P runs) false old new out out_new r) given
      statuses.WriteFault exit (wrote_part answer row refl part)

-- ---- fetches

-- The program was loaded, and the traces were fetched as far as the failure says.
pub files_fetched : (all : ℕ) {old mid new : CabinetState} → CountsFetches 1 old mid
    → (failure : Failure NumberedRefusal) → FetchesTraces all (Err failure) mid new
    → FetchesFiles (1 + all) (status_of_traces failure) old new
files_fetched all {old} {mid} {new} once failure h = record {
  count = 1 + h.count;
  made = inr (then_made h.count once h.made);
  few = let few = h.few in omega (arith, few);
  exact = exact failure h.exact;
}
  where
    refused : (number : ℕ) (why : TraceFileRefusal) → h.count ≡ number
        → IfSome (fetches_by (1 + all) (status_in number why)) (λ n. 1 + h.count ≡ n)
    refused number traces.Missing same = omega (arith, same)
    refused number (traces.Misfit entry kind) same = omega (arith, same)

    exact : (f : Failure NumberedRefusal) → IfSome (fetches_of all (Err f)) (λ n. h.count ≡ n)
        → IfSome (fetches_by (1 + all) (status_of_traces f)) (λ n. 1 + h.count ≡ n)
    exact (failures.Refused refusal) same = refused refusal.number refusal.why same
    exact failures.ReadFault same = tt {0}
    exact failures.NoMemory same = tt {0}

-- The program and all traces were fetched.
pub all_fetched : (all : ℕ) {old mid new : CabinetState} → CountsFetches 1 old mid → (asked : AllAsked)
    → FetchesTraces all (Ok asked) mid new → MakesFetches (1 + all) old new
all_fetched all {old} {mid} {new} once asked h =
    inr (then_made all once (subst (λ (n : ℕ). MakesFetches n mid new) h.exact h.made))
