-- Traces that are loaded one after the other.
use Rattle.std.proofs.Common.{◌≡◌, ◌<◌, ◌+◌, ℕ, suc, false, List, [], ◌∷◌, ◌++◌, length, take, drop, get_or, Option, Some, None, Ok, Err, inl, inr, refl, sym, ap, ◌∙◌, subst, arith}
use Rattle.std.specs.Prelude.{IfSome, Result}
use Rattle.std.specs.Result.{IsErrAnd}
use Rattle.std.proofs.lemmas.Result.{err_from_is_err_and}
use Rattle.std.proofs.Math.Seq.{drop-cons}
use Rattle.std.proofs.lemmas.List.{length-take-le, map-append, take-append-drop, take_more}
use Rattle.std.proofs.lemmas.List.Elements.{All-append, All-cons, All-nil}
use Rattle.hip_io.specs.Cabinets.{CabinetState}
use Rattle.hip_io.specs.declared.cabinet.NamedFile.{NamedFile}
use Rattle.hip_tree.specs.declared.program.Program.{Program}
use Rattle.hip_program_files.specs.Laws.{makes_then, met_then}
use Rattle.hip_program_files.specs.Outside.{CountsFetches, HasMet, MakesFetches}
use Rattle.hip_program_files.specs.declared.failure.Failure.{Failure}
use Rattle.hip_program_files.specs.declared.failure.Failure.TheVariants as failures
use Rattle.hip_repair_commands.specs.AskedRuns.{Asks, AsksAll, FetchesTraces, HasAsked, fetches_of, numbered}
use Rattle.hip_repair_commands.specs.ManyRuns.{AreRunsOf, IsAfterRuns, IsRunOf, TracedRun, plans_of, reports_of}
use Rattle.hip_repair_commands.specs.declared.many_runs.AllAsked.{AllAsked}
use Rattle.hip_repair_commands.specs.declared.many_runs.Asked.{Asked}
use Rattle.hip_repair_commands.specs.declared.numbered_refusal.NumberedRefusal.{NumberedRefusal}
use Rattle.hip_answers.specs.TraceFiles.{FailsToRead, HasNoTrace}
use Rattle.hip_answers.specs.declared.refusal.TraceFileRefusal.{TraceFileRefusal}
use Rattle.hip_repairs.specs.Choice.{plan_for}
use Rattle.hip_repairs.specs.declared.plan.Plan.{Plan}

-- The first `count` traces are those of runs, and this is what the runs ask for.
pub record HasAskedSome (P : Program) (names : List (List ℕ)) (start : CabinetState) (count : ℕ) (plans : List Plan)
    (reports : ℕ) (now : CabinetState) : Type 0 where
  pub runs : List TracedRun
  pub are : AreRunsOf start.files P (take count names) runs
  pub met : HasMet false false start now
  pub made : MakesFetches count start now
  pub plans_are : plans ≡ plans_of P runs
  pub reports_are : reports ≡ reports_of runs

-- Nothing is asked for before the first trace.
pub asked_none : (P : Program) (names : List (List ℕ)) (start : CabinetState) → HasAskedSome P names start 0 [] 0 start
asked_none P names start = record {
  runs = [];
  are = record { named = refl; each = All-nil (IsRunOf start.files P) };
  met = record { files = refl; misses = refl; faults = refl };
  made = inl (refl, refl);
  plans_are = refl;
  reports_are = refl;
}

-- ---- one run more

reports_more : (rs : List TracedRun) (r : TracedRun) → reports_of (rs ++ r ∷ []) ≡ reports_of rs + length r.found.reports
reports_more [] r = omega arith
reports_more (x ∷ rs) r = omega (arith, reports_more rs r)

of_files : {P : Program} {r : TracedRun} (files other : Option (List NamedFile)) → files ≡ other → IsRunOf files P r
    → IsRunOf other P r
of_files {P} {r} files other same is = subst (λ (fs : Option (List NamedFile)). IsRunOf fs P r) same is

runs_more : (files : Option (List NamedFile)) (P : Program) (names : List (List ℕ)) (runs : List TracedRun)
    (r : TracedRun) → AreRunsOf files P names runs → IsRunOf files P r
    → AreRunsOf files P (names ++ r.name ∷ []) (runs ++ r ∷ [])
runs_more files P names runs r are is = record {
  named =
      map-append (λ (x : TracedRun). x.name) runs (r ∷ [])
      ∙ ap (λ (ns : List (List ℕ)). ns ++ r.name ∷ []) are.named;
  each =
      All-append (IsRunOf files P) runs (r ∷ []) are.each
      (All-cons (IsRunOf files P) r [] is (All-nil (IsRunOf files P)));
}

module _ {P : Program} {names : List (List ℕ)} {start mid : CabinetState} {count : ℕ} {plans : List Plan} {reports : ℕ}
    (some : HasAskedSome P names start count plans reports mid) (name : List ℕ) (within : count < length names)
    (is : name ≡ get_or names count name) where
  -- The first `count` names and this one are the first `count + 1` names.
  front : take (count + 1) names ≡ take count names ++ name ∷ []
  front =
      subst (λ (n : List ℕ). take (count + 1) names ≡ take count names ++ n ∷ []) (sym is)
      (take_more names count name within)

  pub asked_more : (new : CabinetState) (asked : Asked) → HasAsked P name mid new asked
      → HasAskedSome P names start (count + 1) (plans ++ asked.plan ∷ []) (reports + asked.reports) new
  asked_more new asked h = record {
    runs = some.runs ++ h.run ∷ [];
    are =
        subst (λ (ns : List (List ℕ)). AreRunsOf start.files P ns (some.runs ++ h.run ∷ []))
        (ap (λ (n : List ℕ). take count names ++ n ∷ []) h.named ∙ sym front)
        (runs_more start.files P (take count names) some.runs h.run some.are
        (of_files mid.files start.files some.met.files h.is));
    met = met_then some.met h.met;
    made = inr (makes_then count 1 some.made h.fetches);
    plans_are =
        ap (λ (ps : List Plan). ps ++ asked.plan ∷ []) some.plans_are
        ∙ ap (λ (p : Plan). plans_of P some.runs ++ p ∷ []) h.plan_is
        ∙ sym (map-append (λ (r : TracedRun). plan_for P r.found) some.runs (h.run ∷ []));
    reports_are =
        let more = reports_more some.runs h.run in
        let first = some.reports_are in
        let one = h.reports_are in
        omega (arith, more, first, one);
  }

  -- The name comes after those of the runs.
  pub after_runs : (number : ℕ) → number ≡ count + 1 → IsAfterRuns start.files P names number name
  after_runs number same = record {
    before = take count names;
    after = drop (suc count) names;
    names_are =
        sym (take-append-drop count names)
        ∙ ap (λ (ns : List (List ℕ)). take count names ++ ns)
        (drop-cons names count name within ∙ ap (λ (n : List ℕ). n ∷ drop (suc count) names) (sym is));
    number_is = (let long = length-take-le count names (omega (arith, within)) in omega (arith, same, long));
    runs = some.runs;
    are = some.are;
  }

  pub lacked : (new : CabinetState) (number : ℕ) (failure : Failure TraceFileRefusal) → number ≡ count + 1
      → Asks P name mid new (Err failure) → AsksAll P names start new (Err (numbered number failure))
  lacked new number (failures.Refused why) same h = record {
    name = name;
    follows = after_runs number same;
    met = met_then some.met h.0;
    cause = subst (λ (fs : Option (List NamedFile)). HasNoTrace fs name P why) some.met.files h.1;
  }
  lacked new number failures.ReadFault same h = record {
    number = number;
    name = name;
    follows = after_runs number same;
    met = met_then some.met h.met;
    fetches =
        subst (λ (n : ℕ). CountsFetches n start new) (sym same) (makes_then count 1 some.made h.fetches);
    unread = subst (λ (fs : Option (List NamedFile)). FailsToRead fs name P new) some.met.files h.unread;
  }
  lacked new number failures.NoMemory same h = met_then some.met h

-- ---- fetches

-- One trace more was fetched, and it is refused or could not be read, or memory ran out.
pub stopped_at : (all number : ℕ) {start mid new : CabinetState} (count : ℕ) → MakesFetches count start mid
    → CountsFetches 1 mid new → count < all → number ≡ count + 1 → (failure : Failure TraceFileRefusal)
    → FetchesTraces all (Err (numbered number failure)) start new
stopped_at all number {start} {mid} {new} count made one within same failure = record {
  count = count + 1;
  made = inr (makes_then count 1 made one);
  few = omega (arith, within);
  exact = exact failure;
}
  where
    exact : (f : Failure TraceFileRefusal) → IfSome (fetches_of all (Err (numbered number f))) (λ n. count + 1 ≡ n)
    exact (failures.Refused why) = sym same
    exact failures.ReadFault = tt {0}
    exact failures.NoMemory = tt {0}

-- One trace more was fetched, and then memory ran out.
pub ran_out_at : (all : ℕ) {start mid new : CabinetState} (count : ℕ) → MakesFetches count start mid
    → CountsFetches 1 mid new → count < all → (r : Result AllAsked (Failure NumberedRefusal))
    → IsErrAnd r (λ y. y ≡ failures.NoMemory) → FetchesTraces all r start new
ran_out_at all {start} {mid} {new} count made one within r h =
    let q = err_from_is_err_and r h in
    subst (λ (x : Result AllAsked (Failure NumberedRefusal)). FetchesTraces all x start new)
    (sym (q.1 ∙ ap (λ x. Err x) q.2)) (record {
      count = count + 1;
      made = inr (makes_then count 1 made one);
      few = omega (arith, within);
      exact = tt {0};
    })
