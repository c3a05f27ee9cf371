-- What the author of a storage engine may rely on after repairs.
use Rattle.std.proofs.Common.{◌≡◌, ◌⊎◌, inl, inr, ℕ, suc, ◌/◌, ◌<◌, List, [], ◌∷◌, map, Option, slice_get, refl, sym, ap, ap₂, ◌∙◌, arith}
use Rattle.hip_tree.specs.declared.program.Program.{Program}
use Rattle.hip_types.specs.declared.areas.TheConstants.{LINE_SIZE}
use Rattle.hip_runs.specs.Step.{run}
use Rattle.hip_runs.specs.Validity.{IsValid}
use Rattle.hip_runs.specs.declared.event.Ending.{Ending}
use Rattle.hip_runs.specs.declared.input.Input.{Input}
use Rattle.hip_repairs.specs.Harmless.{Content}
use Rattle.hip_survival.specs.Survival.{IsLooseAt}
use Rattle.hip_histories.specs.Chains.{KeepsProgram}
use Rattle.hip_histories.specs.Histories.{AddsNoHistory, AreSameRounds, Round, endings, outputs}
use Rattle.hip_histories.specs.NoHarm.{DoesNoHarm, GoesAlong}
use Rattle.hip_repair_laws.specs.Engines.{AddsNoOutcome, IsWrittenAhead, KeepsCrashInvariants, KeepsPromises, KeepsWriteAhead, count_over, stores_over}

module _ (P Q : Program) (harmless : DoesNoHarm P Q) where
  invariants : KeepsCrashInvariants P Q
  invariants I valid holds all n content image =
      let along = harmless.runs I valid in
      all (along.steps_of n) content ((along.matches n).images content image)

  module _ (I : Input) (valid : IsValid P I) (first later : ℕ) (ahead : IsWrittenAhead P I first later) where
    along : GoesAlong harmless.original P Q I
    along = harmless.runs I valid

    same_count : (n : ℕ) → stores_over (run Q I n) later ≡ stores_over (run P I (along.steps_of n)) later
    same_count n =
        ap (λ (ls : List (List Content)). count_over later (slice_get ls (later / LINE_SIZE))) (along.matches n).lines

    ahead_too : (n : ℕ) → stores_over (run Q I n) later < stores_over (run Q I (suc n)) later
        → ¬ IsLooseAt (run Q I n) first
    ahead_too n grows = go (along.onward n)
      where
        before : stores_over (run Q I n) later ≡ stores_over (run P I (along.steps_of n)) later
        before = same_count n

        after : stores_over (run Q I (suc n)) later ≡ stores_over (run P I (along.steps_of (suc n))) later
        after = same_count (suc n)

        go : (along.steps_of (suc n) ≡ along.steps_of n) ⊎ (along.steps_of (suc n) ≡ suc (along.steps_of n))
            → ¬ IsLooseAt (run Q I n) first
        go (inl same) =
            let still : stores_over (run P I (along.steps_of (suc n))) later ≡ stores_over (run P I (along.steps_of n)) later =
            ap (λ k. stores_over (run P I k) later) same in
            absurd (omega (arith, grows, before, after, still))
        go (inr more) =
            let then : stores_over (run P I (along.steps_of (suc n))) later
            ≡ stores_over (run P I (suc (along.steps_of n))) later = ap (λ k. stores_over (run P I k) later) more in
            let lt : stores_over (run P I (along.steps_of n)) later < stores_over (run P I (suc (along.steps_of n))) later =
            omega (arith, grows, before, after, then) in
            λ loose. ahead (along.steps_of n) lt (along.loose n first loose)

  orders : KeepsWriteAhead P Q
  orders I valid first later ahead = ahead_too I valid first later ahead

same_images : (rs rs' : List Round) → AreSameRounds rs rs' → map (λ (r : Round). r.image) rs' ≡ map (λ (r : Round). r.image) rs
same_images [] [] same = refl
same_images (r ∷ rs) (r' ∷ rs') same =
    ap₂ (λ (x : List ℕ) (xs : List (List ℕ)). x ∷ xs) same.0.image (same_images rs rs' same.1)
same_images [] (r' ∷ rs') same = absurd same
same_images (r ∷ rs) [] same = absurd same

outcomes : (P Q : Program) → AddsNoHistory P Q → AddsNoOutcome P Q
outcomes P Q adds outcome never bytes rounds history =
    let h = adds bytes rounds history in
    ap (λ (xs : List (List ℕ)). outcome xs (outputs Q bytes rounds) (endings Q bytes rounds)) (same_images h.rounds rounds h.same)
    ∙ ap₂ (λ (xs : List (List ℕ)) (es : List (Option Ending)). outcome (map (λ (r : Round). r.image) h.rounds) xs es)
    (sym h.printed) (sym h.ended)
    ∙ never bytes h.rounds h.history

pub keeps_promises : (P Q : Program) → KeepsProgram P Q → KeepsPromises P Q
keeps_promises P Q kept = record {
  invariants = invariants P Q kept.harmless;
  orders = orders P Q kept.harmless;
  outcomes = outcomes P Q kept.histories;
}
