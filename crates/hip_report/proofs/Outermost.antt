-- The outermost calls of a list, beside the standing calls later in the run.
use Rattle.std.proofs.Common.{◌≡◌, ◌⊎◌, ℕ, zero, suc, ◌+◌, ◌-◌, ◌≤◌, ◌<◌, List, [], ◌∷◌, inl, inr, length, drop, Option, Some, None, option_map, slice_get, refl, sym, ap, ◌∙◌, subst, arith}
use Rattle.std.proofs.lemmas.Option.{same_Some, slice_get_past}
use Rattle.std.proofs.lemmas.List.{drop_all}
use Rattle.hip_tree.specs.declared.program.Program.{Program}
use Rattle.hip_runs.specs.State.{Level, levels_of}
use Rattle.hip_runs.specs.Step.{run}
use Rattle.hip_runs.specs.declared.input.Input.{Input}
use Rattle.hip_ledger.specs.Noted.{Stood}
use Rattle.hip_ledger.proofs.noting.StandingCalls.{same_birth}
use Rattle.hip_report.specs.StandingCalls.{AreOutermost, StoodOutermost}

-- ---- lists without their first elements

drop_more : (xs : List Level) (k : ℕ) → drop 1 (drop k xs) ≡ drop (suc k) xs
drop_more [] zero = refl
drop_more [] (suc k) = refl
drop_more (x ∷ xs) zero = refl
drop_more (x ∷ xs) (suc k) = drop_more xs k

get_drop : (xs : List Level) (k : ℕ) → slice_get (drop k xs) 0 ≡ slice_get xs k
get_drop [] zero = refl
get_drop [] (suc k) = refl
get_drop (x ∷ xs) zero = refl
get_drop (x ∷ xs) (suc k) = get_drop xs k

cons_drop : (xs : List Level) (k : ℕ) (x : Level) → slice_get xs k ≡ Some x → x ∷ drop (suc k) xs ≡ drop k xs
cons_drop [] k x e = absurd (let z : ⊥ = cc in z)
cons_drop (y ∷ xs) zero x e = ap (λ z. z ∷ xs) (sym (same_Some y x e))
cons_drop (y ∷ xs) (suc k) x e = cons_drop xs k x e

get_within : (xs : List Level) (k : ℕ) → slice_get xs k ≡ None → length xs ≤ k
get_within [] k e = omega arith
get_within (x ∷ xs) zero e = absurd (let z : ⊥ = cc in z)
get_within (x ∷ xs) (suc k) e = let r = get_within xs k e in omega (arith, r)

-- ---- births

abbrev pub first_birth : List Level → ℕ → Option ℕ
first_birth xs k = option_map (λ l. l.birth) (slice_get xs k)

-- Both lists have a call with the same birth, or neither has a call.
same_place : (o p : Option Level) → option_map (λ l. l.birth) o ≡ option_map (λ l. l.birth) p
    → ((o ≡ None) × (p ≡ None)) ⊎ ((l : Level) × (m : Level) × (o ≡ Some l) × (p ≡ Some m) × (l.birth ≡ m.birth))
same_place None None e = inl (refl, refl)
same_place None (Some m) e = absurd (let z : ⊥ = cc in z)
same_place (Some l) None e = absurd (let z : ⊥ = cc in z)
same_place (Some l) (Some m) e = inr (l, m, refl, refl, same_Some l.birth m.birth e)

-- If the innermost of some earlier calls has the birth of the standing call at its place, these calls are the outermost
-- standing ones.
pub outermost_now : (P : Program) (I : Input) (n : ℕ) (calls : List Level) → StoodOutermost P I n calls → length calls ≤ length (levels_of (run P I n).frames)
    → first_birth calls 0 ≡ first_birth (levels_of (run P I n).frames) (length (levels_of (run P I n).frames) - length calls)
    → AreOutermost calls (levels_of (run P I n).frames)
outermost_now P I n calls s few e = record { few = few; are = by (same_place (slice_get calls 0) (slice_get new b) e) }
  where
    old : List Level
    old = levels_of (run P I s.steps).frames

    new : List Level
    new = levels_of (run P I n).frames

    a : ℕ
    a = length old - length calls

    b : ℕ
    b = length new - length calls

    by : ((slice_get calls 0 ≡ None) × (slice_get new b ≡ None)) ⊎ ((l : Level) × (m : Level) × (slice_get calls 0 ≡ Some l) × (slice_get new b ≡ Some m) × (l.birth ≡ m.birth)) → calls ≡ drop b new
    by (inl (p, q)) =
        let none = get_within calls 0 p in
        let past = get_within new b q in
        empty calls none ∙ sym (drop_all b new past)
      where
        empty : (xs : List Level) → length xs ≤ 0 → xs ≡ []
        empty [] h = refl
        empty (x ∷ xs) h = absurd (omega (arith, h))
    by (inr (l, m, p, q, same)) =
        let within = s.outer.few in
        s.outer.are
        ∙ same_birth P I s.steps n s.few a b l m (let z : length old + b ≡ length new + a = omega (arith, within, few) in z)
        (sym (get_drop old a) ∙ ap (λ (xs : List Level). slice_get xs 0) (sym s.outer.are) ∙ p) q same

-- If the births differ, there is at least one call.
pub some_left : (calls new : List Level) → (first_birth calls 0 ≡ first_birth new (length new - length calls) → ⊥) → 0 < length calls
some_left [] new h = absurd (h (sym (ap (option_map (λ l. l.birth)) (slice_get_past new (length new - 0) (omega arith)))))
some_left (x ∷ calls) new h = omega arith

-- ---- one call less, and one more

pub one_less : (calls all : List Level) → 0 < length calls → AreOutermost calls all → AreOutermost (drop 1 calls) all
one_less [] all some h = absurd (omega (arith, some))
one_less (x ∷ calls) all some h =
    let few = h.few in
    record {
      few = omega (arith, few);
      are = ap (drop 1) h.are ∙ drop_more all (length all - suc (length calls))
          ∙ ap (λ k. drop k all) (let z : suc (length all - suc (length calls)) ≡ length all - length calls = omega (arith, few) in z);
    }

pub one_more_inside : (calls all : List Level) (l : Level) → length calls < length all → slice_get all (length all - length calls - 1) ≡ Some l → AreOutermost calls all → AreOutermost (l ∷ calls) all
one_more_inside calls all l less here h = record {
  few = omega (arith, less);
  are = ap (λ xs. l ∷ xs) (h.are ∙ ap (λ k. drop k all) (let z : length all - length calls ≡ suc (length all - length calls - 1) = omega (arith, less) in z))
      ∙ cons_drop all (length all - length calls - 1) l here
      ∙ ap (λ k. drop k all) (let z : length all - length calls - 1 ≡ length all - suc (length calls) = omega (arith, less) in z);
}

-- If the outermost calls of a list are as many as the list has, they are the whole list.
pub all_inside : (calls all : List Level) → length all ≤ length calls → AreOutermost calls all → calls ≡ all
all_inside calls all many h = h.are ∙ ap (λ k. drop k all) (let z : length all - length calls ≡ 0 = omega (arith, many) in z)

pub none_inside : (all : List Level) (k : ℕ) → slice_get all k ≡ None → k < length all → ⊥
none_inside all k e lt = let past = get_within all k e in omega (arith, past, lt)

-- All standing calls after some steps are the outermost ones of themselves.
pub stood_outermost : (P : Program) (I : Input) (n : ℕ) (calls : List Level) → Stood P I n calls → StoodOutermost P I n calls
stood_outermost P I n calls s = record {
  steps = s.steps;
  few = s.few;
  outer = subst (λ (ls : List Level). AreOutermost ls (levels_of (run P I s.steps).frames)) (sym s.are) (record {
    few = omega arith;
    are = ap (λ k. drop k (levels_of (run P I s.steps).frames)) (let z : 0 ≡ length (levels_of (run P I s.steps).frames) - length (levels_of (run P I s.steps).frames) = omega arith in z);
  });
}
