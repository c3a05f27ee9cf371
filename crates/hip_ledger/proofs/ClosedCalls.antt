-- How many calls of a store have returned, by the births of the standing calls.
use Rattle.std.proofs.Common.{◌≡◌, ◌⊎◌, inl, inr, ℕ, suc, ◌<◌, Bool, true, false, cond, nat_eq, List, [], ◌∷◌, ◌++◌, append_assoc, length, length-append, Option, Some, None, slice_get, refl, sym, ap, ◌∙◌, subst, arith}
use Rattle.std.specs.List.{list_any}
use Rattle.std.proofs.lemmas.Bool.Decides.{nat_tests}
use Rattle.hip_lines.specs.Laws.LooseLaws.{get-append_end, get-append_left, get-below}
use Rattle.hip_runs.specs.Found.Reports.{closed_count, is_open}
use Rattle.hip_runs.specs.Laws.Members.{in_any}
use Rattle.hip_runs.specs.Laws.PartLaws.{append-right}
use Rattle.hip_runs.specs.State.{Level}
use Rattle.hip_runs.specs.StoredParts.History.{IsParted}
use Rattle.hip_runs.specs.StoredParts.Parts.{In}
use Rattle.hip_findings.specs.CallPaths.{closed_by, is_birth}
use Rattle.hip_ledger.specs.CallPaths.{births_of}
use Rattle.hip_ledger.proofs.CallBirths.{length_births}

-- The birth of a call is at the place that equals the number of calls outside of it.
at_depth : (above : List Level) (l : Level) (rest : List Level) → slice_get (births_of (above ++ l ∷ rest)) (length rest) ≡ Some l.birth
at_depth [] l rest = ap (slice_get (births_of rest ++ l.birth ∷ [])) (sym (length_births rest)) ∙ get-append_end (births_of rest) l.birth
at_depth (a ∷ above) l rest =
    let at = at_depth above l rest in
    get-append_left (births_of (above ++ l ∷ rest)) (a.birth ∷ []) (length rest) (get-below (births_of (above ++ l ∷ rest)) (length rest) l.birth at) ∙ at

same_birth : (b : ℕ) (o : Option ℕ) → o ≡ Some b → is_birth b o ≡ true
same_birth b o e = ap (is_birth b) e ∙ (let q : nat_eq b b ≡ true = grind (arith, nat_tests) in q)

-- Each birth is that of one of the calls.
of_call : (ls : List Level) (k b : ℕ) → slice_get (births_of ls) k ≡ Some b → (l : Level) × In l ls × (l.birth ≡ b)
of_call [] k b e = absurd (let z : ⊥ = cc in z)
of_call (l ∷ ls) k b e = go (λ q. of_call ls k b q) (three k (length (births_of ls)))
  where
    three : (a c : ℕ) → (a < c) ⊎ ((a ≡ c) ⊎ (c < a))
    three a c = grind arith

    one : (x y : ℕ) (o : Option ℕ) → o ≡ Some x → o ≡ Some y → x ≡ y
    one x y o p q = cc

    go : (slice_get (births_of ls) k ≡ Some b → (m : Level) × In m ls × (m.birth ≡ b))
        → (k < length (births_of ls)) ⊎ ((k ≡ length (births_of ls)) ⊎ (length (births_of ls) < k)) → (m : Level) × In m (l ∷ ls) × (m.birth ≡ b)
    go rest (inl lt) = let r = rest (sym (get-append_left (births_of ls) (l.birth ∷ []) k lt) ∙ e) in (r.0, inr r.1, r.2)
    go rest (inr (inl q)) = (l, inl refl, one l.birth b (slice_get (births_of ls ++ l.birth ∷ []) k) (ap (slice_get (births_of ls ++ l.birth ∷ [])) q ∙ get-append_end (births_of ls) l.birth) e)
    go rest (inr (inr gt)) = absurd (let w = get-below (births_of ls ++ l.birth ∷ []) k b e in let q = length-append (births_of ls) (l.birth ∷ []) in omega (arith, w, q, gt))

is_here : (b : ℕ) (ls : List Level) (l : Level) → In l ls → l.birth ≡ b → list_any (λ s. nat_eq s.birth b) ls ≡ true
is_here b ls l i e = in_any (λ s. nat_eq s.birth b) ls l i (grind (arith, nat_tests))

-- If a call is not open, no standing call has its birth.
not_standing : (standing : List Level) (v : Level) (d : ℕ) → is_open standing v ≡ false → is_birth v.birth (slice_get (births_of standing) d) ≡ false
not_standing standing v d h = go (slice_get (births_of standing) d) refl
  where
    by : (b : ℕ) → slice_get (births_of standing) d ≡ Some b → (t : Bool) → nat_eq b v.birth ≡ t → nat_eq b v.birth ≡ false
    by b e true q = absurd (let r = of_call standing d b e in let same : b ≡ v.birth = grind (arith, nat_tests) in let there : true ≡ false = sym (is_here v.birth standing r.0 r.1 (r.2 ∙ same)) ∙ h in let z : ⊥ = cc in z)
    by b e false q = q

    go : (o : Option ℕ) → slice_get (births_of standing) d ≡ o → is_birth v.birth o ≡ false
    go None e = refl
    go (Some b) e = by b e (nat_eq b v.birth) refl

-- None of the standing calls has returned.
open_by : (above open_ones : List Level) → closed_by (births_of (above ++ open_ones)) open_ones ≡ 0
open_by above [] = refl
open_by above (l ∷ rest) =
    ap (λ t. cond t 0 (suc (closed_by (births_of (above ++ l ∷ rest)) rest))) (same_birth l.birth _ (at_depth above l rest))

open_count : (above open_ones : List Level) → closed_count (above ++ open_ones) open_ones ≡ 0
open_count above [] = refl
open_count above (l ∷ rest) =
    let same : (above ++ l ∷ []) ++ rest ≡ above ++ (l ∷ rest) = append_assoc above (l ∷ []) rest in
    ap (λ t. cond t (closed_count (above ++ l ∷ rest) rest) (suc (closed_count (above ++ l ∷ rest) rest))) (is_here l.birth (above ++ l ∷ rest) l (append-right above (l ∷ rest) l (inl refl)) refl)
    ∙ ap (λ s. closed_count s rest) (sym same) ∙ open_count (above ++ l ∷ []) rest

returned : (standing closed open_ones : List Level) → ((v : Level) → In v closed → is_open standing v ≡ false)
    → closed_by (births_of standing) open_ones ≡ 0 → closed_count standing open_ones ≡ 0
    → closed_by (births_of standing) (closed ++ open_ones) ≡ closed_count standing (closed ++ open_ones)
returned standing [] open_ones h p q = p ∙ sym q
returned standing (v ∷ vs) open_ones h p q =
    ap (λ t. cond t 0 (suc (closed_by (births_of standing) (vs ++ open_ones)))) (not_standing standing v (length (vs ++ open_ones)) (h v (inl refl)))
    ∙ ap suc (returned standing vs open_ones (λ w i. h w (inr i)) p q)
    ∙ sym (ap (λ t. cond t (closed_count standing (vs ++ open_ones)) (suc (closed_count standing (vs ++ open_ones)))) (h v (inl refl)))

pub closed_alike : (standing levels : List Level) → IsParted standing levels → closed_by (births_of standing) levels ≡ closed_count standing levels
closed_alike standing levels h =
    subst (λ ls. closed_by (births_of standing) ls ≡ closed_count standing ls) (sym h.are)
    (returned standing h.closed h.open_ones h.returned
    (subst (λ s. closed_by (births_of s) h.open_ones ≡ 0) (sym h.outermost) (open_by h.above h.open_ones))
    (subst (λ s. closed_count s h.open_ones ≡ 0) (sym h.outermost) (open_count h.above h.open_ones)))
