-- The plan for a run's findings has what a report needs.
use Rattle.std.proofs.Common.{◌≡◌, ◌⊎◌, inl, inr, ℕ, zero, suc, ◌+◌, ◌<◌, ◌≤◌, Bool, true, false, cond, ◌||◌, nat_eq, List, [], ◌∷◌, ◌++◌, map, length, Some, slice_get, refl, sym, ap, ◌∙◌, subst, arith}
use Rattle.std.specs.List.{flat_map, range_with_len}
use Rattle.std.proofs.lemmas.Bool.Decides.{nat_tests}
use Rattle.hip_tree.specs.Sites.{instr_of, has_site, sites_of}
use Rattle.hip_tree.specs.declared.instr.Instr.{Instr}
use Rattle.hip_tree.specs.declared.program.Program.{Program}
use Rattle.hip_tree.specs.declared.site.Site.{Site}
use Rattle.hip_runs.specs.declared.report.Findings.{Findings}
use Rattle.hip_runs.specs.declared.report.Report.{Report}
use Rattle.hip_runs.specs.StoredParts.History.{IsParted}
use Rattle.hip_runs.specs.StoredParts.Parts.{In}
use Rattle.hip_runs.specs.Laws.PartLaws.{append-left, append-right}
use Rattle.hip_runs.specs.Found.Reports.{is_open, closed_count}
use Rattle.hip_runs.specs.Found.Scores.{score}
use Rattle.hip_runs.specs.State.{Level}
use Rattle.hip_repairs.specs.declared.plan.Plan.{Plan}
use Rattle.hip_repairs.specs.Choice.{Candidate, is_better, best_of, best_on, choice, asks_flush, asks_fence, asks_hoist, wants_flush, wants_fence, wants_hoist, plan_for, Contains}
use Rattle.hip_repairs.specs.Laws.SiteOrder.{filtered_has, site_in}
use Rattle.hip_runs.specs.Laws.Members.{in_any}

module _ (P : Program) (plan : Plan) (found : Findings) (contains : Contains plan (plan_for P found)) (r : Report) (there : In r found.reports) (s : Site) (i : Instr) (at : instr_of P s ≡ Some i) where
  pub has_flush : asks_flush r.kind (choice P found r) r.path s ≡ true → has_site plan.flush_after s ≡ true
  has_flush e = contains.flush_after s (filtered_has (wants_flush P found) (sites_of P) s (site_in P s i at) (in_any (λ r. asks_flush r.kind (choice P found r) r.path s) found.reports r there e))

  pub has_fence : asks_fence r.kind (choice P found r) r.flush_site r.path s ≡ true → has_site plan.fence_after s ≡ true
  has_fence e = contains.fence_after s (filtered_has (wants_fence P found) (sites_of P) s (site_in P s i at) (in_any (λ r. asks_fence r.kind (choice P found r) r.flush_site r.path s) found.reports r there e))

  pub has_hoist : asks_hoist r.kind (choice P found r) r.path s ≡ true → has_site plan.hoist s ≡ true
  has_hoist e = contains.hoist s (filtered_has (wants_hoist P found) (sites_of P) s (site_in P s i at) (in_any (λ r. asks_hoist r.kind (choice P found r) r.path s) found.reports r there e))

-- ---- the chosen level

-- The level is that of a call of the path that may be chosen.
abbrev pub IsLevel : ℕ → ℕ → List Site → ℕ → Type 0
IsLevel first more path level = (k : ℕ) × (k < more) × (k < length path) × (level ≡ first + k)

best_level : (P : Program) (found : Findings) (best : Candidate) (first more : ℕ) (path : List Site) → ((best_of P found best first more path).level ≡ best.level) ⊎ IsLevel first more path (best_of P found best first more path).level
best_level P found best first zero path = inl refl
best_level P found best first (suc more) [] = inl refl
best_level P found best first (suc more) (s ∷ path) = go (is_better best.score (score P found s)) (λ b. best_level P found b (suc first) more path)
  where
    new : Candidate
    new = record { level = first; score = score P found s }

    after : (level : ℕ) → IsLevel (suc first) more path level → IsLevel first (suc more) (s ∷ path) level
    after level h = (suc h.0, omega (arith, h.1), omega (arith, h.2), omega (arith, h.3))

    go : (t : Bool) → ((b : Candidate) → ((best_of P found b (suc first) more path).level ≡ b.level) ⊎ IsLevel (suc first) more path (best_of P found b (suc first) more path).level) →
        ((best_of P found (cond t new best) (suc first) more path).level ≡ best.level) ⊎ IsLevel first (suc more) (s ∷ path) (best_of P found (cond t new best) (suc first) more path).level
    go true rest = by (rest new)
      where
        by : ((best_of P found new (suc first) more path).level ≡ first) ⊎ IsLevel (suc first) more path (best_of P found new (suc first) more path).level → ((best_of P found new (suc first) more path).level ≡ best.level) ⊎ IsLevel first (suc more) (s ∷ path) (best_of P found new (suc first) more path).level
        by (inl e) = inr (0, omega arith, omega arith, omega (arith, e))
        by (inr h) = inr (after _ h)
    go false rest = by (rest best)
      where
        by : ((best_of P found best (suc first) more path).level ≡ best.level) ⊎ IsLevel (suc first) more path (best_of P found best (suc first) more path).level → ((best_of P found best (suc first) more path).level ≡ best.level) ⊎ IsLevel first (suc more) (s ∷ path) (best_of P found best (suc first) more path).level
        by (inl e) = inl e
        by (inr h) = inr (after _ h)

pub best_on_is : (P : Program) (found : Findings) (closed : ℕ) (store : Site) (calls : List Site) → (best_on P found closed (store ∷ calls) ≡ 0) ⊎ IsLevel 1 closed calls (best_on P found closed (store ∷ calls))
best_on_is P found closed store calls = best_level P found (record { level = 0; score = score P found store }) 1 closed calls

-- ---- the calls that have returned

abbrev all_stand : List Level → List Level → Type 0
all_stand standing ls = (v : Level) → In v ls → is_open standing v ≡ true

count_open : (standing ls : List Level) → all_stand standing ls → closed_count standing ls ≡ 0
count_open standing [] h = refl
count_open standing (l ∷ ls) h = rw (h l (inl refl)) (count_open standing ls (λ v i. h v (inr i)))

count_closed : (standing closed ls : List Level) → ((v : Level) → In v closed → is_open standing v ≡ false) → all_stand standing ls → closed_count standing (closed ++ ls) ≡ length closed
count_closed standing [] ls c h = count_open standing ls h
count_closed standing (l ∷ closed) ls c h = rw (c l (inl refl)) (ap suc (count_closed standing closed ls (λ v i. c v (inr i)) h))

-- The call at a place before the number of those that have returned is one of these.
call_at : (closed ls : List Level) (k : ℕ) → k < length closed → (v : Level) × In v closed × (slice_get (map (λ l. l.call) (closed ++ ls)) k ≡ Some v.call)
call_at [] ls k h = absurd (omega arith)
call_at (l ∷ closed) ls zero h = (l, inl refl, refl)
call_at (l ∷ closed) ls (suc k) h = let r = call_at closed ls k (omega arith) in (r.0, inr r.1, r.2)

in_closed : (closed ls : List Level) (v : Level) → In v closed → In v (closed ++ ls)
in_closed closed ls v i = append-left closed ls v i

-- A call that has not returned is open.
pub in_open : (standing : List Level) (v : Level) → In v standing → is_open standing v ≡ true
in_open [] v i = absurd i
in_open (l ∷ ls) v (inl e) = let q : nat_eq l.birth v.birth ≡ true = subst (λ (x : Level). nat_eq x.birth v.birth ≡ true) e (let z : nat_eq v.birth v.birth ≡ true = grind (arith, nat_tests) in z) in rw q refl
in_open (l ∷ ls) v (inr i) = go (nat_eq l.birth v.birth) (in_open ls v i)
  where
    go : (t : Bool) → is_open ls v ≡ true → t || is_open ls v ≡ true
    go true h = refl
    go false h = h

-- The call at this place of the path has returned.
pub record IsReturned (standing levels : List Level) (k : ℕ) : Type 0 where
  pub call : Level
  pub of : In call levels
  pub closed : is_open standing call ≡ false
  pub at : slice_get (map (λ l. l.call) levels) k ≡ Some call.call

pub returned_at : (standing levels : List Level) → IsParted standing levels → (k : ℕ) → k < closed_count standing levels → IsReturned standing levels k
returned_at standing levels split k h =
    let count = ap (closed_count standing) split.are ∙ count_closed standing split.closed split.open_ones split.returned (λ v i. in_open standing v (subst (In v) (sym split.outermost) (append-right split.above split.open_ones v i))) in
    let r = call_at split.closed split.open_ones k (omega (arith, count)) in
    record {
      call = r.0;
      of = subst (In r.0) (sym split.are) (in_closed split.closed split.open_ones r.0 r.1);
      closed = split.returned r.0 r.1;
      at = ap (λ (ls : List Level). slice_get (map (λ l. l.call) ls) k) split.are ∙ r.2;
    }

-- ---- lists of all steps

pub in_range : (a n k : ℕ) → a ≤ k → k < a + n → In k (range_with_len a n)
in_range a zero k h g = absurd (omega arith)
in_range a (suc n) k h g = go (split a k h) (λ le. in_range (a + 1) n k le (omega arith))
  where
    split : (a k : ℕ) → a ≤ k → (k ≡ a) ⊎ (a + 1 ≤ k)
    split a k h = grind arith

    go : (k ≡ a) ⊎ (a + 1 ≤ k) → (a + 1 ≤ k → In k (range_with_len (a + 1) n)) → In k (a ∷ range_with_len (a + 1) n)
    go (inl e) rest = inl e
    go (inr le) rest = inr (rest le)

pub in_flat : {A B : Type 0} (f : A → List B) (xs : List A) (x : A) (y : B) → In x xs → In y (f x) → In y (flat_map f xs)
in_flat f [] x y i j = absurd i
in_flat f (z ∷ xs) x y (inl e) j = append-left (f z) (flat_map f xs) y (subst (λ u. In y (f u)) e j)
in_flat f (z ∷ xs) x y (inr i) j = append-right (f z) (flat_map f xs) y (in_flat f xs x y i j)
