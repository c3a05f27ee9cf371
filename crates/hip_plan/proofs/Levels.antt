-- The best level, from the innermost on.
use Rattle.std.proofs.Common.{◌≡◌, ◌⊎◌, inl, inr, ℕ, zero, suc, ◌+◌, ◌-◌, ◌<◌, ◌≤◌, Bool, true, false, cond, List, [], ◌∷◌, refl, sym, ap, ap₂, ◌∙◌, arith, add-one, Option, ℤ}
use Rattle.hip_tree.specs.declared.program.Program.{Program}
use Rattle.hip_tree.specs.declared.site.Site.{Site}
use Rattle.hip_runs.specs.Found.Scores.{score}
use Rattle.hip_runs.specs.declared.report.Findings.{Findings}
use Rattle.hip_runs.specs.declared.report.Kind.{Kind}
use Rattle.hip_runs.specs.declared.report.Kind.TheVariants.{MissingFlush, MissingFence, MissingBoth}
use Rattle.hip_runs.specs.declared.report.Report.{Report}
use Rattle.hip_repairs.specs.Choice.{Candidate, best_of, best_on, better, choice, is_better, level_for}

module _ (P : Program) (found : Findings) where
  -- The best level after one more level.
  best_more : (best : Candidate) (closed i : ℕ) (call : Site) (calls : List Site) → i < closed →
      best_of P found best (i + 1) (closed - i) (call ∷ calls)
      ≡ best_of P found (better best (record { level = i + 1; score = score P found call })) (i + 1 + 1) (closed - (i + 1)) calls
  best_more best closed i call calls h =
      let more : closed - i ≡ suc (closed - (i + 1)) = omega arith in
      ap (λ n. best_of P found best (i + 1) n (call ∷ calls)) more
      ∙ ap (λ n. best_of P found (better best (record { level = i + 1; score = score P found call })) n (closed - (i + 1)) calls) (sym (add-one (i + 1)))

  -- Whether the next level is better or not.
  module _ (best : Candidate) (closed i : ℕ) (call : Site) (calls rest : List Site) (are : calls ≡ call ∷ rest) (h : i < closed) where
    went : (b : Bool) → is_better best.score (score P found call) ≡ b →
        best_of P found best (i + 1) (closed - i) calls
        ≡ best_of P found (cond b (record { level = i + 1; score = score P found call }) best) (i + 1 + 1) (closed - (i + 1)) rest
    went b e =
        ap (best_of P found best (i + 1) (closed - i)) are
        ∙ best_more best closed i call rest h
        ∙ ap (λ t. best_of P found (cond t (record { level = i + 1; score = score P found call }) best) (i + 1 + 1) (closed - (i + 1)) rest) e

    pub taken : (level : ℕ) (new : Option ℤ) → level ≡ i + 1 → new ≡ score P found call → is_better best.score new ≡ true →
        (best_of P found (record { level = level; score = new }) (i + 1 + 1) (closed - (i + 1)) rest).level
        ≡ (best_of P found best (i + 1) (closed - i) calls).level
    taken level new at e better =
        ap₂ (λ (n : ℕ) (s : Option ℤ). (best_of P found (record { level = n; score = s }) (i + 1 + 1) (closed - (i + 1)) rest).level) at e
        ∙ ap (λ (x : Candidate). x.level) (sym (went true (ap (is_better best.score) (sym e) ∙ better)))

    pub left : (new : Option ℤ) → new ≡ score P found call → is_better best.score new ≡ false →
        (best_of P found best (i + 1 + 1) (closed - (i + 1)) rest).level ≡ (best_of P found best (i + 1) (closed - i) calls).level
    left new e worse = ap (λ (x : Candidate). x.level) (sym (went false (ap (is_better best.score) (sym e) ∙ worse)))

  none_left : (best : Candidate) (level more : ℕ) (calls : List Site) → (more ≡ 0) ⊎ (calls ≡ []) → best_of P found best level more calls ≡ best
  none_left best level zero calls h = refl
  none_left best level (suc more) [] h = refl
  none_left best level (suc more) (x ∷ calls) (inl e) = absurd (omega arith)
  none_left best level (suc more) (x ∷ calls) (inr e) = absurd (let z : ⊥ = cc in z)

  -- If no call is left, or none that had returned, the best level so far is the best one.
  pub best_end : (best : Candidate) (closed i : ℕ) (calls : List Site) → (closed ≤ i) ⊎ (calls ≡ []) → best_of P found best (i + 1) (closed - i) calls ≡ best
  best_end best closed i calls (inl h) = none_left best (i + 1) (closed - i) calls (inl (let none : closed - i ≡ 0 = omega arith in none))
  best_end best closed i calls (inr e) = none_left best (i + 1) (closed - i) calls (inr e)

  -- ---- no level past the calls that had returned

  better_within : (b : Bool) (best new : Candidate) (n : ℕ) → best.level < n → new.level < n → (cond b new best).level < n
  better_within true best new n h g = g
  better_within false best new n h g = h

  best_within : (best : Candidate) (level more : ℕ) (calls : List Site) → best.level < level → (best_of P found best level more calls).level < level + more
  best_within best level zero calls h = omega arith
  best_within best level (suc more) [] h = omega arith
  best_within best level (suc more) (site ∷ calls) h =
      let new : Candidate = record { level = level; score = score P found site } in
      let next = best_within (better best new) (suc level) more calls (better_within (is_better best.score new.score) best new (suc level) (omega arith) (omega arith)) in
      omega (arith, next)

  on_within : (closed : ℕ) (path : List Site) → best_on P found closed path ≤ closed
  on_within closed [] = omega arith
  on_within closed (store ∷ calls) = omega (arith, best_within (record { level = 0; score = score P found store }) 1 closed calls (omega arith))

  pub choice_within : (r : Report) → choice P found r ≤ r.closed
  choice_within r = by_kind r.kind
    where
      by_kind : (k : Kind) → level_for P found r k ≤ r.closed
      by_kind MissingFence = omega arith
      by_kind MissingFlush = on_within r.closed r.path
      by_kind MissingBoth = on_within r.closed r.path
