-- The greatest worth, from the first operand on.
use Rattle.std.proofs.Common.{◌≡◌, ℕ, zero, suc, ◌+◌, ◌<◌, cond, List, [], ◌∷◌, length, drop, Option, Some, None, is_some, true, IsNone, ◌↔◌, refl, sym, ap, ◌∙◌, arith, ℤ, add-one}
use Rattle.std.specs.Prelude.{int_lt}
use Rattle.std.proofs.lemmas.Int.{ints}
use Rattle.hip_tree.specs.declared.instr.Operand.{Operand}
use Rattle.hip_tree.specs.declared.site.Site.{Site}
use Rattle.hip_runs.specs.Found.Scores.{greater, greatest_worth, worth}
use Rattle.hip_runs.specs.declared.report.Marks.{Marks}
use Rattle.hip_plan.specs.Worths.{greatest}

-- The greater one of two.
abbrev pub joined : Option ℤ → Option ℤ → Option ℤ
joined None b = b
joined (Some a) b = greater a b

pub joined-none : (o : Option ℤ) → joined o None ≡ o
joined-none None = refl
joined-none (Some a) = refl

max_assoc : (b w y : ℤ) → cond (int_lt (cond (int_lt b w) w b) y) y (cond (int_lt b w) w b) ≡ cond (int_lt b (cond (int_lt w y) y w)) (cond (int_lt w y) y w) b
max_assoc b w y = grind (arith, ints)

pub joined-greatest : (o : Option ℤ) (w : ℤ) (r : Option ℤ) → joined (greatest o w) r ≡ joined o (greater w r)
joined-greatest None w r = refl
joined-greatest (Some b) w None = refl
joined-greatest (Some b) w (Some y) = ap Some (max_assoc b w y)

module _ (marks : Marks) (site : Site) where
  pub greatest-drop : (os : List Operand) (i k : ℕ) → i < length os →
      greatest_worth marks site k (drop i os) ≡ greater (worth marks site k) (greatest_worth marks site (suc k) (drop (suc i) os))
  greatest-drop [] i k h = absurd (omega arith)
  greatest-drop (o ∷ os) zero k h = refl
  greatest-drop (o ∷ os) (suc i) k h = greatest-drop os i k (omega arith)

  pub greatest-end : (os : List Operand) (k : ℕ) → greatest_worth marks site k (drop (length os) os) ≡ None
  greatest-end [] k = refl
  greatest-end (o ∷ os) k = greatest-end os k

  -- The greatest worth after one more operand.
  pub greatest_more : (os : List Operand) (i : ℕ) (best : Option ℤ) (w : ℤ) → i < length os → w ≡ worth marks site i →
      joined (greatest best w) (greatest_worth marks site (i + 1) (drop (i + 1) os)) ≡ joined best (greatest_worth marks site i (drop i os))
  greatest_more os i best w h e =
      joined-greatest best w (greatest_worth marks site (i + 1) (drop (i + 1) os))
      ∙ ap (λ v. joined best (greater v (greatest_worth marks site (i + 1) (drop (i + 1) os)))) e
      ∙ ap (λ n. joined best (greater (worth marks site i) (greatest_worth marks site n (drop n os)))) (add-one i)
      ∙ ap (joined best) (sym (greatest-drop os i i h))

  -- There is no greatest worth exactly if there is no operand.
  pub no_greatest : (os : List Operand) → IsNone (greatest_worth marks site 0 os) ↔ (os ≡ [])
  no_greatest [] = ((λ h. refl), (λ e. refl))
  no_greatest (o ∷ os) = ((λ h. absurd (let e = some_greater (worth marks site 0) (greatest_worth marks site 1 os) in let z : ⊥ = cc in z)), (λ e. cc))
    where
      some_greater : (a : ℤ) (r : Option ℤ) → is_some (greater a r) ≡ true
      some_greater a None = refl
      some_greater a (Some b) = refl
