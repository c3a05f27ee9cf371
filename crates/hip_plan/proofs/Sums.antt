-- Worths as sums.
use Rattle.std.proofs.Common.{◌≡◌, ℕ, suc, ◌+◌, ◌<◌, ◌^◌, Bool, true, false, cond, ◌&&◌, nat_eq, List, [], ◌∷◌, ◌++◌, length, drop, get_or, refl, sym, ap, ◌∙◌, subst, arith, ℤ, pos, ◌+ℤ◌, neg_ℤ, ◌≤ℤ◌, FitsSigned, to_z, of_z, add-one, drop-cons}
use Rattle.std.specs.Int.{w128}
use Rattle.std.proofs.lemmas.Int.{ints, to_z-of_z}
use Rattle.hip_tree.specs.Sites.{same_site}
use Rattle.hip_tree.specs.declared.site.Site.{Site}
use Rattle.hip_runs.specs.Found.Scores.{is_marked, worth_in, worth_of}
use Rattle.hip_runs.specs.declared.report.Mark.{Mark}
use Rattle.hip_plan.specs.Worths.{added_by}

-- A sum that fits 128 bits is what the code computes from the bits of its second number.
pub folded : (a r : ℤ) → FitsSigned w128 r → FitsSigned w128 (a +ℤ r) → to_z w128 (of_z w128 (a +ℤ to_z w128 (of_z w128 r))) ≡ a +ℤ r
folded a r fits sum_fits = ap (λ z. to_z w128 (of_z w128 (a +ℤ z))) (to_z-of_z w128 r fits) ∙ to_z-of_z w128 (a +ℤ r) sum_fits

-- A sum that fits 128 bits is what the code computes from the bits of both numbers.
pub both_folded : (a r : ℤ) → FitsSigned w128 a → FitsSigned w128 r → FitsSigned w128 (a +ℤ r) →
    to_z w128 (of_z w128 (to_z w128 (of_z w128 a) +ℤ to_z w128 (of_z w128 r))) ≡ a +ℤ r
both_folded a r here fits sum_fits = ap (λ z. to_z w128 (of_z w128 (z +ℤ to_z w128 (of_z w128 r)))) (to_z-of_z w128 a here) ∙ folded a r fits sum_fits

pub add-none : (s : ℤ) → s +ℤ pos 0 ≡ s
add-none s = omega (arith, ints)

add-cond : (t : Bool) (s r : ℤ) → cond t (s +ℤ r) s ≡ s +ℤ cond t r (pos 0)
add-cond true s r = refl
add-cond false s r = sym (add-none s)

pub record IsSmall (r : ℤ) : Type 0 where
  pub least : neg_ℤ (pos 1) ≤ℤ r
  pub most : r ≤ℤ pos 1

-- At most n, and at least its negative.
pub record IsWithin (n : ℕ) (r : ℤ) : Type 0 where
  pub least : neg_ℤ (pos n) ≤ℤ r
  pub most : r ≤ℤ pos n

pub worth_small : (b : Bool) → IsSmall (worth_of b)
worth_small true = record { least = omega (arith, ints); most = omega (arith, ints) }
worth_small false = record { least = omega (arith, ints); most = omega (arith, ints) }

pub sum_fits : (i : ℕ) (a r : ℤ) → i < 2 ^ 64 → IsWithin i a → IsSmall r → FitsSigned w128 (a +ℤ r)
sum_fits i a r h within small = let l = within.least in let m = within.most in let k = small.least in let n = small.most in omega (arith, ints)

module _ (hit : List ℕ) (site : Site) (operand : ℕ) where
  pub added_small : (m : Mark) → IsSmall (added_by hit m site operand)
  added_small m = go (same_site m.site site && nat_eq m.operand operand)
    where
      go : (b : Bool) → IsSmall (cond b (worth_of (is_marked hit m.object)) (pos 0))
      go true = worth_small (is_marked hit m.object)
      go false = record { least = omega (arith, ints); most = omega (arith, ints) }

  -- The worth by the marks that are left, after one mark of them.
  pub worth_more : (marks : List Mark) (i : ℕ) (d : Mark) (s r : ℤ) → i < length marks → r ≡ added_by hit (get_or marks i d) site operand →
      worth_in hit site operand (drop i marks) s ≡ worth_in hit site operand (drop (i + 1) marks) (s +ℤ r)
  worth_more marks i d s r h e =
      let m : Mark = get_or marks i d in
      let t : Bool = same_site m.site site && nat_eq m.operand operand in
      let w : ℤ = worth_of (is_marked hit m.object) in
      ap (λ ms. worth_in hit site operand ms s) (drop-cons marks i d h)
      ∙ ap (λ n. worth_in hit site operand (drop n marks) (cond t (s +ℤ w) s)) (sym (add-one i))
      ∙ ap (λ z. worth_in hit site operand (drop (i + 1) marks) z) (add-cond t s w ∙ ap (λ z. s +ℤ z) (sym e))

  -- The worth with one more mark at the end.
  pub worth-append : (ms : List Mark) (m : Mark) (s : ℤ) → worth_in hit site operand (ms ++ m ∷ []) s ≡ worth_in hit site operand ms s +ℤ added_by hit m site operand
  worth-append [] m s = add-cond (same_site m.site site && nat_eq m.operand operand) s (worth_of (is_marked hit m.object))
  worth-append (x ∷ ms) m s = worth-append ms m (cond (same_site x.site site && nat_eq x.operand operand) (s +ℤ worth_of (is_marked hit x.object)) s)

  -- A worth is at most the number of marks, and no less than its negative.
  pub worth_within : (ms : List Mark) (s : ℤ) (n : ℕ) → IsWithin n s → IsWithin (n + length ms) (worth_in hit site operand ms s)
  worth_within [] s n h = subst (λ k. IsWithin k s) (let e : n ≡ n + 0 = omega arith in e) h
  worth_within (x ∷ ms) s n h =
      let t : Bool = same_site x.site site && nat_eq x.operand operand in
      let w : ℤ = worth_of (is_marked hit x.object) in
      let e : n + 1 + length ms ≡ n + suc (length ms) = omega arith in
      subst (λ k. IsWithin k (worth_in hit site operand ms (cond t (s +ℤ w) s))) e (worth_within ms (cond t (s +ℤ w) s) (n + 1) (next t w (worth_small (is_marked hit x.object))))
    where
      next : (t : Bool) (w : ℤ) → IsSmall w → IsWithin (n + 1) (cond t (s +ℤ w) s)
      next true w small = let l = h.least in let m = h.most in let a = small.least in let b = small.most in record { least = omega (arith, ints); most = omega (arith, ints) }
      next false w small = let l = h.least in let m = h.most in record { least = omega (arith, ints); most = omega (arith, ints) }
