-- The table of worths after one mark more.
use Rattle.std.proofs.Common.{◌≡◌, ℕ, ◌+◌, ◌<◌, Bool, true, false, cond, ◌&&◌, nat_eq, nat_cmp, List, length, take, get_or, Some, refl, sym, ap, ap₂, ◌∙◌, subst, arith, ℤ, pos, ◌+ℤ◌}
use Rattle.std.specs.BTreeMap.{is_at}
use Rattle.std.specs.List.{list_any}
use Rattle.std.specs.Map.{lookup}
use Rattle.std.specs.Ordering.{is_eq, ordering_then}
use Rattle.std.specs.Prelude.{unwrap_or}
use Rattle.std.specs.declared.cmp.Ordering.{Ordering}
use Rattle.std.proofs.lemmas.List.{length-take, take_more}
use Rattle.std.proofs.lemmas.Int.{ints}
use Rattle.hip_tree.specs.Laws.SiteLaws.{cmp-is_eq, same_site_equal, site_cmp}
use Rattle.hip_tree.specs.Sites.{same_site}
use Rattle.hip_tree.specs.declared.site.Site.{Site}
use Rattle.hip_runs.specs.Found.Scores.{is_marked, worth_in, worth_of}
use Rattle.hip_runs.specs.declared.report.Mark.{Mark}
use Rattle.hip_runs.specs.Laws.Members.{both_true, equal_true}
use Rattle.hip_runs.specs.declared.event.Object.{Object}
use Rattle.hip_runs.specs.declared.event.Object.TheVariants as objects
use Rattle.hip_plan.specs.Worths.{HasWorths, OperandKey, same_operand, worth_among}
use Rattle.hip_sites.proofs.SiteOrder.{number-is_eq, then-is_eq}
use Rattle.hip_plan.proofs.Sums.{IsWithin, add-none, worth-append, worth_within}

-- The key of a mark.
abbrev pub mark_key : Mark → OperandKey
mark_key m = (m.site, m.operand)

-- The order that keys are compared by.
abbrev pub key_cmp : OperandKey → OperandKey → Ordering
key_cmp a b = ordering_then (site_cmp a.0 b.0) (nat_cmp a.1 b.1)

key-is_eq : (a b : OperandKey) → is_eq (key_cmp a b) ≡ same_operand a b
key-is_eq a b = then-is_eq (site_cmp a.0 b.0) (nat_cmp a.1 b.1) ∙ ap₂ (λ (x y : Bool). x && y) (cmp-is_eq a.0 b.0) (number-is_eq a.1 b.1)

-- The table has at a key what its list of entries has.
pub worth_found : (entries : List (OperandKey × ℤ)) (key : OperandKey) → lookup (is_at (key_cmp key)) entries ≡ lookup (same_operand key) entries
worth_found entries key = λ i. lookup (λ k. key-is_eq key k i) entries

-- An object is marked by one list exactly if it is marked by another with the same numbers.
pub marked_alike : (xs ys : List ℕ) → ((n : ℕ) → list_any (nat_eq n) xs ≡ list_any (nat_eq n) ys) → (o : Object) → is_marked xs o ≡ is_marked ys o
marked_alike xs ys same (objects.Global g) = same g
marked_alike xs ys same (objects.Slot s) = refl

module _ (old new : List (OperandKey × ℤ)) (hit : List ℕ) (marks : List Mark) (i : ℕ) (d : Mark) (w : ℤ) where
  pub one_more : i < length marks →
      ((q : OperandKey) → lookup (is_at (key_cmp q)) new ≡ cond (is_at (key_cmp (mark_key (get_or marks i d))) q) (Some w) (lookup (is_at (key_cmp q)) old)) →
      w ≡ worth_among old (mark_key (get_or marks i d)) +ℤ worth_of (is_marked hit (get_or marks i d).object) →
      HasWorths old hit (take i marks) → HasWorths new hit (take (i + 1) marks)
  one_more h updates is before = record { worth = by_key }
    where
      stated : (s : Site) (k : ℕ) (t : Bool) → same_site (get_or marks i d).site s && nat_eq (get_or marks i d).operand k ≡ t →
          unwrap_or (cond t (Some w) (lookup (same_operand (s, k)) old)) (pos 0)
          ≡ worth_in hit s k (take i marks) (pos 0) +ℤ cond t (worth_of (is_marked hit (get_or marks i d).object)) (pos 0)
      stated s k true e =
          let m : Mark = get_or marks i d in
          let both = both_true (same_site m.site s) (nat_eq m.operand k) e in
          is ∙ ap (λ z. z +ℤ worth_of (is_marked hit m.object))
          (before.worth m.site m.operand
          ∙ ap₂ (λ (x : Site) (n : ℕ). worth_in hit x n (take i marks) (pos 0)) (same_site_equal m.site s both.0) (equal_true m.operand k both.1))
      stated s k false e = before.worth s k ∙ sym (add-none (worth_in hit s k (take i marks) (pos 0)))

      updated : (q : OperandKey) → lookup (same_operand q) new ≡ cond (same_operand (mark_key (get_or marks i d)) q) (Some w) (lookup (same_operand q) old)
      updated q = sym (worth_found new q) ∙ updates q ∙ (λ j. cond (key-is_eq (mark_key (get_or marks i d)) q j) (Some w) (worth_found old q j))

      by_key : (s : Site) (k : ℕ) → worth_among new (s, k) ≡ worth_in hit s k (take (i + 1) marks) (pos 0)
      by_key s k =
          let m : Mark = get_or marks i d in
          ap (λ o. unwrap_or o (pos 0)) (updated (s, k))
          ∙ stated s k (same_site m.site s && nat_eq m.operand k) refl
          ∙ sym (worth-append hit s k (take i marks) m (pos 0))
          ∙ ap (λ ms. worth_in hit s k ms (pos 0)) (sym (take_more marks i d h))

-- A worth in the table is at most the number of marks so far.
pub among_within : (entries : List (OperandKey × ℤ)) (hit : List ℕ) (marks : List Mark) (i : ℕ) (key : OperandKey) (a : ℤ) → i < length marks →
    HasWorths entries hit (take i marks) → a ≡ worth_among entries key → IsWithin i a
among_within entries hit marks i key a h has is =
    let none : IsWithin 0 (pos 0) = record { least = omega (arith, ints); most = omega (arith, ints) } in
    let all : IsWithin (0 + length (take i marks)) (worth_in hit key.0 key.1 (take i marks) (pos 0)) = worth_within hit key.0 key.1 (take i marks) (pos 0) 0 none in
    let many : 0 + length (take i marks) ≡ i = omega (arith, length-take i marks) in
    subst (λ z. IsWithin i z) (sym (is ∙ has.worth key.0 key.1)) (subst (λ n. IsWithin n (worth_in hit key.0 key.1 (take i marks) (pos 0))) many all)
