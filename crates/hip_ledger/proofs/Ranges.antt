-- What changes line by line, from a first line up to an end.
use Rattle.std.proofs.Common.{◌≡◌, ◌⊎◌, inl, inr, ℕ, ◌+◌, ◌<◌, ◌≤◌, true, false, cond, List, ◌∷◌, slice_get, Option, Some, None, refl, sym, ap, ◌∙◌, subst, arith}
use Rattle.std.specs.Prelude.{IfSome, IsSome, is_some}
use Rattle.std.specs.Ordering.{is_gt, nat_cmp}
use Rattle.std.specs.declared.cmp.Ordering.TheVariants.{Less, Equal}
use Rattle.std.specs.Cmp.{nat_cmp_is}
use Rattle.std.proofs.lemmas.Cmp.{ranked}
use Rattle.std.proofs.lemmas.Bool.Decides.{nat_tests}
use Rattle.hip_ledger.specs.Pending.{is_between}

pub outside : (first end j : ℕ) → end ≤ first → is_between first end j ≡ false
outside first end j h = grind (arith, nat_tests)

pub inside : (first end j : ℕ) → first ≤ j → j < end → is_between first end j ≡ true
inside first end j h k = grind (arith, nat_tests)

below : (first end j : ℕ) → j < first → is_between first end j ≡ false
below first end j h = grind (arith, nat_tests)

above : (first end j : ℕ) → end ≤ j → is_between first end j ≡ false
above first end j h = grind (arith, nat_tests)

three : (j line : ℕ) → (j ≡ line) ⊎ ((j < line) ⊎ (line < j))
three j line = grind arith

same_below : (first line j : ℕ) → j < line → is_between first line j ≡ is_between first (line + 1) j
same_below first line j h = grind (arith, nat_tests)

module _ {A : Type 0} (to : Option A → Option A) (old new : ℕ → Option A) where
  -- One more line is changed.
  pub one_more : (mid : ℕ → Option A) (first line : ℕ) → first ≤ line
      → ((j : ℕ) → mid j ≡ cond (is_between first line j) (to (old j)) (old j))
      → new line ≡ to (mid line) → ((j : ℕ) → (j ≡ line → ⊥) → new j ≡ mid j)
      → (j : ℕ) → new j ≡ cond (is_between first (line + 1) j) (to (old j)) (old j)
  one_more mid first line le stated here others j = go (three j line)
    where
      unchanged : mid line ≡ old line
      unchanged = stated line ∙ ap (λ t. cond t (to (old line)) (old line)) (above first line line (omega arith))

      go : (j ≡ line) ⊎ ((j < line) ⊎ (line < j)) → new j ≡ cond (is_between first (line + 1) j) (to (old j)) (old j)
      go (inl e) = subst (λ i. new i ≡ cond (is_between first (line + 1) i) (to (old i)) (old i)) (sym e) (here ∙ ap to unchanged ∙ sym (ap (λ t. cond t (to (old line)) (old line)) (inside first (line + 1) line le (omega arith))))
      go (inr (inl lt)) = others j (λ e. absurd (omega (arith, e, lt))) ∙ stated j ∙ ap (λ t. cond t (to (old j)) (old j)) (same_below first line j lt)
      go (inr (inr lt)) = others j (λ e. absurd (omega (arith, e, lt))) ∙ stated j ∙ ap (λ t. cond t (to (old j)) (old j)) (above first line j (omega (arith, lt)) ∙ sym (above first (line + 1) j (omega (arith, lt))))

  -- Lines without a note may be skipped if the change leaves such lines as they are.
  pub skipped : (first next line : ℕ) → next ≤ line → (to None ≡ None)
      → ((j : ℕ) → next ≤ j → j < line → new j ≡ None)
      → ((j : ℕ) → new j ≡ cond (is_between first next j) (to (old j)) (old j))
      → first ≤ next → (j : ℕ) → new j ≡ cond (is_between first line j) (to (old j)) (old j)
  skipped first next line le none empty stated low j = go (split j next) (split j line)
    where
      split : (a b : ℕ) → (a < b) ⊎ (b ≤ a)
      split a b = grind arith

      go : (j < next) ⊎ (next ≤ j) → (j < line) ⊎ (line ≤ j) → new j ≡ cond (is_between first line j) (to (old j)) (old j)
      go (inl lt) q = stated j ∙ ap (λ t. cond t (to (old j)) (old j)) (same_before first next line j lt le)
        where
          same_before : (first next line j : ℕ) → j < next → next ≤ line → is_between first next j ≡ is_between first line j
          same_before first next line j h k = grind (arith, nat_tests)
      go (inr ge) (inl lt) =
          let was : old j ≡ None = sym (ap (λ t. cond t (to (old j)) (old j)) (above first next j ge)) ∙ sym (stated j) ∙ empty j ge lt in
          empty j ge lt ∙ sym (ap (λ t. cond t (to (old j)) (old j)) (inside first line j (omega (arith, low, ge)) lt) ∙ ap to was ∙ none)
      go (inr ge) (inr gt) = stated j ∙ ap (λ t. cond t (to (old j)) (old j)) (above first next j ge ∙ sym (above first line j gt))

-- ---- the first entry of a part of a map

pub at_head : {A : Type 0} (Q : A → Type 0) (r : List A) (e : A) (t : List A) → r ≡ e ∷ t → IfSome (slice_get r 0) Q → Q e
at_head {A} Q r e t q h = subst (λ (z : List A). IfSome (slice_get z 0) Q) q h

pub cmp_less : (a b : ℕ) → a < b → nat_cmp a b ≡ Less
cmp_less a b h = sym (nat_cmp_is a b Less h)

pub less_cmp : (a b : ℕ) → nat_cmp a b ≡ Less → a < b
less_cmp a b h = ranked a b Less (sym h)

pub cmp_le : (a b : ℕ) → a ≤ b → is_gt (nat_cmp a b) ≡ false
cmp_le a b h = go (split a b h)
  where
    split : (a b : ℕ) → a ≤ b → (a < b) ⊎ (a ≡ b)
    split a b h = grind arith

    go : (a < b) ⊎ (a ≡ b) → is_gt (nat_cmp a b) ≡ false
    go (inl lt) = ap is_gt (cmp_less a b lt)
    go (inr e) = ap is_gt (sym (nat_cmp_is a b Equal e))

-- There is nothing below the least key.
pub none_before : {A : Type 0} (at : ℕ → Option A) (line : ℕ) (j : ℕ) → (IsSome (at j) → line ≤ j) → j < line → at j ≡ None
none_before {A} at line j h lt = go (at j) refl
  where
    go : (o : Option A) → at j ≡ o → o ≡ None
    go None e = refl
    go (Some x) e = absurd (let le : line ≤ j = h (ap is_some e) in omega (arith, le, lt))
