-- Pages that are cleared one by one.
use Rattle.std.proofs.Common.{◌≡◌, ◌≢◌, ◌⊎◌, inl, inr, ℕ, ◌+◌, ◌-◌, ◌*◌, ◌/◌, ◌%◌, ◌<◌, ◌≤◌, ◌&&◌, true, false, cond, nat_le, nat_lt, max, min, Option, Some, None, refl, sym, ap, ◌∙◌, arith}
use Rattle.hip_mem.specs.declared.pages.Pages.{Pages}
use Rattle.hip_mem.specs.Pages.{byte_of, page_byte, AreZeros, IsFirstMade}
use Rattle.hip_mem.proofs.PageKeys.{in_or_out, inside, outside}

-- The bytes of a range are zeros on the pages before page `next`, and all others are what they were.
pub record IsCleared (m old : Pages) (from to next : ℕ) : Type 0 where
  pub zero : (a : ℕ) → from ≤ a → a < to → a / 4096 < next → page_byte m a ≡ 0
  pub before : (a : ℕ) → a < from → page_byte m a ≡ page_byte old a
  pub after : (a : ℕ) → to ≤ a → page_byte m a ≡ page_byte old a
  pub rest : (a : ℕ) → next ≤ a / 4096 → page_byte m a ≡ page_byte old a

pub cleared-none : (m : Pages) (from to : ℕ) → IsCleared m m from to (from / 4096)
cleared-none m from to = record { zero = λ a low high lt. absurd (omega (arith, low, lt)); before = λ a _. refl; after = λ a _. refl; rest = λ a _. refl }

same_or_not : (m n : ℕ) → (m ≡ n) ⊎ (m ≢ n)
same_or_not m n = grind arith

below_or_not : (m n : ℕ) → (m < n) ⊎ (n ≤ m)
below_or_not m n = grind arith

module _ (old m m' : Pages) (from to next k low high : ℕ) (h : IsCleared m old from to next) (le : next ≤ k) (zeros : AreZeros m next k) (low_is : low ≡ max from (k * 4096) - k * 4096) (high_is : high ≡ min to (k * 4096 + 4096) - k * 4096) (bytes : (i : ℕ) → i < 4096 → byte_of m' k i ≡ cond (nat_le low i && nat_lt i high) 0 (byte_of m k i)) (others : (n i : ℕ) → n ≢ k → i < 4096 → byte_of m' n i ≡ byte_of m n i) where
  in_page : (a : ℕ) → a / 4096 ≡ k → page_byte m' a ≡ cond (nat_le low (a % 4096) && nat_lt (a % 4096) high) 0 (page_byte m a)
  in_page a e = ap (λ n. byte_of m' n (a % 4096)) e ∙ bytes (a % 4096) (omega arith) ∙ ap (λ n. cond (nat_le low (a % 4096) && nat_lt (a % 4096) high) 0 (byte_of m n (a % 4096))) (sym e)

  other : (a : ℕ) → a / 4096 ≢ k → page_byte m' a ≡ page_byte m a
  other a ne = others (a / 4096) (a % 4096) ne (omega arith)

  pub cleared-more : IsCleared m' old from to (k + 1)
  cleared-more = record { zero = zero; before = before; after = after; rest = rest }
    where
      zero : (a : ℕ) → from ≤ a → a < to → a / 4096 < k + 1 → page_byte m' a ≡ 0
      zero a l u lt = go (same_or_not (a / 4096) k) (below_or_not (a / 4096) next)
        where
          go : (a / 4096 ≡ k) ⊎ (a / 4096 ≢ k) → (a / 4096 < next) ⊎ (next ≤ a / 4096) → page_byte m' a ≡ 0
          go (inl e) y = inside low (a % 4096) high (page_byte m' a) (page_byte m a) 0 (in_page a e) (omega (arith, e, l, low_is)) (omega (arith, e, u, high_is))
          go (inr ne) (inl b) = other a ne ∙ h.zero a l u b
          go (inr ne) (inr b) = other a ne ∙ zeros (a / 4096) (a % 4096) b (omega (arith, lt, ne)) (omega arith)

      before : (a : ℕ) → a < from → page_byte m' a ≡ page_byte old a
      before a l = go (same_or_not (a / 4096) k)
        where
          go : (a / 4096 ≡ k) ⊎ (a / 4096 ≢ k) → page_byte m' a ≡ page_byte old a
          go (inl e) = outside low (a % 4096) high (page_byte m' a) (page_byte m a) 0 (in_page a e) (inl (omega (arith, e, l, low_is))) ∙ h.before a l
          go (inr ne) = other a ne ∙ h.before a l

      after : (a : ℕ) → to ≤ a → page_byte m' a ≡ page_byte old a
      after a u = go (same_or_not (a / 4096) k)
        where
          go : (a / 4096 ≡ k) ⊎ (a / 4096 ≢ k) → page_byte m' a ≡ page_byte old a
          go (inl e) = outside low (a % 4096) high (page_byte m' a) (page_byte m a) 0 (in_page a e) (inr (omega (arith, e, u, high_is))) ∙ h.after a u
          go (inr ne) = other a ne ∙ h.after a u

      rest : (a : ℕ) → k + 1 ≤ a / 4096 → page_byte m' a ≡ page_byte old a
      rest a l = other a (λ e. omega (arith, e, l)) ∙ h.rest a (omega (arith, l, le))

pub cleared-all : (old m : Pages) (from to next end : ℕ) → IsCleared m old from to next → end ≡ (to + 4096 - 1) / 4096 → (AreZeros m next end) ⊎ (end ≤ next) → (a : ℕ) → page_byte m a ≡ cond (nat_le from a && nat_lt a to) 0 (page_byte old a)
cleared-all old m from to next end h e z a = go (in_or_out from a to)
  where
    zero : from ≤ a → a < to → (a / 4096 < next) ⊎ (next ≤ a / 4096) → (AreZeros m next end) ⊎ (end ≤ next) → page_byte m a ≡ 0
    zero l u (inl b) z = h.zero a l u b
    zero l u (inr b) (inl z) = z (a / 4096) (a % 4096) b (omega (arith, e, u)) (omega arith)
    zero l u (inr b) (inr z) = absurd (omega (arith, e, u, b, z))

    out : (a < from) ⊎ (to ≤ a) → page_byte m a ≡ page_byte old a
    out (inl l) = h.before a l
    out (inr l) = h.after a l

    go : (((nat_le from a && nat_lt a to) ≡ true) × (from ≤ a) × (a < to)) ⊎ (((nat_le from a && nat_lt a to) ≡ false) × ((a < from) ⊎ (to ≤ a))) → page_byte m a ≡ cond (nat_le from a && nat_lt a to) 0 (page_byte old a)
    go (inl t) = zero t.1 t.2 (below_or_not (a / 4096) next) z ∙ sym (ap (λ b. cond b 0 (page_byte old a)) t.0)
    go (inr t) = out t.1 ∙ sym (ap (λ b. cond b 0 (page_byte old a)) t.0)

-- If no made page is found, all pages of the range are zeros.
pub none_found : (m : Pages) (from to : ℕ) (o : Option ℕ) → IsFirstMade m from to o → ((n : ℕ) → o ≡ Some n → ⊥) → AreZeros m from to
none_found m from to None h none = h
none_found m from to (Some n) h none = absurd (none n refl)
