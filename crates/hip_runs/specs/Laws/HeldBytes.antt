-- The bytes of a store that lie in one cache line.
use Rattle.std.proofs.Common.{◌≡◌, ℕ, zero, suc, ◌+◌, ◌-◌, ◌/◌, ◌<◌, ◌≤◌, ◌&&◌, true, nat_lt, nat_le, List, [], ◌∷◌, length, take, drop, slice_index, refl, sym, ap, ◌∙◌, subst, arith}
use Rattle.std.proofs.lemmas.Bool.Decides.{nat_tests}
use Rattle.std.proofs.lemmas.List.{length-take-le, length-drop}
use Rattle.hip_lines.specs.Line.{start_in, end_in}

index_take : (n : ℕ) (xs : List ℕ) (i : ℕ) → i < n → slice_index (take n xs) i ≡ slice_index xs i
index_take zero xs i h = absurd (omega arith)
index_take (suc n) [] i h = refl
index_take (suc n) (x ∷ xs) zero h = refl
index_take (suc n) (x ∷ xs) (suc i) h = index_take n xs i (omega arith)

index_drop : (n : ℕ) (xs : List ℕ) (i : ℕ) → slice_index (drop n xs) i ≡ slice_index xs (n + i)
index_drop zero xs i = let e : i ≡ 0 + i = omega arith in ap (slice_index xs) e
index_drop (suc n) [] i = refl
index_drop (suc n) (x ∷ xs) i =
    index_drop n xs i ∙ (let e : suc (n + i) ≡ suc n + i = omega arith in ap (slice_index (x ∷ xs)) e)

-- What the test whether a byte is in a range decides.
covered : (first size b : ℕ) → nat_le first b && nat_lt b (first + size) ≡ true → (first ≤ b)
    × (b < first + size)
covered first size b h = (grind (arith, nat_tests), grind (arith, nat_tests))

cover : (first size b : ℕ) → first ≤ b → b < first + size → nat_le first b && nat_lt b (first + size) ≡ true
cover first size b h k = grind (arith, nat_tests)

module _ (o : ℕ) (bytes : List ℕ) (j : ℕ) where
  -- The bytes of a store at offset o that lie in cache line j.
  abbrev pub Held : List ℕ
  Held = take (end_in j o (length bytes) - start_in j o) (drop (start_in j o - o) bytes)

  fits : (n rest : ℕ) → rest ≡ n - (start_in j o - o) → end_in j o n - start_in j o ≤ rest
  fits n rest e = omega (arith, e)

  length_held : length Held ≡ end_in j o (length bytes) - start_in j o
  length_held =
      length-take-le (end_in j o (length bytes) - start_in j o) (drop (start_in j o - o) bytes)
      (fits (length bytes) (length (drop (start_in j o - o) bytes)) (length-drop (start_in j o - o) bytes))

  ends : (n b : ℕ) → start_in j o ≤ b → b < start_in j o + (end_in j o n - start_in j o) → b < end_in j o n
  ends n b h k = omega arith

  starts : (n b : ℕ) → start_in j o ≤ b → b < end_in j o n → b < start_in j o + (end_in j o n - start_in j o)
  starts n b h k = omega arith

  -- A byte that the part covers lies in the part's line and in the store.
  pub held : (b : ℕ) → nat_le (start_in j o) b && nat_lt b (start_in j o + length Held) ≡ true
      → (start_in j o ≤ b) × (b < end_in j o (length bytes))
  held b h =
      let c = covered (start_in j o) (length Held) b h in
      (c.0, ends (length bytes) b c.0 (subst (λ k. b < start_in j o + k) length_held c.1))

  -- The part covers each byte that is in the line and in the store.
  pub holds_byte : (b : ℕ) → start_in j o ≤ b → b < end_in j o (length bytes)
      → nat_le (start_in j o) b && nat_lt b (start_in j o + length Held) ≡ true
  holds_byte b h k =
      cover (start_in j o) (length Held) b h (subst (λ i. b < start_in j o + i) (sym length_held)
      (starts (length bytes) b h k))

  further : (n b : ℕ) → start_in j o ≤ b → b < end_in j o n → b - start_in j o < end_in j o n - start_in j o
  further n b h k = omega arith

  sums : (b : ℕ) → start_in j o ≤ b → (start_in j o - o) + (b - start_in j o) ≡ b - o
  sums b h = omega arith

  -- The part has the store's byte there.
  pub held_byte : (b : ℕ) → start_in j o ≤ b → b < end_in j o (length bytes)
      → slice_index Held (b - start_in j o) ≡ slice_index bytes (b - o)
  held_byte b h k =
      index_take (end_in j o (length bytes) - start_in j o) (drop (start_in j o - o) bytes) (b - start_in j o)
      (further (length bytes) b h k)
      ∙ index_drop (start_in j o - o) bytes (b - start_in j o)
      ∙ ap (slice_index bytes) (sums b h)

  -- The part covers each byte of the store that is in the line.
  pub line_byte : (b : ℕ) → o ≤ b → b < o + length bytes → b / 64 ≡ j → (start_in j o ≤ b)
      × (b < end_in j o (length bytes))
  line_byte b h k e = inside (length bytes) b h k e
    where
      inside : (n b : ℕ) → o ≤ b → b < o + n → b / 64 ≡ j → (start_in j o ≤ b) × (b < end_in j o n)
      inside n b h k e = (omega (arith, e), omega (arith, e))
