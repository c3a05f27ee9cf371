-- The bytes of a line that a part covers.
use Rattle.std.proofs.Common.{◌≡◌, ◌⊎◌, inl, inr, ℕ, ◌+◌, ◌/◌, ◌%◌, ◌<◌, ◌≤◌, true, false, nat_lt, nat_le, ◌&&◌, refl, arith}
use Rattle.std.proofs.lemmas.Bool.Decides.{nat_tests}
use Rattle.hip_lines.specs.declared.part.Part.{Part}
use Rattle.hip_lines.specs.Parts.{part_covers}

-- A byte of a part's line is between the part's two offsets in the line exactly if the part covers it.
pub covered_place : (p : Part) (line b : ℕ) → p.offset / 64 ≡ line → b / 64 ≡ line → (nat_le (p.offset % 64) (b % 64) && nat_lt (b % 64) (p.offset % 64 + p.size)) ≡ part_covers p b
covered_place p line b e f = go (cases (p.offset % 64) (b % 64)) (cases p.offset b) (cases' (b % 64) (p.offset % 64 + p.size)) (cases' b (p.offset + p.size))
  where
    cases : (m n : ℕ) → ((nat_le m n ≡ true) × (m ≤ n)) ⊎ ((nat_le m n ≡ false) × (n < m))
    cases m n = grind (arith, nat_tests)

    cases' : (m n : ℕ) → ((nat_lt m n ≡ true) × (m < n)) ⊎ ((nat_lt m n ≡ false) × (n ≤ m))
    cases' m n = grind (arith, nat_tests)

    go : ((nat_le (p.offset % 64) (b % 64) ≡ true) × (p.offset % 64 ≤ b % 64)) ⊎ ((nat_le (p.offset % 64) (b % 64) ≡ false) × (b % 64 < p.offset % 64)) → ((nat_le p.offset b ≡ true) × (p.offset ≤ b)) ⊎ ((nat_le p.offset b ≡ false) × (b < p.offset)) → ((nat_lt (b % 64) (p.offset % 64 + p.size) ≡ true) × (b % 64 < p.offset % 64 + p.size)) ⊎ ((nat_lt (b % 64) (p.offset % 64 + p.size) ≡ false) × (p.offset % 64 + p.size ≤ b % 64)) → ((nat_lt b (p.offset + p.size) ≡ true) × (b < p.offset + p.size)) ⊎ ((nat_lt b (p.offset + p.size) ≡ false) × (p.offset + p.size ≤ b)) → (nat_le (p.offset % 64) (b % 64) && nat_lt (b % 64) (p.offset % 64 + p.size)) ≡ part_covers p b
    go (inl w) (inl x) (inl y) (inl z) = rw (w.0, x.0, y.0, z.0) refl
    go (inl w) (inl x) (inr y) (inr z) = rw (w.0, x.0, y.0, z.0) refl
    go (inr w) (inr x) y z = rw (w.0, x.0) refl
    go (inl w) (inr x) y z = absurd (omega arith)
    go (inr w) (inl x) y z = absurd (omega arith)
    go (inl w) (inl x) (inl y) (inr z) = absurd (omega arith)
    go (inl w) (inl x) (inr y) (inl z) = absurd (omega arith)
