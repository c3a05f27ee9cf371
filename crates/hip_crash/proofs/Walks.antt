-- Walks over the kept lines of a range, and over a list of lines.
use Rattle.std.proofs.Common.{◌≡◌, ◌≢◌, ◌⊎◌, ℕ, zero, suc, ◌+◌, ◌/◌, ◌<◌, ◌≤◌, Bool, true, false, cond, ◌&&◌, nat_eq, nat_lt, List, length, take, Option, Some, None, option_map, refl, sym, ap, ◌∙◌, subst, arith}
use Rattle.std.specs.List.{list_any}
use Rattle.std.proofs.lemmas.Bool.Decides.{nat_tests}
use Rattle.std.proofs.lemmas.List.{take_all}
use Rattle.hip_lines.specs.Line.{has_bytes}
use Rattle.hip_lines.specs.Laws.LineLaws.{has_bytes-other}
use Rattle.hip_crash.specs.Kept.{Kept, with_fence}
use Rattle.hip_crash.specs.KeptLines.{kept_at, flushed_in, AreListed}
use Rattle.hip_crash.specs.declared.kept_lines.KeptLines.{KeptLines}

none_before : (f : Kept → Kept) (o : Option Kept) → option_map f o ≡ None → o ≡ None
none_before f None e = refl
none_before f (Some k) e = absurd (let z : ⊥ = cc in z)

unchanged : (f : Kept → Kept) (b : Bool) (o : Option Kept) → b ≡ false → option_map (λ k. cond b (f k) k) o ≡ o
unchanged f b None e = refl
unchanged f b (Some k) e = ap (λ t. Some (cond t (f k) k)) e

changed : (f : Kept → Kept) (b : Bool) (o : Option Kept) → b ≡ true → option_map (λ k. cond b (f k) k) o ≡ option_map f o
changed f b None e = refl
changed f b (Some k) e = ap (λ t. Some (cond t (f k) k)) e

-- The lines of a range, as far as a walk has come, are changed.
pub record IsWalked (f : ℕ → Kept → Kept) (o n next : ℕ) (old new : KeptLines) : Type 0 where
  pub is : (j : ℕ) → kept_at new j ≡ option_map (λ k. cond (has_bytes j o n && nat_lt j next) (f j k) k) (kept_at old j)

early : (o n next j : ℕ) → next ≤ o / 64 → has_bytes j o n && nat_lt j next ≡ false
early o n next j h = go (has_bytes j o n) refl
  where
    late : o / 64 ≤ j → nat_lt j next ≡ false
    late k = grind (arith, nat_tests)

    go : (b : Bool) → has_bytes j o n ≡ b → b && nat_lt j next ≡ false
    go true e = late (has_bytes-other o n j e).0
    go false e = refl

place_of : (j next line : ℕ) → j ≢ line → (j < next) ⊎ ((next ≤ j) × (j < line)) ⊎ (line < j)
place_of j next line ne = grind arith

-- ---- two changes of one line

-- ---- fences of the listed lines

-- A line without flushed stores stays as it is.
pub fence_nothing : (j : ℕ) (k : Kept) → k.flushed ≡ 0 → with_fence j k ≡ k
fence_nothing j k e = nothing k.bytes k.least k.later k.flushed e
  where
    nothing : (bytes : List ℕ) (least : ℕ) (later : List _) (flushed : ℕ) → flushed ≡ 0
        → with_fence j (record { bytes = bytes; least = least; later = later; flushed = flushed }) ≡ record { bytes = bytes; least = least; later = later; flushed = flushed }
    nothing bytes least later zero e = ap (λ n. record { bytes = bytes; least = n; later = later; flushed = 0 }) (let z : least + 0 ≡ least = omega arith in z)
    nothing bytes least later (suc n) e = absurd (omega (arith, e))

-- The lines of a list are fenced as far as a walk has come.
pub record AreFenced (lines : List ℕ) (old new : KeptLines) : Type 0 where
  pub are : (j : ℕ) → kept_at new j ≡ option_map (λ k. cond (list_any (nat_eq j) lines) (with_fence j k) k) (kept_at old j)

pub fence-end : (lines : List ℕ) (old m : KeptLines) → AreListed lines old → AreFenced lines old m → (j : ℕ) → kept_at m j ≡ option_map (with_fence j) (kept_at old j)
fence-end lines old m listed a j = a.are j ∙ all (list_any (nat_eq j) lines) (kept_at old j) (listed j)
  where
    all : (b : Bool) (x : Option Kept) → (0 < flushed_in x → b ≡ true) → option_map (λ k. cond b (with_fence j k) k) x ≡ option_map (with_fence j) x
    all b None h = refl
    all true (Some k) h = refl
    all false (Some k) h = ap (λ y. Some y) (sym (fence_nothing j k (none k.flushed h)))
      where
        none : (n : ℕ) → (0 < n → false ≡ true) → n ≡ 0
        none zero h = refl
        none (suc n) h = absurd (let e = h (omega arith) in let z : ⊥ = cc in z)

pub fence-all : (lines : List ℕ) (i : ℕ) (old m : KeptLines) → length lines ≤ i → AreListed lines old → AreFenced (take i lines) old m → (j : ℕ) → kept_at m j ≡ option_map (with_fence j) (kept_at old j)
fence-all lines i old m h listed a = fence-end lines old m listed (subst (λ xs. AreFenced xs old m) (take_all i lines h) a)
