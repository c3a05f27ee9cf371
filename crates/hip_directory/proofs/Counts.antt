-- How many entries are not 0.
use Rattle.std.proofs.Common.{◌≡◌, ℕ, zero, suc, ◌+◌, ◌*◌, ◌/◌, ◌%◌, ◌<◌, ◌≤◌, List, [], ◌∷◌, length, get_or, slice_index, slice_set, refl, sym, ap, ◌∙◌, arith}
use Rattle.hip_directory.specs.declared.directory.Directory.{Directory}
use Rattle.hip_directory.specs.Directories.{number_at, NoneSet}
use Rattle.hip_directory.specs.Tables.{number_in, set_once, count_set}

-- The number that was read.
pub index-read : (xs : List ℕ) (i x : ℕ) → i < length xs → x ≡ get_or xs i x → x ≡ slice_index xs i
index-read [] i x h e = absurd (omega (arith, h))
index-read (y ∷ xs) zero x h e = e
index-read (y ∷ xs) (suc i) x h e = index-read xs i x (omega (arith, h)) e

set_once-most : (n : ℕ) → set_once n ≤ 1
set_once-most zero = omega arith
set_once-most (suc n) = omega arith

pub count-most : (xs : List ℕ) → count_set xs ≤ length xs
count-most [] = omega arith
count-most (x ∷ xs) = omega (arith, set_once-most x, count-most xs)

pub count-set : (xs : List ℕ) (i v : ℕ) → i < length xs → count_set (slice_set xs i v) + set_once (slice_index xs i) ≡ count_set xs + set_once v
count-set [] i v h = absurd (omega (arith, h))
count-set (x ∷ xs) zero v h = omega arith
count-set (x ∷ xs) (suc i) v h = omega (arith, count-set xs i v (omega (arith, h)))

pub count-there : (xs : List ℕ) (i : ℕ) → 0 < slice_index xs i → 0 < count_set xs
count-there [] i h = absurd (omega (arith, h))
count-there (zero ∷ xs) zero h = absurd (omega (arith, h))
count-there (suc x ∷ xs) zero h = omega arith
count-there (x ∷ xs) (suc i) h = omega (arith, count-there xs i h)

pub count-same : (xs ys : List ℕ) → ((i : ℕ) → slice_index ys i ≡ slice_index xs i) → count_set ys ≡ count_set xs
count-same [] [] h = refl
count-same [] (y ∷ ys) h = omega (arith, ap set_once (h 0), count-same [] ys (λ i. h (suc i)))
count-same (x ∷ xs) [] h = omega (arith, ap set_once (h 0), count-same xs [] (λ i. h (suc i)))
count-same (x ∷ xs) (y ∷ ys) h = omega (arith, ap set_once (h 0), count-same xs ys (λ i. h (suc i)))

pub count-zeros : (ys : List ℕ) → ((i : ℕ) → slice_index ys i ≡ 0) → 0 ≡ count_set ys
count-zeros ys h = sym (count-same [] ys h)

none-there : (n : ℕ) → (0 < n → ⊥) → n ≡ 0
none-there zero h = refl
none-there (suc n) h = absurd (h (omega arith))

-- If all entries are 0, each key has the number 0.
pub none-set : (d : Directory) (from to : ℕ) → count_set d.entries.items ≡ 0 → NoneSet d from to
unfolding number_at number_in
none-set d from to e j low high = none-there (slice_index d.entries.items (64 * slice_index d.groups.items (j / 64) + j % 64)) (λ p. let c = count-there d.entries.items (64 * slice_index d.groups.items (j / 64) + j % 64) p in omega (arith, c, e))
