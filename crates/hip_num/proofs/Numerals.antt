-- The number that digits write, digit by digit.
use Rattle.std.proofs.Common.{ℕ, zero, suc, ◌+◌, ◌-◌, ◌*◌, ◌/◌, ◌^◌, ◌<◌, ◌≤◌, ◌≡◌, List, [], ◌∷◌, ◌++◌, length, get_or, take, drop, refl, sym, subst, arith}
use Rattle.std.specs.Char.{digit_value}
use Rattle.std.specs.Str.Parse.{AllDigits, digits_value, digits_value_after}
use Rattle.std.proofs.Math.Nat.{le-mul_of_pos_right, div-lt_iff_lt-mul}
use Rattle.std.proofs.lemmas.List.{take-append-drop}

after_append : (base n : ℕ) (xs ys : List ℕ) → digits_value_after base n (xs ++ ys) ≡ digits_value_after base (digits_value_after base n xs) ys
after_append base n [] ys = refl
after_append base n (x ∷ xs) ys = after_append base (n * base + digit_value x) xs ys

after_ge : (base n : ℕ) (ds : List ℕ) → 0 < base → n ≤ digits_value_after base n ds
after_ge base n [] h = omega arith
after_ge base n (d ∷ ds) h = omega (arith, le-mul_of_pos_right n h, after_ge base (n * base + digit_value d) ds h)

-- The number of the first digits is at most the number of all digits.
pub digits_value-take-le : (base i : ℕ) (ds : List ℕ) → 0 < base → digits_value base (take i ds) ≤ digits_value base ds
digits_value-take-le base i ds h =
    subst (λ (xs : List ℕ). digits_value base (take i ds) ≤ digits_value base xs) (take-append-drop i ds)
    (subst (λ (n : ℕ). digits_value base (take i ds) ≤ n) (sym (after_append base 0 (take i ds) (drop i ds)))
    (after_ge base (digits_value base (take i ds)) (drop i ds) h))

pub digit_at : (base : ℕ) (ds : List ℕ) (i : ℕ) → AllDigits base ds → i < length ds → digit_value (get_or ds i 0) < base
digit_at base [] i h k = absurd (omega arith)
digit_at base (d ∷ ds) zero h k = h.0
digit_at base (d ∷ ds) (suc i) h k = digit_at base ds i h.1 (omega arith)

-- If a number is too great to be multiplied by the base, one more digit makes it 2 ^ 64 or more.
pub past : (value base d : ℕ) → 0 < base → (2 ^ 64 - 1) / base < value → 2 ^ 64 ≤ value * base + d
past value base d h k =
    let product : 2 ^ 64 - 1 < value * base = (div-lt_iff_lt-mul h).0 k in
    omega arith
