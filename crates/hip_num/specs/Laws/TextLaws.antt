-- What the tests of numbers in a text decide; what is written is read back.
use Rattle.std.specs.Prelude.{ℕ, ◌^◌, ◌<◌, ◌≡◌, true, false, List, [], ◌∷◌, ℤ, pos, negsuc, neg_ℤ, decimal, drop, nat_lt, FitsSigned, refl, suc}
use Rattle.std.specs.Char.{digit_value}
use Rattle.std.specs.Cmp.Derive.{both_true}
use Rattle.std.specs.List.{list_all}
use Rattle.std.specs.Fmt.{digits, signed_decimal}
use Rattle.std.specs.Int.{w64}
use Rattle.std.specs.Str.Parse.{AllDigits, IsNumeral, digits_value}
use Rattle.std.proofs.Common.{arith, rules, eqb, sym, ap, subst, ◌∙◌}
use Rattle.std.proofs.lemmas.Fmt.{digits_is_IsNumeral, decimal_is_IsNumeral}
use Rattle.std.proofs.lemmas.Str.Parse.{digit_from_value}
use Rattle.std.proofs.lemmas.Bool.{ltb-true, lt-ltb, and_parts}
use Rattle.std.proofs.lemmas.Bool.Decides.{nat_tests}
use Rattle.std.specs.Int.{IsInRange}
use Rattle.hip_num.specs.Texts.{hexadecimal, is_nonempty, are_digits, is_number, in_range, signed_value, signed_digits, has_minus}

-- ---- what the tests decide

-- The text is one or more digits to a base, of a number below 2 ^ 64. `is_number` decides this.
abbrev pub IsNumber : ℕ → List ℕ → Type 0
IsNumber base text = IsNumeral base text × (digits_value base text < 2 ^ 64)

-- The text is one or more decimal digits, with or without a `-` before them, of a number from -2 ^ 63 to 2 ^ 63 - 1.
abbrev pub IsSignedNumber : List ℕ → Type 0
IsSignedNumber text = IsNumeral 10 (signed_digits text) × FitsSigned w64 (signed_value text)

all_digits-sound : (base : ℕ) (text : List ℕ) → list_all (λ c. nat_lt (digit_value c) base) text ≡ true
    → AllDigits base text
all_digits-sound base [] e = tt
all_digits-sound base (c ∷ cs) e =
    let both = and_parts (nat_lt (digit_value c) base) (list_all (λ b. nat_lt (digit_value b) base) cs) e in
    (ltb-true _ _ both.0, all_digits-sound base cs both.1)

all_digits-whole : (base : ℕ) (text : List ℕ) → AllDigits base text
    → list_all (λ c. nat_lt (digit_value c) base) text ≡ true
all_digits-whole base [] h = refl
all_digits-whole base (c ∷ cs) h = both_true (lt-ltb _ _ h.0) (all_digits-whole base cs h.1)

pub digits-sound : (base : ℕ) (text : List ℕ) → are_digits base text ≡ true → IsNumeral base text
digits-sound base [] e = cc
digits-sound base (c ∷ cs) e =
    let both = and_parts (is_nonempty (c ∷ cs)) (list_all (λ b. nat_lt (digit_value b) base) (c ∷ cs)) e in
    (omega arith, all_digits-sound base (c ∷ cs) both.1)

pub digits-whole : (base : ℕ) (text : List ℕ) → IsNumeral base text → are_digits base text ≡ true
digits-whole base [] h = absurd (let z : ⊥ = omega (arith, h.0) in z)
digits-whole base (c ∷ cs) h = all_digits-whole base (c ∷ cs) h.1

pub number-sound : (base : ℕ) (text : List ℕ) → is_number base text ≡ true → IsNumber base text
number-sound base text e =
    let both = and_parts (are_digits base text) (nat_lt (digits_value base text) (2 ^ 64)) e in
    (digits-sound base text both.0, ltb-true _ _ both.1)

pub number-whole : (base : ℕ) (text : List ℕ) → IsNumber base text → is_number base text ≡ true
number-whole base text h = both_true (digits-whole base text h.0) (lt-ltb _ _ h.1)

-- A number that passes the test of the range for 2 ^ 63 fits 64 bits with a sign.
pub range-sound : (z : ℤ) → in_range (2 ^ 63) z ≡ true → FitsSigned w64 z
range-sound (pos n) e = let h = ltb-true _ _ e in search (rules, h)
range-sound (negsuc n) e = let h = ltb-true _ _ e in search (rules, h)

pub range-whole : (z : ℤ) → FitsSigned w64 z → in_range (2 ^ 63) z ≡ true
range-whole (pos n) h = lt-ltb _ _ (omega arith)
range-whole (negsuc n) h = lt-ltb _ _ (omega arith)

-- ---- what is written is read back

-- The decimal text of a number reads as the number.
pub decimal-value : (n : ℕ) → n < 2 ^ 64 → digits_value 10 (decimal n) ≡ n
decimal-value n h = (decimal_is_IsNumeral n h).1

pub decimal-number : (n : ℕ) → n < 2 ^ 64 → IsNumber 10 (decimal n)
decimal-number n h = ((decimal_is_IsNumeral n h).0, omega (arith, decimal-value n h))

-- The hexadecimal digits of a number read as the number.
hexadecimal_is : (n : ℕ) → n < 2 ^ 64 → IsNumeral 16 (digits 16 false n)
    × (digits_value 16 (digits 16 false n) ≡ n)
hexadecimal_is n h = digits_is_IsNumeral 16 false (omega arith) (omega arith) n (omega arith)

pub hexadecimal-value : (n : ℕ) → n < 2 ^ 64 → digits_value 16 (drop 2 (hexadecimal n)) ≡ n
hexadecimal-value n h = (hexadecimal_is n h).1

pub hexadecimal-number : (n : ℕ) → n < 2 ^ 64 → IsNumber 16 (drop 2 (hexadecimal n))
hexadecimal-number n h = ((hexadecimal_is n h).0, omega (arith, hexadecimal-value n h))

-- Digits do not begin with a `-`.
pub has_minus-numeral : (ds : List ℕ) → IsNumeral 10 ds → has_minus ds ≡ false
has_minus-numeral [] h = absurd (omega (arith, h.0))
has_minus-numeral (d ∷ ds) h =
    let range : IsInRange 48 57 d = digit_from_value d h.1.0 in
    let other : eqb 45 d ≡ false = grind (arith, nat_tests) in
    rw other refl

pub signed_value-numeral : (ds : List ℕ) → IsNumeral 10 ds → signed_value ds ≡ pos (digits_value 10 ds)
signed_value-numeral ds h = rw (has_minus-numeral ds h) refl

pub signed_digits-numeral : (ds : List ℕ) → IsNumeral 10 ds → signed_digits ds ≡ ds
signed_digits-numeral ds h = rw (has_minus-numeral ds h) refl

-- The decimal text of a number with a sign reads as the number.
pub signed_decimal-value : (z : ℤ) → FitsSigned w64 z → signed_value (signed_decimal z) ≡ z
signed_decimal-value (pos n) h =
    let small : n < 2 ^ 64 = omega arith in
    signed_value-numeral (decimal n) (decimal-number n small).0 ∙ ap pos (decimal-value n small)
signed_decimal-value (negsuc n) h =
    let small : suc n < 2 ^ 64 = omega arith in
    ap (λ (m : ℕ). neg_ℤ (pos m)) (decimal-value (suc n) small)

pub signed_decimal-number : (z : ℤ) → FitsSigned w64 z → IsSignedNumber (signed_decimal z)
signed_decimal-number (pos n) h =
    let numeral : IsNumeral 10 (decimal n) = (decimal-number n (omega arith)).0 in (
      subst (λ (ds : List ℕ). IsNumeral 10 ds) (sym (signed_digits-numeral (decimal n) numeral)) numeral,
      subst (λ (z : ℤ). FitsSigned w64 z) (sym (signed_decimal-value (pos n) h)) h,
    )
signed_decimal-number (negsuc n) h = (
  (decimal-number (suc n) (omega arith)).0,
  subst (λ (z : ℤ). FitsSigned w64 z) (sym (signed_decimal-value (negsuc n) h)) h,
)
