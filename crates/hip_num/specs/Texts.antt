-- The texts of numbers, written and read. A written text has the least number of digits, in lower case. Digits with
-- leading zeros are read too, and hexadecimal digits of either case.
use Rattle.std.specs.Prelude.{ℕ, ◌^◌, Bool, true, false, ◌&&◌, List, [], ◌∷◌, ◌++◌, drop, codes, ℤ, pos, negsuc, neg_ℤ, Option, Some, None, if◌then◌else◌, nat_eq, nat_lt}
use Rattle.std.specs.Fmt.{digits}
use Rattle.std.specs.Char.{digit_value}
use Rattle.std.specs.List.{list_all, starts_with}
use Rattle.std.specs.Str.Parse.{digits_value}

-- ---- written

-- `0x` and the digits to base 16.
abbrev pub hexadecimal : ℕ → List ℕ
hexadecimal n = codes "0x" ++ digits 16 false n

-- ---- read

-- Whether there is a byte.
abbrev pub is_nonempty : List ℕ → Bool
is_nonempty [] = false
is_nonempty (b ∷ bs) = true

-- Whether the text is one or more digits to a base.
abbrev pub are_digits : ℕ → List ℕ → Bool
are_digits base text = is_nonempty text && list_all (λ c. nat_lt (digit_value c) base) text

-- Whether these are one or more digits to a base, of a number below 2 ^ 64.
abbrev pub is_number : ℕ → List ℕ → Bool
is_number base text = are_digits base text && nat_lt (digits_value base text) (2 ^ 64)

-- The number below 2 ^ 64 that one or more digits to a base write; none for any other text.
abbrev pub number_of : ℕ → List ℕ → Option ℕ
number_of base text = if is_number base text then Some (digits_value base text) else None

-- The number below 2 ^ 64 that one or more decimal digits write; none for any other text.
abbrev pub decimal_of : List ℕ → Option ℕ
decimal_of text = number_of 10 text

-- The number below 2 ^ 64 that `0x` and one or more digits to base 16 write; none for any other text.
abbrev pub hex_of : List ℕ → Option ℕ
hex_of text = if starts_with nat_eq text (codes "0x") then number_of 16 (drop 2 text) else None

-- Whether the first byte is `-`.
abbrev pub has_minus : List ℕ → Bool
has_minus text = starts_with nat_eq text (codes "-")

-- The text after a `-` at its start, or the whole text if it does not begin with `-`.
abbrev pub signed_digits : List ℕ → List ℕ
signed_digits text = if has_minus text then drop 1 text else text

-- The number that decimal digits write, negated if a `-` comes before them.
abbrev pub signed_value : List ℕ → ℤ
signed_value text =
    if has_minus text then neg_ℤ (pos (digits_value 10 (signed_digits text)))
    else pos (digits_value 10 (signed_digits text))

-- Whether the number is from -limit to limit - 1.
abbrev pub in_range : ℕ → ℤ → Bool
in_range limit (pos n) = nat_lt n limit
in_range limit (negsuc n) = nat_lt n limit

-- Whether these are one or more decimal digits, with or without a `-` before them, of a number from -limit to limit -
-- 1.
abbrev pub is_signed : ℕ → List ℕ → Bool
is_signed limit text = are_digits 10 (signed_digits text) && in_range limit (signed_value text)

-- The number from -limit to limit - 1 that one or more decimal digits write, with or without a `-` before them; none
-- for any other text.
abbrev pub signed_of : ℕ → List ℕ → Option ℤ
signed_of limit text = if is_signed limit text then Some (signed_value text) else None
