-- The values of the numbers in a text, which depend on their places.
use Rattle.std.specs.Prelude.{ℕ, ◌+◌, ◌-◌, ◌*◌, ◌^◌, ◌%◌, Bool, false, not, ◌&&◌, List, [], ◌∷◌, Option, Some, None, ◌==◌, nat_lt, nat_le, if◌then◌else◌, codes}
use Rattle.std.specs.Str.{bytes_eq}
use Rattle.hip_tokens.specs.Bytes.{byte}
use Rattle.hip_types.specs.Widths.{bits_of}
use Rattle.hip_types.specs.declared.number.Bits.{Bits}
use Rattle.hip_types.specs.declared.number.Width.{Width}
use Rattle.hip_types.specs.declared.number.Width.TheVariants.{W1, W8, W16, W32, W64}
use Rattle.hip_tokens.specs.Tokens.{Tok, Word, Num}
use Rattle.hip_grammar.specs.Rule.{Verdict, Yes, Because, No}
use Rattle.hip_tree.specs.declared.constant.Const.{Const}
use Rattle.hip_tree.specs.declared.constant.Const.TheVariants as consts
use Rattle.hip_grammar.specs.declared.fault.TextFault.{TextFault}
use Rattle.hip_grammar.specs.declared.fault.TextFault.TheVariants.{Range}
use Rattle.hip_types.specs.Numbers.{bits}
use Rattle.hip_types.specs.declared.limits.TheConstants.{LARGEST_ALIGNMENT, LARGEST_COUNT}
use Rattle.hip_grammar.specs.Words.{or_no, is_word}

-- The value of decimal digits that follow other digits, whose value is n.
abbrev pub digits_from : ℕ → List ℕ → ℕ
digits_from n [] = n
digits_from n (d ∷ ds) = digits_from (10 * n + (d - byte "0")) ds

-- Whether a number's text begins with `-`, as `-0` does too.
abbrev pub is_negative : List ℕ → Bool
is_negative [] = false
is_negative (d ∷ ds) = d == byte "-"

-- The value of a number's digits, without its sign.
abbrev pub magnitude : List ℕ → ℕ
magnitude [] = 0
magnitude (d ∷ ds) = if d == byte "-" then digits_from 0 ds else digits_from 0 (d ∷ ds)

-- The number, or a refusal as out of range if there is none.
abbrev pub or_range : {A : Type 0} → Option A → Verdict TextFault A
or_range (Some n) = Yes n
or_range None = Because Range

-- The number n if it is below the limit, else none.
abbrev pub below : ℕ → ℕ → Option ℕ
below limit n = if nat_lt n limit then Some n else None

-- -n modulo 2^w, for n up to 2^(w-1).
abbrev pub negated : Width → ℕ → Option ℕ
negated w n = if n == 0 then Some 0 else (if nat_le n (2 ^ (bits_of w - 1)) then Some (2 ^ bits_of w - n) else None)

-- A number from -2^(w-1) to 2^w - 1, modulo 2^w.
abbrev pub value_of : Width → List ℕ → Option ℕ
value_of w t = if is_negative t then negated w (magnitude t) else below (2 ^ bits_of w) (magnitude t)

-- The number as an integer of the width, or a refusal as out of range if there is none.
abbrev pub bits_in_range : Width → Option ℕ → Verdict TextFault Bits
bits_in_range w (Some n) = Yes (bits w n)
bits_in_range w None = Because Range

-- `true` and `false`, which are of one bit.
abbrev pub truth_word : Width → List ℕ → Option Bits
truth_word W1 t =
    if bytes_eq t (codes "true") then Some (bits W1 1)
    else (if bytes_eq t (codes "false") then Some (bits W1 0)
    else None)
truth_word W8 t = None
truth_word W16 t = None
truth_word W32 t = None
truth_word W64 t = None

-- A literal under an integer type.
abbrev pub a_literal : Width → Tok → Verdict TextFault Bits
a_literal w (Num t) = bits_in_range w (value_of w t)
a_literal w (Word t) = or_no (truth_word w t)
a_literal w _ = No

-- The literal as a constant; a refusal stays what it is.
abbrev pub as_const : Verdict TextFault Bits → Verdict TextFault Const
as_const (Yes b) = Yes (consts.Int b)
as_const (Because why) = Because why
as_const No = No

-- A constant under an integer type: a literal or `zeroinitializer`.
abbrev pub an_int_const : Width → Tok → Verdict TextFault Const
an_int_const w t = if is_word (codes "zeroinitializer") t then Yes consts.Zero else as_const (a_literal w t)

-- The count of an array, from 0 on.
abbrev pub count_of : List ℕ → Option ℕ
count_of t = if is_negative t && not (magnitude t == 0) then None else below (LARGEST_COUNT + 1) (magnitude t)

-- A NUM that is the count of an array, out of range if it is below 0 or above `LARGEST_COUNT`.
abbrev pub a_count : Tok → Verdict TextFault ℕ
a_count (Num t) = or_range (count_of t)
a_count _ = No

-- Whether n divides the largest alignment, so that it is a power of two up to it.
abbrev pub is_alignment : ℕ → Bool
is_alignment n = not (n == 0) && (LARGEST_ALIGNMENT % n == 0)

-- The alignment in bytes that a number gives; none after a `-`, or if the number is no alignment.
abbrev pub alignment_of : List ℕ → Option ℕ
alignment_of t = if not (is_negative t) && is_alignment (magnitude t) then Some (magnitude t) else None

-- A NUM that is an alignment in bytes, out of range if it is none.
abbrev pub an_alignment : Tok → Verdict TextFault ℕ
an_alignment (Num t) = or_range (alignment_of t)
an_alignment _ = No
