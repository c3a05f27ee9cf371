-- The table is compared with the definition for each of the 256 bytes, by computation.
use Rattle.std.proofs.Common.{◌≡◌, ℕ, ◌<◌, Bool, true, false, ◌||◌, not, nat_eq, nat_lt, List, slice_index_or, refl, ◌∙◌, arith}
use Rattle.std.specs.Char.{digit_value}
use Rattle.std.proofs.lemmas.Bool.{eqb-true, lt-ltb}
use Rattle.hip_trace.specs.declared.line.TheConstants.{DIGITS}
use Rattle.hip_trace.proofs.Tables.{holds_below, holds_at}
use Rattle.hip_trace.proofs.line.digit_of.Goals as goal

-- Whether the table has for a byte its value as a digit, or a number that is not a digit.
is_right : List ℕ → ℕ → Bool
is_right table k = not (nat_lt (slice_index_or table k 0) 16) || nat_eq (slice_index_or table k 0) (digit_value k)

second_of : (a b : Bool) → (not a || b) ≡ true → a ≡ true → b ≡ true
second_of true b h e = h
second_of false b h e = cc

from_table : (table : List ℕ) (b : ℕ) → b < 256 → holds_below (is_right table) 256 ≡ true → slice_index_or table b 0 < 16 → slice_index_or table b 0 ≡ digit_value b
unfolding is_right
from_table table b lt h small =
    let right = holds_at (is_right table) 256 h b lt in
    let same = second_of (nat_lt (slice_index_or table b 0) 16) (nat_eq (slice_index_or table b 0) (digit_value b)) right (lt-ltb _ _ small) in
    eqb-true _ _ same

pub returns-then-digit-lt16-clause-value : goal.returns-then-digit-lt16-clause-value
unfolding holds_below is_right
returns-then-digit-lt16-clause-value c = c.from.ensures ∙ from_table DIGITS c.args.byte (omega arith) refl c.if-digit-lt16.true
