-- The table is compared with the definition for each of the 256 bytes, by computation.
use Rattle.std.proofs.Common.{◌≡◌, ℕ, ◌*◌, ◌/◌, ◌<◌, true, false, nat_eq, List, slice_index_or, refl}
use Rattle.std.specs.Fmt.{digit_glyph}
use Rattle.std.proofs.lemmas.Bool.{eqb-true}
use Rattle.hip_trace.specs.declared.write.TheConstants.{HEX_PAIRS}
use Rattle.hip_trace.proofs.Tables.{holds_below, holds_at}
use Rattle.hip_trace.proofs.write.high_digit.Goals as goal

from_table : (table : List ℕ) (v : ℕ) → v < 256 → holds_below (λ k. nat_eq (slice_index_or table (2 * k) 0) (digit_glyph false (k / 16))) 256 ≡ true → slice_index_or table (2 * v) 0 ≡ digit_glyph false (v / 16)
from_table table v lt h = eqb-true _ _ (holds_at (λ k. nat_eq (slice_index_or table (2 * k) 0) (digit_glyph false (k / 16))) 256 h v lt)

pub returns : goal.returns
unfolding holds_below
returns c = from_table HEX_PAIRS c.args.value c.requires refl
