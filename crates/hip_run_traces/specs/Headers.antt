-- The header of a trace: the longest front of its pieces that is a valid START, a valid REGISTER, valid INPUT entries
-- and then valid IMAGE entries. It gives the input of a run. (This project's own.)
use Rattle.std.specs.Prelude.{ℕ, suc, ◌+◌, ◌-◌, ◌&&◌, ◌==◌, nat_le, nat_lt, Bool, true, false, ℤ, List, [], ◌∷◌, ◌++◌, length, Option, Some, None, if◌then◌else◌}
use Rattle.hip_globals.specs.Addresses.{is_base, region_size}
use Rattle.hip_tree.specs.declared.program.Program.{Program}
use Rattle.hip_types.specs.declared.areas.TheConstants.{LINE_SIZE}
use Rattle.hip_types.specs.Bytes.{zeros}
use Rattle.hip_runs.specs.Step.{some_byte}
use Rattle.hip_runs.specs.declared.input.Input.{Input}
use Rattle.hip_runs.specs.declared.limits.TheConstants.{MOST_NUMBERS, MOST_TURNS}
use Rattle.hip_trace.specs.declared.entry.Entry.{Entry}
use Rattle.hip_trace.specs.declared.entry.Entry.TheVariants.{Start, Register, Input as Number, Image}

-- How many entries of a trace are its header, and the input that they give, if they give one.
pub data Header : Type 0 where
  -- Only the first n entries are valid, and n is less than two.
  Stops : (entries : ℕ) → Header
  -- The first n entries are valid, and give an input.
  Gives : (entries : ℕ) → Input → Header

-- ---- which entries are valid, and what they give

-- The limit of turns that a piece gives, if it is a START entry with a limit of at most 2^40.
abbrev pub valid_limit : Option Entry → Option ℕ
valid_limit (Some (Start limit)) = if nat_le limit MOST_TURNS then Some limit else None
valid_limit _ = None

-- The base of the region that a piece gives, if it is a REGISTER entry with a valid base and the size of the program's
-- region.
abbrev pub valid_base : Program → Option Entry → Option ℕ
valid_base P (Some (Register base size)) = if is_base base && (size == region_size P) then Some base else None
valid_base P _ = None

-- Whether there are no bytes.
abbrev pub is_empty : List ℕ → Bool
is_empty [] = true
is_empty (b ∷ bs) = false

-- The input so far with the number of an INPUT entry. The entry has to come before each IMAGE, and there are at most
-- 1,048,576 numbers.
abbrev pub with_number : Input → ℤ → Option Input
with_number I number =
    if is_empty I.image && nat_lt (length I.numbers) MOST_NUMBERS
    then Some (record I { numbers = I.numbers ++ number ∷ [] }) else None

-- Whether an IMAGE entry is for a cache line of the region that comes after the earlier lines, and has a byte other
-- than 0.
abbrev pub is_next_line : Program → Input → ℕ → List ℕ → Bool
is_next_line P I addr bytes =
    nat_le (I.base + length I.image) addr && (nat_le (addr + LINE_SIZE) (I.base + region_size P) && some_byte bytes)

-- The input so far with the bytes of an IMAGE entry. The bytes between the last line and this one are 0.
abbrev pub with_line : Program → Input → ℕ → List ℕ → Option Input
with_line P I addr bytes =
    if is_next_line P I addr bytes
    then Some (record I { image = I.image ++ (zeros (addr - (I.base + length I.image)) ++ bytes) }) else None

-- The input so far with what the next piece gives; none if the piece is not an INPUT or IMAGE that is valid there.
abbrev pub with_entry : Program → Input → Option Entry → Option Input
with_entry P I (Some (Number number)) = with_number I number
with_entry P I (Some (Image addr bytes)) = with_line P I addr bytes
with_entry P I _ = None

-- The input with its initial bytes filled up with 0 to the end of the region.
abbrev pub filled : Program → Input → Input
filled P I = record I { image = I.image ++ zeros (region_size P - length I.image) }

-- ---- the header

-- The header ends after n entries if the next piece gives no input. Otherwise it continues with the input that the
-- piece gives.
abbrev pub go_on : Program → Input → ℕ → (Input → Header) → Option Input → Header
go_on P I count rest None = Gives count (filled P I)
go_on P I count rest (Some more) = rest more

-- The header, if n entries gave the input so far and these pieces follow.
abbrev pub header_from : Program → Input → ℕ → List (Option Entry) → Header
header_from P I count [] = Gives count (filled P I)
header_from P I count (e ∷ es) = go_on P I count (λ more. header_from P more (suc count) es) (with_entry P I e)

-- The header, if the second piece gave this base and these pieces follow. It has one entry if the piece gave no base.
abbrev pub past_register : Program → ℕ → List (Option Entry) → Option ℕ → Header
past_register P limit es None = Stops 1
past_register P limit es (Some base) =
    header_from P (record { base = base; image = []; numbers = []; limit = limit }) 2 es

-- The header, if the first piece gave this limit and these pieces follow. It has no entry if the piece gave no limit,
-- and one entry if no piece follows.
abbrev pub past_start : Program → List (Option Entry) → Option ℕ → Header
past_start P es None = Stops 0
past_start P [] (Some limit) = Stops 1
past_start P (e ∷ es) (Some limit) = past_register P limit es (valid_base P e)

-- The header of a trace, from what its pieces spell.
unfoldable pub header : Program → List (Option Entry) → Header
header P [] = Stops 0
header P (e ∷ es) = past_start P es (valid_limit e)
