-- Which entries a text can spell.
use Rattle.std.specs.Prelude.{ℕ, ◌+◌, ◌*◌, ◌%◌, ◌^◌, ◌≡◌, ◌<◌, ◌≤◌, true, List, length, All, Some, FitsSigned}
use Rattle.std.specs.Int.{w32, w64}
use Rattle.hip_trace.specs.Entries.{is_store_size, entry_of}
use Rattle.hip_trace.specs.Texts.{text_of}
use Rattle.hip_trace.specs.declared.entry.Entry.{Entry}
use Rattle.hip_trace.specs.declared.entry.Entry.TheVariants.{Start, Register, Input, Image, Store, Flush, Fence, Persist, Assert, Stop, Trap, Cut}

-- The canonical text of an entry spells it.
pub record IsSpelled (e : Entry) : Type 0 where
  pub by_its_text : entry_of (text_of e) ≡ Some e

-- One or more whole cache lines, which end at most at 2^64.
pub record AreLines (addr size : ℕ) : Type 0 where
  pub aligned : addr % 64 ≡ 0
  pub whole : size % 64 ≡ 0
  pub some : 0 < size
  pub fits : size < 2 ^ 64
  pub within : addr + size ≤ 2 ^ 64

-- The 64 bytes of a cache line.
pub record IsLine (addr : ℕ) (content : List ℕ) : Type 0 where
  pub fits : addr < 2 ^ 64
  pub aligned : addr % 64 ≡ 0
  pub whole : length content ≡ 64
  pub bytes : All (λ b. b < 256) content

-- A value of 1, 2, 4 or 8 bytes.
pub record IsStored (addr value size : ℕ) : Type 0 where
  pub fits : addr < 2 ^ 64
  pub sized : is_store_size size ≡ true
  pub within : value < 2 ^ (8 * size)

-- The values of an entry fit the fields of its text.
abbrev pub ValuesFit : Entry → Type 0
ValuesFit (Start limit) = limit < 2 ^ 64
ValuesFit (Register base size) = (base < 2 ^ 64) × (size < 2 ^ 64)
ValuesFit (Input number) = FitsSigned w64 number
ValuesFit (Image addr bytes) = IsLine addr bytes
ValuesFit (Store addr value size) = IsStored addr value size
ValuesFit (Flush addr size) = AreLines addr size
ValuesFit Fence = Unit {0}
ValuesFit (Persist addr size) = AreLines addr size
ValuesFit (Assert addr size) = (addr < 2 ^ 64) × (size < 2 ^ 64)
ValuesFit (Stop code) = FitsSigned w32 code
ValuesFit (Trap kind) = Unit {0}
ValuesFit Cut = Unit {0}
