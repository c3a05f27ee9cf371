-- The bytes that pages hold.
use Rattle.std.specs.Prelude.{◌≡◌, ℕ, zero, suc, ◌+◌, ◌*◌, ◌/◌, ◌%◌, ◌<◌, ◌≤◌, List, [], ◌∷◌, slice_index, Option, Some, None}
use Rattle.hip_directory.specs.Directories.{number_at}
use Rattle.hip_mem.specs.declared.TheConstants.{PAGE_SIZE}
use Rattle.hip_mem.specs.declared.pages.Pages.{Pages}
use Rattle.hip_mem.specs.PageTable.{key_of}

-- The place of page n among the pages. It is 0, the place of the page of zeros, if page n was not made.
unfoldable pub place_of : Pages → ℕ → ℕ
place_of m n = number_at m.directory (key_of m.region n)

-- Page n was made: its place is not that of the page of zeros.
abbrev pub IsMade : Pages → ℕ → Type 0
IsMade m n = 0 < place_of m n

-- Byte i of page n.
unfoldable pub byte_of : Pages → ℕ → ℕ → ℕ
byte_of m n i = slice_index m.bytes.items (PAGE_SIZE * place_of m n + i)

-- The byte at an address.
abbrev pub page_byte : Pages → ℕ → ℕ
page_byte m a = byte_of m (a / PAGE_SIZE) (a % PAGE_SIZE)

-- The n bytes from address a on.
unfoldable pub page_bytes : Pages → ℕ → ℕ → List ℕ
page_bytes m a zero = []
page_bytes m a (suc n) = page_byte m a ∷ page_bytes m (suc a) n

-- The pages from one up to another are zeros.
abbrev pub AreZeros : Pages → ℕ → ℕ → Type 0
AreZeros m from to = (n i : ℕ) → from ≤ n → n < to → i < PAGE_SIZE → byte_of m n i ≡ 0

-- A made page in the range, with only zeros before it; or no page, if all pages of the range are zeros.
abbrev pub IsFirstMade : Pages → ℕ → ℕ → Option ℕ → Type 0
IsFirstMade m from to None = AreZeros m from to
IsFirstMade m from to (Some n) = (from ≤ n) × (n < to) × IsMade m n × AreZeros m from n
