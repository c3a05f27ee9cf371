-- The line of an entry that comes first in some bytes.
use Rattle.std.specs.Prelude.{ℕ, ◌≡◌, false, List, ◌∷◌, ◌++◌, take, position, Some}
use Rattle.std.specs.List.{list_any}
use Rattle.std.specs.Str.Parse.{AllDigits}
use Rattle.hip_num.specs.Texts.{hex_of, number_of}
use Rattle.hip_tokens.specs.Bytes.{byte}
use Rattle.hip_trace.specs.Entries.{entry_by, entry_of, fields}
use Rattle.hip_trace.specs.Laws.TextLaws.{IsPlain}
use Rattle.hip_trace.specs.Pieces.{is_separator}
use Rattle.hip_trace.specs.declared.entry.Entry.{Entry}
use Rattle.hip_trace.specs.declared.line.EntryText.{EntryText}
use Rattle.hip_trace.specs.Usuals.{usual_entry}

-- The bytes begin with the hexadecimal digits of a number.
pub record HasDigits (bytes : List ℕ) (number : ℕ) (rest : List ℕ) : Type 0 where
  pub digits : List ℕ
  pub whole : bytes ≡ digits ++ rest
  pub all : AllDigits 16 digits
  pub is : number_of 16 digits ≡ Some number

-- The bytes begin with a semicolon and a field that is a hexadecimal number.
pub record HasField (bytes : List ℕ) (number : ℕ) (rest : List ℕ) : Type 0 where
  pub field : List ℕ
  pub whole : bytes ≡ (byte ";" ∷ field) ++ rest
  pub is : hex_of field ≡ Some number
  pub plain : IsPlain field
  pub inner : list_any is_separator field ≡ false

-- The bytes begin with the word and the fields of an entry.
pub record BeginsWithEntry (bytes : List ℕ) (entry : Entry) (rest : List ℕ) : Type 0 where
  pub text : List ℕ
  pub whole : bytes ≡ text ++ rest
  pub is : entry_by (fields text) ≡ Some entry
  pub inner : list_any is_separator text ≡ false

-- The first piece of the bytes spells the entry of the line.
pub record IsFirstLine (bytes : List ℕ) (line : EntryText) : Type 0 where
  pub here : position is_separator bytes ≡ Some line.len
  pub spells : entry_of (take line.len bytes) ≡ Some (usual_entry line.usual)
