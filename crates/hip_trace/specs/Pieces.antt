-- The pieces of a trace's bytes; each spells an entry or is malformed.
use Rattle.std.specs.Prelude.{ℕ, Bool, true, false, ◌||◌, List, [], ◌∷◌, length, map, Option, nat_lt, ◌==◌, if◌then◌else◌}
use Rattle.std.specs.List.{slice_split}
use Rattle.hip_tokens.specs.Bytes.{byte}
use Rattle.hip_num.specs.Texts.{is_nonempty}
use Rattle.hip_trace.specs.Entries.{entry_of}
use Rattle.hip_trace.specs.declared.entry.Entry.{Entry}

-- Whether a byte is `|` or a line feed.
abbrev pub is_separator : ℕ → Bool
is_separator b = (b == byte "|") || (b == byte "\n")

-- The parts between separators.
abbrev pub parts : List ℕ → List (List ℕ)
parts bytes = slice_split is_separator bytes

-- Whether the last part is a piece. In a whole file it is a piece if it is not empty. If more of the file may follow,
-- it is a piece only if it has more than 256 bytes, since then it spells no entry, whatever follows.
abbrev pub counts_last : Bool → List ℕ → Bool
counts_last true last = is_nonempty last
counts_last false last = nat_lt 256 (length last)

-- The parts that are pieces: all before the last one, and the last one if it counts.
abbrev pub counted : Bool → List (List ℕ) → List (List ℕ)
counted whole [] = []
counted whole (part ∷ []) = if counts_last whole part then part ∷ [] else []
counted whole (part ∷ next ∷ more) = part ∷ counted whole (next ∷ more)

-- The pieces of a file, or of the front of one.
abbrev pub pieces : Bool → List ℕ → List (List ℕ)
pieces whole bytes = counted whole (parts bytes)

-- What each piece spells; none for a malformed one.
abbrev pub spelled : Bool → List ℕ → List (Option Entry)
spelled whole bytes = map entry_of (pieces whole bytes)
