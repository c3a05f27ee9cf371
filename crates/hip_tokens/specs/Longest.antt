-- The bytes that spell a token, and what it means that the piece at a place is the longest.
use Rattle.std.specs.Prelude.{◌≡◌, ℕ, ◌+◌, ◌≤◌, Bool, true, false, not, ◌&&◌, ◌||◌, List, [], ◌∷◌, ◌++◌, codes, length, take, ◌==◌}
use Rattle.std.specs.List.{list_all}
use Rattle.hip_tokens.specs.Bytes.{byte, is_digit, begins_name, goes_on_name, is_mark, in_string}
use Rattle.hip_tokens.specs.Tokens.{Tok, Word, Label, Local, Global, Num, Str, Punctuation, Odd, SizedToken}

-- A letter, `$`, `.` or `_`, and then any of these, digits and `-`; false for an empty text. (LLVM, "Identifiers",
-- except that a `-` may not come first.)
abbrev pub is_name : List ℕ → Bool
is_name [] = false
is_name (b ∷ bs) = begins_name b && list_all goes_on_name bs

-- One or more decimal digits.
abbrev pub are_digits : List ℕ → Bool
are_digits [] = false
are_digits (d ∷ ds) = is_digit d && list_all is_digit ds

-- One or more decimal digits, with or without a `-` before them.
abbrev pub is_number : List ℕ → Bool
is_number [] = false
is_number (d ∷ ds) = ((d == byte "-") && are_digits ds) || are_digits (d ∷ ds)

-- A byte that begins no other token.
abbrev pub is_odd : ℕ → Bool
is_odd b = not (begins_name b || (is_digit b || is_mark b))

-- The bytes that spell a token, by its kind.
abbrev pub Spells : Tok → List ℕ → Type 0
Spells (Word t) w = (w ≡ t) × (is_name t ≡ true)
Spells (Label t) w = (w ≡ t ++ codes ":") × (is_name t ≡ true)
Spells (Local t) w = (w ≡ byte "%" ∷ t) × (is_name t ≡ true)
Spells (Global t) w = (w ≡ byte "@" ∷ t) × (is_name t ≡ true)
Spells (Num t) w = (w ≡ t) × (is_number t ≡ true)
Spells (Str t) w = (w ≡ codes "\"" ++ (t ++ codes "\"")) × (list_all in_string t ≡ true)
Spells (Punctuation b) w = (w ≡ b ∷ []) × (is_mark b ≡ true)
Spells (Odd b) w = (w ≡ b ∷ []) × (is_odd b ≡ true)

-- The piece is a token, and no token that begins here is longer.
pub record IsLongest (b : ℕ) (bs : List ℕ) (p : SizedToken) : Type 0 where
  pub spelled : Spells p.tok (b ∷ take p.more bs)
  pub longest : (t : Tok) (w rest : List ℕ) → Spells t w → b ∷ bs ≡ w ++ rest → length w ≤ p.more + 1
