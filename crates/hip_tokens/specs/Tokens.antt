-- The tokens of a text: at each place the longest one, with its line.
use Rattle.std.specs.Prelude.{ℕ, zero, suc, ◌+◌, Bool, false, List, [], ◌∷◌, take, slice_index, if◌then◌else◌, ◌==◌}
use Rattle.std.specs.List.{prefix_len}
use Rattle.hip_tokens.specs.Bytes.{byte, is_blank, is_digit, begins_name, goes_on_name, is_mark, in_string, in_comment}

-- A token by its kind, with its text: without a label's `:`, a LOCAL's `%`, a GLOBAL's `@` and a string's quotes, but
-- with a number's `-`. A mark is its byte. A byte with which no other token begins is an odd byte.
pub data Tok : Type 0 where
  Word : List ℕ → Tok
  Label : List ℕ → Tok
  Local : List ℕ → Tok
  Global : List ℕ → Tok
  Num : List ℕ → Tok
  Str : List ℕ → Tok
  Punctuation : ℕ → Tok
  Odd : ℕ → Tok

-- A token, and how many bytes it has after its first.
pub record SizedToken : Type 0 where
  pub tok : Tok
  pub more : ℕ

-- This token, with n bytes after its first.
abbrev pub piece : Tok → ℕ → SizedToken
piece t n = record { tok = t; more = n }

-- Whether a name begins here.
abbrev pub name_here : List ℕ → Bool
name_here [] = false
name_here (b ∷ bs) = begins_name b

-- A name is a label if `:` follows it.
unfoldable pub word_piece : ℕ → List ℕ → SizedToken
word_piece b bs =
    if slice_index bs (prefix_len goes_on_name bs) == byte ":"
    then piece (Label (b ∷ take (prefix_len goes_on_name bs) bs)) (prefix_len goes_on_name bs + 1)
    else piece (Word (b ∷ take (prefix_len goes_on_name bs) bs)) (prefix_len goes_on_name bs)

-- After `%`: the LOCAL of the name that begins with these bytes, or `%` alone as an odd byte.
unfoldable pub local_piece : List ℕ → SizedToken
local_piece bs =
    if name_here bs
    then piece (Local (take (prefix_len goes_on_name bs) bs)) (prefix_len goes_on_name bs)
    else piece (Odd (byte "%")) 0

-- After `@`: the GLOBAL of the name that begins with these bytes, or `@` alone as an odd byte.
unfoldable pub global_piece : List ℕ → SizedToken
global_piece bs =
    if name_here bs
    then piece (Global (take (prefix_len goes_on_name bs) bs)) (prefix_len goes_on_name bs)
    else piece (Odd (byte "@")) 0

-- A number whose first byte is b, a digit or `-`, with all digits that follow it.
unfoldable pub number_piece : ℕ → List ℕ → SizedToken
number_piece b bs = piece (Num (b ∷ take (prefix_len is_digit bs) bs)) (prefix_len is_digit bs)

-- After `-`: the number of the digits that follow, or `-` alone as an odd byte.
unfoldable pub minus_piece : List ℕ → SizedToken
minus_piece bs = if prefix_len is_digit bs == 0 then piece (Odd (byte "-")) 0 else number_piece (byte "-") bs

-- A string that ends on its line, or `"` alone as an odd byte.
unfoldable pub string_piece : List ℕ → SizedToken
string_piece bs =
    if slice_index bs (prefix_len in_string bs) == byte "\""
    then piece (Str (take (prefix_len in_string bs) bs)) (prefix_len in_string bs + 1)
    else piece (Odd (byte "\"")) 0

-- The longest token that begins with b, a byte that neither separates tokens nor begins a comment.
unfoldable pub piece_at : ℕ → List ℕ → SizedToken
piece_at b bs =
    if begins_name b then word_piece b bs
    else (if is_digit b then number_piece b bs
    else (if b == byte "-" then minus_piece bs
    else (if b == byte "%" then local_piece bs
    else (if b == byte "@" then global_piece bs
    else (if b == byte "\"" then string_piece bs
    else (if is_mark b then piece (Punctuation b) 0
    else piece (Odd b) 0))))))

-- The line after byte b of this line: the next one if b is a line feed, else the same.
abbrev pub line_after : ℕ → ℕ → ℕ
line_after line b = if b == byte "\n" then line + 1 else line

-- A token and its line.
pub record At : Type 0 where
  pub tok : Tok
  pub line : ℕ

-- The tokens from a place on line `line`; the next `inside` bytes belong to a token or a comment.
unfoldable pub cut : ℕ → ℕ → List ℕ → List At
cut line inside [] = []
cut line (suc inside) (b ∷ bs) = cut line inside bs
cut line zero (b ∷ bs) =
    if is_blank b then cut (line_after line b) 0 bs
    else (if b == byte ";" then cut line (prefix_len in_comment bs) bs
    else (record { tok = (piece_at b bs).tok; line = line }) ∷ cut line (piece_at b bs).more bs)

-- The tokens of a text.
abbrev pub tokens : List ℕ → List At
tokens text = cut 1 0 text
