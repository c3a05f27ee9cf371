-- The cut of a written token is the token, unless the bytes after it continue it.
use Rattle.std.proofs.Common.{◌≡◌, ℕ, suc, ◌+◌, Bool, true, false, eqb, List, [], ◌∷◌, ◌++◌, drop, length, not, ◌&&◌, refl, ◌∙◌, arith}
use Rattle.std.specs.Prelude.{slice_index, ◌==◌}
use Rattle.std.specs.List.{prefix_len, list_all}
use Rattle.std.proofs.lemmas.List.{take_at, drop_at}
use Rattle.std.proofs.lemmas.Bool.{and_parts}
use Rattle.std.proofs.lemmas.Bool.Decides.{nat_tests}
use Rattle.hip_tokens.specs.Bytes.{byte, is_blank, is_digit, begins_name, goes_on_name, is_mark}
use Rattle.hip_tokens.specs.Tokens.{Tok, Word, Label, Local, Global, Num, Punctuation, At, piece, piece_at, word_piece, number_piece, minus_piece, local_piece, global_piece, name_here, cut}
use Rattle.hip_tokens.specs.Longest.{is_name, are_digits}
use Rattle.hip_tokens.specs.Cuts.{cut_token}

-- The first byte does not pass the test; true if there is none.
abbrev pub begins_without : (ℕ → Bool) → List ℕ → Bool
begins_without p [] = true
begins_without p (b ∷ bs) = not (p b)

-- The first byte neither continues a name nor makes it a label; true if there is none.
abbrev pub ends_word : List ℕ → Bool
ends_word [] = true
ends_word (b ∷ bs) = not (goes_on_name b) && not (b == byte ":")

not_is : (a : Bool) → not a ≡ true → a ≡ false
not_is true e = absurd cc
not_is false e = refl

prefix_ends : (p : ℕ → Bool) (xs ys : List ℕ) → list_all p xs ≡ true → begins_without p ys ≡ true
    → prefix_len p (xs ++ ys) ≡ length xs
prefix_ends p [] [] a h = refl
prefix_ends p [] (y ∷ ys) a h = rw (not_is (p y) h) refl
prefix_ends p (x ∷ xs) ys a h =
    rw ((and_parts (p x) (list_all p xs) a).0, prefix_ends p xs ys ((and_parts (p x) (list_all p xs) a).1) h)
    (omega arith)

ends_name : (rest : List ℕ) → ends_word rest ≡ true → begins_without goes_on_name rest ≡ true
ends_name [] e = refl
ends_name (y ∷ ys) e = (and_parts (not (goes_on_name y)) (not (y == 58)) e).0

no_digit : (y : ℕ) → goes_on_name y ≡ false → is_digit y ≡ false
no_digit y e = grind (arith, nat_tests)

ends_number : (rest : List ℕ) → ends_word rest ≡ true → begins_without is_digit rest ≡ true
ends_number [] e = refl
ends_number (y ∷ ys) e =
    rw (no_digit y (not_is (goes_on_name y) ((and_parts (not (goes_on_name y)) (not (y == 58)) e).0))) refl

no_colon : (bs rest : List ℕ) → ends_word rest ≡ true → eqb (slice_index (bs ++ rest) (length bs)) 58 ≡ false
no_colon [] [] e = refl
no_colon [] (y ∷ ys) e = not_is (eqb y 58) ((and_parts (not (goes_on_name y)) (not (eqb y 58)) e).1)
no_colon (b ∷ bs) rest e = no_colon bs rest e

colon : (bs rest : List ℕ) → eqb (slice_index (bs ++ 58 ∷ rest) (length bs)) 58 ≡ true
colon [] rest = refl
colon (b ∷ bs) rest = colon bs rest

name_first : (b : ℕ) → begins_name b ≡ true → (is_blank b ≡ false) × (eqb b 59 ≡ false)
name_first b e = (grind (arith, nat_tests), grind (arith, nat_tests))

digit_first : (d : ℕ) → is_digit d ≡ true → (is_blank d ≡ false) × (eqb d 59 ≡ false)
    × (begins_name d ≡ false)
digit_first d e = (grind (arith, nat_tests), grind (arith, nat_tests), grind (arith, nat_tests))

all_go_on : (name : List ℕ) → is_name name ≡ true → list_all goes_on_name name ≡ true
all_go_on [] p = refl
all_go_on (b ∷ bs) p =
    rw (
      (and_parts (begins_name b) (list_all goes_on_name bs) p).0,
      (and_parts (begins_name b) (list_all goes_on_name bs) p).1,
    ) refl

begins_here : (name rest : List ℕ) → is_name name ≡ true → name_here (name ++ rest) ≡ true
begins_here [] rest p = absurd cc
begins_here (b ∷ bs) rest p = (and_parts (begins_name b) (list_all goes_on_name bs) p).0

-- A token on this line.
abbrev pub at_line : ℕ → Tok → At
at_line line t = record { tok = t; line = line }

-- ---- names

pub word_cut : (line : ℕ) (name rest : List ℕ) → is_name name ≡ true → ends_word rest ≡ true
    → cut line 0 (name ++ rest) ≡ at_line line (Word name) ∷ cut line 0 rest
unfolding piece_at word_piece
word_cut line [] rest p e = absurd cc
word_cut line (b ∷ bs) rest p e =
    let first = (and_parts (begins_name b) (list_all goes_on_name bs) p).0 in
    let o = name_first b first in
    let len =
    prefix_ends goes_on_name bs rest ((and_parts (begins_name b) (list_all goes_on_name bs) p).1) (ends_name rest e)
    in
    let token : piece (Word (b ∷ bs)) (length bs) ≡ piece_at b (bs ++ rest) =
    rw (first, len, no_colon bs rest e, take_at bs rest (length bs) refl) refl in
    cut_token line b (bs ++ rest) (Word (b ∷ bs)) (length bs) o.0 o.1 token
    ∙ rw (drop_at bs rest (length bs) refl) refl

-- A name and `:` are cut as a label.
pub label_cut : (line : ℕ) (name rest : List ℕ) → is_name name ≡ true
    → cut line 0 (name ++ 58 ∷ rest) ≡ at_line line (Label name) ∷ cut line 0 rest
unfolding piece_at word_piece
label_cut line [] rest p = absurd cc
label_cut line (b ∷ bs) rest p =
    let first = (and_parts (begins_name b) (list_all goes_on_name bs) p).0 in
    let o = name_first b first in
    let len =
    prefix_ends goes_on_name bs (58 ∷ rest) ((and_parts (begins_name b) (list_all goes_on_name bs) p).1) refl in
    let token : piece (Label (b ∷ bs)) (length bs + 1) ≡ piece_at b (bs ++ 58 ∷ rest) =
    rw (first, len, colon bs rest, take_at bs (58 ∷ rest) (length bs) refl) refl in
    cut_token line b (bs ++ 58 ∷ rest) (Label (b ∷ bs)) (length bs + 1) o.0 o.1 token
    ∙ rw (past_colon bs rest) refl
  where
    past_colon : (xs ys : List ℕ) → drop (length xs + 1) (xs ++ 58 ∷ ys) ≡ ys
    past_colon [] ys = refl
    past_colon (x ∷ xs) ys =
        let e : suc (length xs) + 1 ≡ suc (length xs + 1) = omega arith in rw e (past_colon xs ys)

local_piece_is : (name rest : List ℕ) → is_name name ≡ true → begins_without goes_on_name rest ≡ true
    → piece (Local name) (length name) ≡ piece_at 37 (name ++ rest)
unfolding piece_at local_piece
local_piece_is name rest p h =
    rw (
      begins_here name rest p,
      prefix_ends goes_on_name name rest (all_go_on name p) h,
      take_at name rest (length name) refl,
    ) refl

pub local_cut : (line : ℕ) (name rest : List ℕ) → is_name name ≡ true → ends_word rest ≡ true
    → cut line 0 (37 ∷ (name ++ rest)) ≡ at_line line (Local name) ∷ cut line 0 rest
local_cut line name rest p e =
    cut_token line 37 (name ++ rest) (Local name) (length name) refl refl
    (local_piece_is name rest p (ends_name rest e)) ∙ rw (drop_at name rest (length name) refl) refl

global_piece_is : (name rest : List ℕ) → is_name name ≡ true → begins_without goes_on_name rest ≡ true
    → piece (Global name) (length name) ≡ piece_at 64 (name ++ rest)
unfolding piece_at global_piece
global_piece_is name rest p h =
    rw (
      begins_here name rest p,
      prefix_ends goes_on_name name rest (all_go_on name p) h,
      take_at name rest (length name) refl,
    ) refl

pub global_cut : (line : ℕ) (name rest : List ℕ) → is_name name ≡ true → ends_word rest ≡ true
    → cut line 0 (64 ∷ (name ++ rest)) ≡ at_line line (Global name) ∷ cut line 0 rest
global_cut line name rest p e =
    cut_token line 64 (name ++ rest) (Global name) (length name) refl refl
    (global_piece_is name rest p (ends_name rest e)) ∙ rw (drop_at name rest (length name) refl) refl

-- ---- numbers

pub digits_cut : (line : ℕ) (ds rest : List ℕ) → are_digits ds ≡ true → ends_word rest ≡ true
    → cut line 0 (ds ++ rest) ≡ at_line line (Num ds) ∷ cut line 0 rest
unfolding piece_at number_piece
digits_cut line [] rest p e = absurd cc
digits_cut line (d ∷ ds) rest p e =
    let first = (and_parts (is_digit d) (list_all is_digit ds) p).0 in
    let o = digit_first d first in
    let len = prefix_ends is_digit ds rest ((and_parts (is_digit d) (list_all is_digit ds) p).1) (ends_number rest e) in
    let token : piece (Num (d ∷ ds)) (length ds) ≡ piece_at d (ds ++ rest) =
    rw (o.2, first, len, take_at ds rest (length ds) refl) refl in
    cut_token line d (ds ++ rest) (Num (d ∷ ds)) (length ds) o.0 o.1 token
    ∙ rw (drop_at ds rest (length ds) refl) refl

all_digits : (ds : List ℕ) → are_digits ds ≡ true → list_all is_digit ds ≡ true
all_digits [] p = absurd cc
all_digits (d ∷ ds) p = p

some_digits : (ds : List ℕ) → are_digits ds ≡ true → eqb (length ds) 0 ≡ false
some_digits [] p = absurd cc
some_digits (d ∷ ds) p = grind (arith, nat_tests)

pub minus_cut : (line : ℕ) (ds rest : List ℕ) → are_digits ds ≡ true → ends_word rest ≡ true
    → cut line 0 (45 ∷ (ds ++ rest)) ≡ at_line line (Num (45 ∷ ds)) ∷ cut line 0 rest
unfolding piece_at number_piece minus_piece
minus_cut line ds rest p e =
    let len = prefix_ends is_digit ds rest (all_digits ds p) (ends_number rest e) in
    let token : piece (Num (45 ∷ ds)) (length ds) ≡ piece_at 45 (ds ++ rest) =
    rw (len, some_digits ds p, take_at ds rest (length ds) refl) refl in
    cut_token line 45 (ds ++ rest) (Num (45 ∷ ds)) (length ds) refl refl token
    ∙ rw (drop_at ds rest (length ds) refl) refl

-- ---- marks

mark_first : (b : ℕ) → is_mark b ≡ true
    → (is_blank b ≡ false) × (eqb b 59 ≡ false) × (begins_name b ≡ false) × (is_digit b ≡ false)
    × (eqb b 45 ≡ false)
    × (eqb b 37 ≡ false) × (eqb b 64 ≡ false) × (eqb b 34 ≡ false)
mark_first b e = (
  grind (arith, nat_tests),
  grind (arith, nat_tests),
  grind (arith, nat_tests),
  grind (arith, nat_tests),
  grind (arith, nat_tests),
  grind (arith, nat_tests),
  grind (arith, nat_tests),
  grind (arith, nat_tests),
)

pub mark_cut : (line b : ℕ) (rest : List ℕ) → is_mark b ≡ true
    → cut line 0 (b ∷ rest) ≡ at_line line (Punctuation b) ∷ cut line 0 rest
unfolding piece_at
mark_cut line b rest e =
    let o = mark_first b e in
    let token : piece (Punctuation b) 0 ≡ piece_at b rest = rw (o.2, o.3, o.4, o.5, o.6, o.7, e) refl in
    cut_token line b rest (Punctuation b) 0 o.0 o.1 token
