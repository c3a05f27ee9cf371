-- The name in a token has the form of a name.
use Rattle.std.proofs.Common.{◌≡◌, ℕ, zero, suc, ◌+◌, Bool, true, false, cond, eqb, List, [], ◌∷◌, take, refl, one-add}
use Rattle.std.specs.Prelude.{slice_index}
use Rattle.std.specs.List.{prefix_len, list_all}
use Rattle.hip_tokens.specs.Bytes.{is_blank, is_digit, begins_name, goes_on_name, is_mark, in_string, in_comment}
use Rattle.hip_tokens.specs.Longest.{is_name}
use Rattle.hip_tokens.specs.Tokens.{Tok, Word, Label, Local, Global, Str, Odd, SizedToken, piece, piece_at, name_here, word_piece, number_piece, minus_piece, local_piece, global_piece, string_piece, At, line_after, cut, tokens}

-- Whether the text of a label, a LOCAL or a GLOBAL has the form of a name; every other token passes.
abbrev pub is_formed : Tok → Bool
is_formed (Label t) = is_name t
is_formed (Local t) = is_name t
is_formed (Global t) = is_name t
is_formed _ = true

-- The name in each token that has one has the form of a name.
abbrev pub AreFormed : List At → Type 0
AreFormed [] = Unit {0}
AreFormed (t ∷ ts) = (is_formed t.tok ≡ true) × AreFormed ts

-- ---- the names of the pieces

prefix_by : (p : ℕ → Bool) (x : ℕ) (xs : List ℕ) (b : Bool) → p x ≡ b
    → list_all p (take (prefix_len p xs) xs) ≡ true
    → list_all p (take (cond b (1 + prefix_len p xs) 0) (x ∷ xs)) ≡ true
prefix_by p x xs true e h = rw (one-add, e) h
prefix_by p x xs false e h = refl

pub prefix_all : (p : ℕ → Bool) (xs : List ℕ) → list_all p (take (prefix_len p xs) xs) ≡ true
prefix_all p [] = refl
prefix_all p (x ∷ xs) = prefix_by p x xs (p x) refl (prefix_all p xs)

pub name_of : (b : ℕ) (bs : List ℕ) → begins_name b ≡ true
    → is_name (b ∷ take (prefix_len goes_on_name bs) bs) ≡ true
name_of b bs e = rw (e, prefix_all goes_on_name bs) refl

pub name_front : (bs : List ℕ) → name_here bs ≡ true → is_name (take (prefix_len goes_on_name bs) bs) ≡ true
name_front [] e = absurd cc
name_front (b ∷ bs) e = rw (goes, one-add, e, prefix_all goes_on_name bs) refl
  where
    goes : goes_on_name b ≡ true
    goes = rw e refl

-- ---- tokens

-- If the token of the piece has a name, the name has the form of a name.
record IsFormed (p : SizedToken) : Type 0 where
  formed : is_formed p.tok ≡ true

-- The piece that a test chooses is formed, if each of the two pieces is formed where it is chosen.
by_test : (c : Bool) (p q : SizedToken) → (c ≡ true → IsFormed p) → (c ≡ false → IsFormed q)
    → IsFormed (cond c p q)
by_test true p q h k = h refl
by_test false p q h k = k refl

word_formed : (b : ℕ) (bs : List ℕ) → begins_name b ≡ true → IsFormed (word_piece b bs)
unfolding word_piece
word_formed b bs e =
    by_test (eqb (slice_index bs (prefix_len goes_on_name bs)) 58)
    (piece (Label (b ∷ take (prefix_len goes_on_name bs) bs)) (prefix_len goes_on_name bs + 1))
    (piece (Word (b ∷ take (prefix_len goes_on_name bs) bs)) (prefix_len goes_on_name bs))
    (λ _. record { formed = name_of b bs e }) (λ _. record { formed = refl })

minus_formed : (bs : List ℕ) → IsFormed (minus_piece bs)
unfolding minus_piece number_piece
minus_formed bs =
    by_test (eqb (prefix_len is_digit bs) 0) (piece (Odd 45) 0) (number_piece 45 bs) (λ _. record { formed = refl })
    (λ _. record { formed = refl })

local_formed : (bs : List ℕ) → IsFormed (local_piece bs)
unfolding local_piece
local_formed bs =
    by_test (name_here bs) (piece (Local (take (prefix_len goes_on_name bs) bs)) (prefix_len goes_on_name bs))
    (piece (Odd 37) 0) (λ e. record { formed = name_front bs e }) (λ _. record { formed = refl })

global_formed : (bs : List ℕ) → IsFormed (global_piece bs)
unfolding global_piece
global_formed bs =
    by_test (name_here bs) (piece (Global (take (prefix_len goes_on_name bs) bs)) (prefix_len goes_on_name bs))
    (piece (Odd 64) 0) (λ e. record { formed = name_front bs e }) (λ _. record { formed = refl })

string_formed : (bs : List ℕ) → IsFormed (string_piece bs)
unfolding string_piece
string_formed bs =
    by_test (eqb (slice_index bs (prefix_len in_string bs)) 34)
    (piece (Str (take (prefix_len in_string bs) bs)) (prefix_len in_string bs + 1)) (piece (Odd 34) 0)
    (λ _. record { formed = refl }) (λ _. record { formed = refl })

piece_formed : (b : ℕ) (bs : List ℕ) → IsFormed (piece_at b bs)
unfolding piece_at number_piece
piece_formed b bs =
    by_test (begins_name b) _ _ (λ e. word_formed b bs e) (λ _.
    by_test (is_digit b) _ _ (λ _. record { formed = refl }) (λ _.
    by_test (eqb b 45) _ _ (λ _. minus_formed bs) (λ _.
    by_test (eqb b 37) _ _ (λ _. local_formed bs) (λ _.
    by_test (eqb b 64) _ _ (λ _. global_formed bs) (λ _.
    by_test (eqb b 34) _ _ (λ _. string_formed bs) (λ _.
    by_test (is_mark b) _ _ (λ _. record { formed = refl }) (λ _. record { formed = refl })))))))

by_tests : (blank comment : Bool) (a b c : List At) (t : At) → AreFormed a → AreFormed b
    → is_formed t.tok ≡ true
    → AreFormed c → AreFormed (cond blank a (cond comment b (t ∷ c)))
by_tests true comment a b c t f g h k = f
by_tests false true a b c t f g h k = g
by_tests false false a b c t f g h k = (h, k)

cut_formed : (line inside : ℕ) (bs : List ℕ) → AreFormed (cut line inside bs)
unfolding cut
cut_formed line inside [] = tt
cut_formed line (suc inside) (b ∷ bs) = cut_formed line inside bs
cut_formed line zero (b ∷ bs) =
    by_tests (is_blank b) (eqb b 59) _ _ _ (record { tok = (piece_at b bs).tok; line = line })
    (cut_formed (line_after line b) 0 bs) (cut_formed line (prefix_len in_comment bs) bs) (piece_formed b bs).formed
    (cut_formed line (piece_at b bs).more bs)

-- The names in the tokens of a text have the form of names.
pub tokens_formed : (text : List ℕ) → AreFormed (tokens text)
tokens_formed text = cut_formed 1 0 text
