-- No token at a place is longer than the piece there.
use Rattle.std.proofs.Common.{sym, subst, take, ltb, get_or, one-add, ◌≡◌, ℕ, ◌+◌, ◌≤◌, ◌<◌, Bool, true, false, cond, eqb, ◌&&◌, ◌||◌, List, [], ◌∷◌, ◌++◌, length, refl, ap, subst, ◌∙◌, append_assoc, arith, length-append}
use Rattle.std.specs.Prelude.{slice_index}
use Rattle.std.specs.List.{prefix_len, list_all}
use Rattle.std.proofs.lemmas.Bool.{eqb-true, ltb-true, ltb-false}
use Rattle.std.proofs.lemmas.List.{take_more, get_or_past}
use Rattle.std.proofs.lemmas.Bool.Decides.{nat_tests}
use Rattle.hip_tokens.specs.Bytes.{is_mark, is_digit, begins_name, goes_on_name, in_string}
use Rattle.hip_tokens.specs.Tokens.{SizedToken, Tok, Word, Label, Local, Global, Num, Str, Punctuation, Odd, piece, piece_at, name_here, word_piece, number_piece, minus_piece, local_piece, global_piece, string_piece}
use Rattle.hip_tokens.specs.Longest.{is_name, are_digits, is_number, Spells, IsLongest}
use Rattle.hip_tokens.specs.Formed.{prefix_all, name_of, name_front}

and_left : (a b : Bool) → (a && b) ≡ true → a ≡ true
and_left true b e = refl
and_left false b e = absurd cc

and_right : (a b : Bool) → (a && b) ≡ true → b ≡ true
and_right true b e = e
and_right false b e = absurd cc

prefix_max : (p : ℕ → Bool) (u rest : List ℕ) → list_all p u ≡ true → length u ≤ prefix_len p (u ++ rest)
prefix_max p [] rest h = omega arith
prefix_max p (x ∷ u) rest h = rw (and_left (p x) (list_all p u) h) (let k = prefix_max p u rest (and_right (p x) (list_all p u) h) in omega arith)

prefix_exact : (p : ℕ → Bool) (u : List ℕ) (y : ℕ) (rest : List ℕ) → list_all p u ≡ true → p y ≡ false → prefix_len p (u ++ (y ∷ rest)) ≡ length u
prefix_exact p [] y rest h e = rw e refl
prefix_exact p (x ∷ u) y rest h e = rw (and_left (p x) (list_all p u) h, prefix_exact p u y rest (and_right (p x) (list_all p u) h) e) (omega arith)

at_len : (u : List ℕ) (y : ℕ) (rest : List ℕ) → slice_index (u ++ (y ∷ rest)) (length u) ≡ y
at_len [] y rest = refl
at_len (x ∷ u) y rest = at_len u y rest

either_more : (c : Bool) (s t : Tok) (k n : ℕ) → k ≤ n → k ≤ (cond c (piece s (n + 1)) (piece t n)).more
either_more true s t k n h = omega arith
either_more false s t k n h = h

-- ---- each shape

name_long : (b : ℕ) (u rest : List ℕ) → begins_name b ≡ true → list_all goes_on_name u ≡ true → length u ≤ (piece_at b (u ++ rest)).more
unfolding piece_at word_piece
name_long b u rest e h = rw e (either_more _ _ _ (length u) (prefix_len goes_on_name (u ++ rest)) (prefix_max goes_on_name u rest h))

label_long : (b : ℕ) (u rest : List ℕ) → begins_name b ≡ true → list_all goes_on_name u ≡ true → length u + 1 ≤ (piece_at b (u ++ (58 ∷ rest))).more
unfolding piece_at word_piece
label_long b u rest e h = rw (e, prefix_exact goes_on_name u 58 rest h refl, at_len u 58 rest) (omega arith)

digit_no_name : (d : ℕ) → is_digit d ≡ true → begins_name d ≡ false
digit_no_name d e = grind (arith, nat_tests)

digits_long : (d : ℕ) (u rest : List ℕ) → is_digit d ≡ true → list_all is_digit u ≡ true → length u ≤ (piece_at d (u ++ rest)).more
unfolding piece_at number_piece
digits_long d u rest e h = rw (digit_no_name d e, e) (prefix_max is_digit u rest h)

some_first : (n : ℕ) → 0 < n → eqb n 0 ≡ false
some_first n h = grind (arith, nat_tests)

minus_long : (d : ℕ) (u rest : List ℕ) → list_all is_digit (d ∷ u) ≡ true → length (d ∷ u) ≤ (piece_at 45 ((d ∷ u) ++ rest)).more
unfolding piece_at minus_piece number_piece
minus_long d u rest h =
    let k = prefix_max is_digit (d ∷ u) rest h in
    let some : eqb (prefix_len is_digit ((d ∷ u) ++ rest)) 0 ≡ false = some_first _ (omega arith) in
    rw some k

name_goes : (t : List ℕ) → is_name t ≡ true → list_all goes_on_name t ≡ true
name_goes [] h = refl
name_goes (b ∷ bs) h = rw (and_left (begins_name b) (list_all goes_on_name bs) h, and_right (begins_name b) (list_all goes_on_name bs) h) refl

begins_here : (t rest : List ℕ) → is_name t ≡ true → name_here (t ++ rest) ≡ true
begins_here [] rest h = absurd cc
begins_here (b ∷ bs) rest h = and_left (begins_name b) (list_all goes_on_name bs) h

local_long : (t rest : List ℕ) → is_name t ≡ true → length t ≤ (piece_at 37 (t ++ rest)).more
unfolding piece_at local_piece
local_long t rest h = rw (begins_here t rest h) (prefix_max goes_on_name t rest (name_goes t h))

global_long : (t rest : List ℕ) → is_name t ≡ true → length t ≤ (piece_at 64 (t ++ rest)).more
unfolding piece_at global_piece
global_long t rest h = rw (begins_here t rest h) (prefix_max goes_on_name t rest (name_goes t h))

string_long : (t rest : List ℕ) → list_all in_string t ≡ true → length t + 1 ≤ (piece_at 34 (t ++ (34 ∷ rest))).more
unfolding piece_at string_piece
string_long t rest h = rw (prefix_exact in_string t 34 rest h refl, at_len t 34 rest) (omega arith)

-- ---- all tokens

tail_is : (a b : ℕ) (xs ys : List ℕ) → a ∷ xs ≡ b ∷ ys → (a ≡ b) × (xs ≡ ys)
tail_is a b xs ys e = (cc, cc)

-- A bound on the piece of a text is a bound on the piece of an equal text.
placed : (b c : ℕ) (bs tail : List ℕ) (k : ℕ) → b ∷ bs ≡ c ∷ tail → k ≤ (piece_at c tail).more → k ≤ (piece_at b bs).more
placed b c bs tail k e h = let t = tail_is b c bs tail e in rw (t.0, t.1) h

chosen : (a b c : Bool) → ((a && b) || c) ≡ true → a ≡ true → c ≡ false → b ≡ true
chosen true b true h x y = absurd cc
chosen true true false h x y = refl
chosen true false false h x y = h
chosen false b c h x y = absurd cc

number_longest : (b : ℕ) (bs : List ℕ) (t rest : List ℕ) → is_number t ≡ true → b ∷ bs ≡ t ++ rest → length t ≤ (piece_at b bs).more + 1
number_longest b bs [] rest h e = omega arith
number_longest b bs (d ∷ ds) rest h e = by_test (eqb d 45) refl
  where
    by_digits : are_digits (d ∷ ds) ≡ true → length (d ∷ ds) ≤ (piece_at b bs).more + 1
    by_digits q = let k = placed b d bs (ds ++ rest) (length ds) e (digits_long d ds rest (and_left (is_digit d) (list_all is_digit ds) q) (and_right (is_digit d) (list_all is_digit ds) q)) in omega arith

    by_minus : (u : List ℕ) → ds ≡ u → d ≡ 45 → are_digits u ≡ true → length (d ∷ ds) ≤ (piece_at b bs).more + 1
    by_minus [] same m q = absurd cc
    by_minus (x ∷ u) same m q = let k = placed b 45 bs ((x ∷ u) ++ rest) (length (x ∷ u)) (e ∙ rw (m, same) refl) (minus_long x u rest q) in let j = ap length same in omega arith

    by_test : (c : Bool) → eqb d 45 ≡ c → length (d ∷ ds) ≤ (piece_at b bs).more + 1
    by_test false m = by_digits (subst (λ c. ((c && are_digits ds) || are_digits (d ∷ ds)) ≡ true) m h)
    by_test true m =
        let d-is = eqb-true d 45 m in
        let no : are_digits (d ∷ ds) ≡ false = rw d-is refl in
        by_minus ds refl d-is (chosen (eqb d 45) (are_digits ds) (are_digits (d ∷ ds)) h m no)

word_longest : (b : ℕ) (bs t rest : List ℕ) → is_name t ≡ true → b ∷ bs ≡ t ++ rest → length t ≤ (piece_at b bs).more + 1
word_longest b bs [] rest h e = omega arith
word_longest b bs (x ∷ u) rest h e = let k = placed b x bs (u ++ rest) (length u) e (name_long x u rest (and_left (begins_name x) (list_all goes_on_name u) h) (and_right (begins_name x) (list_all goes_on_name u) h)) in omega arith

label_longest : (b : ℕ) (bs t rest : List ℕ) → is_name t ≡ true → b ∷ bs ≡ (t ++ (58 ∷ [])) ++ rest → length (t ++ (58 ∷ [])) ≤ (piece_at b bs).more + 1
label_longest b bs [] rest h e = absurd cc
label_longest b bs (x ∷ u) rest h e =
    let regrouped : b ∷ bs ≡ x ∷ (u ++ (58 ∷ rest)) = e ∙ ap (λ (z : List ℕ). x ∷ z) (append_assoc u (58 ∷ []) rest) in
    let k = placed b x bs (u ++ (58 ∷ rest)) (length u + 1) regrouped (label_long x u rest (and_left (begins_name x) (list_all goes_on_name u) h) (and_right (begins_name x) (list_all goes_on_name u) h)) in
    omega (arith, length-append u (58 ∷ []))

pub longest : (b : ℕ) (bs : List ℕ) (t : Tok) (w rest : List ℕ) → Spells t w → b ∷ bs ≡ w ++ rest → length w ≤ (piece_at b bs).more + 1
longest b bs (Word t) w rest h e = rw h.0 (word_longest b bs t rest h.1 (e ∙ rw h.0 refl))
longest b bs (Label t) w rest h e = rw h.0 (label_longest b bs t rest h.1 (e ∙ rw h.0 refl))
longest b bs (Local t) w rest h e = let k = placed b 37 bs (t ++ rest) (length t) (e ∙ rw h.0 refl) (local_long t rest h.1) in let n = ap length h.0 in omega arith
longest b bs (Global t) w rest h e = let k = placed b 64 bs (t ++ rest) (length t) (e ∙ rw h.0 refl) (global_long t rest h.1) in let n = ap length h.0 in omega arith
longest b bs (Num t) w rest h e = rw h.0 (number_longest b bs t rest h.1 (e ∙ rw h.0 refl))
longest b bs (Str t) w rest h e =
    let regrouped : b ∷ bs ≡ 34 ∷ (t ++ (34 ∷ rest)) = e ∙ rw h.0 (ap (λ (z : List ℕ). 34 ∷ z) (append_assoc t (34 ∷ []) rest)) in
    let k = placed b 34 bs (t ++ (34 ∷ rest)) (length t + 1) regrouped (string_long t rest h.1) in
    let n = ap length h.0 in omega (arith, length-append t (34 ∷ []))
longest b bs (Punctuation c) w rest h e = let n = ap length h.0 in omega arith
longest b bs (Odd c) w rest h e = let n = ap length h.0 in omega arith

-- ---- the piece itself is spelled

closed_at : (bs : List ℕ) (n c : ℕ) → eqb (slice_index bs n) c ≡ true → 0 < c → take (n + 1) bs ≡ take n bs ++ (c ∷ [])
closed_at bs n c e some =
    let is : get_or bs n 0 ≡ c = eqb-true (slice_index bs n) c e in
    let lt : n < length bs = within (ltb n (length bs)) refl in
    take_more bs n 0 lt ∙ ap (λ (z : ℕ). take n bs ++ (z ∷ [])) is
  where
    within : (b : Bool) → ltb n (length bs) ≡ b → n < length bs
    within true t = ltb-true n (length bs) t
    within false t = absurd (let past = get_or_past bs n 0 (ltb-false n (length bs) t) in let is : get_or bs n 0 ≡ c = eqb-true (slice_index bs n) c e in omega arith)

abbrev SpelledHere : ℕ → List ℕ → SizedToken → Type 0
SpelledHere b bs p = Spells p.tok (b ∷ take p.more bs)

word_spelled : (b : ℕ) (bs : List ℕ) → begins_name b ≡ true → SpelledHere b bs (word_piece b bs)
unfolding word_piece
word_spelled b bs e = by_test (eqb (slice_index bs (prefix_len goes_on_name bs)) 58) refl
  where
    by_test : (c : Bool) → eqb (slice_index bs (prefix_len goes_on_name bs)) 58 ≡ c → SpelledHere b bs (cond c (piece (Label (b ∷ take (prefix_len goes_on_name bs) bs)) (prefix_len goes_on_name bs + 1)) (piece (Word (b ∷ take (prefix_len goes_on_name bs) bs)) (prefix_len goes_on_name bs)))
    by_test true k = (ap (λ (z : List ℕ). b ∷ z) (closed_at bs (prefix_len goes_on_name bs) 58 k (omega arith)), name_of b bs e)
    by_test false k = (refl, name_of b bs e)

number_spelled : (d : ℕ) (bs : List ℕ) → is_digit d ≡ true → SpelledHere d bs (number_piece d bs)
unfolding number_piece
number_spelled d bs e = (refl, rw (e, prefix_all is_digit bs) (or_true _))
  where
    or_true : (a : Bool) → (a || true) ≡ true
    or_true true = refl
    or_true false = refl

digits_by : (x : ℕ) (xs : List ℕ) (b : Bool) → is_digit x ≡ b → eqb (cond b (1 + prefix_len is_digit xs) 0) 0 ≡ false → list_all is_digit (take (prefix_len is_digit xs) xs) ≡ true → are_digits (take (cond b (1 + prefix_len is_digit xs) 0) (x ∷ xs)) ≡ true
digits_by x xs true e h all = rw (one-add, e, all) refl
digits_by x xs false e h all = absurd cc

digits_some : (bs : List ℕ) → eqb (prefix_len is_digit bs) 0 ≡ false → are_digits (take (prefix_len is_digit bs) bs) ≡ true
digits_some [] h = absurd cc
digits_some (x ∷ xs) h = digits_by x xs (is_digit x) refl h (prefix_all is_digit xs)

or_left_true : (a b : Bool) → a ≡ true → (a || b) ≡ true
or_left_true a b e = rw e refl

minus_by : (bs : List ℕ) (c : Bool) → eqb (prefix_len is_digit bs) 0 ≡ c → SpelledHere 45 bs (cond c (piece (Odd 45) 0) (number_piece 45 bs))
unfolding number_piece
minus_by bs true e = (refl, refl)
minus_by bs false e = (refl, or_left_true (are_digits (take (prefix_len is_digit bs) bs)) (are_digits (45 ∷ take (prefix_len is_digit bs) bs)) (digits_some bs e))

local_by : (bs : List ℕ) (c : Bool) → name_here bs ≡ c → SpelledHere 37 bs (cond c (piece (Local (take (prefix_len goes_on_name bs) bs)) (prefix_len goes_on_name bs)) (piece (Odd 37) 0))
local_by bs true e = (refl, name_front bs e)
local_by bs false e = (refl, refl)

global_by : (bs : List ℕ) (c : Bool) → name_here bs ≡ c → SpelledHere 64 bs (cond c (piece (Global (take (prefix_len goes_on_name bs) bs)) (prefix_len goes_on_name bs)) (piece (Odd 64) 0))
global_by bs true e = (refl, name_front bs e)
global_by bs false e = (refl, refl)

string_by : (bs : List ℕ) (c : Bool) → eqb (slice_index bs (prefix_len in_string bs)) 34 ≡ c → SpelledHere 34 bs (cond c (piece (Str (take (prefix_len in_string bs) bs)) (prefix_len in_string bs + 1)) (piece (Odd 34) 0))
string_by bs true e = (ap (λ (z : List ℕ). 34 ∷ z) (closed_at bs (prefix_len in_string bs) 34 e (omega arith)), prefix_all in_string bs)
string_by bs false e = (refl, refl)

at_byte : (b k : ℕ) (bs : List ℕ) (f : ℕ → List ℕ → SizedToken) → eqb b k ≡ true → SpelledHere k bs (f k bs) → SpelledHere b bs (f b bs)
at_byte b k bs f e h = subst (λ (z : ℕ). SpelledHere z bs (f z bs)) (sym (eqb-true b k e)) h

mark_by : (b : ℕ) (bs : List ℕ) (c : Bool) → begins_name b ≡ false → is_digit b ≡ false → is_mark b ≡ c → SpelledHere b bs (cond c (piece (Punctuation b) 0) (piece (Odd b) 0))
mark_by b bs true n d e = (refl, e)
mark_by b bs false n d e = (refl, rw (n, d, e) refl)

-- The piece that a test chooses is spelled here, if each of the two pieces is spelled here where it is chosen.
by_test : (b : ℕ) (bs : List ℕ) (c : Bool) (p q : SizedToken) → (c ≡ true → SpelledHere b bs p) → (c ≡ false → SpelledHere b bs q) → SpelledHere b bs (cond c p q)
by_test b bs true p q h k = h refl
by_test b bs false p q h k = k refl

minus_spelled : (bs : List ℕ) → SpelledHere 45 bs (minus_piece bs)
unfolding minus_piece
minus_spelled bs = minus_by bs (eqb (prefix_len is_digit bs) 0) refl

local_spelled : (bs : List ℕ) → SpelledHere 37 bs (local_piece bs)
unfolding local_piece
local_spelled bs = local_by bs (name_here bs) refl

global_spelled : (bs : List ℕ) → SpelledHere 64 bs (global_piece bs)
unfolding global_piece
global_spelled bs = global_by bs (name_here bs) refl

string_spelled : (bs : List ℕ) → SpelledHere 34 bs (string_piece bs)
unfolding string_piece
string_spelled bs = string_by bs (eqb (slice_index bs (prefix_len in_string bs)) 34) refl

pub spelled : (b : ℕ) (bs : List ℕ) → SpelledHere b bs (piece_at b bs)
unfolding piece_at
spelled b bs =
    by_test b bs (begins_name b) _ _ (word_spelled b bs) (λ name.
    by_test b bs (is_digit b) _ _ (number_spelled b bs) (λ digit.
    by_test b bs (eqb b 45) _ _ (λ e. at_byte b 45 bs (λ _ xs. minus_piece xs) e (minus_spelled bs)) (λ _.
    by_test b bs (eqb b 37) _ _ (λ e. at_byte b 37 bs (λ _ xs. local_piece xs) e (local_spelled bs)) (λ _.
    by_test b bs (eqb b 64) _ _ (λ e. at_byte b 64 bs (λ _ xs. global_piece xs) e (global_spelled bs)) (λ _.
    by_test b bs (eqb b 34) _ _ (λ e. at_byte b 34 bs (λ _ xs. string_piece xs) e (string_spelled bs)) (λ _.
    mark_by b bs (is_mark b) name digit refl))))))

pub is_longest : (b : ℕ) (bs : List ℕ) → IsLongest b bs (piece_at b bs)
is_longest b bs = record { spelled = spelled b bs; longest = longest b bs }
