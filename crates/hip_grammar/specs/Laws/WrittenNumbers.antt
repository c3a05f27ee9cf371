-- The text of a number reads as the number.
use Rattle.std.proofs.Common.{◌≡◌, ◌⊎◌, inl, inr, ℕ, zero, suc, ◌+◌, ◌-◌, ◌*◌, ◌/◌, ◌%◌, ◌^◌, ◌≤◌, ◌<◌, Bool, true, false, eqb, leb, List, [], ◌∷◌, ◌++◌, length, length-append, refl, subst, ◌∙◌, arith, codes}
use Rattle.std.specs.Prelude.{nat_lt}
use Rattle.std.specs.List.{list_all}
use Rattle.std.specs.Fmt.{decimal}
use Rattle.std.proofs.lemmas.Fmt.{decimal_by_steps}
use Rattle.std.proofs.lemmas.Bool.{lt-ltb, ltb-false, ltb-true, cases_lt, and_parts}
use Rattle.std.proofs.Math.Nat.{mod-eq_of_lt}
use Rattle.std.proofs.lemmas.Bool.Decides.{nat_tests}
use Rattle.hip_types.specs.Widths.{bits_of}
use Rattle.hip_types.specs.Numbers.{bits, bits-value, modulus_is}
use Rattle.hip_types.specs.Laws.WidthLaws.{equal_widths}
use Rattle.hip_types.specs.declared.number.Bits.{Bits}
use Rattle.hip_types.specs.declared.number.Width.{Width}
use Rattle.hip_types.specs.declared.number.Width.TheVariants.{W1, W8, W16, W32, W64}
use Rattle.hip_tokens.specs.Bytes.{is_digit}
use Rattle.hip_tokens.specs.Tokens.{Tok, Word, Num, cut}
use Rattle.hip_tokens.specs.Longest.{is_name, are_digits}
use Rattle.hip_tokens.specs.Written.{ends_word, at_line, word_cut, digits_cut, minus_cut}
use Rattle.hip_grammar.specs.Rule.{Yes, one}
use Rattle.hip_grammar.specs.Laws.Texts.{DerivesText, token_text, digits_text}
use Rattle.hip_tree.specs.declared.constant.Const.TheVariants as consts
use Rattle.hip_grammar.specs.Words.{is_word}
use Rattle.hip_grammar.specs.Numbers.{digits_from, is_negative, magnitude, a_literal, an_int_const, a_count, is_alignment, an_alignment}
use Rattle.hip_grammar.specs.Show.{signed_text, number_text, literal_text}
use Rattle.hip_grammar.specs.Spelling.{of_width}

-- ---- digits

-- One or more decimal digits, of value n; leading zeros may be among them.
record IsNumber (n : ℕ) (ds : List ℕ) : Type 0 where
  all : list_all is_digit ds ≡ true
  value : digits_from 0 ds ≡ n
  some : 0 < length ds

digits_push : (n d : ℕ) (ds : List ℕ) → digits_from n (ds ++ d ∷ []) ≡ 10 * digits_from n ds + (d - 48)
digits_push n d [] = refl
digits_push n d (e ∷ ds) = digits_push (10 * n + (e - 48)) d ds

all_push : (p : ℕ → Bool) (d : ℕ) (ds : List ℕ) → list_all p ds ≡ true → p d ≡ true
    → list_all p (ds ++ d ∷ []) ≡ true
all_push p d [] a h = rw h refl
all_push p d (e ∷ ds) a h =
    rw ((and_parts (p e) (list_all p ds) a).0, all_push p d ds ((and_parts (p e) (list_all p ds) a).1) h) refl

is_glyph : (n : ℕ) → n < 10 → is_digit (48 + n) ≡ true
is_glyph n h = grind (arith, nat_tests)

more_digits : (n : ℕ) (ds : List ℕ) → 10 ≤ n → IsNumber (n / 10) ds
    → IsNumber n (ds ++ ((48 + n % 10) ∷ []))
more_digits n ds h p = record {
  all = all_push is_digit (48 + n % 10) ds p.all (is_glyph (n % 10) (omega arith));
  value = digits_push 0 (48 + n % 10) ds ∙ (let v = p.value in omega arith);
  some = let s = p.some in simp length-append (omega arith);
}

one_digit : (n : ℕ) → n < 10 → IsNumber n ((48 + n) ∷ [])
one_digit n h = record { all = rw (is_glyph n h) refl; value = omega arith; some = omega arith }

decimal_is : (n : ℕ) → n < 2 ^ 64 → IsNumber n (decimal n)
decimal_is = decimal_by_steps IsNumber one_digit more_digits

not_minus : (d : ℕ) → is_digit d ≡ true → eqb d 45 ≡ false
not_minus d e = grind (arith, nat_tests)

-- The digits write n without a sign; after a `-`, their magnitude is n too.
record IsPlainNumber (n : ℕ) (ds : List ℕ) : Type 0 where
  digits : are_digits ds ≡ true
  value : magnitude ds ≡ n
  unsigned : is_negative ds ≡ false
  past_minus : magnitude (45 ∷ ds) ≡ n

plain : (n : ℕ) (ds : List ℕ) → IsNumber n ds → IsPlainNumber n ds
plain n [] p = absurd (let s = p.some in omega arith)
plain n (d ∷ ds) p =
    let minus = not_minus d ((and_parts (is_digit d) (list_all is_digit ds) p.all).0) in
    let value : digits_from 0 (d ∷ ds) ≡ n = p.value in
    record { digits = p.all; value = rw (minus, value) refl; unsigned = minus; past_minus = value }

decimal_plain : (n : ℕ) → n < 2 ^ 64 → IsPlainNumber n (decimal n)
decimal_plain n h = plain n (decimal n) (decimal_is n h)

-- ---- counts and alignments

count_again : (n : ℕ) (ds : List ℕ) → n < 67108865 → IsPlainNumber n ds → a_count (Num ds) ≡ Yes n
count_again n ds lt p = rw (p.unsigned, p.value, lt-ltb n 67108865 lt) refl

pub count_text : (n : ℕ) → nat_lt n 67108865 ≡ true → DerivesText ends_word (one a_count) (decimal n) n
count_text n e =
    let lt : n < 67108865 = ltb-true n 67108865 e in
    let p = decimal_plain n (omega arith) in
    digits_text _ (decimal n) p.digits (count_again n (decimal n) lt p)

alignment_lt : (n : ℕ) → is_alignment n ≡ true → n < 2 ^ 64
alignment_lt n e = by_size (cases_lt 4096 n)
  where
    by_size : (4096 < n) ⊎ (n ≤ 4096) → n < 2 ^ 64
    by_size (inl lt) = absurd (let r : 4096 % n ≡ 4096 = mod-eq_of_lt lt in grind (arith, nat_tests))
    by_size (inr le) = omega arith

alignment_again : (n : ℕ) (ds : List ℕ) → is_alignment n ≡ true → IsPlainNumber n ds
    → an_alignment (Num ds) ≡ Yes n
alignment_again n ds e p = rw (p.unsigned, p.value, e) refl

pub alignment_text : (n : ℕ) → is_alignment n ≡ true → DerivesText ends_word (one an_alignment) (decimal n) n
alignment_text n e =
    let p = decimal_plain n (alignment_lt n e) in digits_text _ (decimal n) p.digits (alignment_again n (decimal n) e p)

-- ---- literals

-- The text is one token, a literal that stands for b.
record IsLiteralText (w : Width) (s : List ℕ) (b : Bits) : Type 0 where
  tok : Tok
  cuts : (line : ℕ) (rest : List ℕ) → ends_word rest ≡ true
      → cut line 0 (s ++ rest) ≡ at_line line tok ∷ cut line 0 rest
  value : a_literal w tok ≡ Yes b
  other : is_word (codes "zeroinitializer") tok ≡ false

word_literal : (w : Width) (s : List ℕ) (b : Bits) → is_name s ≡ true → a_literal w (Word s) ≡ Yes b
    → is_word (codes "zeroinitializer") (Word s) ≡ false → IsLiteralText w s b
word_literal w s b n v o = record {
  tok = Word s;
  cuts = λ line rest e. word_cut line s rest n e;
  value = v;
  other =
      o;
}

truth_literal : (n : ℕ) → n < 2 → IsLiteralText W1 (number_text W1 n) (bits W1 n)
truth_literal zero lt = word_literal W1 (codes "false") _ refl refl refl
truth_literal (suc zero) lt = word_literal W1 (codes "true") _ refl refl refl
truth_literal (suc (suc n)) lt = absurd (omega arith)

below_all : (w : Width) (n : ℕ) → n < 2 ^ bits_of w → n < 2 ^ 64
below_all W1 n lt = omega arith
below_all W8 n lt = omega arith
below_all W16 n lt = omega arith
below_all W32 n lt = omega arith
below_all W64 n lt = omega arith

plain_again : (w : Width) (n : ℕ) (ds : List ℕ) → n < 2 ^ bits_of w → IsPlainNumber n ds
    → a_literal w (Num ds) ≡ Yes (bits w n)
plain_again w n ds lt p = rw (p.unsigned, p.value, lt-ltb n (2 ^ bits_of w) lt) refl

minus_again : (w : Width) (n m : ℕ) (ds : List ℕ) → n < 2 ^ bits_of w → 2 ^ (bits_of w - 1) ≤ n
    → m ≡ 2 ^ bits_of w - n
    → IsPlainNumber m ds → a_literal w (Num (45 ∷ ds)) ≡ Yes (bits w n)
minus_again w n m ds lt le is p =
    let half = modulus_is w in
    let some : eqb m 0 ≡ false = grind (arith, nat_tests) in
    let small : leb m (2 ^ (bits_of w - 1)) ≡ true = grind (arith, nat_tests) in
    let back : 2 ^ bits_of w - m ≡ n = omega arith in
    rw (p.past_minus, some, small, back) refl

signed_literal : (w : Width) (n : ℕ) → n < 2 ^ bits_of w → IsLiteralText w (signed_text (bits_of w) n) (bits w n)
signed_literal w n lt = by_sign (nat_lt n (2 ^ (bits_of w - 1))) refl
  where
    by_sign : (b : Bool) → nat_lt n (2 ^ (bits_of w - 1)) ≡ b → IsLiteralText w (signed_text (bits_of w) n) (bits w n)
    by_sign true e =
        let p = decimal_plain n (below_all w n lt) in
        rw e (record {
          tok = Num (decimal n);
          cuts = λ line rest h. digits_cut line (decimal n) rest p.digits h;
          value = plain_again w n (decimal n) lt p;
          other = refl;
        })
    by_sign false e =
        let m : ℕ = 2 ^ bits_of w - n in
        let le : 2 ^ (bits_of w - 1) ≤ n = ltb-false n (2 ^ (bits_of w - 1)) e in
        let half = modulus_is w in
        let p = decimal_plain m (below_all w m (omega arith)) in
        rw e (record {
          tok = Num (45 ∷ decimal m);
          cuts = λ line rest h. minus_cut line (decimal m) rest p.digits h;
          value = minus_again w n m (decimal m) lt le refl p;
          other = refl;
        })

number_literal : (w : Width) (n : ℕ) → n < 2 ^ bits_of w → IsLiteralText w (number_text w n) (bits w n)
number_literal W1 n lt = truth_literal n lt
number_literal W8 n lt = signed_literal W8 n lt
number_literal W16 n lt = signed_literal W16 n lt
number_literal W32 n lt = signed_literal W32 n lt
number_literal W64 n lt = signed_literal W64 n lt

own_literal : (b : Bits) → IsLiteralText b.width (literal_text b) b
own_literal b = subst (IsLiteralText b.width (literal_text b)) (bits-value b) (number_literal b.width b.value b.in_range)

literal_of : (w : Width) (b : Bits) → of_width w b ≡ true → IsLiteralText w (literal_text b) b
literal_of w b e = subst (λ v. IsLiteralText v (literal_text b) b) (equal_widths b.width w e) (own_literal b)

pub literal_is : (w : Width) (b : Bits) → of_width w b ≡ true
    → DerivesText ends_word (one (a_literal w)) (literal_text b) b
literal_is w b e = let p = literal_of w b e in token_text _ p.tok p.cuts p.value

int_const_again : (w : Width) (t : Tok) (b : Bits) → a_literal w t ≡ Yes b
    → is_word (codes "zeroinitializer") t ≡ false
    → an_int_const w t ≡ Yes (consts.Int b)
int_const_again w t b v o = rw (o, v) refl

pub int_const_is : (w : Width) (b : Bits) → of_width w b ≡ true
    → DerivesText ends_word (one (an_int_const w)) (literal_text b) (consts.Int b)
int_const_is w b e = let p = literal_of w b e in token_text _ p.tok p.cuts (int_const_again w p.tok b p.value p.other)
