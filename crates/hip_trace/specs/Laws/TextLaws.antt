-- The canonical text of an entry that some text spells: it spells the entry, and is no longer than that text.
use Rattle.std.proofs.Common.{◌≡◌, ℕ, ℤ, pos, negsuc, zero, suc, ◌+◌, ◌*◌, ◌/◌, ◌%◌, ◌^◌, ◌<◌, ◌≤◌, Bool, true, false, ◌||◌, ◌&&◌, List, [], ◌∷◌, ◌++◌, length, drop, Option, Some, None, Ok, Err, Result, nat_lt, slice_index, rules, refl, sym, ap, subst, ◌∙◌, arith, append_assoc, length-append, FitsSigned, w64}
use Rattle.std.specs.Prelude.{if◌then◌else◌, nat_eq, cond, codes, decimal, option_map, option_and_then, ◌==◌, neg_ℤ}
use Rattle.std.specs.Char.{digit_value}
use Rattle.std.specs.Fmt.{digits, digits_onto, digit_glyph, signed_decimal}
use Rattle.std.specs.List.{list_any, onto_first, starts_with}
use Rattle.std.specs.Result.{result_ok}
use Rattle.std.specs.Str.{bytes_eq}
use Rattle.std.specs.Str.Parse.{AllDigits, IsNumeral, digits_value}
use native.Mathlib.Nat.{pow-zero}
use Rattle.std.proofs.Math.Nat.{pow-suc}
use Rattle.std.proofs.lemmas.Bool.{eqb-true, ltb-true, le-ltb, ltb-false, and_parts}
use Rattle.std.proofs.lemmas.Slice.Eq.{bytes_eq-Decides}
use Rattle.std.specs.Cmp.Derive.{both_true}
use Rattle.std.proofs.lemmas.List.{append-nil, length-drop}
use Rattle.std.proofs.lemmas.Nat.{div_below}
use Rattle.std.proofs.lemmas.Int.Digits.{digits_value-lt}
use Rattle.hex.specs.Hex.{decode_sized, encode_lower, encode_with, lower_digits}
use Rattle.hex.proofs.HexLemmas.{decode_of-encode_lower, decode_of-ok, decode_sized-ok, decode_sized-twice, length-encode_with}
use Rattle.hex.specs.declared.error.FromHexError.{FromHexError}
use Rattle.hip_num.specs.Texts.{hexadecimal, has_minus, signed_digits, signed_value}
use Rattle.hip_num.specs.Laws.TextLaws.{IsNumber, number-sound, number-whole, digits-sound, digits-whole, decimal-value, decimal-number, hexadecimal-value, hexadecimal-number, signed_decimal-value, signed_decimal-number}
use Rattle.hip_tokens.specs.Bytes.{byte}
use Rattle.hip_num.specs.Texts.{decimal_of, hex_of, is_number, number_of, in_range, is_signed, signed_of, are_digits}
use Rattle.hip_trace.specs.Entries.{fields, one_field, two_fields, three_fields, two_numbers, start, register, input, line_bytes, image_at, image, is_store_size, sized_store, store, are_lines, some_lines, flush, persist, assert, stop, trap_text, trap_of, trap, alone, entry_by, entry_of}
use Rattle.hip_trace.specs.Texts.{with_fields, word_of, fields_of, text_of}
use Rattle.hip_trace.specs.declared.entry.Entry.{Entry}
use Rattle.hip_trace.specs.declared.entry.Entry.TheVariants.{Start, Register, Input, Image, Store, Flush, Fence, Persist, Assert, Stop, Trap, Cut}
use Rattle.hip_trace.specs.declared.entry.TrapWord.{TrapWord}
use Rattle.hip_trace.specs.declared.entry.TrapWord.TheVariants as traps
use Rattle.hip_trace.specs.Laws.FieldLaws.{some_field}

-- ---- fields and lengths

-- The byte that separates the fields of an entry's text.
abbrev pub is_semicolon : ℕ → Bool
is_semicolon b = b == byte ";"

-- The text has no semicolon, so it is one field. An empty text is one field too.
abbrev pub IsPlain : List ℕ → Type 0
IsPlain f = list_any is_semicolon f ≡ false

-- None of these fields has a semicolon.
abbrev pub ArePlain : List (List ℕ) → Type 0
ArePlain [] = Unit {0}
ArePlain (f ∷ fs) = IsPlain f × ArePlain fs

plain_parts : (x : ℕ) (xs : List ℕ) → IsPlain (x ∷ xs) → (is_semicolon x ≡ false) × IsPlain xs
plain_parts x xs e = by (is_semicolon x) (list_any is_semicolon xs) e
  where
    by : (a b : Bool) → (a || b) ≡ false → (a ≡ false) × (b ≡ false)
    by true b e = absurd (let z : ⊥ = cc in z)
    by false b e = (refl, e)

pub fields_plain : (f : List ℕ) → IsPlain f → fields f ≡ f ∷ []
fields_plain [] e = refl
fields_plain (x ∷ xs) e = let h = plain_parts x xs e in rw (h.0, fields_plain xs h.1) refl

onto_push : (x : ℕ) (ps : List (List ℕ)) (f : List ℕ) → 0 < length ps
    → onto_first x (ps ++ f ∷ []) ≡ onto_first x ps ++ f ∷ []
onto_push x [] f lt = absurd (omega arith)
onto_push x (p ∷ ps) f lt = refl

has_field : (xs : List ℕ) → 0 < length (fields xs)
has_field xs = let h = some_field is_semicolon xs in let e = ap (λ (ps : List (List ℕ)). length ps) h.2 in
    omega (arith, e)

fields_push : (xs f : List ℕ) → IsPlain f → fields (xs ++ byte ";" ∷ f) ≡ fields xs ++ f ∷ []
fields_push [] f e = ap (λ (ps : List (List ℕ)). [] ∷ ps) (fields_plain f e)
fields_push (x ∷ xs) f e = go (is_semicolon x) (fields_push xs f e)
  where
    go : (b : Bool) → fields (xs ++ byte ";" ∷ f) ≡ fields xs ++ f ∷ []
        → cond b ([] ∷ fields (xs ++ byte ";" ∷ f)) (onto_first x (fields (xs ++ byte ";" ∷ f)))
        ≡ cond b ([] ∷ fields xs) (onto_first x (fields xs)) ++ f ∷ []
    go true ih = ap (λ (ps : List (List ℕ)). [] ∷ ps) ih
    go false ih = ap (onto_first x) ih ∙ onto_push x (fields xs) f (has_field xs)

pub fields_with : (w : List ℕ) (fs : List (List ℕ)) → ArePlain fs → fields (with_fields w fs) ≡ fields w ++ fs
fields_with w [] h = sym (append-nil (fields w))
fields_with w (f ∷ fs) h = fields_with (w ++ byte ";" ∷ f) fs h.1
    ∙ ap (λ (ps : List (List ℕ)). ps ++ fs) (fields_push w f h.0) ∙ append_assoc (fields w) (f ∷ []) fs

-- The total length of fields, with one semicolon for each.
abbrev pub total : List (List ℕ) → ℕ
total [] = 0
total (f ∷ fs) = length f + 1 + total fs

pub length-with : (w : List ℕ) (fs : List (List ℕ)) → length (with_fields w fs) ≡ length w + total fs
length-with w [] = omega arith
length-with w (f ∷ fs) = let a = length-with (w ++ byte ";" ∷ f) fs in let b = length-append w (byte ";" ∷ f) in
    omega (arith, a, b)

total_onto : (x : ℕ) (ps : List (List ℕ)) → 0 < length ps → total (onto_first x ps) ≡ total ps + 1
total_onto x [] lt = absurd (omega arith)
total_onto x (p ∷ ps) lt = omega arith

length-fields : (xs : List ℕ) → total (fields xs) ≡ length xs + 1
length-fields [] = refl
length-fields (x ∷ xs) = go (is_semicolon x) (length-fields xs)
  where
    go : (b : Bool) → total (fields xs) ≡ length xs + 1
        → total (cond b ([] ∷ fields xs) (onto_first x (fields xs))) ≡ length (x ∷ xs) + 1
    go true ih = omega (arith, ih)
    go false ih = let b = total_onto x (fields xs) (has_field xs) in omega (arith, ih, b)

-- ---- numbers

-- The canonical text reads as the same value as the text, is no longer than the text, and has no semicolon.
pub record Again (A : Type 0) (read : List ℕ → Option A) (text canonical : List ℕ) (v : A) : Type 0 where
  pub again : read canonical ≡ Some v
  pub short : length canonical ≤ length text
  pub plain : IsPlain canonical

onto_length : (k base n j : ℕ) (acc : List ℕ) → 2 ≤ base → n < base ^ suc j
    → length (digits_onto k base false n acc) ≤ length acc + suc j
onto_length zero base n j acc low lt = omega arith
onto_length (suc k) base n j acc low lt =
    go (n / base == 0) refl j lt (λ i room.
    onto_length k base (n / base) i (digit_glyph false (n % base) ∷ acc) low room)
  where
    go : (b : Bool) → (n / base == 0) ≡ b → (i : ℕ) → n < base ^ suc i
        → ((m : ℕ) → n / base < base ^ suc m
        → length (digits_onto k base false (n / base) (digit_glyph false (n % base) ∷ acc))
        ≤ length (digit_glyph false (n % base) ∷ acc) + suc m)
        → length (if b then digit_glyph false (n % base)
        ∷ acc else digits_onto k base false (n / base) (digit_glyph false (n % base) ∷ acc)) ≤ length acc + suc i
    go true e i less ih = omega arith
    go false e zero less ih =
        let one : n < 1 * base = subst (λ (x : ℕ). n < x)
        (pow-suc base 0 ∙ ap (λ (x : ℕ). x * base) (pow-zero base)) less in
        let none = div_below n base 1 (omega arith) one in
        let zeroed : n / base ≡ 0 = omega (arith, none) in
        let tested : (n / base == 0) ≡ true = rw zeroed refl in
        absurd (let z : ⊥ = cc in z)
    go false e (suc i) less ih =
        let room : n < base ^ suc i * base = subst (λ (x : ℕ). n < x) (pow-suc base (suc i)) less in
        let h = ih i (div_below n base (base ^ suc i) (omega arith) room) in
        omega (arith, h)

pub digits_length : (base n j : ℕ) → 2 ≤ base → n < base ^ suc j → length (digits base false n) ≤ suc j
unfolding digits
digits_length base n j low lt = let h = onto_length 64 base n j [] low lt in omega (arith, h)

digits_short : (base n : ℕ) (ds : List ℕ) → 2 ≤ base → IsNumeral base ds → digits_value base ds ≡ n
    → length (digits base false n) ≤ length ds
digits_short base n [] low h e = absurd (omega (arith, h.0))
digits_short base n (d ∷ ds) low h e =
    digits_length base n (length ds) low (subst (λ (x : ℕ). x < base ^ length (d ∷ ds)) e
    (digits_value-lt base (d ∷ ds) h.1))

pub digits_plain : (base : ℕ) (ds : List ℕ) → base ≤ 16 → AllDigits base ds → IsPlain ds
digits_plain base [] high h = refl
digits_plain base (d ∷ ds) high h = rw (other (is_semicolon d) refl) (digits_plain base ds high h.1)
  where
    other : (b : Bool) → is_semicolon d ≡ b → is_semicolon d ≡ false
    other false k = k
    other true k =
        let same : d ≡ 59 = eqb-true d 59 k in
        let great : digit_value d ≡ 36 = ap digit_value same in
        absurd (omega (arith, great, h.0, high))

-- The number that is read is the value of one or more digits.
number_in : (base : ℕ) (text : List ℕ) (n : ℕ) → number_of base text ≡ Some n → IsNumber base text
    × (digits_value base text ≡ n)
number_in base text n e = go (is_number base text) refl e
  where
    go : (b : Bool) → is_number base text ≡ b → (if b then Some (digits_value base text) else None) ≡ Some n
        → IsNumber base text × (digits_value base text ≡ n)
    go false k e = absurd (let z : ⊥ = cc in z)
    go true k e = (number-sound base text k, cc)

decimal_again : (text : List ℕ) (n : ℕ) → decimal_of text ≡ Some n → Again ℕ decimal_of text (decimal n) n
decimal_again text n e =
    let number = number_in 10 text n e in
    let small : n < 2 ^ 64 = subst (λ (x : ℕ). x < 2 ^ 64) number.1 number.0.1 in
    let canonical = decimal-number n small in
    record {
      again = rw (number-whole 10 (decimal n) canonical) (ap (λ (x : ℕ). Some x) (decimal-value n small));
      short = digits_short 10 n text (omega arith) number.0.0 number.1;
      plain = digits_plain 10 (decimal n) (omega arith) canonical.0.1;
    }

hex_again : (text : List ℕ) (n : ℕ) → hex_of text ≡ Some n → Again ℕ hex_of text (hexadecimal n) n
hex_again text n e = go (starts_with nat_eq text (codes "0x")) e
  where
    go : (b : Bool) → (if b then number_of 16 (drop 2 text) else None) ≡ Some n
        → Again ℕ hex_of text (hexadecimal n) n
    go false e = absurd (let z : ⊥ = cc in z)
    go true e =
        let number = number_in 16 (drop 2 text) n e in
        let small : n < 2 ^ 64 = subst (λ (x : ℕ). x < 2 ^ 64) number.1 number.0.1 in
        let canonical = hexadecimal-number n small in
        let shorter = digits_short 16 n (drop 2 text) (omega arith) number.0.0 number.1 in
        let some = number.0.0.0 in
        let len = length-drop 2 text in
        record {
          again = rw (number-whole 16 (digits 16 false n) canonical)
              (ap (λ (x : ℕ). Some x) (hexadecimal-value n small));
          short = omega (arith, shorter, some, len);
          plain = digits_plain 16 (digits 16 false n) (omega arith) canonical.0.1;
        }

-- ---- numbers with a sign

short_by : (minus : Bool) (v : ℕ) (z : ℤ) → (if minus then neg_ℤ (pos v) else pos v) ≡ z
    → length (signed_decimal z) ≤ length (decimal v) + (if minus then 1 else 0)
short_by false v z e = subst (λ (y : ℤ). length (signed_decimal y) ≤ length (decimal v) + 0) e (omega arith)
short_by true zero z e = subst (λ (y : ℤ). length (signed_decimal y) ≤ length (decimal 0) + 1) e (omega arith)
short_by true (suc n) z e = subst (λ (y : ℤ). length (signed_decimal y) ≤ length (decimal (suc n)) + 1) e
    (omega arith)

minus_length : (text : List ℕ) (minus : Bool) → has_minus text ≡ minus
    → length (if minus then drop 1 text else text) + (if minus then 1 else 0) ≤ length text
minus_length text false e = omega arith
minus_length [] true e = absurd (let z : ⊥ = cc in z)
minus_length (c ∷ cs) true e = omega arith

pub signed_plain : (z : ℤ) → FitsSigned w64 z → IsPlain (signed_decimal z)
signed_plain (pos n) h = digits_plain 10 (decimal n) (omega arith) (decimal-number n (omega arith)).0.1
signed_plain (negsuc n) h = digits_plain 10 (decimal (suc n)) (omega arith) (decimal-number (suc n) (omega arith)).0.1

pub range_fits : (limit : ℕ) (z : ℤ) → limit ≤ 2 ^ 63 → in_range limit z ≡ true → FitsSigned w64 z
range_fits limit (pos n) low e = let h = ltb-true _ _ e in let k : n < 2 ^ 63 = omega (arith, h, low) in
    search (rules, k)
range_fits limit (negsuc n) low e = let h = ltb-true _ _ e in let k : n < 2 ^ 63 = omega (arith, h, low) in
    search (rules, k)

signed_again : (limit : ℕ) (text : List ℕ) (z : ℤ) → limit ≤ 2 ^ 63 → signed_of limit text ≡ Some z
    → Again ℤ (signed_of limit) text (signed_decimal z) z
signed_again limit text z low e = go (is_signed limit text) refl e
  where
    go : (b : Bool) → is_signed limit text ≡ b → (if b then Some (signed_value text) else None) ≡ Some z
        → Again ℤ (signed_of limit) text (signed_decimal z) z
    go false k e = absurd (let y : ⊥ = cc in y)
    go true k e =
        let both = and_parts (are_digits 10 (signed_digits text)) (in_range limit (signed_value text)) k in
        let numeral = digits-sound 10 (signed_digits text) both.0 in
        let same : signed_value text ≡ z = cc in
        let range : in_range limit z ≡ true = subst (λ (y : ℤ). in_range limit y ≡ true) same both.1 in
        let fits = range_fits limit z low range in
        let number = signed_decimal-number z fits in
        let value = signed_decimal-value z fits in
        let tested : is_signed limit (signed_decimal z) ≡ true =
        both_true (digits-whole 10 (signed_digits (signed_decimal z)) number.0)
        (subst (λ (y : ℤ). in_range limit y ≡ true) (sym value) range) in
        let first = short_by (has_minus text) (digits_value 10 (signed_digits text)) z same in
        let second = digits_short 10 (digits_value 10 (signed_digits text)) (signed_digits text)
        (omega arith) numeral refl in
        let third = minus_length text (has_minus text) refl in
        record {
          again = ap (λ (b : Bool). if b then Some (signed_value (signed_decimal z)) else None) tested
              ∙ ap (λ (y : ℤ). Some y) value;
          short = omega (arith, first, second, third);
          plain = signed_plain z fits;
        }

-- ---- the bytes of a line

none_at : (xs : List ℕ) (k : ℕ) → IsPlain xs → is_semicolon (slice_index xs k) ≡ false
none_at [] k e = refl
none_at (x ∷ xs) zero e = (plain_parts x xs e).0
none_at (x ∷ xs) (suc k) e = none_at xs k (plain_parts x xs e).1

pub encoded_plain : (bytes : List ℕ) → IsPlain (encode_lower bytes)
unfolding encode_with
encoded_plain [] = refl
encoded_plain (b ∷ bs) = rw (none_at lower_digits (b / 16) refl, none_at lower_digits (b % 16) refl)
    (encoded_plain bs)

pub ok_some : (r : Result (List ℕ) FromHexError) (bytes : List ℕ) → result_ok r ≡ Some bytes → r ≡ Ok bytes
ok_some (Ok x) bytes e = let k : x ≡ bytes = cc in ap (λ (y : List ℕ). Ok y) k
ok_some (Err x) bytes e = absurd (let z : ⊥ = cc in z)

bytes_again : (text bytes : List ℕ) → line_bytes text ≡ Some bytes
    → Again (List ℕ) line_bytes text (encode_lower bytes) bytes
bytes_again text bytes e =
    let sized = ok_some (decode_sized text 64) bytes e in
    let len = decode_sized-ok text 64 bytes sized in
    let ok = decode_of-ok text bytes (sym (decode_sized-twice text 64 len) ∙ sized) in
    let first = ok.2 in
    let second = length-encode_with lower_digits bytes in
    record {
      again = ap (λ (r : Result (List ℕ) FromHexError). result_ok r)
          (decode_sized-twice (encode_lower bytes) 64 (omega (arith, len, first, second))
          ∙ decode_of-encode_lower bytes ok.3);
      short = omega (arith, first, second);
      plain = encoded_plain bytes;
    }

-- ---- words of traps

pub either : {A P : Type 0} (b : Bool) (x y : Option A) (v : A) → (b ≡ true → x ≡ Some v → P)
    → (y ≡ Some v → P) → (if b then x else y) ≡ Some v → P
either true x y v f g e = f refl e
either false x y v f g e = g e

kind_of : (text : List ℕ) (k kind : TrapWord) → bytes_eq text (trap_text k) ≡ true → Some k ≡ Some kind
    → text ≡ trap_text kind
kind_of text k kind e s = let same : k ≡ kind = cc in (bytes_eq-Decides text (trap_text k)).0 e ∙ ap trap_text same

trap_text-of : (text : List ℕ) (kind : TrapWord) → trap_of text ≡ Some kind → text ≡ trap_text kind
unfolding trap_of
trap_text-of text kind =
    either _ _ _ kind (kind_of text traps.DivZero kind)
    (either _ _ _ kind (kind_of text traps.DivOverflow kind)
    (either _ _ _ kind (kind_of text traps.ShiftRange kind)
    (either _ _ _ kind (kind_of text traps.Address kind)
    (either _ _ _ kind (kind_of text traps.Misaligned kind)
    (either _ _ _ kind (kind_of text traps.Stack kind)
    (either _ _ _ kind (kind_of text traps.Depth kind)
    (either _ _ _ kind (kind_of text traps.InputEnd kind)
    (either _ _ _ kind (kind_of text traps.Unreachable kind)
    (λ e. absurd (let z : ⊥ = cc in z))))))))))

pub trap_word : (kind : TrapWord) → (trap_of (trap_text kind) ≡ Some kind) × IsPlain (trap_text kind)
unfolding trap_of
trap_word traps.DivZero = (refl, refl)
trap_word traps.DivOverflow = (refl, refl)
trap_word traps.ShiftRange = (refl, refl)
trap_word traps.Address = (refl, refl)
trap_word traps.Misaligned = (refl, refl)
trap_word traps.Stack = (refl, refl)
trap_word traps.Depth = (refl, refl)
trap_word traps.InputEnd = (refl, refl)
trap_word traps.Unreachable = (refl, refl)

pub trap_short : (kind : TrapWord) → length (trap_text kind) ≤ 16
trap_short traps.DivZero = omega arith
trap_short traps.DivOverflow = omega arith
trap_short traps.ShiftRange = omega arith
trap_short traps.Address = omega arith
trap_short traps.Misaligned = omega arith
trap_short traps.Stack = omega arith
trap_short traps.Depth = omega arith
trap_short traps.InputEnd = omega arith
trap_short traps.Unreachable = omega arith

-- ---- entries

pub then_some : {A B : Type 0} (o : Option A) (f : A → Option B) (y : B) → option_and_then f o ≡ Some y
    → (x : A) × (o ≡ Some x) × (f x ≡ Some y)
then_some None f y e = absurd (let z : ⊥ = cc in z)
then_some (Some x) f y e = (x, refl, e)

pub map_some : {A B : Type 0} (o : Option A) (f : A → B) (y : B) → option_map f o ≡ Some y → (x : A)
    × (o ≡ Some x) × (f x ≡ y)
map_some None f y e = absurd (let z : ⊥ = cc in z)
map_some (Some x) f y e = let k : f x ≡ y = cc in (x, refl, k)

one_is : (fs : List (List ℕ)) (a : List ℕ) → one_field fs ≡ Some a → fs ≡ a ∷ []
one_is [] a e = absurd (let z : ⊥ = cc in z)
one_is (x ∷ []) a e = let k : x ≡ a = cc in ap (λ (y : List ℕ). y ∷ []) k
one_is (x ∷ y ∷ ys) a e = absurd (let z : ⊥ = cc in z)

two_length : (fs : List (List ℕ)) (f : List ℕ × List ℕ) → two_fields fs ≡ Some f
    → total fs ≡ length f.0 + length f.1 + 2
two_length [] f e = absurd (let z : ⊥ = cc in z)
two_length (x ∷ []) f e = absurd (let z : ⊥ = cc in z)
two_length (x ∷ y ∷ []) f e = let k : (x, y) ≡ f = cc in
    subst (λ (g : List ℕ × List ℕ). total (x ∷ y ∷ []) ≡ length g.0 + length g.1 + 2) k (omega arith)
two_length (x ∷ y ∷ z ∷ zs) f e = absurd (let w : ⊥ = cc in w)

three_length : (fs : List (List ℕ)) (f : List ℕ × List ℕ × List ℕ) → three_fields fs ≡ Some f
    → total fs ≡ length f.0 + length f.1 + length f.2 + 3
three_length [] f e = absurd (let z : ⊥ = cc in z)
three_length (x ∷ []) f e = absurd (let z : ⊥ = cc in z)
three_length (x ∷ y ∷ []) f e = absurd (let z : ⊥ = cc in z)
three_length (x ∷ y ∷ z ∷ []) f e = let k : (x, y, z) ≡ f = cc in
    subst (λ (g : List ℕ × List ℕ × List ℕ). total (x ∷ y ∷ z ∷ []) ≡ length g.0 + length g.1
    + length g.2 + 3) k (omega arith)
three_length (x ∷ y ∷ z ∷ w ∷ ws) f e = absurd (let v : ⊥ = cc in v)

-- The canonical texts of two numbers read as these numbers, are no longer than the fields that spelled them, and have
-- no semicolon.
record NumbersAgain (fs : List (List ℕ)) (n : ℕ × ℕ) : Type 0 where
  again : two_numbers (hexadecimal n.0 ∷ hexadecimal n.1 ∷ []) ≡ Some n
  short : length (hexadecimal n.0) + length (hexadecimal n.1) + 2 ≤ total fs
  plain : ArePlain (hexadecimal n.0 ∷ hexadecimal n.1 ∷ [])

numbers_again : (fs : List (List ℕ)) (n : ℕ × ℕ) → two_numbers fs ≡ Some n → NumbersAgain fs n
unfolding two_numbers
numbers_again fs n e =
    let f = then_some (two_fields fs) _ n e in
    let a = then_some (hex_of f.0.0) _ n f.2 in
    let b = map_some (hex_of f.0.1) _ n a.2 in
    let len = two_length fs f.0 f.1 in
    let first = hex_again f.0.0 a.0 a.1 in
    let second = hex_again f.0.1 b.0 b.1 in
    let shorts = first.short in
    let shorter = second.short in
    subst (NumbersAgain fs) b.2 (record {
      again = ap (option_and_then (λ x. option_map (λ y. (x, y)) (hex_of (hexadecimal b.0)))) first.again
          ∙ ap (option_map (λ y. (a.0, y))) second.again;
      short = omega (arith, len, shorts, shorter);
      plain = (first.plain, (second.plain, tt));
    })

-- The canonical fields of an entry, after its word, read as the entry. They are no longer than the fields that spelled
-- it, and have no semicolon.
record EntryAgain (word : List ℕ) (fs : List (List ℕ)) (e : Entry) : Type 0 where
  named : word_of e ≡ word
  again : entry_by (word_of e ∷ fields_of e) ≡ Some e
  short : total (fields_of e) ≤ total fs
  plain : ArePlain (fields_of e)

start_again : (fs : List (List ℕ)) (e : Entry) → start fs ≡ Some e → EntryAgain (codes "START") fs e
unfolding start entry_by
start_again fs e k =
    let f = then_some (one_field fs) _ e k in
    let n = map_some (decimal_of f.0) _ e f.2 in
    let d = decimal_again f.0 n.0 n.1 in
    let len = ap total (one_is fs f.0 f.1) in
    let shorter = d.short in
    subst (EntryAgain (codes "START") fs) n.2
    (record {
      named = refl;
      again = ap (option_map (λ limit. Start limit)) d.again;
      short =
          omega (arith, len, shorter);
      plain = (d.plain, tt);
    })

input_again : (fs : List (List ℕ)) (e : Entry) → input fs ≡ Some e → EntryAgain (codes "INPUT") fs e
unfolding input entry_by
input_again fs e k =
    let f = then_some (one_field fs) _ e k in
    let n = map_some (signed_of (2 ^ 63) f.0) _ e f.2 in
    let d = signed_again (2 ^ 63) f.0 n.0 (omega arith) n.1 in
    let len = ap total (one_is fs f.0 f.1) in
    let shorter = d.short in
    subst (EntryAgain (codes "INPUT") fs) n.2
    (record {
      named = refl;
      again = ap (option_map (λ number. Input number)) d.again;
      short =
          omega (arith, len, shorter);
      plain = (d.plain, tt);
    })

stop_again : (fs : List (List ℕ)) (e : Entry) → stop fs ≡ Some e → EntryAgain (codes "STOP") fs e
unfolding stop entry_by
stop_again fs e k =
    let f = then_some (one_field fs) _ e k in
    let n = map_some (signed_of (2 ^ 31) f.0) _ e f.2 in
    let d = signed_again (2 ^ 31) f.0 n.0 (omega arith) n.1 in
    let len = ap total (one_is fs f.0 f.1) in
    let shorter = d.short in
    subst (EntryAgain (codes "STOP") fs) n.2
    (record {
      named = refl;
      again = ap (option_map (λ code. Stop code)) d.again;
      short =
          omega (arith, len, shorter);
      plain = (d.plain, tt);
    })

trap_again : (fs : List (List ℕ)) (e : Entry) → trap fs ≡ Some e → EntryAgain (codes "TRAP") fs e
unfolding trap entry_by
trap_again fs e k =
    let f = then_some (one_field fs) _ e k in
    let n = map_some (trap_of f.0) _ e f.2 in
    let w = trap_word n.0 in
    let len = ap total (one_is fs f.0 f.1) in
    let same = ap (λ (x : List ℕ). length x) (trap_text-of f.0 n.0 n.1) in
    subst (EntryAgain (codes "TRAP") fs) n.2
    (record {
      named = refl;
      again = ap (option_map (λ kind. Trap kind)) w.0;
      short = omega (arith, len, same);
      plain = (w.1, tt);
    })

register_again : (fs : List (List ℕ)) (e : Entry) → register fs ≡ Some e → EntryAgain (codes "REGISTER") fs e
unfolding register entry_by
register_again fs e k =
    let n = map_some (two_numbers fs) _ e k in
    let h = numbers_again fs n.0 n.1 in
    let shorter = h.short in
    subst (EntryAgain (codes "REGISTER") fs) n.2
    (record {
      named = refl;
      again = ap (option_map (λ x. Register x.0 x.1)) h.again;
      short =
          omega (arith, shorter);
      plain = h.plain;
    })

assert_again : (fs : List (List ℕ)) (e : Entry) → assert fs ≡ Some e → EntryAgain (codes "ASSERT") fs e
unfolding assert entry_by
assert_again fs e k =
    let n = map_some (two_numbers fs) _ e k in
    let h = numbers_again fs n.0 n.1 in
    let shorter = h.short in
    subst (EntryAgain (codes "ASSERT") fs) n.2
    (record {
      named = refl;
      again = ap (option_map (λ x. Assert x.0 x.1)) h.again;
      short = omega (arith, shorter);
      plain = h.plain;
    })

pub lines_same : (m n : ℕ × ℕ) → some_lines m ≡ Some n → m ≡ n
lines_same m n e = go (are_lines m.0 m.1) e
  where
    go : (b : Bool) → (if b then Some m else None) ≡ Some n → m ≡ n
    go true k = cc
    go false k = absurd (let z : ⊥ = cc in z)

flush_again : (fs : List (List ℕ)) (e : Entry) → flush fs ≡ Some e → EntryAgain (codes "FLUSH") fs e
unfolding flush entry_by
flush_again fs e k =
    let n = map_some (option_and_then some_lines (two_numbers fs)) _ e k in
    let m = then_some (two_numbers fs) some_lines n.0 n.1 in
    let same = lines_same m.0 n.0 m.2 in
    let h = numbers_again fs n.0 (m.1 ∙ ap (λ (x : ℕ × ℕ). Some x) same) in
    let lines = ap some_lines (sym same) ∙ m.2 in
    let shorter = h.short in
    subst (EntryAgain (codes "FLUSH") fs) n.2
    (record {
      named = refl;
      again = ap (λ (o : Option (ℕ × ℕ)). option_map (λ x. Flush x.0 x.1)
          (option_and_then some_lines o)) h.again ∙ ap (option_map (λ x. Flush x.0 x.1)) lines;
      short =
          omega (arith, shorter);
      plain = h.plain;
    })

persist_again : (fs : List (List ℕ)) (e : Entry) → persist fs ≡ Some e → EntryAgain (codes "PERSIST") fs e
unfolding persist entry_by
persist_again fs e k =
    let n = map_some (option_and_then some_lines (two_numbers fs)) _ e k in
    let m = then_some (two_numbers fs) some_lines n.0 n.1 in
    let same = lines_same m.0 n.0 m.2 in
    let h = numbers_again fs n.0 (m.1 ∙ ap (λ (x : ℕ × ℕ). Some x) same) in
    let lines = ap some_lines (sym same) ∙ m.2 in
    let shorter = h.short in
    subst (EntryAgain (codes "PERSIST") fs) n.2
    (record {
      named = refl;
      again = ap (λ (o : Option (ℕ × ℕ)). option_map (λ x. Persist x.0 x.1)
          (option_and_then some_lines o)) h.again ∙ ap (option_map (λ x. Persist x.0 x.1)) lines;
      short =
          omega (arith, shorter);
      plain = h.plain;
    })

pub image_same : (addr : ℕ) (bytes : Option (List ℕ)) (e : Entry) → image_at addr bytes ≡ Some e
    → (bs : List ℕ) × (bytes ≡ Some bs) × (Image addr bs ≡ e)
image_same addr bytes e k = go (addr % 64 == 0) k
  where
    go : (b : Bool) → (if b then option_map (λ bs. Image addr bs) bytes else None) ≡ Some e → (bs : List ℕ)
        × (bytes ≡ Some bs) × (Image addr bs ≡ e)
    go true h = map_some bytes _ e h
    go false h = absurd (let z : ⊥ = cc in z)

image_again : (fs : List (List ℕ)) (e : Entry) → image fs ≡ Some e → EntryAgain (codes "IMAGE") fs e
unfolding image entry_by
image_again fs e k =
    let f = then_some (two_fields fs) _ e k in
    let a = then_some (hex_of f.0.0) _ e f.2 in
    let b = image_same a.0 (line_bytes f.0.1) e a.2 in
    let first = hex_again f.0.0 a.0 a.1 in
    let second = bytes_again f.0.1 b.0 b.1 in
    let len = two_length fs f.0 f.1 in
    let shorts = first.short in
    let shorter = second.short in
    let there : image_at a.0 (Some b.0) ≡ Some (Image a.0 b.0) = ap (image_at a.0) (sym b.1) ∙ a.2
    ∙ ap (λ (x : Entry). Some x) (sym b.2) in
    subst (EntryAgain (codes "IMAGE") fs) b.2 (record {
      named = refl;
      again = ap (option_and_then (λ addr. image_at addr (line_bytes (encode_lower b.0)))) first.again
          ∙ ap (image_at a.0) second.again ∙ there;
      short = omega (arith, len, shorts, shorter);
      plain = (first.plain, (second.plain, tt));
    })

pub sized_same : (addr value size : ℕ) (e : Entry) → sized_store addr value size ≡ Some e
    → Store addr value size ≡ e
sized_same addr value size e k = go (is_store_size size && nat_lt value (2 ^ (8 * size))) k
  where
    go : (b : Bool) → (if b then Some (Store addr value size) else None) ≡ Some e → Store addr value size ≡ e
    go true h = cc
    go false h = absurd (let z : ⊥ = cc in z)

store_again : (fs : List (List ℕ)) (e : Entry) → store fs ≡ Some e → EntryAgain (codes "STORE") fs e
unfolding store entry_by
store_again fs e k =
    let f = then_some (three_fields fs) _ e k in
    let a = then_some (hex_of f.0.0) _ e f.2 in
    let v = then_some (hex_of f.0.1) _ e a.2 in
    let s = then_some (hex_of f.0.2) _ e v.2 in
    let same = sized_same a.0 v.0 s.0 e s.2 in
    let first = hex_again f.0.0 a.0 a.1 in
    let second = hex_again f.0.1 v.0 v.1 in
    let third = hex_again f.0.2 s.0 s.1 in
    let len = three_length fs f.0 f.1 in
    let shorts = first.short in
    let shorter = second.short in
    let shortest = third.short in
    subst (EntryAgain (codes "STORE") fs) same (record {
      named = refl;
      again = ap (option_and_then (λ addr. option_and_then
          (λ value. option_and_then (λ size. sized_store addr value size) (hex_of (hexadecimal s.0)))
          (hex_of (hexadecimal v.0)))) first.again
          ∙ ap (option_and_then (λ value. option_and_then (λ size. sized_store a.0 value size)
          (hex_of (hexadecimal s.0)))) second.again
          ∙ ap (option_and_then (λ size. sized_store a.0 v.0 size)) third.again ∙ s.2
          ∙ ap (λ (x : Entry). Some x) (sym same);
      short = omega (arith, len, shorts, shorter, shortest);
      plain = (first.plain, (second.plain, (third.plain, tt)));
    })

pub alone_same : (e : Entry) (fs : List (List ℕ)) (x : Entry) → alone e fs ≡ Some x → e ≡ x
alone_same e [] x k = cc
alone_same e (f ∷ fs) x k = absurd (let z : ⊥ = cc in z)

fence_again : (fs : List (List ℕ)) (e : Entry) → alone Fence fs ≡ Some e → EntryAgain (codes "FENCE") fs e
unfolding entry_by
fence_again fs e k = subst (EntryAgain (codes "FENCE") fs) (alone_same Fence fs e k)
    (record { named = refl; again = refl; short = omega arith; plain = tt })

cut_again : (fs : List (List ℕ)) (e : Entry) → alone Cut fs ≡ Some e → EntryAgain (codes "CUT") fs e
unfolding entry_by
cut_again fs e k = subst (EntryAgain (codes "CUT") fs) (alone_same Cut fs e k)
    (record { named = refl; again = refl; short = omega arith; plain = tt })

worded : (word name : List ℕ) (fs : List (List ℕ)) (e : Entry) → bytes_eq word name ≡ true
    → EntryAgain name fs e → EntryAgain word fs e
worded word name fs e k h = subst (λ (w : List ℕ). EntryAgain w fs e) (sym ((bytes_eq-Decides word name).0 k)) h

entry_again : (word : List ℕ) (fs : List (List ℕ)) (e : Entry) → entry_by (word ∷ fs) ≡ Some e
    → EntryAgain word fs e
unfolding entry_by
entry_again word fs e =
    either _ _ _ e (λ t k. worded word (codes "STORE") fs e t (store_again fs e k))
    (either _ _ _ e (λ t k. worded word (codes "FLUSH") fs e t (flush_again fs e k))
    (either _ _ _ e (λ t k. worded word (codes "FENCE") fs e t (fence_again fs e k))
    (either _ _ _ e (λ t k. worded word (codes "PERSIST") fs e t (persist_again fs e k))
    (either _ _ _ e (λ t k. worded word (codes "ASSERT") fs e t (assert_again fs e k))
    (either _ _ _ e (λ t k. worded word (codes "START") fs e t (start_again fs e k))
    (either _ _ _ e (λ t k. worded word (codes "REGISTER") fs e t (register_again fs e k))
    (either _ _ _ e (λ t k. worded word (codes "INPUT") fs e t (input_again fs e k))
    (either _ _ _ e (λ t k. worded word (codes "IMAGE") fs e t (image_again fs e k))
    (either _ _ _ e (λ t k. worded word (codes "STOP") fs e t (stop_again fs e k))
    (either _ _ _ e (λ t k. worded word (codes "TRAP") fs e t (trap_again fs e k))
    (either _ _ _ e (λ t k. worded word (codes "CUT") fs e t (cut_again fs e k))
    (λ k. absurd (let z : ⊥ = cc in z)))))))))))))

pub word_plain : (e : Entry) → IsPlain (word_of e)
word_plain (Start limit) = refl
word_plain (Register base size) = refl
word_plain (Input number) = refl
word_plain (Image addr bytes) = refl
word_plain (Store addr value size) = refl
word_plain (Flush addr size) = refl
word_plain Fence = refl
word_plain (Persist addr size) = refl
word_plain (Assert addr size) = refl
word_plain (Stop code) = refl
word_plain (Trap kind) = refl
word_plain Cut = refl

-- ---- texts

pub spelled_fields : (text : List ℕ) (e : Entry) → entry_of text ≡ Some e → (length text ≤ 256)
    × (entry_by (fields text) ≡ Some e)
unfolding entry_of
spelled_fields text e k = go (nat_lt 256 (length text)) refl k
  where
    go : (b : Bool) → nat_lt 256 (length text) ≡ b → (if b then None else entry_by (fields text)) ≡ Some e
        → (length text ≤ 256) × (entry_by (fields text) ≡ Some e)
    go true t h = absurd (let z : ⊥ = cc in z)
    go false t h = (ltb-false _ _ t, h)

-- The canonical text of an entry is read as the entry, and is no longer than the text that spelled it.
record TextAgain (text : List ℕ) (e : Entry) : Type 0 where
  again : entry_by (fields (text_of e)) ≡ Some e
  short : length (text_of e) ≤ length text

text_again : (text : List ℕ) (e : Entry) → entry_by (fields text) ≡ Some e → TextAgain text e
unfolding text_of
text_again text e k =
    let first = some_field is_semicolon text in
    let h = entry_again first.0 first.1 e (ap entry_by (sym first.2) ∙ k) in
    let split : fields (text_of e) ≡ word_of e ∷ fields_of e = fields_with (word_of e) (fields_of e) h.plain
    ∙ ap (λ (ps : List (List ℕ)). ps ++ fields_of e) (fields_plain (word_of e) (word_plain e)) in
    let a = length-with (word_of e) (fields_of e) in
    let b = sym (ap total first.2) ∙ length-fields text in
    let c = ap (λ (w : List ℕ). length w) h.named in
    let d = h.short in
    record { again = ap entry_by split ∙ h.again; short = omega (arith, a, b, c, d) }

pub shortest : (text : List ℕ) (e : Entry) → entry_of text ≡ Some e → length (text_of e) ≤ length text
shortest text e k = (text_again text e (spelled_fields text e k).1).short

pub spells : (text : List ℕ) (e : Entry) → entry_of text ≡ Some e → entry_of (text_of e) ≡ Some e
unfolding entry_of
spells text e k =
    let h = spelled_fields text e k in
    let t = text_again text e h.1 in
    let few : length (text_of e) ≤ 256 = omega (arith, h.0, t.short) in
    rw (le-ltb 256 (length (text_of e)) few) t.again
