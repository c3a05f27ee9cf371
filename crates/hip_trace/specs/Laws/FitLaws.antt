-- Some text spells an entry exactly if its values fit, and then its canonical text spells it.
use Rattle.std.proofs.Common.{◌≡◌, ℕ, ℤ, pos, negsuc, suc, ◌+◌, ◌*◌, ◌%◌, ◌^◌, ◌<◌, ◌≤◌, Bool, true, false, ◌&&◌, ◌⊎◌, inl, inr, zero, List, [], ◌∷◌, ◌++◌, length, drop, Option, Some, None, nat_lt, nat_le, refl, sym, ap, subst, ◌∙◌, arith, FitsSigned, w32, w64, rules}
use Rattle.std.specs.Prelude.{if◌then◌else◌, nat_eq, codes, decimal, option_map, option_and_then, ◌==◌, All}
use Rattle.std.specs.Fmt.{digits, signed_decimal}
use Rattle.std.specs.List.{starts_with}
use Rattle.std.specs.Result.{result_ok}
use Rattle.std.specs.Str.Parse.{digits_value}
use Rattle.std.proofs.lemmas.Bool.{eqb-true, ltb-true, le-ltb, and_parts, lt-ltb}
use Rattle.std.proofs.lemmas.List.Elements.{All-from_get_or, All-tail, All-head}
use Rattle.std.proofs.lemmas.Bool.Decides.{nat_tests}
use Rattle.std.specs.Cmp.Derive.{both_true}
use Rattle.hex.specs.Hex.{decode_sized, encode_lower, lower_digits, IsBytes}
use Rattle.hex.proofs.HexLemmas.{decode_of-ok, decode_sized-ok, decode_sized-twice, decode_sized-encode_lower, length-encode_with}
use Rattle.hip_num.specs.Texts.{hexadecimal, signed_digits, signed_value}
use Rattle.hip_num.specs.Laws.TextLaws.{number-sound, number-whole, digits-whole, decimal-value, decimal-number, hexadecimal-value, hexadecimal-number, signed_decimal-value, signed_decimal-number}
use Rattle.hip_num.specs.Texts.{decimal_of, hex_of, is_number, number_of, in_range, is_signed, signed_of, are_digits}
use Rattle.hip_trace.specs.Entries.{fields, one_field, two_fields, three_fields, two_numbers, start, register, input, line_bytes, image_at, image, is_store_size, sized_store, store, are_lines, some_lines, flush, persist, assert, stop, trap_of, trap, alone, entry_by, entry_of}
use Rattle.hip_trace.specs.Fits.{IsSpelled, AreLines, IsStored, ValuesFit}
use Rattle.hip_trace.specs.Texts.{word_of, fields_of, text_of}
use Rattle.hip_trace.specs.declared.entry.Entry.{Entry}
use Rattle.hip_trace.specs.declared.entry.Entry.TheVariants.{Start, Register, Input, Image, Store, Flush, Fence, Persist, Assert, Stop, Trap, Cut}
use Rattle.hip_trace.specs.Laws.FieldLaws.{some_field}
use Rattle.hip_trace.specs.Laws.TextLaws.{is_semicolon, IsPlain, ArePlain, total, fields_plain, fields_with, length-with, word_plain, digits_length, digits_plain, signed_plain, encoded_plain, range_fits, trap_word, trap_short, ok_some, then_some, map_some, either, alone_same, lines_same, image_same, sized_same, spelled_fields}

-- ---- fields

-- The canonical text of a value reads as the value, and is short.
record FieldOf (A : Type 0) (read : List ℕ → Option A) (text : List ℕ) (v : A) (most : ℕ) : Type 0 where
  reads : read text ≡ Some v
  plain : IsPlain text
  short : length text ≤ most

decimal_field : (n : ℕ) → n < 2 ^ 64 → FieldOf ℕ decimal_of (decimal n) n 20
decimal_field n h =
    let canonical = decimal-number n h in
    record {
      reads = rw (number-whole 10 (decimal n) canonical) (ap (λ (x : ℕ). Some x) (decimal-value n h));
      plain = digits_plain 10 (decimal n) (omega arith) canonical.0.1;
      short = digits_length 10 n 19 (omega arith) (omega arith);
    }

hex_field : (n : ℕ) → n < 2 ^ 64 → FieldOf ℕ hex_of (hexadecimal n) n 18
hex_field n h =
    let canonical = hexadecimal-number n h in
    let short = digits_length 16 n 15 (omega arith) (omega arith) in
    record {
      reads = rw (number-whole 16 (digits 16 false n) canonical) (ap (λ (x : ℕ). Some x) (hexadecimal-value n h));
      plain = digits_plain 16 (digits 16 false n) (omega arith) canonical.0.1;
      short = omega (arith, short);
    }

signed_length : (z : ℤ) → FitsSigned w64 z → length (signed_decimal z) ≤ 21
signed_length (pos n) h = let short = digits_length 10 n 19 (omega arith) (omega arith) in omega (arith, short)
signed_length (negsuc n) h = let short = digits_length 10 (suc n) 19 (omega arith) (omega arith) in omega (arith, short)

signed_field : (limit : ℕ) (z : ℤ) → FitsSigned w64 z → in_range limit z ≡ true
    → FieldOf ℤ (signed_of limit) (signed_decimal z) z 21
signed_field limit z h r =
    let number = signed_decimal-number z h in
    let value = signed_decimal-value z h in
    let tested : is_signed limit (signed_decimal z) ≡ true =
    both_true (digits-whole 10 (signed_digits (signed_decimal z)) number.0)
    (subst (λ (y : ℤ). in_range limit y ≡ true) (sym value) r) in
    record {
      reads = ap (λ (b : Bool). if b then Some (signed_value (signed_decimal z)) else None) tested
          ∙ ap (λ (y : ℤ). Some y) value;
      plain = signed_plain z h;
      short = signed_length z h;
    }

in_64 : (z : ℤ) → FitsSigned w64 z → in_range (2 ^ 63) z ≡ true
in_64 (pos n) h = lt-ltb _ _ (omega arith)
in_64 (negsuc n) h = lt-ltb _ _ (omega arith)

in_32 : (z : ℤ) → FitsSigned w32 z → in_range (2 ^ 31) z ≡ true
in_32 (pos n) h = lt-ltb _ _ (omega arith)
in_32 (negsuc n) h = lt-ltb _ _ (omega arith)

pub wider : (z : ℤ) → FitsSigned w32 z → FitsSigned w64 z
wider (pos n) h = let k : n < 2 ^ 63 = omega arith in search (rules, k)
wider (negsuc n) h = let k : n < 2 ^ 63 = omega arith in search (rules, k)

are_bytes : (xs : List ℕ) → All (λ b. b < 256) xs → IsBytes xs
are_bytes [] h i = omega arith
are_bytes (x ∷ xs) h zero = All-head (λ b. b < 256) x xs h
are_bytes (x ∷ xs) h (suc i) = are_bytes xs (All-tail (λ b. b < 256) x xs h) i

line_field : (bytes : List ℕ) → length bytes ≡ 64 → All (λ b. b < 256) bytes
    → FieldOf (List ℕ) line_bytes (encode_lower bytes) bytes 128
line_field bytes len h =
    let twice = length-encode_with lower_digits bytes in
    record {
      reads = ap result_ok (decode_sized-encode_lower bytes 64 len (are_bytes bytes h));
      plain = encoded_plain bytes;
      short = omega (arith, twice, len);
    }

-- ---- entries that fit are spelled

-- An entry's word and fields read as that entry, no field has a semicolon, and the text has at most 256 bytes.
record EntryOf (e : Entry) : Type 0 where
  by : entry_by (word_of e ∷ fields_of e) ≡ Some e
  plain : ArePlain (fields_of e)
  short : length (word_of e) + total (fields_of e) ≤ 256

spelled_by : (e : Entry) → EntryOf e → IsSpelled e
unfolding entry_of text_of
spelled_by e h =
    let split : fields (text_of e) ≡ word_of e ∷ fields_of e = fields_with (word_of e) (fields_of e) h.plain
    ∙ ap (λ (ps : List (List ℕ)). ps ++ fields_of e) (fields_plain (word_of e) (word_plain e)) in
    let len = length-with (word_of e) (fields_of e) in
    let most = h.short in
    let few : length (text_of e) ≤ 256 = omega (arith, len, most) in
    record { by_its_text = rw (le-ltb 256 (length (text_of e)) few) (ap entry_by split ∙ h.by) }

numbers_read : (a b : ℕ) → a < 2 ^ 64 → b < 2 ^ 64
    → two_numbers (hexadecimal a ∷ hexadecimal b ∷ []) ≡ Some (a, b)
unfolding two_numbers
numbers_read a b h k =
    ap (option_and_then (λ x. option_map (λ y. (x, y)) (hex_of (hexadecimal b)))) (hex_field a h).reads
    ∙ ap (option_map (λ y. (a, y))) (hex_field b k).reads

lines_test : (addr size : ℕ) → AreLines addr size → are_lines addr size ≡ true
lines_test addr size h =
    both_true (rw h.aligned refl) (both_true (rw h.whole refl)
    (both_true (lt-ltb 0 size h.some) (within addr size h.within)))
  where
    within : (a n : ℕ) → a + n ≤ 2 ^ 64 → nat_le (a + n) (2 ^ 64) ≡ true
    within a n le = grind (arith, nat_tests)

sizes : (size : ℕ) → is_store_size size ≡ true → (size ≡ 1)
    ⊎ ((size ≡ 2) ⊎ ((size ≡ 4) ⊎ (size ≡ 8)))
sizes size h = grind (arith, nat_tests)

pub value_fits : (size value : ℕ) → is_store_size size ≡ true → value < 2 ^ (8 * size) → value < 2 ^ 64
value_fits size value h less = go (sizes size h)
  where
    at : (n : ℕ) → 2 ^ (8 * n) ≤ 2 ^ 64 → size ≡ n → value < 2 ^ 64
    at n most same = let k : value < 2 ^ (8 * n) = subst (λ (m : ℕ). value < 2 ^ (8 * m)) same less in
        omega (arith, k, most)

    go : (size ≡ 1) ⊎ ((size ≡ 2) ⊎ ((size ≡ 4) ⊎ (size ≡ 8))) → value < 2 ^ 64
    go (inl e) = at 1 (omega arith) e
    go (inr (inl e)) = at 2 (omega arith) e
    go (inr (inr (inl e))) = at 4 (omega arith) e
    go (inr (inr (inr e))) = at 8 (omega arith) e

pub size_fits : (size : ℕ) → is_store_size size ≡ true → size < 2 ^ 64
size_fits size h = go (sizes size h)
  where
    go : (size ≡ 1) ⊎ ((size ≡ 2) ⊎ ((size ≡ 4) ⊎ (size ≡ 8))) → size < 2 ^ 64
    go (inl e) = omega arith
    go (inr (inl e)) = omega arith
    go (inr (inr (inl e))) = omega arith
    go (inr (inr (inr e))) = omega arith

store_is : (addr value size : ℕ) → IsStored addr value size → EntryOf (Store addr value size)
unfolding entry_by store
store_is addr value size h =
    let a = hex_field addr h.fits in
    let v = hex_field value (value_fits size value h.sized h.within) in
    let s = hex_field size (size_fits size h.sized) in
    let first = a.short in
    let second = v.short in
    let third = s.short in
    let there : sized_store addr value size ≡ Some (Store addr value size) =
    ap (λ (b : Bool). if b then Some (Store addr value size) else None)
    (both_true h.sized (lt-ltb _ _ h.within)) in
    record {
      by = ap (option_and_then (λ x. option_and_then
          (λ y. option_and_then (λ z. sized_store x y z) (hex_of (hexadecimal size)))
          (hex_of (hexadecimal value)))) a.reads
          ∙ ap (option_and_then (λ y. option_and_then (λ z. sized_store addr y z)
          (hex_of (hexadecimal size)))) v.reads
          ∙ ap (option_and_then (λ z. sized_store addr value z)) s.reads ∙ there;
      plain = (a.plain, (v.plain, (s.plain, tt)));
      short = omega (arith, first, second, third);
    }

lines_read : (addr size : ℕ) → AreLines addr size
    → option_and_then some_lines (two_numbers (hexadecimal addr ∷ hexadecimal size ∷ [])) ≡ Some (addr, size)
lines_read addr size h =
    let fits : addr < 2 ^ 64 = omega (arith, h.some, h.within) in
    ap (option_and_then some_lines) (numbers_read addr size fits h.fits)
    ∙ ap (λ (b : Bool). if b then Some (addr, size) else None) (lines_test addr size h)

flush_is : (addr size : ℕ) → AreLines addr size → EntryOf (Flush addr size)
unfolding entry_by flush
flush_is addr size h =
    let a = hex_field addr (omega (arith, h.some, h.within)) in
    let b = hex_field size h.fits in
    let first = a.short in
    let second = b.short in
    record {
      by = ap (option_map (λ x. Flush x.0 x.1)) (lines_read addr size h);
      plain = (a.plain, (b.plain, tt));
      short = omega (arith, first, second);
    }

persist_is : (addr size : ℕ) → AreLines addr size → EntryOf (Persist addr size)
unfolding entry_by persist
persist_is addr size h =
    let a = hex_field addr (omega (arith, h.some, h.within)) in
    let b = hex_field size h.fits in
    let first = a.short in
    let second = b.short in
    record {
      by = ap (option_map (λ x. Persist x.0 x.1)) (lines_read addr size h);
      plain = (a.plain, (b.plain, tt));
      short = omega (arith, first, second);
    }

entry_is : (e : Entry) → ValuesFit e → EntryOf e
unfolding entry_by start register input image assert stop trap
entry_is (Start limit) h =
    let f = decimal_field limit h in
    let short = f.short in
    record { by = ap (option_map (λ l. Start l)) f.reads; plain = (f.plain, tt); short = omega (arith, short) }
entry_is (Register base size) h =
    let a = hex_field base h.0 in
    let b = hex_field size h.1 in
    let first = a.short in
    let second = b.short in
    record {
      by = ap (option_map (λ x. Register x.0 x.1)) (numbers_read base size h.0 h.1);
      plain =
          (a.plain, (b.plain, tt));
      short = omega (arith, first, second);
    }
entry_is (Input number) h =
    let f = signed_field (2 ^ 63) number h (in_64 number h) in
    let short = f.short in
    record { by = ap (option_map (λ n. Input n)) f.reads; plain = (f.plain, tt); short = omega (arith, short) }
entry_is (Image addr bytes) h =
    let a = hex_field addr h.fits in
    let b = line_field bytes h.whole h.bytes in
    let first = a.short in
    let second = b.short in
    let there : image_at addr (Some bytes) ≡ Some (Image addr bytes) = rw h.aligned refl in
    record {
      by = ap (option_and_then (λ x. image_at x (line_bytes (encode_lower bytes)))) a.reads
          ∙ ap (image_at addr) b.reads ∙ there;
      plain = (a.plain, (b.plain, tt));
      short = omega (arith, first, second);
    }
entry_is (Store addr value size) h = store_is addr value size h
entry_is (Flush addr size) h = flush_is addr size h
entry_is Fence h = record { by = refl; plain = tt; short = omega arith }
entry_is (Persist addr size) h = persist_is addr size h
entry_is (Assert addr size) h =
    let a = hex_field addr h.0 in
    let b = hex_field size h.1 in
    let first = a.short in
    let second = b.short in
    record {
      by = ap (option_map (λ x. Assert x.0 x.1)) (numbers_read addr size h.0 h.1);
      plain =
          (a.plain, (b.plain, tt));
      short = omega (arith, first, second);
    }
entry_is (Stop code) h =
    let f = signed_field (2 ^ 31) code (wider code h) (in_32 code h) in
    let short = f.short in
    record { by = ap (option_map (λ c. Stop c)) f.reads; plain = (f.plain, tt); short = omega (arith, short) }
entry_is (Trap kind) h =
    let w = trap_word kind in
    let short = trap_short kind in
    record { by = ap (option_map (λ k. Trap k)) w.0; plain = (w.1, tt); short = omega (arith, short) }
entry_is Cut h = record { by = refl; plain = tt; short = omega arith }

pub fits_spelled : (e : Entry) → ValuesFit e → IsSpelled e
fits_spelled e h = spelled_by e (entry_is e h)

-- ---- what is spelled fits

number_small : (base : ℕ) (text : List ℕ) (n : ℕ)
    → (if is_number base text then Some (digits_value base text) else None) ≡ Some n → n < 2 ^ 64
number_small base text n e = go (is_number base text) refl e
  where
    go : (b : Bool) → is_number base text ≡ b → (if b then Some (digits_value base text) else None) ≡ Some n
        → n < 2 ^ 64
    go false k e = absurd (let z : ⊥ = cc in z)
    go true k e = let same : digits_value base text ≡ n = cc in
        subst (λ (x : ℕ). x < 2 ^ 64) same (number-sound base text k).1

hex_small : (text : List ℕ) (n : ℕ) → hex_of text ≡ Some n → n < 2 ^ 64
hex_small text n e = go (starts_with nat_eq text (codes "0x")) e
  where
    go : (b : Bool) → (if b then number_of 16 (drop 2 text) else None) ≡ Some n → n < 2 ^ 64
    go false e = absurd (let z : ⊥ = cc in z)
    go true e = number_small 16 (drop 2 text) n e

signed_in : (limit : ℕ) (text : List ℕ) (z : ℤ) → signed_of limit text ≡ Some z → in_range limit z ≡ true
signed_in limit text z e = go (is_signed limit text) refl e
  where
    go : (b : Bool) → is_signed limit text ≡ b → (if b then Some (signed_value text) else None) ≡ Some z
        → in_range limit z ≡ true
    go false k e = absurd (let y : ⊥ = cc in y)
    go true k e =
        let both = and_parts (are_digits 10 (signed_digits text)) (in_range limit (signed_value text)) k in
        let same : signed_value text ≡ z = cc in
        subst (λ (y : ℤ). in_range limit y ≡ true) same both.1

fits_32 : (z : ℤ) → in_range (2 ^ 31) z ≡ true → FitsSigned w32 z
fits_32 (pos n) e = let h = ltb-true _ _ e in search (rules, h)
fits_32 (negsuc n) e = let h = ltb-true _ _ e in search (rules, h)

two_small : (fs : List (List ℕ)) (n : ℕ × ℕ) → two_numbers fs ≡ Some n → (n.0 < 2 ^ 64) × (n.1 < 2 ^ 64)
unfolding two_numbers
two_small fs n e =
    let f = then_some (two_fields fs) _ n e in
    let a = then_some (hex_of f.0.0) _ n f.2 in
    let b = map_some (hex_of f.0.1) _ n a.2 in
    subst (λ (m : ℕ × ℕ). (m.0 < 2 ^ 64) × (m.1 < 2 ^ 64)) b.2 (hex_small f.0.0 a.0 a.1, hex_small f.0.1 b.0 b.1)

start_fits : (fs : List (List ℕ)) (e : Entry) → start fs ≡ Some e → ValuesFit e
unfolding start
start_fits fs e k =
    let f = then_some (one_field fs) _ e k in
    let n = map_some (decimal_of f.0) _ e f.2 in
    subst ValuesFit n.2 (number_small 10 f.0 n.0 n.1)

register_fits : (fs : List (List ℕ)) (e : Entry) → register fs ≡ Some e → ValuesFit e
unfolding register
register_fits fs e k = let n = map_some (two_numbers fs) _ e k in subst ValuesFit n.2 (two_small fs n.0 n.1)

assert_fits : (fs : List (List ℕ)) (e : Entry) → assert fs ≡ Some e → ValuesFit e
unfolding assert
assert_fits fs e k = let n = map_some (two_numbers fs) _ e k in subst ValuesFit n.2 (two_small fs n.0 n.1)

input_fits : (fs : List (List ℕ)) (e : Entry) → input fs ≡ Some e → ValuesFit e
unfolding input
input_fits fs e k =
    let f = then_some (one_field fs) _ e k in
    let n = map_some (signed_of (2 ^ 63) f.0) _ e f.2 in
    subst ValuesFit n.2 (range_fits (2 ^ 63) n.0 (omega arith) (signed_in (2 ^ 63) f.0 n.0 n.1))

stop_fits : (fs : List (List ℕ)) (e : Entry) → stop fs ≡ Some e → ValuesFit e
unfolding stop
stop_fits fs e k =
    let f = then_some (one_field fs) _ e k in
    let n = map_some (signed_of (2 ^ 31) f.0) _ e f.2 in
    subst ValuesFit n.2 (fits_32 n.0 (signed_in (2 ^ 31) f.0 n.0 n.1))

trap_fits : (fs : List (List ℕ)) (e : Entry) → trap fs ≡ Some e → ValuesFit e
unfolding trap
trap_fits fs e k =
    let f = then_some (one_field fs) _ e k in
    let n = map_some (trap_of f.0) _ e f.2 in
    subst ValuesFit n.2 tt

are_lines_parts : (addr size : ℕ) → are_lines addr size ≡ true → size < 2 ^ 64 → AreLines addr size
are_lines_parts addr size e h =
    let a = and_parts (addr % 64 == 0) ((size % 64 == 0) && (nat_lt 0 size && nat_le (addr + size) (2 ^ 64))) e in
    let b = and_parts (size % 64 == 0) (nat_lt 0 size && nat_le (addr + size) (2 ^ 64)) a.1 in
    let c = and_parts (nat_lt 0 size) (nat_le (addr + size) (2 ^ 64)) b.1 in
    record {
      aligned = eqb-true (addr % 64) 0 a.0;
      whole = eqb-true (size % 64) 0 b.0;
      some = ltb-true 0 size c.0;
      fits = h;
      within = within addr size c.1;
    }
  where
    within : (a n : ℕ) → nat_le (a + n) (2 ^ 64) ≡ true → a + n ≤ 2 ^ 64
    within a n le = grind (arith, nat_tests)

some_lines_are : (fs : List (List ℕ)) (n : ℕ × ℕ) → option_and_then some_lines (two_numbers fs) ≡ Some n
    → AreLines n.0 n.1
some_lines_are fs n e =
    let m = then_some (two_numbers fs) some_lines n e in
    let small = two_small fs m.0 m.1 in
    let same = lines_same m.0 n m.2 in
    subst (λ (p : ℕ × ℕ). AreLines p.0 p.1) same (go m.0 small.1 (are_lines m.0.0 m.0.1) refl m.2)
  where
    go : (p : ℕ × ℕ) → p.1 < 2 ^ 64 → (b : Bool) → are_lines p.0 p.1 ≡ b
        → (if b then Some p else None) ≡ Some n → AreLines p.0 p.1
    go p h true k q = are_lines_parts p.0 p.1 k h
    go p h false k q = absurd (let z : ⊥ = cc in z)

flush_fits : (fs : List (List ℕ)) (e : Entry) → flush fs ≡ Some e → ValuesFit e
unfolding flush
flush_fits fs e k = let n = map_some (option_and_then some_lines (two_numbers fs)) _ e k in
    subst ValuesFit n.2 (some_lines_are fs n.0 n.1)

persist_fits : (fs : List (List ℕ)) (e : Entry) → persist fs ≡ Some e → ValuesFit e
unfolding persist
persist_fits fs e k = let n = map_some (option_and_then some_lines (two_numbers fs)) _ e k in
    subst ValuesFit n.2 (some_lines_are fs n.0 n.1)

line_fits : (text bytes : List ℕ) → line_bytes text ≡ Some bytes → (length bytes ≡ 64)
    × All (λ b. b < 256) bytes
line_fits text bytes e =
    let sized = ok_some (decode_sized text 64) bytes e in
    let len = decode_sized-ok text 64 bytes sized in
    let ok = decode_of-ok text bytes (sym (decode_sized-twice text 64 len) ∙ sized) in
    let twice = ok.2 in
    (omega (arith, len, twice), All-from_get_or (λ b. b < 256) bytes 0 (λ i lt. ok.3 i))

image_fits : (fs : List (List ℕ)) (e : Entry) → image fs ≡ Some e → ValuesFit e
unfolding image
image_fits fs e k =
    let f = then_some (two_fields fs) _ e k in
    let a = then_some (hex_of f.0.0) _ e f.2 in
    let b = image_same a.0 (line_bytes f.0.1) e a.2 in
    let line = line_fits f.0.1 b.0 b.1 in
    let made : image_at a.0 (Some b.0) ≡ Some e = ap (image_at a.0) (sym b.1) ∙ a.2 in
    subst ValuesFit b.2 (record {
      fits = hex_small f.0.0 a.0 a.1;
      aligned = aligned a.0 b.0 made (a.0 % 64 == 0) refl;
      whole = line.0;
      bytes = line.1;
    })
  where
    aligned : (addr : ℕ) (bs : List ℕ) → image_at addr (Some bs) ≡ Some e → (b : Bool)
        → (addr % 64 == 0) ≡ b → addr % 64 ≡ 0
    aligned addr bs m true q = eqb-true (addr % 64) 0 q
    aligned addr bs m false q = absurd (let k : image_at addr (Some bs) ≡ None = rw q refl in let z : ⊥ = cc in z)

store_fits : (fs : List (List ℕ)) (e : Entry) → store fs ≡ Some e → ValuesFit e
unfolding store
store_fits fs e k =
    let f = then_some (three_fields fs) _ e k in
    let a = then_some (hex_of f.0.0) _ e f.2 in
    let v = then_some (hex_of f.0.1) _ e a.2 in
    let s = then_some (hex_of f.0.2) _ e v.2 in
    let same = sized_same a.0 v.0 s.0 e s.2 in
    subst ValuesFit same (go a.0 v.0 s.0 (hex_small f.0.0 a.0 a.1)
    (is_store_size s.0 && nat_lt v.0 (2 ^ (8 * s.0))) refl s.2)
  where
    go : (addr value size : ℕ) → addr < 2 ^ 64 → (b : Bool)
        → is_store_size size && nat_lt value (2 ^ (8 * size)) ≡ b
        → (if b then Some (Store addr value size) else None) ≡ Some e → IsStored addr value size
    go addr value size h true q m = let both = and_parts (is_store_size size) (nat_lt value (2 ^ (8 * size))) q in
        record { fits = h; sized = both.0; within = ltb-true _ _ both.1 }
    go addr value size h false q m = absurd (let z : ⊥ = cc in z)

alone_fits : (e : Entry) (fs : List (List ℕ)) (x : Entry) → ValuesFit e → alone e fs ≡ Some x → ValuesFit x
alone_fits e fs x h k = subst ValuesFit (alone_same e fs x k) h

no_entry : (e : Entry) → None ≡ Some e → ValuesFit e
no_entry e k = absurd (let z : ⊥ = cc in z)

by_fits : (word : List ℕ) (fs : List (List ℕ)) (e : Entry) → entry_by (word ∷ fs) ≡ Some e → ValuesFit e
unfolding entry_by
by_fits word fs e =
    either _ _ _ e (λ t k. store_fits fs e k)
    (either _ _ _ e (λ t k. flush_fits fs e k)
    (either _ _ _ e (λ t k. alone_fits Fence fs e tt k)
    (either _ _ _ e (λ t k. persist_fits fs e k)
    (either _ _ _ e (λ t k. assert_fits fs e k)
    (either _ _ _ e (λ t k. start_fits fs e k)
    (either _ _ _ e (λ t k. register_fits fs e k)
    (either _ _ _ e (λ t k. input_fits fs e k)
    (either _ _ _ e (λ t k. image_fits fs e k)
    (either _ _ _ e (λ t k. stop_fits fs e k)
    (either _ _ _ e (λ t k. trap_fits fs e k)
    (either _ _ _ e (λ t k. alone_fits Cut fs e tt k)
    (no_entry e))))))))))))

pub spelled_fits : (text : List ℕ) (e : Entry) → entry_of text ≡ Some e → ValuesFit e
spelled_fits text e k =
    let first = some_field is_semicolon text in
    by_fits first.0 first.1 e (ap entry_by (sym first.2) ∙ (spelled_fields text e k).1)
