-- The first line of some bytes, put together from its word and its fields.
use Rattle.std.proofs.Common.{◌≡◌, ℕ, suc, ◌+◌, ◌-◌, ◌*◌, ◌<◌, ◌≤◌, ◌^◌, Bor, get_or, Bool, true, false, ◌||◌, List, [], ◌∷◌, ◌++◌, length, take, drop, Option, Some, None, IfSome, Ok, refl, sym, ap, subst, ◌∙◌, arith, append_assoc, length-append}
use Rattle.std.specs.Prelude.{MatchOption, position, nat_lt, codes, ◌==◌, option_map, if◌then◌else◌}
use Rattle.std.specs.Char.{digit_value}
use Rattle.std.specs.List.{list_any, position_or_len}
use Rattle.std.specs.Str.{bytes_eq}
use Rattle.std.specs.Str.Parse.{AllDigits, digits_value}
use Rattle.std.proofs.lemmas.Bool.{eqb-true, lt-ltb, le-ltb}
use Rattle.std.proofs.lemmas.Int.Digits.{digits_value_more, digits_more, digits_value-lt}
use Rattle.std.proofs.Math.Nat.{pow-le-pow_right}
use Rattle.std.proofs.lemmas.List.{length-drop, length-take-le, take-append-drop, take_all}
use Rattle.std.proofs.lemmas.Slice.Eq.{bytes_eq-Decides}
use Rattle.std.proofs.lemmas.List.Folds.{list_any-append}
use Rattle.std.proofs.Math.Seq.{take-append_seam}
use Rattle.hip_io.specs.Cabinets.{CabinetState}
use Rattle.hip_num.specs.Texts.{hex_of, number_of}
use Rattle.hip_num.specs.Laws.TextLaws.{number-whole}
use Rattle.hip_tokens.specs.Bytes.{byte}
use Rattle.hip_trace.specs.Entries.{fields, entry_by, entry_of, store, flush, persist, assert, two_numbers, is_sized, sized_store, some_lines}
use Rattle.hip_trace.specs.Fronts.{answers_piece}
use Rattle.hip_trace.specs.Laws.PieceLaws.{cut_at, first_none}
use Rattle.hip_trace.specs.Laws.TextLaws.{IsPlain, digits_plain, fields_plain, fields_with}
use Rattle.hip_trace.specs.Lines.{HasDigits, HasField, BeginsWithEntry, IsFirstLine}
use Rattle.hip_trace.specs.Usuals.{usual_entry}
use Rattle.hip_trace.specs.Pieces.{is_separator}
use Rattle.hip_trace.specs.Reads.{ReaderState, ReadsOn, one_more}
use Rattle.hip_trace.specs.declared.front.Front.TheVariants as fronts
use Rattle.hip_trace.specs.declared.refusal.Progress.TheVariants.{Reading}
use Rattle.hip_trace.proofs.ReaderLaws.{holds_still, reads_on}
use Rattle.hip_trace.specs.Texts.{with_fields}
use Rattle.hip_trace.specs.declared.entry.Entry.{Entry}
use Rattle.hip_trace.specs.declared.entry.Entry.TheVariants.{Store, Flush, Fence, Persist, Assert}
use Rattle.hip_trace.specs.declared.line.EntryText.{EntryText}

-- ---- numbers

pub number_is : (ds : List ℕ) (n : ℕ) → 0 < length ds → AllDigits 16 ds → n ≡ digits_value 16 ds → n < 2 ^ 64 → number_of 16 ds ≡ Some n
number_is ds n some all e small =
    let below : digits_value 16 ds < 2 ^ 64 = subst (λ (x : ℕ). x < 2 ^ 64) e small in
    rw (number-whole 16 ds ((some, all), below)) (ap (λ (x : ℕ). Some x) (sym e))

digit_inner : (d : ℕ) → digit_value d < 16 → is_separator d ≡ false
digit_inner d lt = go (d == byte "|") (d == byte "\n") refl refl
  where
    go : (a b : Bool) → (d == byte "|") ≡ a → (d == byte "\n") ≡ b → (a || b) ≡ false
    go true b e f = let great : digit_value d ≡ 36 = ap digit_value (eqb-true d 124 e) in absurd (omega (arith, great, lt))
    go false true e f = let great : digit_value d ≡ 36 = ap digit_value (eqb-true d 10 f) in absurd (omega (arith, great, lt))
    go false false e f = refl

digits_inner : (ds : List ℕ) → AllDigits 16 ds → list_any is_separator ds ≡ false
digits_inner [] h = refl
digits_inner (d ∷ ds) h = rw (digit_inner d h.0) (digits_inner ds h.1)

-- The digits before a place are the number at the start of the bytes.
pub digits_first : (bytes : List ℕ) (at n : ℕ) → at ≤ length bytes → 0 < at → AllDigits 16 (take at bytes) → n ≡ digits_value 16 (take at bytes) → n < 2 ^ 64
    → HasDigits bytes n (take (length bytes - at) (drop at bytes))
digits_first bytes at n within some all e small =
    let len : length (take at bytes) ≡ at = length-take-le at bytes within in
    let left = length-drop at bytes in
    let rest : take (length bytes - at) (drop at bytes) ≡ drop at bytes = take_all (length bytes - at) (drop at bytes) (omega (arith, left)) in
    record {
      digits = take at bytes;
      whole = sym (ap (λ (xs : List ℕ). take at bytes ++ xs) rest ∙ take-append-drop at bytes);
      all = all;
      is = number_is (take at bytes) n (omega (arith, len, some)) all e small;
    }

-- The number after one more digit.
pub digit_next : (bytes : List ℕ) (at n d b : ℕ) → at < length bytes → AllDigits 16 (take at bytes) → n ≡ digits_value 16 (take at bytes) → d ≡ digit_value b → b ≡ get_or bytes at 0 → d < 16
    → AllDigits 16 (take (at + 1) bytes) × (n * 16 + d ≡ digits_value 16 (take (at + 1) bytes))
digit_next bytes at n d b lt all e is at_b low =
    let here : d ≡ digit_value (get_or bytes at 0) = is ∙ ap digit_value at_b in
    let next = digits_value_more 16 bytes at lt in
    let small : digit_value (get_or bytes at 0) < 16 = subst (λ (x : ℕ). x < 16) here low in
    (digits_more 16 bytes at lt all small, omega (arith, here, next, e))

-- A number of at most k digits is below 16 ^ k.
pub few_digits : (bytes : List ℕ) (at k n : ℕ) → at ≤ k → at ≤ length bytes → AllDigits 16 (take at bytes) → n ≡ digits_value 16 (take at bytes) → n < 16 ^ k
few_digits bytes at k n few within all e =
    let below = digits_value-lt 16 (take at bytes) all in
    let len : length (take at bytes) ≡ at = length-take-le at bytes within in
    let most : 16 ^ length (take at bytes) ≤ 16 ^ k = pow-le-pow_right {n = 16} (omega arith) (omega (arith, len, few)) in
    omega (arith, below, most, e)

-- ---- fields

-- What follows a word.
pub stripped : (bytes word : List ℕ) (r : Option (Bor (List ℕ))) (P : Type 0) (Q : Bor (List ℕ) → Type 0)
    → MatchOption r P (λ x. (bytes_eq (take (length word) bytes) word ≡ true) × (x.now ≡ drop (length word) bytes) × Q x) → IfSome r (λ rest. bytes ≡ word ++ rest.now)
stripped bytes word None P Q h = tt
stripped bytes word (Some x) P Q h =
    let same : take (length word) bytes ≡ word = (bytes_eq-Decides (take (length word) bytes) word).0 h.0 in
    sym (take-append-drop (length word) bytes) ∙ ap (λ (xs : List ℕ). xs ++ drop (length word) bytes) same ∙ ap (λ (xs : List ℕ). word ++ xs) (sym h.1)

-- The bytes after `;0x`.
pub marked : (bytes : List ℕ) → 3 ≤ length bytes → get_or bytes 0 0 ≡ 59 → get_or bytes 1 0 ≡ 48 → get_or bytes 2 0 ≡ 120 → bytes ≡ codes ";0x" ++ take (length bytes - 3) (drop 3 bytes)
marked (a ∷ b ∷ c ∷ rest) len e f g =
    let all : take (length (a ∷ b ∷ c ∷ rest) - 3) rest ≡ rest = take_all _ rest (omega arith) in
    rw (all, e, f, g) refl
marked (a ∷ b ∷ []) len e f g = absurd (omega (arith, len))
marked (a ∷ []) len e f g = absurd (omega (arith, len))
marked [] len e f g = absurd (omega (arith, len))

-- A number after `;0x` is a field.
field_of : (bytes rest : List ℕ) (n : ℕ) (back : List ℕ) → bytes ≡ codes ";0x" ++ rest → HasDigits rest n back → HasField bytes n back
field_of bytes rest n back e h = record {
  field = 48 ∷ 120 ∷ h.digits;
  whole = e ∙ ap (λ (xs : List ℕ). 59 ∷ 48 ∷ 120 ∷ xs) h.whole;
  is = h.is;
  plain = digits_plain 16 h.digits (omega arith) h.all;
  inner = digits_inner h.digits h.all;
}

pub field_by : (bytes rest : List ℕ) (r : Option (ℕ × Bor (List ℕ))) → bytes ≡ codes ";0x" ++ rest → IfSome r (λ x. HasDigits rest x.0 x.1.now) → IfSome r (λ x. HasField bytes x.0 x.1.now)
field_by bytes rest None e h = tt
field_by bytes rest (Some x) e h = field_of bytes rest x.0 x.1.now e h

-- A front of some bytes that has no separator.
record IsFront (bytes text rest : List ℕ) : Type 0 where
  whole : bytes ≡ text ++ rest
  inner : list_any is_separator text ≡ false

either_none : (a b : Bool) → a ≡ false → b ≡ false → (a || b) ≡ false
either_none a b e f = rw (e, f) refl

-- A front with the field after it.
more : {bytes text mid : List ℕ} {n : ℕ} {rest : List ℕ} → IsFront bytes text mid → (f : HasField mid n rest) → IsFront bytes (text ++ byte ";" ∷ f.field) rest
more {bytes} {text} {mid} {n} {rest} p f = record {
  whole = p.whole ∙ ap (λ (xs : List ℕ). text ++ xs) f.whole ∙ sym (append_assoc text (byte ";" ∷ f.field) rest);
  inner = list_any-append is_separator text (byte ";" ∷ f.field) ∙ either_none _ _ p.inner f.inner;
}

word_front : (word bytes : List ℕ) → list_any is_separator word ≡ false → IsFront (word ++ bytes) word bytes
word_front word bytes e = record { whole = refl; inner = e }

-- ---- entries

two : (word bytes mid : List ℕ) (a b : ℕ) (rest : List ℕ) (e : Entry) → list_any is_separator word ≡ false → IsPlain word → HasField bytes a mid → HasField mid b rest
    → ((f g : List ℕ) → hex_of f ≡ Some a → hex_of g ≡ Some b → entry_by (word ∷ f ∷ g ∷ []) ≡ Some e) → BeginsWithEntry (word ++ bytes) e rest
two word bytes mid a b rest e inner plain p q is =
    let front = more (more (word_front word bytes inner) p) q in
    let parts : fields (with_fields word (p.field ∷ q.field ∷ [])) ≡ word ∷ p.field ∷ q.field ∷ [] = fields_with word (p.field ∷ q.field ∷ []) (p.plain, (q.plain, tt)) ∙ ap (λ (ps : List (List ℕ)). ps ++ p.field ∷ q.field ∷ []) (fields_plain word plain) in
    record {
      text = with_fields word (p.field ∷ q.field ∷ []);
      whole = front.whole;
      is = ap entry_by parts ∙ is p.field q.field p.is q.is;
      inner = front.inner;
    }

-- The size of a store is one that it may have.
stored : (b : Bool) (a v s z : ℕ) → Some z ≡ (if b then Some s else None) → Some (Store a v z) ≡ (if b then Some (Store a v s) else None)
stored true a v s z e = ap (option_map (λ (n : ℕ). Store a v n)) e
stored false a v s z e = cc

pub sized : (a v s z : ℕ) → Some z ≡ (if is_sized v s then Some s else None) → Some (Store a v z) ≡ sized_store a v s
sized a v s z e = stored (is_sized v s) a v s z e

pub store_first : (bytes mid back : List ℕ) (a v s : ℕ) (rest : List ℕ) (e : Entry) → HasField bytes a mid → HasField mid v back → HasField back s rest → Some e ≡ sized_store a v s → BeginsWithEntry (codes "STORE" ++ bytes) e rest
unfolding entry_by store
store_first bytes mid back a v s rest e p q r is =
    let front = more (more (more (word_front (codes "STORE") bytes refl) p) q) r in
    let fs : List (List ℕ) = p.field ∷ q.field ∷ r.field ∷ [] in
    let parts : fields (with_fields (codes "STORE") fs) ≡ codes "STORE" ∷ fs = fields_with (codes "STORE") fs (p.plain, (q.plain, (r.plain, tt))) in
    let by : entry_by (codes "STORE" ∷ fs) ≡ Some e = rw (p.is, q.is, r.is) (sym is) in
    record { text = with_fields (codes "STORE") fs; whole = front.whole; is = ap entry_by parts ∙ by; inner = front.inner }

pub flush_first : (bytes mid : List ℕ) (a s : ℕ) (rest : List ℕ) (b t : ℕ) → HasField bytes a mid → HasField mid s rest → Some (b, t) ≡ some_lines (a, s) → BeginsWithEntry (codes "FLUSH" ++ bytes) (Flush b t) rest
unfolding entry_by flush two_numbers
flush_first bytes mid a s rest b t p q is = two (codes "FLUSH") bytes mid a s rest (Flush b t) refl refl p q (λ f g x y. rw (x, y, ← is) refl)

pub persist_first : (bytes mid : List ℕ) (a s : ℕ) (rest : List ℕ) (b t : ℕ) → HasField bytes a mid → HasField mid s rest → Some (b, t) ≡ some_lines (a, s) → BeginsWithEntry (codes "PERSIST" ++ bytes) (Persist b t) rest
unfolding entry_by persist two_numbers
persist_first bytes mid a s rest b t p q is = two (codes "PERSIST") bytes mid a s rest (Persist b t) refl refl p q (λ f g x y. rw (x, y, ← is) refl)

pub assert_first : (bytes mid : List ℕ) (a s : ℕ) (rest : List ℕ) → HasField bytes a mid → HasField mid s rest → BeginsWithEntry (codes "ASSERT" ++ bytes) (Assert a s) rest
unfolding entry_by assert two_numbers
assert_first bytes mid a s rest p q = two (codes "ASSERT") bytes mid a s rest (Assert a s) refl refl p q (λ f g x y. rw (x, y) refl)

pub fence_first : (bytes rest : List ℕ) → bytes ≡ codes "FENCE" ++ rest → BeginsWithEntry bytes Fence rest
unfolding entry_by
fence_first bytes rest e = record { text = codes "FENCE"; whole = e; is = refl; inner = refl }

-- ---- the line

length_at : (xs : List ℕ) (s : ℕ) (ys : List ℕ) → list_any is_separator xs ≡ false → is_separator s ≡ true → position_or_len is_separator (xs ++ s ∷ ys) ≡ length xs
length_at [] s ys e h = rw h refl
length_at (x ∷ xs) s ys e h =
    let f = first_none x xs e in
    let ih = length_at xs s ys f.1 h in
    let one : 1 + length xs ≡ suc (length xs) = omega arith in
    rw (f.0, ih) one

position_at : (xs : List ℕ) (s : ℕ) (ys : List ℕ) → list_any is_separator xs ≡ false → is_separator s ≡ true → position is_separator (xs ++ s ∷ ys) ≡ Some (length xs)
position_at xs s ys e h =
    let at = length_at xs s ys e h in
    let len = length-append xs (s ∷ ys) in
    let within : nat_lt (length xs) (length (xs ++ s ∷ ys)) ≡ true = lt-ltb _ _ (omega (arith, len)) in
    rw (at, within) refl

pub line_first : (bytes rest more : List ℕ) (line : EntryText) → BeginsWithEntry bytes (usual_entry line.usual) rest → rest ≡ 10 ∷ more → line.len ≡ length bytes - length rest → line.len ≤ 256 → IsFirstLine bytes line
unfolding entry_of
line_first bytes rest more line h e len few =
    let total = length-append h.text rest in
    let same : length bytes ≡ length (h.text ++ rest) = ap (λ (xs : List ℕ). length xs) h.whole in
    let size : line.len ≡ length h.text = omega (arith, total, same, len) in
    let cut : bytes ≡ h.text ++ 10 ∷ more = h.whole ∙ ap (λ (xs : List ℕ). h.text ++ xs) e in
    let front : take line.len bytes ≡ h.text = ap (λ (n : ℕ). take n bytes) size ∙ ap (take (length h.text)) cut ∙ take-append_seam h.text (10 ∷ more) in
    let short : nat_lt 256 (length h.text) ≡ false = le-ltb 256 (length h.text) (omega (arith, size, few)) in
    let spelled : entry_of h.text ≡ Some (usual_entry line.usual) = rw short h.is in
    record {
      here = ap (position is_separator) cut ∙ position_at h.text 10 more h.inner refl ∙ ap (λ (n : ℕ). Some n) (sym size);
      spells = ap entry_of front ∙ spelled;
    }

-- ---- the answer

-- If the first line is dropped, `next` may give its entry as the answer.
pub line_read : (r r' : ReaderState) (s : CabinetState) (line : EntryText) → IsFirstLine r.held line → s.is_current ≡ true → r' ≡ record { held = drop (line.len + 1) r.held; count = one_more r.count; progress = Reading }
    → ReadsOn r r' s s (Ok (Some (usual_entry line.usual)))
line_read r r' s line h current e =
    let answer : answers_piece (entry_of (take line.len r.held)) r r' (line.len + 1) (Ok (Some (usual_entry line.usual))) = subst (λ (o : Option Entry). answers_piece o r r' (line.len + 1) (Ok (Some (usual_entry line.usual)))) (sym h.spells) (refl, e) in
    reads_on r r r' s s (fronts.Piece line.len) (Ok (Some (usual_entry line.usual))) refl (record { more = holds_still r.held s current; here = h.here }) answer

pub line_within : (held : List ℕ) (line : EntryText) → IsFirstLine held line → line.len < length held
line_within held line h = (cut_at held line.len h.here).within
