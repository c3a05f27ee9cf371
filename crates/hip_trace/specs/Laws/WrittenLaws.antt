-- Entries that are written one after the other are read back.
use Rattle.std.proofs.Common.{◌≡◌, ℕ, ℤ, pos, negsuc, suc, ◌/◌, ◌%◌, ◌^◌, ◌<◌, ◌≤◌, Bool, true, false, List, [], ◌∷◌, ◌++◌, map, Option, Some, slice_index, zero, refl, ap, ◌∙◌, arith, append_assoc, FitsSigned, w64}
use Rattle.std.specs.Prelude.{codes, decimal, ◌==◌, All}
use Rattle.std.specs.Char.{digit_value}
use Rattle.std.specs.Fmt.{digits, signed_decimal}
use Rattle.std.specs.List.{list_any}
use Rattle.std.specs.Str.Parse.{AllDigits}
use Rattle.std.proofs.lemmas.Bool.{eqb-true}
use Rattle.std.proofs.lemmas.List.Elements.{All-head, All-tail}
use Rattle.hex.specs.Hex.{encode_lower, encode_with, lower_digits}
use Rattle.hip_num.specs.Texts.{hexadecimal}
use Rattle.hip_num.specs.Laws.TextLaws.{decimal-number, hexadecimal-number}
use Rattle.hip_tokens.specs.Bytes.{byte}
use Rattle.hip_trace.specs.Entries.{trap_text}
use Rattle.hip_trace.specs.Fits.{ValuesFit}
use Rattle.hip_trace.specs.Pieces.{is_separator, spelled}
use Rattle.hip_trace.specs.Texts.{with_fields, word_of, fields_of, text_of, lines_of}
use Rattle.hip_trace.specs.declared.entry.Entry.{Entry}
use Rattle.hip_trace.specs.declared.entry.Entry.TheVariants.{Start, Register, Input, Image, Store, Flush, Fence, Persist, Assert, Stop, Trap, Cut}
use Rattle.hip_trace.specs.declared.entry.TrapWord.{TrapWord}
use Rattle.hip_trace.specs.declared.entry.TrapWord.TheVariants as traps
use Rattle.hip_trace.specs.Laws.FitLaws.{fits_spelled, size_fits, value_fits, wider}
use Rattle.hip_trace.specs.Laws.PieceLaws.{first_none, spelled_at}

-- ---- texts without separators

-- The text has no `|` and no line feed, so it is in one piece.
abbrev IsWhole : List ℕ → Type 0
IsWhole text = list_any is_separator text ≡ false

-- None of these fields has a `|` or a line feed.
abbrev AreWhole : List (List ℕ) → Type 0
AreWhole [] = Unit {0}
AreWhole (f ∷ fs) = IsWhole f × AreWhole fs

whole-append : (xs ys : List ℕ) → IsWhole xs → IsWhole ys → IsWhole (xs ++ ys)
whole-append [] ys h k = k
whole-append (x ∷ xs) ys h k = let p = first_none x xs h in rw (p.0, whole-append xs ys p.1 k) refl

digits_whole : (base : ℕ) (ds : List ℕ) → base ≤ 16 → AllDigits base ds → IsWhole ds
digits_whole base [] high h = refl
digits_whole base (d ∷ ds) high h = rw (other (d == byte "|") (d == byte "\n") refl refl)
    (digits_whole base ds high h.1)
  where
    never : (c : ℕ) → digit_value c ≡ 36 → d ≡ c → ⊥
    never c great same = let k : digit_value d ≡ 36 = ap digit_value same ∙ great in omega (arith, k, h.0, high)

    other : (a b : Bool) → (d == byte "|") ≡ a → (d == byte "\n") ≡ b → is_separator d ≡ false
    other true b p q = absurd (never 124 refl (eqb-true d 124 p))
    other false true p q = absurd (never 10 refl (eqb-true d 10 q))
    other false false p q = rw (p, q) refl

decimal_whole : (n : ℕ) → n < 2 ^ 64 → IsWhole (decimal n)
decimal_whole n h = digits_whole 10 (decimal n) (omega arith) (decimal-number n h).0.1

hexadecimal_whole : (n : ℕ) → n < 2 ^ 64 → IsWhole (hexadecimal n)
hexadecimal_whole n h = digits_whole 16 (digits 16 false n) (omega arith) (hexadecimal-number n h).0.1

signed_whole : (z : ℤ) → FitsSigned w64 z → IsWhole (signed_decimal z)
signed_whole (pos n) h = decimal_whole n (omega arith)
signed_whole (negsuc n) h = decimal_whole (suc n) (omega arith)

none_at : (xs : List ℕ) (k : ℕ) → IsWhole xs → is_separator (slice_index xs k) ≡ false
none_at [] k e = refl
none_at (x ∷ xs) zero e = (first_none x xs e).0
none_at (x ∷ xs) (suc k) e = none_at xs k (first_none x xs e).1

encoded_whole : (bytes : List ℕ) → IsWhole (encode_lower bytes)
unfolding encode_with
encoded_whole [] = refl
encoded_whole (b ∷ bs) = rw (none_at lower_digits (b / 16) refl, none_at lower_digits (b % 16) refl)
    (encoded_whole bs)

trap_whole : (kind : TrapWord) → IsWhole (trap_text kind)
trap_whole traps.DivZero = refl
trap_whole traps.DivOverflow = refl
trap_whole traps.ShiftRange = refl
trap_whole traps.Address = refl
trap_whole traps.Misaligned = refl
trap_whole traps.Stack = refl
trap_whole traps.Depth = refl
trap_whole traps.InputEnd = refl
trap_whole traps.Unreachable = refl

fields_whole : (e : Entry) → ValuesFit e → AreWhole (fields_of e)
fields_whole (Start limit) h = (decimal_whole limit h, tt)
fields_whole (Register base size) h = (hexadecimal_whole base h.0, (hexadecimal_whole size h.1, tt))
fields_whole (Input number) h = (signed_whole number h, tt)
fields_whole (Image addr bytes) h = (hexadecimal_whole addr h.fits, (encoded_whole bytes, tt))
fields_whole (Store addr value size) h = (
  hexadecimal_whole addr h.fits,
  (
    hexadecimal_whole value (value_fits size value h.sized h.within),
    (hexadecimal_whole size (size_fits size h.sized), tt),
  ),
)
fields_whole (Flush addr size) h = (
  hexadecimal_whole addr (omega (arith, h.some, h.within)),
  (hexadecimal_whole size h.fits, tt),
)
fields_whole Fence h = tt
fields_whole (Persist addr size) h = (
  hexadecimal_whole addr (omega (arith, h.some, h.within)),
  (hexadecimal_whole size h.fits, tt),
)
fields_whole (Assert addr size) h = (hexadecimal_whole addr h.0, (hexadecimal_whole size h.1, tt))
fields_whole (Stop code) h = (signed_whole code (wider code h), tt)
fields_whole (Trap kind) h = (trap_whole kind, tt)
fields_whole Cut h = tt

word_whole : (e : Entry) → IsWhole (word_of e)
word_whole (Start limit) = refl
word_whole (Register base size) = refl
word_whole (Input number) = refl
word_whole (Image addr bytes) = refl
word_whole (Store addr value size) = refl
word_whole (Flush addr size) = refl
word_whole Fence = refl
word_whole (Persist addr size) = refl
word_whole (Assert addr size) = refl
word_whole (Stop code) = refl
word_whole (Trap kind) = refl
word_whole Cut = refl

with_whole : (w : List ℕ) (fs : List (List ℕ)) → IsWhole w → AreWhole fs → IsWhole (with_fields w fs)
with_whole w [] h k = h
with_whole w (f ∷ fs) h k = with_whole (w ++ byte ";" ∷ f) fs (whole-append w (byte ";" ∷ f) h k.0) k.1

text_whole : (e : Entry) → ValuesFit e → IsWhole (text_of e)
unfolding text_of
text_whole e h = with_whole (word_of e) (fields_of e) (word_whole e) (fields_whole e h)

-- ---- what is written

pub read_back : (es : List Entry) → All ValuesFit es → spelled true (lines_of es) ≡ map (λ e. Some e) es
read_back [] h = refl
read_back (e ∷ es) h =
    let fits = All-head ValuesFit e es h in
    ap (spelled true) (append_assoc (text_of e) (codes "\n") (lines_of es))
    ∙ spelled_at (text_of e) (byte "\n") (lines_of es) (text_whole e fits) refl
    ∙ ap (λ (o : Option Entry). o ∷ spelled true (lines_of es)) (fits_spelled e fits).by_its_text
    ∙ ap (λ (os : List (Option Entry)). Some e ∷ os) (read_back es (All-tail ValuesFit e es h))
