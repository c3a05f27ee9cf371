-- What a stream was given, piece by piece.
use Rattle.std.proofs.Common.{ℕ, ◌+◌, ◌-◌, ◌≡◌, ◌≤◌, Bool, true, false, List, [], ◌++◌, length, Option, Some, None, option_map, is_some, take, drop, slice_range, refl, sym, subst, ap, ◌∙◌, arith, length-take, append-nil, le_refl, take_all}
use lib.Seq.{take-add, take-take}
use Rattle.std.proofs.lemmas.List.{drop-take, take-append-drop}
use Rattle.std.specs.Io.KnownBytes.{Appends, Keeps, append_known}
use Rattle.std.proofs.KnownBytes.{Appends-kept, Appends-nil, Appends-trans, append_known-moved}
use Rattle.hip_files.specs.Streams.{Counts, Took, given}
use Rattle.hip_io.specs.Sinks.{HasPut}
use Rattle.hip_io.specs.declared.sink.Put.{Put}
use Rattle.hip_io.specs.declared.sink.Put.TheVariants.{Done, Failed}

-- ---- bytes that are held

-- A range that is moved to the front is what is held without its first bytes.
pub skipped : (xs : List ℕ) (end count : ℕ) → count ≤ end → slice_range xs count end ≡ drop count (take end xs)
skipped xs end count inside =
    let parts : end ≡ count + (end - count) = omega arith in
    sym (ap (λ j. drop count (take j xs)) parts ∙ drop-take count _ xs)

-- ---- bytes that go to a device

-- One write more took the next n bytes.
pub written_more : (a b c : Option (List ℕ)) (xs : List ℕ) (done n : ℕ) → done ≤ length xs
    → n ≤ length (take (length xs - done) (drop done xs)) → Appends a b (take done xs)
    → Appends b c (take n (take (length xs - done) (drop done xs)))
    → (done + n ≤ length xs) × Appends a c (take (done + n) xs)
written_more a b c xs done n within fits before more =
    let most = length-take (length xs - done) (drop done xs) in
    let joined = ap (λ l. take done xs ++ l) (take-take n (length xs - done) (drop done xs) (omega (arith, most, fits)))
    ∙ sym (take-add done n xs) in
    (omega (arith, most, fits, within), subst (Appends a c) joined (Appends-trans a b c _ _ before more))

-- The device took the first n bytes of what was held, and the others are still held.
pub moved : (a b : Option (List ℕ)) (held rest : List ℕ) (n : ℕ) → Appends a b (take n held) → rest ≡ drop n held
    → Keeps (append_known a held) (append_known b rest)
moved a b held rest n took left =
    append_known-moved a b (take n held) rest held took
    (sym (take-append-drop n held) ∙ ap (λ l. take n held ++ l) (sym left))

-- ---- what a stream did with a piece

pub kept_nothing : (a b : Option (List ℕ)) → Keeps a b → Appends a b []
kept_nothing a b p = Appends-kept a a b [] (Appends-nil a) p

pub kept_first : (a b c : Option (List ℕ)) (xs : List ℕ) → Keeps a b → Appends b c xs → Appends a c xs
kept_first a b c xs p q = Appends-trans a b c [] xs (kept_nothing a b p) q

pub took_kept : (a b : Option (List ℕ)) (r : Put) → Keeps a b → Took a b [] r
took_kept a b Done p = kept_nothing a b p
took_kept a b Failed p = (0, kept_nothing a b p)

pub took_none : (a b : Option (List ℕ)) (piece : List ℕ) → Keeps a b → Took a b piece Failed
took_none a b piece p = (0, kept_nothing a b p)

pub kept_took : (a b c : Option (List ℕ)) (piece : List ℕ) (r : Put) → Keeps a b → Took b c piece r → Took a c piece r
kept_took a b c piece Done p q = kept_first a b c piece p q
kept_took a b c piece Failed p q = (q.0, kept_first a b c _ p q.1)

pub took_then_kept : (a b c : Option (List ℕ)) (piece : List ℕ) (r : Put) → Took a b piece Done → Keeps b c → Took a c piece r
took_then_kept a b c piece Done p q = Appends-kept a b c piece p q
took_then_kept a b c piece Failed p q =
    (length piece, subst (Appends a c) (sym (take_all _ piece (le_refl _))) (Appends-kept a b c piece p q))

-- A piece was written while nothing was held.
pub took_front : (a b : Option (List ℕ)) (held held' piece : List ℕ) (n : ℕ) → held ≡ [] → held' ≡ held
    → Appends a b (take n piece) → Appends (append_known a held) (append_known b held') (take n piece)
took_front None b held held' piece n none same p = tt
took_front (Some x) None held held' piece n none same p = absurd p
took_front (Some x) (Some y) held held' piece n none same p =
    let rest : held' ≡ [] = same ∙ none in
    ap (λ l. y ++ l) rest ∙ append-nil y ∙ p ∙ ap (λ l. l ++ take n piece) (sym (ap (λ l. x ++ l) none ∙ append-nil x))

-- ---- what contracts of sinks see

given_more : (reveals : Bool) (a b : Option (List ℕ)) (held held' text : List ℕ) → (reveals ≡ true → is_some a ≡ true)
    → Appends (append_known a held) (append_known b held') text
    → given reveals b held' ≡ option_map (λ x. x ++ text) (given reveals a held)
given_more false a b held held' text revealed p = refl
given_more true None b held held' text revealed p = absurd (let none : false ≡ true = revealed refl in let z : ⊥ = cc in z)
given_more true (Some x) None held held' text revealed p = absurd p
given_more true (Some x) (Some y) held held' text revealed p = ap (λ (l : List ℕ). Some l) p

pub has_put : (reveals : Bool) (a b : Option (List ℕ)) (held held' text : List ℕ) (f g : ℕ) (r : Put)
    → (reveals ≡ true → is_some a ≡ true) → Took (append_known a held) (append_known b held') text r → Counts f g r
    → HasPut (record { bytes = given reveals a held; faults = f }) (record { bytes = given reveals b held'; faults = g }) text r
has_put reveals a b held held' text f g Done revealed p q = record {
  bytes = given_more reveals a b held held' text revealed p;
  faults = q;
}
has_put reveals a b held held' text f g Failed revealed p q = record {
  written = take p.0 text;
  missing = drop p.0 text;
  parts = sym (take-append-drop p.0 text);
  bytes = given_more reveals a b held held' _ revealed p.1;
  later = q.0;
  rose = q.1;
}
