-- Hexadecimal digits, written from the last one to the first.
use Rattle.std.proofs.Common.{ℕ, zero, suc, ◌+◌, ◌-◌, ◌*◌, ◌/◌, ◌%◌, ◌^◌, ◌<◌, ◌≤◌, ◌≡◌, true, false, eqb, List, [], ◌∷◌, length, take, drop, set, refl, sym, ap, subst, ◌∙◌, arith}
use Rattle.std.specs.Fmt.{digits, digits_onto, digit_glyph}
use Rattle.std.proofs.Math.Nat.{pow-suc, mod-eq_of_lt}
use Rattle.std.proofs.lemmas.List.{drop-set}
use Rattle.std.proofs.lemmas.Nat.{div_below}
use Rattle.std.proofs.lemmas.Bool.Decides.{nat_tests}

-- At most the last k digits of n, followed by the digits that are already written.
pub onto : ℕ → ℕ → List ℕ → List ℕ
onto k n written = digits_onto k 16 false n written

pub onto_step : (k n : ℕ) (written : List ℕ) → 16 ≤ n → onto (suc k) n written ≡ onto k (n / 16) (digit_glyph false (n % 16) ∷ written)
unfolding onto
onto_step k n written h =
    let more : eqb (n / 16) 0 ≡ false = grind (arith, nat_tests) in
    rw more refl

pub onto_last : (k n : ℕ) (written : List ℕ) → n < 16 → onto (suc k) n written ≡ digit_glyph false n ∷ written
unfolding onto
onto_last k n written h =
    let none : eqb (n / 16) 0 ≡ true = grind (arith, nat_tests) in
    rw (none, mod-eq_of_lt h) refl

pub onto_all : (n : ℕ) → onto 64 n [] ≡ digits 16 false n
unfolding onto digits
onto_all n = refl

pub has_place : (at n : ℕ) → 16 ≤ n → n < 16 ^ (at + 1) → 1 ≤ at
has_place zero n h k = absurd (omega arith)
has_place (suc at) n h k = omega arith

pub one_less : (at n : ℕ) → 1 ≤ at → n < 16 ^ (at + 1) → n / 16 < 16 ^ (at - 1 + 1)
one_less at n h k =
    let e : at + 1 ≡ suc at = omega arith in
    let f : at - 1 + 1 ≡ at = omega arith in
    let room : n < 16 ^ at * 16 = subst (λ (x : ℕ). n < x) (ap (λ (x : ℕ). 16 ^ x) e ∙ pow-suc 16 at) k in
    subst (λ (x : ℕ). n / 16 < 16 ^ x) (sym f) (div_below n 16 (16 ^ at) (omega arith) room)

-- One more digit is written before the others, and the digits before it remain to be written.
pub next_digit : (at rest x : ℕ) (text all : List ℕ) → 16 ≤ rest → 1 ≤ at → at < length text → x ≡ digit_glyph false (rest % 16) →
    onto (at + 49) rest (drop (at + 1) text) ≡ all → onto (at - 1 + 49) (rest / 16) (drop (at - 1 + 1) (set text at x)) ≡ all
next_digit at rest x text all more some inside x_is is =
    let e : at + 49 ≡ suc (at - 1 + 49) = omega arith in
    let f : at - 1 + 1 ≡ at = omega arith in
    rw (f, drop-set text at x inside, x_is)
    (sym (onto_step (at - 1 + 49) rest (drop (at + 1) text) more) ∙ ap (λ (k : ℕ). onto k rest (drop (at + 1) text)) (sym e) ∙ is)

-- The digit that is written last is the first one, and completes the text.
pub last_digit : (at rest x : ℕ) (text all : List ℕ) → rest < 16 → at < length text → x ≡ digit_glyph false rest →
    onto (at + 49) rest (drop (at + 1) text) ≡ all → drop at (set text at x) ≡ all
last_digit at rest x text all less inside x_is is =
    let e : at + 49 ≡ suc (at + 48) = omega arith in
    rw (drop-set text at x inside, x_is)
    (sym (onto_last (at + 48) rest (drop (at + 1) text) less) ∙ ap (λ (k : ℕ). onto k rest (drop (at + 1) text)) (sym e) ∙ is)

-- The two bytes of `0x`, written first.
pub prefix_written : (buf : List ℕ) → 2 ≤ length buf → take 2 (set (set buf 0 48) 1 120) ≡ 48 ∷ 120 ∷ []
prefix_written [] h = absurd (omega arith)
prefix_written (a ∷ []) h = absurd (omega arith)
prefix_written (a ∷ (b ∷ rest)) h = refl
