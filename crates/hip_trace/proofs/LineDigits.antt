-- Hexadecimal digits that are written before a text.
use Rattle.std.proofs.Common.{◌≡◌, ◌⊎◌, inl, inr, ℕ, zero, suc, ◌+◌, ◌-◌, ◌/◌, ◌%◌, ◌^◌, ◌<◌, ◌≤◌, false, List, [], ◌∷◌, ◌++◌, length, drop, set, sym, ap, subst, ◌∙◌, arith}
use Rattle.std.specs.Fmt.{digits, digit_glyph}
use Rattle.std.proofs.lemmas.Bool.{cases_order}
use Rattle.std.proofs.Math.ListN.{length-set}
use Rattle.std.proofs.lemmas.List.{drop-set}
use Rattle.hip_num.proofs.HexDigits.{onto, onto_all, onto_last, onto_step, one_less}

-- One digit, or one more digit than a number that is spelled already.
by_size : (k n : ℕ) (written more : List ℕ)
    → onto k (n / 16) (digit_glyph false (n % 16) ∷ (written ++ more))
    ≡ onto k (n / 16) (digit_glyph false (n % 16) ∷ written) ++ more
    → (n ≡ 16) ⊎ ((n < 16) ⊎ (16 < n)) → onto (suc k) n (written ++ more) ≡ onto (suc k) n written ++ more
by_size k n written more rest t = go t
  where
    several : 16 ≤ n → onto (suc k) n (written ++ more) ≡ onto (suc k) n written ++ more
    several h = onto_step k n (written ++ more) h ∙ rest ∙ ap (λ xs. xs ++ more) (sym (onto_step k n written h))

    go : (n ≡ 16) ⊎ ((n < 16) ⊎ (16 < n)) → onto (suc k) n (written ++ more) ≡ onto (suc k) n written ++ more
    go (inl same) = several (omega (arith, same))
    go (inr (inl less)) = onto_last k n (written ++ more) less ∙ ap (λ xs. xs ++ more) (sym (onto_last k n written less))
    go (inr (inr large)) = several (omega (arith, large))

-- The digits of a number are written before the text that is already written.
onto_append : (k n : ℕ) (written more : List ℕ) → n < 16 ^ (k + 1)
    → onto (suc k) n (written ++ more) ≡ onto (suc k) n written ++ more
onto_append zero n written more h =
    let less : n < 16 = omega (arith, h) in
    onto_last 0 n (written ++ more) less ∙ ap (λ xs. xs ++ more) (sym (onto_last 0 n written less))
onto_append (suc k) n written more h =
    let e : suc k - 1 ≡ k = omega arith in
    let less : n / 16 < 16 ^ (k + 1) = subst (λ (j : ℕ). n / 16 < 16 ^ (j + 1)) e (one_less (suc k) n (omega arith) h) in
    by_size (suc k) n written more (onto_append k (n / 16) (digit_glyph false (n % 16) ∷ written) more less) (cases_order n 16)

pub onto_before : (n : ℕ) (more : List ℕ) → n < 2 ^ 64 → onto 64 n more ≡ digits 16 false n ++ more
onto_before n more h =
    onto_append 63 n [] more (omega (arith, h)) ∙ ap (λ xs. xs ++ more) (onto_all n)

-- One more digit is written before the others, and the rest of the number is left.
pub next_before : (k i rest x : ℕ) (text all : List ℕ) → 16 ≤ rest → 1 ≤ k → 1 ≤ i → i < length text
    → x ≡ digit_glyph false (rest % 16) → onto (k + 49) rest (drop (i + 1) text) ≡ all
    → onto (k - 1 + 49) (rest / 16) (drop (i - 1 + 1) (set text i x)) ≡ all
next_before k i rest x text all more some first inside x_is is =
    let e : k + 49 ≡ suc (k - 1 + 49) = omega arith in
    let f : i - 1 + 1 ≡ i = omega arith in
    rw (f, drop-set text i x inside, x_is)
    (sym (onto_step (k - 1 + 49) rest (drop (i + 1) text) more) ∙ ap (λ (j : ℕ). onto j rest (drop (i + 1) text)) (sym e) ∙ is)

-- The first digit is written.
pub last_before : (k i rest x : ℕ) (text all : List ℕ) → rest < 16 → i < length text → x ≡ digit_glyph false rest
    → onto (k + 49) rest (drop (i + 1) text) ≡ all → drop i (set text i x) ≡ all
last_before k i rest x text all less inside x_is is =
    let e : k + 49 ≡ suc (k + 48) = omega arith in
    rw (drop-set text i x inside, x_is)
    (sym (onto_last (k + 48) rest (drop (i + 1) text) less) ∙ ap (λ (j : ℕ). onto j rest (drop (i + 1) text)) (sym e) ∙ is)

-- Two more digits are written before the others, and the rest of the number is left.
pub pair_before : (k i rest x y : ℕ) (text all : List ℕ) → 256 ≤ rest → 2 ≤ k → 2 ≤ i → i < length text
    → x ≡ digit_glyph false (rest % 256 % 16) → y ≡ digit_glyph false (rest % 256 / 16)
    → onto (k + 49) rest (drop (i + 1) text) ≡ all
    → onto (k - 2 + 49) (rest / 256) (drop (i - 2 + 1) (set (set text i x) (i - 1) y)) ≡ all
pair_before k i rest x y text all more some first inside x_is y_is is =
    let low : rest % 256 % 16 ≡ rest % 16 = omega arith in
    let high : rest % 256 / 16 ≡ rest / 16 % 16 = omega arith in
    let both : rest / 16 / 16 ≡ rest / 256 = omega arith in
    let fewer : k - 1 - 1 ≡ k - 2 = omega arith in
    let before : i - 1 - 1 ≡ i - 2 = omega arith in
    let size : length (set text i x) ≡ length text = length-set text i x in
    let one = next_before k i rest x text all (omega (arith, more)) (omega (arith, some)) (omega (arith, first)) inside (x_is ∙ ap (digit_glyph false) low) is in
    let two = next_before (k - 1) (i - 1) (rest / 16) y (set text i x) all (omega (arith, more)) (omega (arith, some)) (omega (arith, first)) (omega (arith, inside, size)) (y_is ∙ ap (digit_glyph false) high) one in
    subst (λ (n : ℕ). onto (k - 2 + 49) n (drop (i - 2 + 1) (set (set text i x) (i - 1) y)) ≡ all) both
    (subst (λ (j : ℕ). onto (j + 49) (rest / 16 / 16) (drop (i - 2 + 1) (set (set text i x) (i - 1) y)) ≡ all) fewer
    (subst (λ (j : ℕ). onto (k - 1 - 1 + 49) (rest / 16 / 16) (drop (j + 1) (set (set text i x) (i - 1) y)) ≡ all) before two))

-- The first two digits are written.
pub last_pair : (k i rest x y : ℕ) (text all : List ℕ) → 16 ≤ rest → rest < 256 → 1 ≤ k → 1 ≤ i → i < length text
    → x ≡ digit_glyph false (rest % 16) → y ≡ digit_glyph false (rest / 16)
    → onto (k + 49) rest (drop (i + 1) text) ≡ all → drop (i - 1) (set (set text i x) (i - 1) y) ≡ all
last_pair k i rest x y text all more less some first inside x_is y_is is =
    let size : length (set text i x) ≡ length text = length-set text i x in
    last_before (k - 1) (i - 1) (rest / 16) y (set text i x) all (omega (arith, less)) (omega (arith, inside, size)) y_is
    (next_before k i rest x text all more some first inside x_is is)

-- A number of three digits or more has at least two digits before its last one.
pub has_places : (at n : ℕ) → 256 ≤ n → n < 16 ^ (at + 1) → 2 ≤ at
has_places zero n h k = absurd (omega arith)
has_places (suc zero) n h k = absurd (omega (arith, h, k))
has_places (suc (suc at)) n h k = omega arith

-- The rest of a number has two digits fewer.
pub two_less : (at n : ℕ) → 2 ≤ at → n < 16 ^ (at + 1) → n / 256 < 16 ^ (at - 2 + 1)
two_less at n some h =
    let both : n / 16 / 16 ≡ n / 256 = omega arith in
    let fewer : at - 1 - 1 ≡ at - 2 = omega arith in
    let less : n / 16 / 16 < 16 ^ (at - 1 - 1 + 1) = one_less (at - 1) (n / 16) (omega (arith, some)) (one_less at n (omega (arith, some)) h) in
    subst (λ (j : ℕ). n / 256 < 16 ^ (j + 1)) fewer (subst (λ (m : ℕ). m < 16 ^ (at - 1 - 1 + 1)) both less)
