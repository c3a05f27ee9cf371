-- Picks as lists: how they are looked up, and what follows if none of them fails.
use Rattle.std.proofs.Common.{◌≡◌, ◌≢◌, ◌⊎◌, inl, inr, ℕ, zero, suc, ◌+◌, ◌-◌, ◌*◌, ◌/◌, ◌<◌, ◌≤◌, ◌==◌, Bool, true, false, cond, ◌&&◌, nat_eq, nat_le, nat_lt, nat_cmp, List, [], ◌∷◌, ◌++◌, length, map, take, drop, get_or, Option, Some, None, is_some, slice_get, slice_index, refl, sym, ap, ap₂, ◌∙◌, subst, arith, length-append, length-drop}
use Rattle.std.specs.BTreeMap.{is_at}
use Rattle.std.specs.List.{range_with_len}
use Rattle.std.specs.Map.{lookup}
use Rattle.std.proofs.lemmas.Bool.Decides.{nat_tests}
use Rattle.std.proofs.lemmas.List.{length-take-le, take_all}
use Rattle.hip_lines.specs.Image.{byte_after, parts_of}
use Rattle.hip_lines.specs.Line.{Line, AreOrdered, IsOrdered}
use Rattle.hip_lines.specs.Laws.ImageLaws.{length-image_from, slice_index-image_from}
use Rattle.hip_lines.specs.Laws.LineLaws.{ordered-at}
use Rattle.hip_lines.specs.Laws.LooseLaws.{get-append_left, get-append_end, get-below}
use Rattle.hip_runs.specs.Crash.{byte_of, covers, IsCrashImage, IsCrashPick, crash_image}
use Rattle.hip_runs.specs.State.{State, StorePart}
use Rattle.hip_runs.specs.declared.input.Input.{Input}
use Rattle.hip_crash.specs.Numbers.{AreNumbers, IsBetween, IsNumberOf, number_in}
use Rattle.hip_crash.specs.Picks.{ArePicksOf, bounds_in, bounds_of, failure, failure_after, first_failure, first_of, number_for, number_or, picked, range_failure}
use Rattle.hip_types.specs.declared.pick.Pick.{Pick}
use Rattle.hip_types.specs.declared.pick.PickRefusal.{PickRefusal}
use Rattle.hip_types.specs.declared.pick.PickRefusal.TheVariants.{NoLine, Repeated, OutOfRange}
use Rattle.hip_crash.proofs.Bytes.{index-take, same_lists}
use Rattle.hip_crash.proofs.Holding.{index-drop}
use Rattle.hip_lines.specs.Laws.ItemLaws.{equal_or_not}
use Rattle.hip_crash.proofs.Steps.{get_there}

-- ---- one more pick

eq_test : (a b : ℕ) → a ≡ b → nat_eq a b ≡ true
eq_test a b e = grind (arith, nat_tests)

ne_test : (a b : ℕ) → a ≢ b → nat_eq a b ≡ false
ne_test a b ne = grind (arith, nat_tests)

number-is_at : (j k : ℕ) → is_at (nat_cmp j) k ≡ nat_eq j k
number-is_at j k = grind (arith, nat_tests)

number-after : (xs : List Pick) (p : Pick) (j : ℕ) → number_for xs j ≡ None → number_for (xs ++ p ∷ []) j ≡ cond (nat_eq p.line j) (Some p.upto) None
number-after [] p j e = refl
number-after (x ∷ xs) p j e = go (λ k. number-after xs p j k) (nat_eq x.line j) refl e
  where
    go : (number_for xs j ≡ None → number_for (xs ++ p ∷ []) j ≡ cond (nat_eq p.line j) (Some p.upto) None) → (b : Bool) → nat_eq x.line j ≡ b → cond b (Some x.upto) (number_for xs j) ≡ None → cond (nat_eq x.line j) (Some x.upto) (number_for (xs ++ p ∷ []) j) ≡ cond (nat_eq p.line j) (Some p.upto) None
    go more true t e = absurd (let z : ⊥ = cc in z)
    go more false t e = ap (λ b. cond b (Some x.upto) (number_for (xs ++ p ∷ []) j)) t ∙ more e

number-other : (xs : List Pick) (p : Pick) (j : ℕ) → p.line ≢ j → number_for (xs ++ p ∷ []) j ≡ number_for xs j
number-other [] p j ne = ap (λ b. cond b (Some p.upto) None) (ne_test p.line j ne)
number-other (x ∷ xs) p j ne = ap (λ o. cond (nat_eq x.line j) (Some x.upto) o) (number-other xs p j ne)

-- A look-up in a table by lines gives the number of the line.
pub number-found : (entries : List (ℕ × ℕ)) (j : ℕ) → lookup (is_at (nat_cmp j)) entries ≡ number_in entries j
number-found entries j = λ i. lookup (λ k. number-is_at j k i) entries

pub numbers-more : (xs : List Pick) (p : Pick) (old new : List (ℕ × ℕ)) → AreNumbers xs old →
    ((q : ℕ) → lookup (is_at (nat_cmp q)) new ≡ cond (is_at (nat_cmp p.line) q) (Some p.upto) (lookup (is_at (nat_cmp q)) old)) → number_for xs p.line ≡ None → AreNumbers (xs ++ p ∷ []) new
numbers-more xs p old new h updates e = record { are = λ j. go j (equal_or_not j p.line) }
  where
    updated : (q : ℕ) → number_in new q ≡ cond (nat_eq p.line q) (Some p.upto) (number_in old q)
    updated q = sym (number-found new q) ∙ updates q ∙ (λ i. cond (number-is_at p.line q i) (Some p.upto) (number-found old q i))

    go : (j : ℕ) → (((j == p.line) ≡ true) × (j ≡ p.line)) ⊎ (((j == p.line) ≡ false) × (j ≢ p.line)) → number_in new j ≡ number_for (xs ++ p ∷ []) j
    go j (inl s) =
        let named : nat_eq p.line j ≡ true = eq_test p.line j (sym s.1) in
        updated j ∙ ap (λ b. cond b (Some p.upto) (number_in old j)) named
        ∙ sym (number-after xs p j (ap (number_for xs) s.1 ∙ e) ∙ ap (λ b. cond b (Some p.upto) None) named)
    go j (inr s) =
        let other : p.line ≢ j = λ z. s.1 (sym z) in
        updated j ∙ ap (λ b. cond b (Some p.upto) (number_in old j)) (ne_test p.line j other) ∙ h.are j ∙ sym (number-other xs p j other)

-- A pick that does not fail names a line of the region, which no earlier pick names, and a number within the line's
-- bounds.
pub failed-none : (s : State) (earlier : List Pick) (at : ℕ) (p : Pick) → failure s earlier at p ≡ None → (p.line < length s.lines) × (number_for earlier p.line ≡ None) × IsBetween (bounds_of s p.line) p.upto
failed-none s earlier at p e = line (nat_lt p.line (length s.lines)) refl e
  where
    less : nat_lt p.line (length s.lines) ≡ true → p.line < length s.lines
    less t = grind (arith, nat_tests)

    between : (a b c : ℕ) → nat_le a b && nat_le b c ≡ true → (a ≤ b) × (b ≤ c)
    between a b c t = (grind (arith, nat_tests), grind (arith, nat_tests))

    range : (b : Bool) → nat_le (bounds_of s p.line).least p.upto && nat_le p.upto (bounds_of s p.line).most ≡ b → cond b None (Some (OutOfRange at (bounds_of s p.line).least (bounds_of s p.line).most)) ≡ None → IsBetween (bounds_of s p.line) p.upto
    range true t e = let k = between (bounds_of s p.line).least p.upto (bounds_of s p.line).most t in record { least = k.0; most = k.1 }
    range false t e = absurd (let z : ⊥ = cc in z)

    repeat : (o : Option ℕ) → number_for earlier p.line ≡ o → cond (is_some o) (Some (Repeated at)) (range_failure at (bounds_of s p.line) p.upto) ≡ None → (number_for earlier p.line ≡ None) × IsBetween (bounds_of s p.line) p.upto
    repeat None t e = (t, range (nat_le (bounds_of s p.line).least p.upto && nat_le p.upto (bounds_of s p.line).most) refl e)
    repeat (Some n) t e = absurd (let z : ⊥ = cc in z)

    line : (b : Bool) → nat_lt p.line (length s.lines) ≡ b → cond b (cond (is_some (number_for earlier p.line)) (Some (Repeated at)) (range_failure at (bounds_of s p.line) p.upto)) (Some (NoLine at)) ≡ None
        → (p.line < length s.lines) × (number_for earlier p.line ≡ None) × IsBetween (bounds_of s p.line) p.upto
    line true t e = let k = repeat (number_for earlier p.line) refl e in (less t, k.0, k.1)
    line false t e = absurd (let z : ⊥ = cc in z)

-- ---- picks that fit

pub fit-number : (s : State) (earlier rest : List Pick) → failure_after s earlier rest ≡ None → (j upto : ℕ) → number_for rest j ≡ Some upto → IsBetween (bounds_of s j) upto
fit-number s earlier [] e j upto q = absurd (let z : ⊥ = cc in z)
fit-number s earlier (p ∷ rest) e j upto q = go (λ later f. fit-number s (earlier ++ p ∷ []) rest later j upto f) (failure s earlier (suc (length earlier)) p) refl e
  where
    named : (failure_after s (earlier ++ p ∷ []) rest ≡ None → number_for rest j ≡ Some upto → IsBetween (bounds_of s j) upto) → (b : Bool) → nat_eq p.line j ≡ b → cond b (Some p.upto) (number_for rest j) ≡ Some upto → IsBetween (bounds_of s p.line) p.upto → failure_after s (earlier ++ p ∷ []) rest ≡ None → IsBetween (bounds_of s j) upto
    named more true t q between later =
        let same : p.upto ≡ upto = cc in
        let line : p.line ≡ j = grind (arith, nat_tests) in
        subst (IsBetween (bounds_of s j)) same (subst (λ i. IsBetween (bounds_of s i) p.upto) line between)
    named more false t q between later = more later q

    go : (failure_after s (earlier ++ p ∷ []) rest ≡ None → number_for rest j ≡ Some upto → IsBetween (bounds_of s j) upto) → (o : Option PickRefusal) → failure s earlier (suc (length earlier)) p ≡ o → first_of o (failure_after s (earlier ++ p ∷ []) rest) ≡ None → IsBetween (bounds_of s j) upto
    go more None t later = named more (nat_eq p.line j) refl q (failed-none s earlier (suc (length earlier)) p t).2 later
    go more (Some r) t later = absurd (let z : ⊥ = cc in z)

pub fit-between : (s : State) (picks : List Pick) → AreOrdered s.lines → first_failure s picks ≡ None → (j : ℕ) (l : Line StorePart) → slice_get s.lines j ≡ Some l → IsBetween (bounds_of s j) (picked s picks j)
fit-between s picks o e j l q = go (number_for picks j) refl
  where
    h : IsOrdered l
    h = ordered-at s.lines j l o q

    go : (n : Option ℕ) → number_for picks j ≡ n → IsBetween (bounds_of s j) (number_or (bounds_of s j).least n)
    go None t = subst (λ b. IsBetween b b.least) (sym (ap bounds_in q)) (record { least = omega arith; most = omega (arith, h.durable, h.flushed) })
    go (Some upto) t = fit-number s [] picks e j upto t

pub fit-pick : (s : State) (picks : List Pick) → AreOrdered s.lines → first_failure s picks ≡ None → IsCrashPick s (picked s picks)
fit-pick s picks o e j l q =
    let k = subst (λ b. IsBetween b (picked s picks j)) (ap bounds_in q) (fit-between s picks o e j l q) in
    (k.least, k.most)

-- ---- a piece of an image

pub piece : (I : Input) (s : State) (pick : ℕ → ℕ) (j : ℕ) (l : Line StorePart) (bs : List ℕ) → length I.image ≡ 64 * length s.lines → slice_get s.lines j ≡ Some l → j < length s.lines → length bs ≡ 64
    → ((i : ℕ) → i < 64 → slice_index bs i ≡ byte_after covers byte_of (take (pick j) l.parts) (64 * j + i) (slice_index I.image (64 * j + i)))
    → bs ≡ take 64 (drop (64 * j) (crash_image I s pick))
piece I s pick j l bs size e lt long at = same_lists bs (take 64 (drop (64 * j) (crash_image I s pick))) (long ∙ sym front) (λ i low. at i (omega (arith, low, long)) ∙ sym (byte i (omega (arith, low, long))))
  where
    whole : length (crash_image I s pick) ≡ 64 * length s.lines
    whole = length-image_from covers byte_of s.lines pick 0 I.image ∙ size

    front : length (take 64 (drop (64 * j) (crash_image I s pick))) ≡ 64
    front = length-take-le 64 (drop (64 * j) (crash_image I s pick)) (rest (length (drop (64 * j) (crash_image I s pick))) (length-drop (64 * j) (crash_image I s pick)))
      where
        rest : (m : ℕ) → m ≡ length (crash_image I s pick) - 64 * j → 64 ≤ m
        rest m q = omega (arith, q, whole, lt)

    byte : (i : ℕ) → i < 64 → slice_index (take 64 (drop (64 * j) (crash_image I s pick))) i ≡ byte_after covers byte_of (take (pick j) l.parts) (64 * j + i) (slice_index I.image (64 * j + i))
    byte i low =
        let b : 64 * j + i < length I.image = omega (arith, size, lt, low) in
        let line : (0 + (64 * j + i)) / 64 ≡ j = omega (arith, low) in
        let zero_is : 0 + (64 * j + i) ≡ 64 * j + i = omega arith in
        index-take 64 (drop (64 * j) (crash_image I s pick)) i low ∙ index-drop [] 0 (64 * j) (crash_image I s pick) i
        ∙ slice_index-image_from covers byte_of s.lines pick 0 I.image (64 * j + i) b
        ∙ ap (λ k. byte_after covers byte_of (take (pick k) (parts_of covers byte_of (slice_get s.lines k))) (0 + (64 * j + i)) (slice_index I.image (64 * j + i))) line
        ∙ ap (λ o. byte_after covers byte_of (take (pick j) (parts_of covers byte_of o)) (0 + (64 * j + i)) (slice_index I.image (64 * j + i))) e
        ∙ ap (λ k. byte_after covers byte_of (take (pick j) l.parts) k (slice_index I.image (64 * j + i))) zero_is

-- A front of an image, one line longer.
pub front-more : (xs front bs : List ℕ) (j : ℕ) → front ≡ take (64 * j) xs → bs ≡ take 64 (drop (64 * j) xs) → front ++ bs ≡ take (64 * (j + 1)) xs
front-more xs front bs j f b = ap₂ (λ a c. a ++ c) f b ∙ sym (take-take-drop (64 * j) 64 xs) ∙ ap (λ n. take n xs) (let z : 64 * j + 64 ≡ 64 * (j + 1) = omega arith in z)
  where
    empty : (c : ℕ) → take {A = ℕ} c [] ≡ []
    empty zero = refl
    empty (suc c) = refl

    take-take-drop : (m n : ℕ) (ys : List ℕ) → take (m + n) ys ≡ take m ys ++ take n (drop m ys)
    take-take-drop zero n ys = ap (λ k. take k ys) (let z : 0 + n ≡ n = omega arith in z)
    take-take-drop (suc m) n [] = empty (suc m + n) ∙ sym (empty n)
    take-take-drop (suc m) n (y ∷ ys) = ap (λ k. take k (y ∷ ys)) (let z : suc m + n ≡ suc (m + n) = omega arith in z) ∙ ap (λ zs. y ∷ zs) (take-take-drop m n ys)

pub front-whole : (I : Input) (s : State) (pick : ℕ → ℕ) (front : List ℕ) (j : ℕ) → length I.image ≡ 64 * length s.lines → length s.lines ≤ j → front ≡ take (64 * j) (crash_image I s pick) → front ≡ crash_image I s pick
front-whole I s pick front j size le e = e ∙ take_all (64 * j) (crash_image I s pick) (omega (arith, length-image_from covers byte_of s.lines pick 0 I.image, size, le))

-- ---- picks that are found

-- The picks of the first lines, each with the number that the image has there.
pub record AreFound (I : Input) (s : State) (image : List ℕ) (count : ℕ) (picks : List Pick) : Type 0 where
  pub many : length picks ≡ count
  pub lines : (k : ℕ) (p : Pick) → slice_get picks k ≡ Some p → p.line ≡ k
  pub numbers : (k : ℕ) (p : Pick) → slice_get picks k ≡ Some p → IsNumberOf I s image k (Some p.upto)

pub found-more : (I : Input) (s : State) (image : List ℕ) (count : ℕ) (picks : List Pick) (upto : ℕ) → AreFound I s image count picks → IsNumberOf I s image count (Some upto) → AreFound I s image (count + 1) (picks ++ record { line = count; upto = upto } ∷ [])
found-more I s image count picks upto f n = record {
  many = length-append picks (new ∷ []) ∙ ap (λ k. k + 1) f.many;
  lines = λ k p e. line k p e (place k p e);
  numbers = λ k p e. number k p e (place k p e);
}
  where
    new : Pick
    new = record { line = count; upto = upto }

    place : (k : ℕ) (p : Pick) → slice_get (picks ++ new ∷ []) k ≡ Some p → (k < length picks) ⊎ (k ≡ length picks)
    place k p e = split k (length picks) (omega (arith, get-below (picks ++ new ∷ []) k p e, length-append picks (new ∷ [])))
      where
        split : (a b : ℕ) → a < b + 1 → (a < b) ⊎ (a ≡ b)
        split a b h = grind arith

    last : (k : ℕ) (p : Pick) → slice_get (picks ++ new ∷ []) k ≡ Some p → k ≡ length picks → new ≡ p
    last k p e q = let g = get-append_end picks new in let h : slice_get (picks ++ new ∷ []) (length picks) ≡ Some p = ap (slice_get (picks ++ new ∷ [])) (sym q) ∙ e in some_same new p (sym g ∙ h)
      where
        some_same : (a b : Pick) → Some a ≡ Some b → a ≡ b
        some_same a b e = cc

    line : (k : ℕ) (p : Pick) → slice_get (picks ++ new ∷ []) k ≡ Some p → (k < length picks) ⊎ (k ≡ length picks) → p.line ≡ k
    line k p e (inl h) = f.lines k p (sym (get-append_left picks (new ∷ []) k h) ∙ e)
    line k p e (inr h) = sym (ap (λ (x : Pick). x.line) (last k p e h)) ∙ sym f.many ∙ sym h

    number : (k : ℕ) (p : Pick) → slice_get (picks ++ new ∷ []) k ≡ Some p → (k < length picks) ⊎ (k ≡ length picks) → IsNumberOf I s image k (Some p.upto)
    number k p e (inl h) = f.numbers k p (sym (get-append_left picks (new ∷ []) k h) ∙ e)
    number k p e (inr h) = subst (λ i. IsNumberOf I s image i (Some p.upto)) (sym f.many ∙ sym h) (subst (λ (x : Pick). IsNumberOf I s image count (Some x.upto)) (last k p e h) n)

-- Picks of consecutive lines, from a line on.
record AreFrom (from : ℕ) (picks : List Pick) : Type 0 where
  at : (k : ℕ) (p : Pick) → slice_get picks k ≡ Some p → p.line ≡ from + k

from-tail : (from : ℕ) (x : Pick) (picks : List Pick) → AreFrom from (x ∷ picks) → AreFrom (from + 1) picks
from-tail from x picks h = record { at = λ k p e. let q = h.at (suc k) p e in omega (arith, q) }

from-head : (from : ℕ) (x : Pick) (picks : List Pick) → AreFrom from (x ∷ picks) → x.line ≡ from
from-head from x picks h = let q = h.at 0 x refl in omega (arith, q)

from-lines : (from : ℕ) (picks : List Pick) → AreFrom from picks → map (λ p. p.line) picks ≡ range_with_len from (length picks)
from-lines from [] h = refl
from-lines from (x ∷ picks) h = ap₂ (λ a ys. a ∷ ys) (from-head from x picks h) (from-lines (from + 1) picks (from-tail from x picks h))

-- The number that such picks give a line is that of the pick of the line.
from-number : (from : ℕ) (picks : List Pick) → AreFrom from picks → (k : ℕ) (p : Pick) → slice_get picks k ≡ Some p → number_for picks (from + k) ≡ Some p.upto
from-number from [] h k p e = absurd (let z : ⊥ = cc in z)
from-number from (x ∷ picks) h zero p e =
    let same : x ≡ p = cc in
    ap (λ b. cond b (Some x.upto) (number_for picks (from + 0))) (eq_test x.line (from + 0) (omega (arith, from-head from x picks h))) ∙ ap (λ (y : Pick). Some y.upto) same
from-number from (x ∷ picks) h (suc k) p e =
    ap (λ b. cond b (Some x.upto) (number_for picks (from + suc k))) (ne_test x.line (from + suc k) (other (from-head from x picks h)))
    ∙ ap (number_for picks) (let z : from + suc k ≡ from + 1 + k = omega arith in z) ∙ from-number (from + 1) picks (from-tail from x picks h) k p e
  where
    other : x.line ≡ from → x.line ≢ from + suc k
    other q r = absurd (omega (arith, q, r))

-- Such picks do not fail after the picks of the lines before them.
from-fit : (s : State) (earlier rest : List Pick) → AreFrom (length earlier) rest → ((k : ℕ) (p : Pick) → slice_get rest k ≡ Some p → (p.line < length s.lines) × IsBetween (bounds_of s p.line) p.upto) → ((j : ℕ) → length earlier ≤ j → number_for earlier j ≡ None)
    → failure_after s earlier rest ≡ None
from-fit s earlier [] h b n = refl
from-fit s earlier (x ∷ rest) h b n =
    let here = from-head (length earlier) x rest h in
    let k = b 0 x refl in
    let more : length (earlier ++ x ∷ []) ≡ length earlier + 1 = length-append earlier (x ∷ []) in
    ap (λ o. first_of o (failure_after s (earlier ++ x ∷ []) rest)) (fits here k.0 k.1)
    ∙ from-fit s (earlier ++ x ∷ []) rest (subst (λ m. AreFrom m rest) (sym more) (from-tail (length earlier) x rest h)) (λ i p e. b (suc i) p e)
    (λ j le. number-other earlier x j (other j here (omega (arith, le, more))) ∙ n j (omega (arith, le, more)))
  where
    other : (j : ℕ) → x.line ≡ length earlier → length earlier + 1 ≤ j → x.line ≢ j
    other j q r e = absurd (omega (arith, q, r, e))

    less : x.line < length s.lines → nat_lt x.line (length s.lines) ≡ true
    less h = grind (arith, nat_tests)

    within : (a b c : ℕ) → a ≤ b → b ≤ c → nat_le a b && nat_le b c ≡ true
    within a b c h k = grind (arith, nat_tests)

    fits : x.line ≡ length earlier → x.line < length s.lines → IsBetween (bounds_of s x.line) x.upto → failure s earlier (suc (length earlier)) x ≡ None
    fits q lt between =
        ap (λ t. cond t (cond (is_some (number_for earlier x.line)) (Some (Repeated (suc (length earlier)))) (range_failure (suc (length earlier)) (bounds_of s x.line) x.upto)) (Some (NoLine (suc (length earlier))))) (less lt)
        ∙ ap (λ o. cond (is_some o) (Some (Repeated (suc (length earlier)))) (range_failure (suc (length earlier)) (bounds_of s x.line) x.upto)) (n x.line (omega (arith, q)))
        ∙ ap (λ t. cond t None (Some (OutOfRange (suc (length earlier)) (bounds_of s x.line).least (bounds_of s x.line).most))) (within (bounds_of s x.line).least x.upto (bounds_of s x.line).most between.least between.most)

-- The picks of all lines give the image.
pub found-all : (I : Input) (s : State) (image : List ℕ) (count : ℕ) (picks : List Pick) → length I.image ≡ 64 * length s.lines → length image ≡ length I.image → count ≡ length s.lines → AreFound I s image count picks → ArePicksOf I s picks image
found-all I s image count picks size whole all f = record {
  lines = from-lines 0 picks each ∙ ap (range_with_len 0) (f.many ∙ all);
  fit = from-fit s [] picks each bounds (λ j le. refl);
  content = same_lists (crash_image I s (picked s picks)) image (length-image_from covers byte_of s.lines (picked s picks) 0 I.image ∙ sym whole) byte;
  is = record { whole = whole; lines = λ j l e. let g = there j l e in (g.0.upto, (f.numbers j g.0 g.1).is l e) };
}
  where
    each : AreFrom 0 picks
    each = record { at = λ k p e. let q = f.lines k p e in omega (arith, q) }

    get_pick : (ps : List Pick) (k : ℕ) → k < length ps → (p : Pick) × (slice_get ps k ≡ Some p)
    get_pick [] k h = absurd (omega (arith, h))
    get_pick (p ∷ ps) zero h = (p, refl)
    get_pick (p ∷ ps) (suc k) h = get_pick ps k (omega (arith, h))

    there : (j : ℕ) (l : Line StorePart) → slice_get s.lines j ≡ Some l → (p : Pick) × (slice_get picks j ≡ Some p)
    there j l e = get_pick picks j (omega (arith, get-below s.lines j l e, f.many, all))

    bounds : (k : ℕ) (p : Pick) → slice_get picks k ≡ Some p → (p.line < length s.lines) × IsBetween (bounds_of s p.line) p.upto
    bounds k p e =
        let low : k < length s.lines = omega (arith, get-below picks k p e, f.many, all) in
        let l = get_there s.lines k low in
        let is = (f.numbers k p e).is l.0 l.1 in
        let line = f.lines k p e in
        (omega (arith, line, low), subst (λ i. IsBetween (bounds_of s i) p.upto) (sym line) (subst (λ b. IsBetween b p.upto) (sym (ap bounds_in l.1)) (record { least = is.least; most = is.most })))

    number : (j : ℕ) (p : Pick) → slice_get picks j ≡ Some p → picked s picks j ≡ p.upto
    number j p e = ap (number_or (bounds_of s j).least) (ap (number_for picks) (let z : j ≡ 0 + j = omega arith in z) ∙ from-number 0 picks each j p e)

    byte : (b : ℕ) → b < length (crash_image I s (picked s picks)) → slice_index (crash_image I s (picked s picks)) b ≡ slice_index image b
    byte b low =
        let lt : b < length I.image = omega (arith, low, length-image_from covers byte_of s.lines (picked s picks) 0 I.image) in
        let l = get_there s.lines (b / 64) (omega (arith, lt, size)) in
        let p = there (b / 64) l.0 l.1 in
        let is = (f.numbers (b / 64) p.0 p.1).is l.0 l.1 in
        let z : 0 + b ≡ b = omega arith in
        slice_index-image_from covers byte_of s.lines (picked s picks) 0 I.image b lt
        ∙ ap (λ c. byte_after covers byte_of (take (picked s picks (c / 64)) (parts_of covers byte_of (slice_get s.lines (c / 64)))) c (slice_index I.image b)) z
        ∙ ap (λ o. byte_after covers byte_of (take (picked s picks (b / 64)) (parts_of covers byte_of o)) b (slice_index I.image b)) l.1
        ∙ ap (λ q. byte_after covers byte_of (take q l.0.parts) b (slice_index I.image b)) (number (b / 64) p.0 p.1)
        ∙ sym (is.bytes b (omega arith) (omega arith))

-- If no number fits a line, the content is no crash image.
pub not-image : (I : Input) (s : State) (image : List ℕ) (j : ℕ) → j < length s.lines → IsNumberOf I s image j None → ¬ IsCrashImage I s image
not-image I s image j lt n h = let l = get_there s.lines j lt in let r = h.lines j l.0 l.1 in n.is l.0 l.1 r.0 r.1

-- ---- one pick after another

drop-at : (xs : List Pick) (i : ℕ) (d : Pick) → i < length xs → drop i xs ≡ get_or xs i d ∷ drop (suc i) xs
drop-at [] i d h = absurd (omega (arith, h))
drop-at (x ∷ xs) zero d h = refl
drop-at (x ∷ xs) (suc i) d h = drop-at xs i d (omega (arith, h))

take-at : (xs : List Pick) (i : ℕ) (d : Pick) → i < length xs → take (suc i) xs ≡ take i xs ++ get_or xs i d ∷ []
take-at [] i d h = absurd (omega (arith, h))
take-at (x ∷ xs) zero d h = refl
take-at (x ∷ xs) (suc i) d h = ap (λ ys. x ∷ ys) (take-at xs i d (omega (arith, h)))

module _ (S : State) (picks : List Pick) (place : ℕ) (d : Pick) (lt : place < length picks) where
  one : suc place ≡ place + 1
  one = omega arith

  taken : take (place + 1) picks ≡ take place picks ++ get_or picks place d ∷ []
  taken = ap (λ n. take n picks) (sym one) ∙ take-at picks place d lt

  after-is : failure_after S (take place picks) (drop place picks) ≡ first_of (failure S (take place picks) (place + 1) (get_or picks place d)) (failure_after S (take (place + 1) picks) (drop (place + 1) picks))
  after-is =
      let count : suc (length (take place picks)) ≡ place + 1 = let k = length-take-le place picks (omega (arith, lt)) in omega (arith, k) in
      ap (failure_after S (take place picks)) (drop-at picks place d lt)
      ∙ ap (λ n. first_of (failure S (take place picks) n (get_or picks place d)) (failure_after S (take place picks ++ get_or picks place d ∷ []) (drop (suc place) picks))) count
      ∙ ap (λ e. first_of (failure S (take place picks) (place + 1) (get_or picks place d)) (failure_after S e (drop (suc place) picks))) (sym taken)
      ∙ ap (λ n. first_of (failure S (take place picks) (place + 1) (get_or picks place d)) (failure_after S (take (place + 1) picks) (drop n picks))) one

  pub pick-fails : (r : PickRefusal) → failure S (take place picks) (place + 1) (get_or picks place d) ≡ Some r → failure_after S (take place picks) (drop place picks) ≡ first_failure S picks → first_failure S picks ≡ Some r
  pick-fails r e f = sym f ∙ after-is ∙ ap (λ o. first_of o (failure_after S (take (place + 1) picks) (drop (place + 1) picks))) e

  pub pick-passes : failure S (take place picks) (place + 1) (get_or picks place d) ≡ None → failure_after S (take place picks) (drop place picks) ≡ first_failure S picks → failure_after S (take (place + 1) picks) (drop (place + 1) picks) ≡ first_failure S picks
  pick-passes e f = sym (after-is ∙ ap (λ o. first_of o (failure_after S (take (place + 1) picks) (drop (place + 1) picks))) e) ∙ f

  pub numbers-next : (old new : List (ℕ × ℕ)) → AreNumbers (take place picks) old → failure S (take place picks) (place + 1) (get_or picks place d) ≡ None
      → ((q : ℕ) → lookup (is_at (nat_cmp q)) new ≡ cond (is_at (nat_cmp (get_or picks place d).line) q) (Some (get_or picks place d).upto) (lookup (is_at (nat_cmp q)) old))
      → AreNumbers (take (place + 1) picks) new
  numbers-next old new h e updates =
      let k = failed-none S (take place picks) (place + 1) (get_or picks place d) e in
      subst (λ xs. AreNumbers xs new) (sym taken) (numbers-more (take place picks) (get_or picks place d) old new h updates k.1)
