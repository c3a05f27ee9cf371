-- The value of digits as a loop finds it.
use Rattle.std.proofs.Common.{◌≡◌, ℕ, suc, ◌+◌, ◌-◌, ◌*◌, ◌≤◌, ◌<◌, true, false, ltb, List, [], ◌∷◌, length, get_or, drop, Some, None, refl, sym, ap, ◌∙◌, arith, drop-cons, Bool, cond, Option, eqb, leb, not, ◌&&◌, ◌^◌, ◌%◌, lit<, lit≤}
use Rattle.std.proofs.lemmas.Bool.{le-ltb, lt-ltb}
use Rattle.std.proofs.lemmas.List.{drop_all}
use Rattle.std.proofs.Math.Nat.{mod-eq_of_lt}
use Rattle.std.proofs.lemmas.Bool.{ltb-false}
use Rattle.std.proofs.lemmas.Bool.Decides.{nat_tests}
use Rattle.hip_types.specs.Widths.{bits_of}
use Rattle.hip_types.specs.declared.number.Width.{Width}
use Rattle.hip_types.specs.declared.number.Width.TheVariants.{W1, W8, W16, W32, W64}
use Rattle.hip_grammar.specs.Numbers.{digits_from, is_negative, magnitude, negated, value_of, count_of, is_alignment, alignment_of}
use Rattle.hip_grammar.specs.Numbers.{below}

grows : (n : ℕ) (ds : List ℕ) → n ≤ digits_from n ds
grows n [] = omega arith
grows n (d ∷ ds) = let h = grows (10 * n + (d - 48)) ds in omega arith

pub too_large : (limit n i total : ℕ) (ds : List ℕ) → i < length ds → limit ≤ 10 * n + (get_or ds i 0 - 48) → digits_from n (drop i ds) ≡ total → None ≡ below limit total
too_large limit n i total ds lt past so_far =
    let one : digits_from n (drop i ds) ≡ digits_from (10 * n + (get_or ds i 0 - 48)) (drop (suc i) ds) = ap (digits_from n) (drop-cons ds i 0 lt) in
    let h = grows (10 * n + (get_or ds i 0 - 48)) (drop (suc i) ds) in
    let big : ltb total limit ≡ false = le-ltb total limit (omega (arith, one, h, so_far)) in
    rw big refl

pub all_read : (limit n i total : ℕ) (ds : List ℕ) → length ds ≤ i → n < limit → digits_from n (drop i ds) ≡ total → Some n ≡ below limit total
all_read limit n i total ds le lt so_far =
    let same : n ≡ total = sym (ap (digits_from n) (drop_all i ds le)) ∙ so_far in
    let small : ltb total limit ≡ true = lt-ltb total limit (omega arith) in
    rw small (ap (λ (m : ℕ). Some m) same)

-- ---- numbers past 64 bits

is_big : (m : ℕ) (b : Bool) → ltb m (2 ^ 64) ≡ b → ◌≡◌ {A = Option ℕ} None (cond b (Some m) None) → 2 ^ 64 ≤ m
is_big m true e h = absurd cc
is_big m false e h = ltb-false m (2 ^ 64) e

big : (m : ℕ) → None ≡ below (2 ^ 64) m → 2 ^ 64 ≤ m
big m h = is_big m (ltb m (2 ^ 64)) refl h

width_small : (w : Width) → 2 ^ bits_of w ≤ 2 ^ 64
width_small W1 = lit≤ tt
width_small W8 = lit≤ tt
width_small W16 = lit≤ tt
width_small W32 = lit≤ tt
width_small W64 = lit≤ tt

half_small : (w : Width) → 2 ^ (bits_of w - 1) < 2 ^ 64
half_small W1 = lit< tt
half_small W8 = lit< tt
half_small W16 = lit< tt
half_small W32 = lit< tt
half_small W64 = lit< tt

below_none : (limit m : ℕ) → limit ≤ m → None ≡ below limit m
below_none limit m h = let e : ltb m limit ≡ false = le-ltb m limit h in rw e refl

negated_none : (w : Width) (m : ℕ) → 2 ^ 64 ≤ m → None ≡ negated w m
negated_none w m h =
    let e : eqb m 0 ≡ false = grind (arith, nat_tests) in
    let k : leb m (2 ^ (bits_of w - 1)) ≡ false = (let s = half_small w in grind (arith, nat_tests)) in
    rw (e, k) refl

value_none : (w : Width) (m : ℕ) (b : Bool) → 2 ^ 64 ≤ m → None ≡ cond b (negated w m) (below (2 ^ bits_of w) m)
value_none w m true h = negated_none w m h
value_none w m false h = below_none (2 ^ bits_of w) m (let s = width_small w in omega arith)

pub value_of_big : (w : Width) (t : List ℕ) → None ≡ below (2 ^ 64) (magnitude t) → None ≡ value_of w t
value_of_big w t h = value_none w (magnitude t) (is_negative t) (big (magnitude t) h)

count_none : (m : ℕ) (b : Bool) → 2 ^ 64 ≤ m → ◌≡◌ {A = Option ℕ} None (cond b None (below 67108865 m))
count_none m true h = refl
count_none m false h = below_none 67108865 m (omega arith)

pub count_of_big : (t : List ℕ) → None ≡ below (2 ^ 64) (magnitude t) → None ≡ count_of t
count_of_big t h = count_none (magnitude t) _ (big (magnitude t) h)

alignment_none : (m : ℕ) → 2 ^ 64 ≤ m → is_alignment m ≡ false
alignment_none m h =
    let r : 4096 % m ≡ 4096 = mod-eq_of_lt (omega arith) in
    let e : eqb m 0 ≡ false = grind (arith, nat_tests) in
    rw (e, r) refl

both_false : (a b : Bool) → b ≡ false → (a && b) ≡ false
both_false true b e = e
both_false false b e = refl

pub alignment_of_big : (t : List ℕ) → None ≡ below (2 ^ 64) (magnitude t) → None ≡ alignment_of t
alignment_of_big t h =
    let e = both_false (not (is_negative t)) (is_alignment (magnitude t)) (alignment_none (magnitude t) (big (magnitude t) h)) in
    rw e refl
