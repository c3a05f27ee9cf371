-- The order of levels, and what keeps it.
use Rattle.std.proofs.Common.{◌≡◌, ℕ, suc, ◌<◌, ◌≤◌, Bool, true, false, cond, nat_eq, nat_lt, Some, None, refl, ap, arith, ltb-true}
use Rattle.std.specs.Prelude.{◌&&◌}
use Rattle.std.specs.Str.{bytes_eq}
use Rattle.std.specs.Cmp.Lexicographic.{nat_list_eq_equiv}
use Rattle.std.proofs.lemmas.Bool.{and_parts}
use Rattle.std.proofs.lemmas.Bool.Decides.{nat_tests}
use Rattle.std.proofs.lemmas.Slice.Eq.{bytes_eq-Decides}
use Rattle.hip_invariants.specs.PointerLevels.{PointerLevel, is_at_most, after_offset}
use Rattle.hip_vol.specs.Bounds.{Variable, Bound, Assignment, Register, Result, Known, AtOffset, bound_in, same_variable}
use Rattle.hip_vol.specs.Closed.{is_level, greater}

-- ---- the order

pub at_most_same : (a : PointerLevel) → is_at_most a a
at_most_same None = tt
at_most_same (Some t) = omega arith

pub at_most_next : (a b c : PointerLevel) → is_at_most a b → is_at_most b c → is_at_most a c
at_most_next a b None p q = tt
at_most_next a None (Some u) p q = absurd q
at_most_next None (Some t) (Some u) p q = absurd p
at_most_next (Some s) (Some t) (Some u) p q = omega arith

pub at_most_both : (a b : PointerLevel) → is_at_most a b → is_at_most b a → a ≡ b
at_most_both None None p q = refl
at_most_both None (Some u) p q = absurd p
at_most_both (Some t) None p q = absurd q
at_most_both (Some t) (Some u) p q = let e : t ≡ u = omega arith in ap Some e

pub zero_at_most : (a : PointerLevel) → is_at_most (Some 0) a
zero_at_most None = tt
zero_at_most (Some t) = omega arith

-- ---- the greater of two

pub greater_first : (a b : PointerLevel) → is_at_most a (greater a b)
greater_first None b = tt
greater_first (Some t) None = tt
greater_first (Some t) (Some u) = go (nat_lt t u) refl
  where
    go : (b : Bool) → nat_lt t u ≡ b → is_at_most (Some t) (cond b (Some u) (Some t))
    go true e = let h : t < u = ltb-true t u e in omega arith
    go false e = omega arith

pub greater_second : (a b : PointerLevel) → is_at_most b (greater a b)
greater_second None b = tt
greater_second (Some t) None = tt
greater_second (Some t) (Some u) = go (nat_lt t u) refl
  where
    go : (b : Bool) → nat_lt t u ≡ b → is_at_most (Some u) (cond b (Some u) (Some t))
    go true e = omega arith
    go false e = let h : u ≤ t = grind (arith, nat_tests) in h

pub greater_least : (a b c : PointerLevel) → is_at_most a c → is_at_most b c → is_at_most (greater a b) c
greater_least None b c p q = p
greater_least (Some t) None c p q = q
greater_least (Some t) (Some u) c p q = go (nat_lt t u)
  where
    go : (b : Bool) → is_at_most (cond b (Some u) (Some t)) c
    go true = q
    go false = p

pub greater_level : (a b : PointerLevel) → is_level a → is_level b → is_level (greater a b)
greater_level None b p q = tt
greater_level (Some t) None p q = tt
greater_level (Some t) (Some u) p q = go (nat_lt t u)
  where
    go : (b : Bool) → is_level (cond b (Some u) (Some t))
    go true = q
    go false = p

-- ---- offsets

pub past_more : (a b : PointerLevel) (offset : ℕ) → is_at_most a b → is_at_most (after_offset a offset) (after_offset b offset)
past_more a None offset p = tt
past_more None (Some u) offset p = absurd p
past_more (Some t) (Some u) offset p = go (nat_eq offset 0) (nat_lt offset 67108864)
  where
    step : (x y : Bool) → nat_lt t 32 ≡ x → nat_lt u 32 ≡ y → is_at_most (cond x (Some (suc t)) None) (cond y (Some (suc u)) None)
    step x false e f = tt
    step true true e f = omega arith
    step false true e f = let h : u < 32 = ltb-true u 32 f in let g : 32 ≤ t = grind (arith, nat_tests) in absurd (omega (arith, p, h, g))

    near : (y : Bool) → is_at_most (cond y (cond (nat_lt t 32) (Some (suc t)) None) None) (cond y (cond (nat_lt u 32) (Some (suc u)) None) None)
    near true = step (nat_lt t 32) (nat_lt u 32) refl refl
    near false = tt

    go : (x y : Bool) → is_at_most (cond x (Some t) (cond y (cond (nat_lt t 32) (Some (suc t)) None) None)) (cond x (Some u) (cond y (cond (nat_lt u 32) (Some (suc u)) None) None))
    go true y = p
    go false y = near y

pub past_is_level : (a : PointerLevel) (offset : ℕ) → is_level a → is_level (after_offset a offset)
past_is_level None offset p = tt
past_is_level (Some t) offset p = go (nat_eq offset 0) (nat_lt offset 67108864)
  where
    step : (x : Bool) → nat_lt t 32 ≡ x → is_level (cond x (Some (suc t)) None)
    step true e = let h : t < 32 = ltb-true t 32 e in omega arith
    step false e = tt

    near : (y : Bool) → is_level (cond y (cond (nat_lt t 32) (Some (suc t)) None) None)
    near true = step (nat_lt t 32) refl
    near false = tt

    go : (x y : Bool) → is_level (cond x (Some t) (cond y (cond (nat_lt t 32) (Some (suc t)) None) None))
    go true y = p
    go false y = near y

pub bound_more : (A B : Assignment) → ((v : Variable) → is_at_most (A v) (B v)) → (least : Bound) → is_at_most (bound_in A least) (bound_in B least)
bound_more A B below (Known a) = at_most_same a
bound_more A B below (AtOffset offset v) = past_more (A v) (B v) offset (below v)

-- ---- variables

equal_true : (a b : ℕ) → nat_eq a b ≡ true → a ≡ b
equal_true a b h = grind (arith, nat_tests)

true_equal : (a : ℕ) → nat_eq a a ≡ true
true_equal a = grind (arith, nat_tests)

both_hold : {a b : Bool} → a ≡ true → b ≡ true → (a && b) ≡ true
both_hold p q = rw (p, q) refl

pub same_variable_is : (v w : Variable) → same_variable v w ≡ true → v ≡ w
same_variable_is (Register g name) (Register h other) e =
    let parts = and_parts (nat_eq g h) (bytes_eq name other) e in
    let numbers : g ≡ h = equal_true g h parts.0 in
    let names : name ≡ other = (bytes_eq-Decides name other).0 parts.1 in
    λ i. Register (numbers i) (names i)
same_variable_is (Result g) (Result h) e = ap Result (equal_true g h e)
same_variable_is (Register g name) (Result h) e = cc
same_variable_is (Result g) (Register h other) e = cc

pub same_as_itself : (v : Variable) → same_variable v v ≡ true
same_as_itself (Register g name) = both_hold (true_equal g) (nat_list_eq_equiv.refl name)
same_as_itself (Result g) = true_equal g
