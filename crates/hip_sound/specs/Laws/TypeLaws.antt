-- The test of two types passes exactly if they are equal.
use Rattle.std.specs.Prelude.{◌≡◌, Bool, true, List, [], ◌∷◌, map}
use Rattle.std.proofs.Common.{refl, sym, ap, subst, ◌∙◌}
use Rattle.std.proofs.lemmas.Bool.{eqb-true, eq-eqb, and_parts}
use Rattle.std.specs.Cmp.{both_ways}
use Rattle.std.specs.Cmp.Derive.{both_true}
use Rattle.hip_types.specs.declared.number.Width.{Width}
use Rattle.hip_types.specs.declared.number.Width.TheVariants.{W1, W8, W16, W32, W64}
use Rattle.hip_types.specs.declared.ty.Ty.{Ty, out-Ty, map-Ty, roll-out-Ty, out-roll-Ty}
use Rattle.hip_types.specs.declared.ty.Ty.TheOpen.{Ty-F}
use Rattle.hip_types.specs.declared.ty.Ty.TheViews.{roll-Ty}
use Rattle.hip_types.specs.declared.ty.Ty.TheFolds.{ind-Ty, fold-roll-Ty}
use Rattle.hip_sound.specs.Types.{same_width, same_type, same_level, same_step, all_pass}

pub same_width-equal : (v w : Width) → same_width v w ≡ true → v ≡ w
same_width-equal W1 W1 e = refl
same_width-equal W8 W8 e = refl
same_width-equal W16 W16 e = refl
same_width-equal W32 W32 e = refl
same_width-equal W64 W64 e = refl
same_width-equal v w e = cc

pub same_width-refl : (w : Width) → same_width w w ≡ true
same_width-refl W1 = refl
same_width-refl W8 = refl
same_width-refl W16 = refl
same_width-refl W32 = refl
same_width-refl W64 = refl

-- Each type that passes the test for this one is equal to it.
abbrev IsEqual : Ty → Type 0
IsEqual a = (b : Ty) → same_type a b ≡ true → a ≡ b

-- A type, with the proof that what passes its test is equal to it.
abbrev Known : Type 0
Known = (t : Ty) × IsEqual t

-- One level of a type, whose parts are given without their proofs.
abbrev types : Ty-F Known → Ty-F Ty
types y = map-Ty Known Ty (λ e. e.0) y

-- One level of a type, with the test of each type inside in its place.
abbrev tests : Ty-F Known → Ty-F (Ty → Bool)
tests y = map-Ty Ty (Ty → Bool) same_type (types y)

all_equal : (es : List Known) (ts : List Ty) → all_pass (map same_type (map (λ e. e.0) es)) ts ≡ true
    → map (λ e. e.0) es ≡ ts
all_equal [] [] h = refl
all_equal [] (t ∷ ts) h = cc
all_equal (e ∷ es) [] h = cc
all_equal (e ∷ es) (t ∷ ts) h =
    let both = and_parts _ _ h in
    let first : e.0 ≡ t = e.1 t both.0 in
    ap (λ x. x ∷ map (λ z. z.0) es) first ∙ ap (λ xs. t ∷ xs) (all_equal es ts both.1)

level_equal : (y : Ty-F Known) (o : Ty-F Ty) → same_level (tests y) o ≡ true → types y ≡ o
level_equal (Ty-F.Int v) (Ty-F.Int w) h = ap (λ x. Ty-F.Int x) (same_width-equal v w h)
level_equal (Ty-F.Int v) Ty-F.Ptr h = cc
level_equal (Ty-F.Int v) (Ty-F.Array n t) h = cc
level_equal (Ty-F.Int v) (Ty-F.Struct ts) h = cc
level_equal Ty-F.Ptr (Ty-F.Int w) h = cc
level_equal Ty-F.Ptr Ty-F.Ptr h = refl
level_equal Ty-F.Ptr (Ty-F.Array n t) h = cc
level_equal Ty-F.Ptr (Ty-F.Struct ts) h = cc
level_equal (Ty-F.Array n e) (Ty-F.Int w) h = cc
level_equal (Ty-F.Array n e) Ty-F.Ptr h = cc
level_equal (Ty-F.Array n e) (Ty-F.Array m t) h =
    let both = and_parts _ _ h in
    ap (λ k. Ty-F.Array k e.0) (eqb-true n m both.0) ∙ ap (λ x. Ty-F.Array m x) (e.1 t both.1)
level_equal (Ty-F.Array n e) (Ty-F.Struct ts) h = cc
level_equal (Ty-F.Struct es) (Ty-F.Int w) h = cc
level_equal (Ty-F.Struct es) Ty-F.Ptr h = cc
level_equal (Ty-F.Struct es) (Ty-F.Array n t) h = cc
level_equal (Ty-F.Struct es) (Ty-F.Struct ts) h = ap (λ xs. Ty-F.Struct xs) (all_equal es ts h)

-- Types that pass the test are equal.
pub same_type-equal : (a b : Ty) → same_type a b ≡ true → a ≡ b
same_type-equal = ind-Ty IsEqual (λ x y is b h.
    let unfolded : same_type (roll-Ty x) b ≡ same_step (map-Ty Ty (Ty → Bool) same_type x) b =
    ap (λ (f : Ty → Bool). f b) (fold-roll-Ty (Ty → Bool) same_step x) in
    let P : Ty-F Ty → Type 0 = λ z. same_level (map-Ty Ty (Ty → Bool) same_type z) (out-Ty b) ≡ true in
    let here : P x = sym unfolded ∙ h in
    let there : P (types y) = subst P (sym is) here in
    ap roll-Ty (sym is ∙ level_equal y (out-Ty b) there) ∙ roll-out-Ty b)

-- The type passes the test for itself.
abbrev IsReflexive : Ty → Type 0
IsReflexive a = same_type a a ≡ true

-- A type, with the proof that it passes its own test.
abbrev Passing : Type 0
Passing = (t : Ty) × IsReflexive t

-- One level of a type, whose parts are given without their proofs.
abbrev bare : Ty-F Passing → Ty-F Ty
bare y = map-Ty Passing Ty (λ e. e.0) y

all_reflexive : (es : List Passing) → all_pass (map same_type (map (λ e. e.0) es)) (map (λ e. e.0) es) ≡ true
all_reflexive [] = refl
all_reflexive (e ∷ es) = both_true e.1 (all_reflexive es)

level_reflexive : (y : Ty-F Passing) → same_level (map-Ty Ty (Ty → Bool) same_type (bare y)) (bare y) ≡ true
level_reflexive (Ty-F.Int w) = same_width-refl w
level_reflexive Ty-F.Ptr = refl
level_reflexive (Ty-F.Array n e) = both_true (eq-eqb n n refl) e.1
level_reflexive (Ty-F.Struct es) = all_reflexive es

-- Each type passes the test for itself.
pub same_type-refl : (a : Ty) → same_type a a ≡ true
same_type-refl = ind-Ty IsReflexive (λ x y is.
    let unfolded : same_type (roll-Ty x) (roll-Ty x) ≡ same_step (map-Ty Ty (Ty → Bool) same_type x) (roll-Ty x) =
    ap (λ (f : Ty → Bool). f (roll-Ty x)) (fold-roll-Ty (Ty → Bool) same_step x) in
    let P : Ty-F Ty → Type 0 = λ z. same_level (map-Ty Ty (Ty → Bool) same_type z) z ≡ true in
    let here : P x = subst P is (level_reflexive y) in
    unfolded ∙ ap (λ (o : Ty-F Ty). same_level (map-Ty Ty (Ty → Bool) same_type x) o) (out-roll-Ty x) ∙ here)

-- Each test that decides whether two types are equal has the same answer as `same_type`.
pub same_type-is : (b : Bool) (x y : Ty) → (b ≡ true → x ≡ y) → (x ≡ y → b ≡ true)
    → b ≡ same_type x y
same_type-is b x y equal test =
    both_ways b (same_type x y) (λ e. subst (λ (z : Ty). same_type x z ≡ true) (equal e) (same_type-refl x))
    (λ e. test (same_type-equal x y e))
