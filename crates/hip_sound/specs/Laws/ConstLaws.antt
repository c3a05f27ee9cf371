-- The test of two constants passes exactly if they are equal.
use Rattle.std.specs.Prelude.{ℕ, ◌≡◌, ◌&&◌, Bool, true, false, List, [], ◌∷◌, map}
use Rattle.std.proofs.Common.{refl, sym, ap, subst, ◌∙◌}
use Rattle.std.proofs.lemmas.Bool.{eqb-true, eq-eqb, and_parts}
use Rattle.std.proofs.lemmas.Slice.Eq.{bytes_eq-Decides}
use Rattle.std.specs.Cmp.{both_ways}
use Rattle.std.specs.Cmp.Derive.{both_true}
use Rattle.hip_types.specs.declared.number.Bits.{Bits}
use Rattle.hip_types.specs.Numbers as numbers
use Rattle.hip_tree.specs.declared.constant.Const.{Const, out-Const, map-Const, roll-Const, roll-out-Const, out-roll-Const}
use Rattle.hip_tree.specs.declared.constant.Const.TheOpen.{Const-F, ConstGep-F, TypedConst-F}
use Rattle.hip_tree.specs.declared.constant.ConstGep.{ConstGep, map-ConstGep, roll-ConstGep}
use Rattle.hip_tree.specs.declared.constant.TypedConst.{TypedConst, map-TypedConst, roll-TypedConst}
use Rattle.hip_tree.specs.declared.constant.Const.TheFolds.{ind-Const, fold-roll-Const, fold-roll-ConstGep, fold-roll-TypedConst}
use Rattle.hip_tree.specs.declared.instr.Operand.{Operand}
use Rattle.hip_tree.specs.declared.instr.Operand.TheVariants.{Reg, Fixed}
use Rattle.hip_globals.specs.Addresses.{same_truth}
use Rattle.hip_sound.specs.Equal.{same_bits, same_list, is_int_constant, is_null, is_zero, is_address, is_gep, is_array_constant, is_struct_constant, same_level, same_step, same_gep_step, same_item_step, same_const, same_gep, same_item, same_operand}
use Rattle.hip_sound.specs.Types.{same_width, same_type, all_pass}
use Rattle.hip_sound.specs.Laws.TypeLaws.{same_width-equal, same_width-refl, same_type-equal, same_type-refl}

pub same_bits-equal : (a b : Bits) → same_bits a b ≡ true → a ≡ b
same_bits-equal a b e =
    let both = and_parts (same_width a.width b.width) _ e in
    numbers.same_bits a b (same_width-equal a.width b.width both.0) (eqb-true a.value b.value both.1)

pub same_bits-refl : (a : Bits) → same_bits a a ≡ true
same_bits-refl a = both_true (same_width-refl a.width) (eq-eqb a.value a.value refl)

all_bits-equal : (xs ys : List Bits) → same_list same_bits xs ys ≡ true → xs ≡ ys
all_bits-equal [] [] e = refl
all_bits-equal [] (b ∷ ys) e = cc
all_bits-equal (a ∷ xs) [] e = cc
all_bits-equal (a ∷ xs) (b ∷ ys) e =
    let both = and_parts (same_bits a b) _ e in
    ap (λ x. x ∷ xs) (same_bits-equal a b both.0) ∙ ap (λ ys. b ∷ ys) (all_bits-equal xs ys both.1)

all_bits-refl : (xs : List Bits) → same_list same_bits xs xs ≡ true
all_bits-refl [] = refl
all_bits-refl (a ∷ xs) = both_true (same_bits-refl a) (all_bits-refl xs)

same_truth-equal : (a b : Bool) → same_truth a b ≡ true → a ≡ b
same_truth-equal true b e = sym e
same_truth-equal false true e = cc
same_truth-equal false false e = refl

same_truth-refl : (a : Bool) → same_truth a a ≡ true
same_truth-refl true = refl
same_truth-refl false = refl

-- ---- constants that pass the test are equal

-- Each constant that passes the test for this one is equal to it.
abbrev IsEqual : Const → Type 0
IsEqual a = (b : Const) → same_const a b ≡ true → a ≡ b

-- Each constant `getelementptr` that passes the test for this one is equal to it.
abbrev IsEqualGep : ConstGep → Type 0
IsEqualGep a = (b : ConstGep) → same_gep a b ≡ true → a ≡ b

-- Each member of an aggregate constant that passes the test for this one is equal to it.
abbrev IsEqualItem : TypedConst → Type 0
IsEqualItem a = (b : TypedConst) → same_item a b ≡ true → a ≡ b

-- A constant, with the proof that what passes its test is equal to it.
abbrev Known : Type 0
Known = (c : Const) × IsEqual c

-- A constant `getelementptr`, with the proof that what passes its test is equal to it.
abbrev KnownGep : Type 0
KnownGep = (g : ConstGep) × IsEqualGep g

-- A member of an aggregate constant, with the proof that what passes its test is equal to it.
abbrev KnownItem : Type 0
KnownItem = (i : TypedConst) × IsEqualItem i

-- One level of a constant, whose parts are given without their proofs.
abbrev consts : Const-F Known KnownGep KnownItem → Const-F Const ConstGep TypedConst
consts y = map-Const Known KnownGep KnownItem Const ConstGep TypedConst (λ e. e.0) (λ e. e.0) (λ e. e.0) y

-- One level of a constant, with the test of each part inside in its place.
abbrev tests_of : Const-F Const ConstGep TypedConst
    → Const-F (Const → Bool) (ConstGep → Bool) (TypedConst → Bool)
tests_of z =
    map-Const Const ConstGep TypedConst (Const → Bool) (ConstGep → Bool) (TypedConst → Bool)
    same_const same_gep same_item z

-- A constant `getelementptr`, with the test of its base in place of the base.
abbrev gep_tests : ConstGep-F Const ConstGep TypedConst
    → ConstGep-F (Const → Bool) (ConstGep → Bool) (TypedConst → Bool)
gep_tests z =
    map-ConstGep Const ConstGep TypedConst (Const → Bool) (ConstGep → Bool) (TypedConst → Bool)
    same_const same_gep same_item z

-- A member of an aggregate constant, with the test of its value in place of the value.
abbrev item_tests : TypedConst-F Const ConstGep TypedConst
    → TypedConst-F (Const → Bool) (ConstGep → Bool) (TypedConst → Bool)
item_tests z =
    map-TypedConst Const ConstGep TypedConst (Const → Bool) (ConstGep → Bool) (TypedConst → Bool)
    same_const same_gep same_item z

all_equal : (es : List KnownItem) (is : List TypedConst) → all_pass (map same_item (map (λ e. e.0) es)) is ≡ true
    → map (λ e. e.0) es ≡ is
all_equal [] [] h = refl
all_equal [] (i ∷ is) h = cc
all_equal (e ∷ es) [] h = cc
all_equal (e ∷ es) (i ∷ is) h =
    let both = and_parts (same_item e.0 i) _ h in
    let first : e.0 ≡ i = e.1 i both.0 in
    ap (λ x. x ∷ map (λ z. z.0) es) first ∙ ap (λ xs. i ∷ xs) (all_equal es is both.1)

int_equal : (a : Bits) (o : Const-F Const ConstGep TypedConst) → is_int_constant a o ≡ true → Const-F.Int a ≡ o
int_equal a (Const-F.Int b) h = ap (λ x. Const-F.Int x) (same_bits-equal a b h)
int_equal a o h = cc

null_equal : (o : Const-F Const ConstGep TypedConst) → is_null o ≡ true → Const-F.Null ≡ o
null_equal Const-F.Null h = refl
null_equal o h = cc

zero_equal : (o : Const-F Const ConstGep TypedConst) → is_zero o ≡ true → Const-F.Zero ≡ o
zero_equal Const-F.Zero h = refl
zero_equal o h = cc

address_equal : (name : List ℕ) (o : Const-F Const ConstGep TypedConst) → is_address name o ≡ true
    → Const-F.Address name ≡ o
address_equal name (Const-F.Address other) h = ap (λ x. Const-F.Address x) ((bytes_eq-Decides name other).0 h)
address_equal name o h = cc

gep_equal : (e : KnownGep) (o : Const-F Const ConstGep TypedConst) → is_gep (same_gep e.0) o ≡ true
    → Const-F.Gep e.0 ≡ o
gep_equal e (Const-F.Gep g) h = ap (λ x. Const-F.Gep x) (e.1 g h)
gep_equal e o h = cc

array_equal : (es : List KnownItem) (o : Const-F Const ConstGep TypedConst)
    → is_array_constant (map same_item (map (λ e. e.0) es)) o ≡ true → Const-F.Array (map (λ e. e.0) es) ≡ o
array_equal es (Const-F.Array is) h = ap (λ x. Const-F.Array x) (all_equal es is h)
array_equal es o h = cc

struct_equal : (es : List KnownItem) (o : Const-F Const ConstGep TypedConst)
    → is_struct_constant (map same_item (map (λ e. e.0) es)) o ≡ true → Const-F.Struct (map (λ e. e.0) es) ≡ o
struct_equal es (Const-F.Struct is) h = ap (λ x. Const-F.Struct x) (all_equal es is h)
struct_equal es o h = cc

level_equal : (y : Const-F Known KnownGep KnownItem) (o : Const-F Const ConstGep TypedConst)
    → same_level (tests_of (consts y)) o ≡ true → consts y ≡ o
level_equal (Const-F.Int b) o h = int_equal b o h
level_equal Const-F.Null o h = null_equal o h
level_equal Const-F.Zero o h = zero_equal o h
level_equal (Const-F.Address name) o h = address_equal name o h
level_equal (Const-F.Gep e) o h = gep_equal e o h
level_equal (Const-F.Array es) o h = array_equal es o h
level_equal (Const-F.Struct es) o h = struct_equal es o h

gep_is : (a b : ConstGep) → IsEqual a.base
    → (same_truth a.inbounds b.inbounds &&
    (same_type a.ty b.ty && (same_const a.base b.base && same_list same_bits a.indices b.indices))) ≡ true → a ≡ b
gep_is a b base h =
    let first = and_parts (same_truth a.inbounds b.inbounds) _ h in
    let second = and_parts (same_type a.ty b.ty) _ first.1 in
    let third = and_parts (same_const a.base b.base) _ second.1 in
    let inbounds = same_truth-equal a.inbounds b.inbounds first.0 in
    let ty = same_type-equal a.ty b.ty second.0 in
    let inner = base b.base third.0 in
    let indices = all_bits-equal a.indices b.indices third.1 in
    λ i. record { inbounds = inbounds i; ty = ty i; base = inner i; indices = indices i }

item_is : (a b : TypedConst) → IsEqual a.value → (same_type a.ty b.ty && same_const a.value b.value) ≡ true
    → a ≡ b
item_is a b value h =
    let both = and_parts (same_type a.ty b.ty) _ h in
    let ty = same_type-equal a.ty b.ty both.0 in
    let inner = value b.value both.1 in
    λ i. record { ty = ty i; value = inner i }

-- Constants that pass the test are equal.
pub same_const-equal : (a b : Const) → same_const a b ≡ true → a ≡ b
same_const-equal = ind-Const IsEqual IsEqualGep IsEqualItem
    (λ x y is b h.
    let unfolded : same_const (roll-Const x) b ≡ same_step (tests_of x) b =
    ap (λ (f : Const → Bool). f b) (fold-roll-Const (Const → Bool) (ConstGep → Bool)
    (TypedConst → Bool) same_step same_gep_step same_item_step x) in
    let P : Const-F Const ConstGep TypedConst → Type 0 = λ z. same_level (tests_of z) (out-Const b) ≡ true in
    let there : P (consts y) = subst P (sym is) (sym unfolded ∙ h) in
    ap roll-Const (sym is ∙ level_equal y (out-Const b) there) ∙ roll-out-Const b)
    (λ x y is b h.
    let unfolded : same_gep (roll-ConstGep x) b ≡ same_gep_step (gep_tests x) b =
    ap (λ (f : ConstGep → Bool). f b) (fold-roll-ConstGep (Const → Bool) (ConstGep → Bool)
    (TypedConst → Bool) same_step same_gep_step same_item_step x) in
    gep_is (roll-ConstGep x) b (subst IsEqual (ap (λ g. g.base) is) y.base.1) (sym unfolded ∙ h))
    (λ x y is b h.
    let unfolded : same_item (roll-TypedConst x) b ≡ same_item_step (item_tests x) b =
    ap (λ (f : TypedConst → Bool). f b) (fold-roll-TypedConst (Const → Bool) (ConstGep → Bool)
    (TypedConst → Bool) same_step same_gep_step same_item_step x) in
    item_is (roll-TypedConst x) b (subst IsEqual (ap (λ g. g.value) is) y.value.1) (sym unfolded ∙ h))

-- ---- each constant passes the test for itself

-- The constant passes the test for itself.
abbrev IsReflexive : Const → Type 0
IsReflexive a = same_const a a ≡ true

-- The constant `getelementptr` passes the test for itself.
abbrev IsReflexiveGep : ConstGep → Type 0
IsReflexiveGep a = same_gep a a ≡ true

-- The member of an aggregate constant passes the test for itself.
abbrev IsReflexiveItem : TypedConst → Type 0
IsReflexiveItem a = same_item a a ≡ true

-- A constant, with the proof that it passes its own test.
abbrev Passing : Type 0
Passing = (c : Const) × IsReflexive c

-- A constant `getelementptr`, with the proof that it passes its own test.
abbrev PassingGep : Type 0
PassingGep = (g : ConstGep) × IsReflexiveGep g

-- A member of an aggregate constant, with the proof that it passes its own test.
abbrev PassingItem : Type 0
PassingItem = (i : TypedConst) × IsReflexiveItem i

-- One level of a constant, whose parts are given without their proofs.
abbrev bare : Const-F Passing PassingGep PassingItem → Const-F Const ConstGep TypedConst
bare y = map-Const Passing PassingGep PassingItem Const ConstGep TypedConst (λ e. e.0) (λ e. e.0) (λ e. e.0) y

all_reflexive : (es : List PassingItem) → all_pass (map same_item (map (λ e. e.0) es)) (map (λ e. e.0) es) ≡ true
all_reflexive [] = refl
all_reflexive (e ∷ es) = both_true e.1 (all_reflexive es)

level_reflexive : (y : Const-F Passing PassingGep PassingItem) → same_level (tests_of (bare y)) (bare y) ≡ true
level_reflexive (Const-F.Int b) = same_bits-refl b
level_reflexive Const-F.Null = refl
level_reflexive Const-F.Zero = refl
level_reflexive (Const-F.Address name) = (bytes_eq-Decides name name).1 refl
level_reflexive (Const-F.Gep e) = e.1
level_reflexive (Const-F.Array es) = all_reflexive es
level_reflexive (Const-F.Struct es) = all_reflexive es

pub same_const-refl : (a : Const) → same_const a a ≡ true
same_const-refl = ind-Const IsReflexive IsReflexiveGep IsReflexiveItem
    (λ x y is.
    let a : Const = roll-Const x in
    let unfolded : same_const a a ≡ same_step (tests_of x) a =
    ap (λ (f : Const → Bool). f a) (fold-roll-Const (Const → Bool) (ConstGep → Bool)
    (TypedConst → Bool) same_step same_gep_step same_item_step x) in
    let P : Const-F Const ConstGep TypedConst → Type 0 = λ z. same_level (tests_of z) z ≡ true in
    let here : P x = subst P is (level_reflexive y) in
    unfolded ∙ ap (λ (o : Const-F Const ConstGep TypedConst). same_level (tests_of x) o) (out-roll-Const x) ∙ here)
    (λ x y is.
    let a : ConstGep = roll-ConstGep x in
    let unfolded : same_gep a a ≡ same_gep_step (gep_tests x) a =
    ap (λ (f : ConstGep → Bool). f a) (fold-roll-ConstGep (Const → Bool) (ConstGep → Bool)
    (TypedConst → Bool) same_step same_gep_step same_item_step x) in
    let base : IsReflexive x.base = subst IsReflexive (ap (λ g. g.base) is) y.base.1 in
    unfolded ∙ both_true (same_truth-refl x.inbounds)
    (both_true (same_type-refl x.ty) (both_true base (all_bits-refl x.indices))))
    (λ x y is.
    let a : TypedConst = roll-TypedConst x in
    let unfolded : same_item a a ≡ same_item_step (item_tests x) a =
    ap (λ (f : TypedConst → Bool). f a) (fold-roll-TypedConst (Const → Bool) (ConstGep → Bool)
    (TypedConst → Bool) same_step same_gep_step same_item_step x) in
    let value : IsReflexive x.value = subst IsReflexive (ap (λ g. g.value) is) y.value.1 in
    unfolded ∙ both_true (same_type-refl x.ty) value)

-- ---- operands

pub same_operand-equal : (a b : Operand) → same_operand a b ≡ true → a ≡ b
same_operand-equal (Reg a) (Reg b) h = ap (λ x. Reg x) ((bytes_eq-Decides a b).0 h)
same_operand-equal (Reg a) (Fixed b) h = cc
same_operand-equal (Fixed a) (Reg b) h = cc
same_operand-equal (Fixed a) (Fixed b) h = ap (λ x. Fixed x) (same_const-equal a b h)

pub same_operand-refl : (a : Operand) → same_operand a a ≡ true
same_operand-refl (Reg a) = (bytes_eq-Decides a a).1 refl
same_operand-refl (Fixed a) = same_const-refl a

-- Each test that decides whether two operands are equal has the same answer as `same_operand`.
pub same_operand-is : (b : Bool) (x y : Operand) → (b ≡ true → x ≡ y) → (x ≡ y → b ≡ true)
    → b ≡ same_operand x y
same_operand-is b x y equal test =
    both_ways b (same_operand x y) (λ e. subst (λ (z : Operand). same_operand x z ≡ true) (equal e)
    (same_operand-refl x)) (λ e. test (same_operand-equal x y e))
