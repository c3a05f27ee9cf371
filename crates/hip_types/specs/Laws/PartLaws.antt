-- The laws of parts: where the indices of an element lead.
use Rattle.std.specs.Prelude.{ℕ, ◌+◌, ◌*◌, ◌%◌, ◌^◌, ◌≤◌, ◌<◌, ◌≡◌, List, [], ◌∷◌, length, Option, Some, None, option_map, option_and_then, IfSome, refl}
use Rattle.std.proofs.Common.{arith, sym, subst, ⊎_elim}
use Rattle.std.proofs.Math.Nat.{mul-le-mul_right, mod_self, zero-mod}
use Rattle.std.proofs.lemmas.Option.{slice_get-get_or, slice_get_past}
use Rattle.std.proofs.lemmas.Bool.{cases_lt}
use Rattle.hip_types.specs.declared.ty.Ty.{Ty, out-Ty, map-Ty}
use Rattle.hip_types.specs.declared.ty.Ty.TheOpen.{Ty-F}
use Rattle.hip_types.specs.declared.ty.Ty.TheVariants.{Ptr}
use Rattle.hip_types.specs.Layout.{Shape, shape, shape_of_level, shapes, size_of, align_of, Fits, TypePart, field_of, offset_in, enter_level, enter, further, part_at, gep_of}
use Rattle.hip_types.specs.Laws.LayoutLaws.{align_of-alignment, multiple_of_multiple, shape-level, sum_of_multiples, times_multiple, size_of-multiple, size_of-le, size_of-Struct, offset_in-multiple, greatest_align-multiple, field-inside, field-fits}
use Rattle.hip_types.specs.declared.limits.TheConstants.{DEEPEST_NESTING, LARGEST_TYPE}

-- An index that enters an array at this level of a type is below its count; no condition at any other level.
abbrev pub level_is_inside : ℕ → Ty-F Ty → Type 0
level_is_inside i (Ty-F.Array n e) = i < n
level_is_inside i _ = Unit {0}

-- Each index that enters an array is below the array's count.
abbrev pub AreInside : List ℕ → Ty → Type 0
AreInside [] t = Unit {0}
AreInside (i ∷ is) t = level_is_inside i (out-Ty t) × IfSome (enter t i) (λ p. AreInside is p.ty)

-- What holds of the part that an index enters, in a type of this shape.
record IsEntered (s : Shape) (p : TypePart) (inside : Type 0) : Type 0 where
  within : inside → p.offset + size_of p.ty ≤ s.size
  aligned : p.offset % align_of p.ty ≡ 0
  align : s.align % align_of p.ty ≡ 0
  fits : s.largest ≤ LARGEST_TYPE → s.depth ≤ DEEPEST_NESTING → Fits p.ty

entered_level : (i : ℕ) (y : Ty-F Ty) (p : TypePart) → enter_level i y ≡ Some p
    → IsEntered (shape_of_level (map-Ty Ty Shape shape y)) p (level_is_inside i y)
entered_level i (Ty-F.Int w) p is = cc
entered_level i Ty-F.Ptr p is = cc
entered_level i (Ty-F.Array n e) p is =
    let e-is : ◌≡◌ {A = TypePart} (record { offset = i * size_of e; ty = e }) p = cc in
    subst (λ (q : TypePart). IsEntered (shape_of_level (Ty-F.Array n (shape e))) q (i < n)) e-is
    (record {
      within = λ h. element_within i n (size_of e) h;
      aligned = times_multiple i _ _ (size_of-multiple e);
      align = mod_self (align_of e);
      fits = λ small shallow. record { small = omega (arith, small); shallow = omega (arith, shallow) };
    })
  where
    element_within : (j m s : ℕ) → j < m → j * s + s ≤ m * s
    element_within j m s h =
        let le : j + 1 ≤ m = omega arith in
        omega (arith, mul-le-mul_right s le)
entered_level i (Ty-F.Struct fs) p is = ⊎_elim field past (cases_lt i (length fs))
  where
    field : i < length fs → IsEntered (shape_of_level (Ty-F.Struct (shapes fs))) p (Unit {0})
    field h =
        let found = slice_get-get_or fs i Ptr h in
        let there = rw found at is in
        let e-is : ◌≡◌ {A = TypePart} (record { offset = offset_in fs i; ty = field_of fs i }) p = cc in
        subst (λ (q : TypePart). IsEntered (shape_of_level (Ty-F.Struct (shapes fs))) q (Unit {0})) e-is
        (record {
          within = λ _. omega (arith, field-inside fs i h, size_of-Struct fs);
          aligned = offset_in-multiple fs i;
          align = greatest_align-multiple fs i h;
          fits = λ small shallow. field-fits fs i h (omega (arith, small)) (omega (arith, shallow));
        })

    past : length fs ≤ i → IsEntered (shape_of_level (Ty-F.Struct (shapes fs))) p (Unit {0})
    past h =
        let gone = rw (slice_get_past fs i h) at is in
        cc

entered : (i : ℕ) (t : Ty) (p : TypePart) → enter t i ≡ Some p
    → IsEntered (shape t) p (level_is_inside i (out-Ty t))
entered i t p is =
    subst (λ (s : Shape). IsEntered s p (level_is_inside i (out-Ty t))) (sym (shape-level t))
    (entered_level i (out-Ty t) p is)

-- What holds of a part of a type.
pub record IsPartOf (t : Ty) (p : TypePart) (inside : Type 0) : Type 0 where
  -- It ends within the type if its indices are inside.
  pub within : inside → p.offset + size_of p.ty ≤ size_of t
  -- Its offset and the alignment of the whole are multiples of its alignment, so it is aligned wherever the whole is.
  pub aligned : p.offset % align_of p.ty ≡ 0
  pub align : align_of t % align_of p.ty ≡ 0
  pub fits : Fits t → Fits p.ty

whole : (t : Ty) (inside : Type 0) → IsPartOf t (record { offset = 0; ty = t }) inside
whole t inside =
    record {
      within = λ _. omega arith;
      aligned = zero-mod (align_of t);
      align = mod_self (align_of t);
      fits =
          λ f. f;
    }

-- A part of a part is a part of the whole.
part_of_part : (t : Ty) (i : ℕ) (p q : TypePart) (rest : Type 0) → enter t i ≡ Some p → IsPartOf p.ty q rest →
    IsPartOf t (record { offset = p.offset + q.offset; ty = q.ty }) (level_is_inside i (out-Ty t) × rest)
part_of_part t i p q rest is part =
    let first = entered i t p is in
    let below = align_of-alignment q.ty in
    record {
      within = λ h. omega (arith, first.within h.0, part.within h.1);
      aligned = sum_of_multiples p.offset q.offset (align_of q.ty) below
          (multiple_of_multiple p.offset (align_of p.ty) (align_of q.ty)
          (align_of-alignment p.ty) below part.align first.aligned) part.aligned;
      align =
          multiple_of_multiple (align_of t) (align_of p.ty) (align_of q.ty)
          (align_of-alignment p.ty) below part.align first.align;
      fits = λ f. part.fits (first.fits f.small f.shallow);
    }

-- The facts of a part hold of each part to which these indices lead, in any type.
abbrev ArePartsAt : List ℕ → Type 0
ArePartsAt is = (t : Ty) (p : TypePart) → part_at is t ≡ Some p → IsPartOf t p (AreInside is t)

module _ (i : ℕ) (is : List ℕ) (t : Ty) (p : TypePart) (known : ArePartsAt is) where
  further_in : (q : TypePart) → enter t i ≡ Some q → (r : Option TypePart) → part_at is q.ty ≡ r
      → further q.offset r ≡ Some p →
      IsPartOf t p (level_is_inside i (out-Ty t) × AreInside is q.ty)
  further_in q found None there e = cc
  further_in q found (Some r) there e =
      let e-is : ◌≡◌ {A = TypePart} (record { offset = q.offset + r.offset; ty = r.ty }) p = cc in
      subst (λ (x : TypePart). IsPartOf t x (level_is_inside i (out-Ty t) × AreInside is q.ty)) e-is
      (part_of_part t i q r (AreInside is q.ty) found (known q.ty r there))

  one_in : (o : Option TypePart) → enter t i ≡ o
      → option_and_then (λ q. further q.offset (part_at is q.ty)) o ≡ Some p →
      IsPartOf t p (level_is_inside i (out-Ty t) × IfSome o (λ q. AreInside is q.ty))
  one_in None found e = cc
  one_in (Some q) found e = further_in q found (part_at is q.ty) refl e

-- What indices lead to is a part of the type.
pub part_at-part : (is : List ℕ) (t : Ty) (p : TypePart) → part_at is t ≡ Some p → IsPartOf t p (AreInside is t)
part_at-part [] t p e =
    let e-is : ◌≡◌ {A = TypePart} (record { offset = 0; ty = t }) p = cc in
    subst (λ (x : TypePart). IsPartOf t x (Unit {0})) e-is (whole t (Unit {0}))
part_at-part (i ∷ is) t p e = one_in i is t p (part_at-part is) (enter t i) refl e

-- An element of one value of the type: the part at the indices, which lies in the type.
pub record IsElement (t : Ty) (is : List ℕ) (o : ℕ) : Type 0 where
  pub part : TypePart
  pub is_part : part_at is t ≡ Some part
  pub at : o ≡ part.offset
  pub within : o + size_of part.ty ≤ size_of t

element : (is : List ℕ) (t : Ty) (o : ℕ) → Fits t → AreInside is t → (r : Option TypePart)
    → part_at is t ≡ r →
    option_map (λ p. (0 * size_of t + p.offset) % 2 ^ 64) r ≡ Some o → IsElement t is o
element is t o f inside None there e = cc
element is t o f inside (Some r) there e =
    let within = (part_at-part is t r there).within inside in
    let at : (0 * size_of t + r.offset) % 2 ^ 64 ≡ o = cc in
    let at : o ≡ r.offset = omega (arith, size_of-le t f) in
    record { part = r; is_part = there; at = at; within = omega arith }

-- If no index is out of range, the offset of an element of the first value lies in the type.
pub gep_of-element : (is : List ℕ) (t : Ty) (o : ℕ) → Fits t → AreInside is t → gep_of t (0 ∷ is) ≡ Some o
    → IsElement t is o
gep_of-element is t o f inside e = element is t o f inside (part_at is t) refl e
