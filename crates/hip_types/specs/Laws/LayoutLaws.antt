-- The laws of layout. The crates that use it need only these laws, not its definitions.
use Rattle.std.specs.Prelude.{ℕ, zero, suc, ◌+◌, ◌*◌, ◌%◌, ◌≤◌, ◌<◌, ◌≡◌, ◌⊎◌, max, List, [], ◌∷◌, ◌++◌, map, take, drop, length, get_or, refl}
use Rattle.std.specs.Int.{next_multiple_of}
use Rattle.std.proofs.Common.{arith, sym, ap, subst, ◌∙◌, inl, inr}
use Rattle.std.proofs.Math.Nat.{mul-zero, zero-mod, mod_self}
use Rattle.std.proofs.lemmas.Nat.{mul-mod}
use Rattle.std.proofs.lemmas.List.{take_more, take-append-drop, get_or_default}
use Rattle.hip_types.specs.declared.number.Width.{Width}
use Rattle.hip_types.specs.declared.number.Width.TheVariants.{W1, W8, W16, W32, W64}
use Rattle.hip_types.specs.declared.ty.Ty.{Ty, out-Ty, map-Ty}
use Rattle.hip_types.specs.declared.ty.Ty.TheOpen.{Ty-F}
use Rattle.hip_types.specs.declared.ty.Ty.TheVariants.{Int, Ptr, rolls-Int, rolls-Ptr, rolls-Array, rolls-Struct}
use Rattle.hip_types.specs.declared.ty.Ty.TheFolds.{ind-Ty, fold-roll-Ty, fold_out-Ty}
use Rattle.hip_types.specs.declared.ty.Ty.TheViews.{Struct, Array, roll-Ty}
use Rattle.hip_types.specs.Widths.{bytes_of}
use Rattle.hip_types.specs.Layout.{Shape, scalar_shape, shape_of_level, shape, shapes, size_of, align_of, Fits, end_after, greatest_align, greatest_depth, greatest_largest, struct_size, field_of, offset_in}
use Rattle.hip_types.specs.declared.limits.TheConstants.{LARGEST_TYPE}

-- ---- alignments

-- n is 1, 2, 4 or 8.
pub record IsAlignment (n : ℕ) : Type 0 where
  pub is : (n ≡ 1) ⊎ ((n ≡ 2) ⊎ ((n ≡ 4) ⊎ (n ≡ 8)))

pub alignment-low : (n : ℕ) → IsAlignment n → 1 ≤ n
alignment-low n h = grind (arith, h.is)

pub alignment-high : (n : ℕ) → IsAlignment n → n ≤ 8
alignment-high n h = grind (arith, h.is)

-- For an alignment a, `next_multiple_of x a` is the least multiple of a that is not below x.
pub next-multiple : (x a : ℕ) → IsAlignment a → next_multiple_of x a % a ≡ 0
next-multiple x a h = grind (arith, h.is)

pub next-le : (x a : ℕ) → x ≤ next_multiple_of x a
next-le x a = omega arith

pub next-lt : (x a : ℕ) → IsAlignment a → next_multiple_of x a < x + a
next-lt x a h = grind (arith, h.is)

pub next-least : (x a y : ℕ) → IsAlignment a → x ≤ y → y % a ≡ 0 → next_multiple_of x a ≤ y
next-least x a y h le multiple = grind (arith, h.is)

-- The greater of two alignments is an alignment, and a multiple of both.
greater : (a b : ℕ) → IsAlignment a → IsAlignment b → IsAlignment (max a b)
greater a b h k = record { is = grind (arith, h.is, k.is) }

greater_left : (a b : ℕ) → IsAlignment a → IsAlignment b → max a b % a ≡ 0
greater_left a b h k = grind (arith, h.is, k.is)

greater_right : (a b : ℕ) → IsAlignment a → IsAlignment b → max a b % b ≡ 0
greater_right a b h k = grind (arith, h.is, k.is)

-- A multiple of a multiple is a multiple.
pub multiple_of_multiple : (x a b : ℕ) → IsAlignment a → IsAlignment b → a % b ≡ 0 → x % a ≡ 0
    → x % b ≡ 0
multiple_of_multiple x a b h k m n = grind (arith, h.is, k.is)

pub sum_of_multiples : (x y a : ℕ) → IsAlignment a → x % a ≡ 0 → y % a ≡ 0 → (x + y) % a ≡ 0
sum_of_multiples x y a h m n = grind (arith, h.is)

pub times_multiple : (n x a : ℕ) → x % a ≡ 0 → (n * x) % a ≡ 0
times_multiple n x a h =
    mul-mod n x a ∙ ap (λ (r : ℕ). (n % a * r) % a) h ∙ ap (λ (r : ℕ). r % a) (mul-zero (n % a))
    ∙ zero-mod a

-- ---- shapes

-- The size is a multiple of the alignment, which is 1, 2, 4 or 8, and no greater than the size of the largest type
-- inside.
pub record IsRegular (s : Shape) : Type 0 where
  pub alignment : IsAlignment s.align
  pub whole : s.size % s.align ≡ 0
  pub held : s.size ≤ s.largest

-- A type whose shape is regular: what an induction over types gives for each type inside.
abbrev Regular : Type 0
Regular = (t : Ty) × IsRegular (shape t)

-- The shapes of these types, in their order.
abbrev shapes_of : List Regular → List Shape
shapes_of fs = map shape (map (λ f. f.0) fs)

scalar_regular : (n : ℕ) → IsAlignment n → IsRegular (scalar_shape n)
scalar_regular n h = record { alignment = h; whole = mod_self n; held = omega arith }

width_alignment : (w : Width) → IsAlignment (bytes_of w)
width_alignment W1 = record { is = inl refl }
width_alignment W8 = record { is = inl refl }
width_alignment W16 = record { is = inr (inl refl) }
width_alignment W32 = record { is = inr (inr (inl refl)) }
width_alignment W64 = record { is = inr (inr (inr refl)) }

eight : IsAlignment 8
eight = record { is = inr (inr (inr refl)) }

fields_alignment : (fs : List Regular) → IsAlignment (greatest_align (shapes_of fs))
fields_alignment [] = record { is = inl refl }
fields_alignment (f ∷ fs) = greater _ _ f.1.alignment (fields_alignment fs)

level_regular : (y : Ty-F Regular) → IsRegular
    (shape_of_level (map-Ty Ty Shape shape (map-Ty Regular Ty (λ e. e.0) y)))
level_regular (Ty-F.Int w) = scalar_regular (bytes_of w) (width_alignment w)
level_regular Ty-F.Ptr = scalar_regular 8 eight
level_regular (Ty-F.Array n e) =
    record { alignment = e.1.alignment; whole = times_multiple n _ _ e.1.whole; held = omega arith }
level_regular (Ty-F.Struct fs) =
    record {
      alignment = fields_alignment fs;
      whole = next-multiple (end_after 0 (shapes_of fs)) _ (fields_alignment fs);
      held = omega arith;
    }

pub regular : (t : Ty) → IsRegular (shape t)
regular = ind-Ty (λ t. IsRegular (shape t)) (λ x y is.
    let e : shape (roll-Ty x) ≡ shape_of_level (map-Ty Ty Shape shape x) = fold-roll-Ty Shape shape_of_level x in
    let h : IsRegular (shape_of_level (map-Ty Ty Shape shape x)) =
    subst (λ (z : Ty-F Ty). IsRegular (shape_of_level (map-Ty Ty Shape shape z))) is (level_regular y) in
    rw e h)

pub align_of-alignment : (t : Ty) → IsAlignment (align_of t)
align_of-alignment t = (regular t).alignment

pub size_of-multiple : (t : Ty) → size_of t % align_of t ≡ 0
size_of-multiple t = (regular t).whole

pub size_of-le : (t : Ty) → Fits t → size_of t ≤ LARGEST_TYPE
size_of-le t f = omega (arith, f.small, (regular t).held)

-- ---- one level of a type

pub shape-Int : (w : Width) → shape (Int w) ≡ scalar_shape (bytes_of w)
shape-Int w = ap shape (sym (rolls-Int w)) ∙ fold-roll-Ty Shape shape_of_level (Ty-F.Int w)

pub shape-Ptr : shape Ptr ≡ scalar_shape 8
shape-Ptr = ap shape (sym rolls-Ptr) ∙ fold-roll-Ty Shape shape_of_level Ty-F.Ptr

pub shape-Array : (n : ℕ) (e : Ty) → shape (Array n e) ≡ shape_of_level (Ty-F.Array n (shape e))
shape-Array n e = ap shape (sym (rolls-Array n e)) ∙ fold-roll-Ty Shape shape_of_level (Ty-F.Array n e)

pub shape-Struct : (fs : List Ty) → shape (Struct fs) ≡ shape_of_level (Ty-F.Struct (shapes fs))
shape-Struct fs = ap shape (sym (rolls-Struct fs)) ∙ fold-roll-Ty Shape shape_of_level (Ty-F.Struct fs)

pub size_of-Array : (n : ℕ) (e : Ty) → size_of (Array n e) ≡ n * size_of e
size_of-Array n e = ap (λ (s : Shape). s.size) (shape-Array n e)

pub size_of-Struct : (fs : List Ty) → size_of (Struct fs) ≡ struct_size (shapes fs)
size_of-Struct fs = ap (λ (s : Shape). s.size) (shape-Struct fs)

pub align_of-Array : (n : ℕ) (e : Ty) → align_of (Array n e) ≡ align_of e
align_of-Array n e = ap (λ (s : Shape). s.align) (shape-Array n e)

pub align_of-Struct : (fs : List Ty) → align_of (Struct fs) ≡ greatest_align (shapes fs)
align_of-Struct fs = ap (λ (s : Shape). s.align) (shape-Struct fs)

-- The shape of a type follows from the shapes of the types inside.
pub shape-level : (t : Ty) → shape t ≡ shape_of_level (map-Ty Ty Shape shape (out-Ty t))
shape-level t = fold_out-Ty Shape shape_of_level t

-- ---- fields

pub end_after-append : (place : ℕ) (xs ys : List Ty)
    → end_after place (shapes (xs ++ ys)) ≡ end_after (end_after place (shapes xs)) (shapes ys)
end_after-append place [] ys = refl
end_after-append place (x ∷ xs) ys = end_after-append (next_multiple_of place (align_of x) + size_of x) xs ys

pub end_after-le : (place : ℕ) (ys : List Ty) → place ≤ end_after place (shapes ys)
end_after-le place [] = omega arith
end_after-le place (y ∷ ys) = omega (arith, end_after-le (next_multiple_of place (align_of y) + size_of y) ys)

pub end_after-take : (place : ℕ) (ts : List Ty) (i j : ℕ) → i ≤ j
    → end_after place (shapes (take i ts)) ≤ end_after place (shapes (take j ts))
end_after-take place [] zero j h = end_after-le place (take j [])
end_after-take place [] (suc i) j h = end_after-le place (take j [])
end_after-take place (t ∷ ts) zero j h = end_after-le place (take j (t ∷ ts))
end_after-take place (t ∷ ts) (suc i) zero h = absurd (omega arith)
end_after-take place (t ∷ ts) (suc i) (suc j) h =
    end_after-take (next_multiple_of place (align_of t) + size_of t) ts i j (omega arith)

greatest_align-low : (ys : List Ty) → 1 ≤ greatest_align (shapes ys)
greatest_align-low [] = omega arith
greatest_align-low (y ∷ ys) = omega (arith, greatest_align-low ys)

pub greatest_align-append : (xs ys : List Ty)
    → greatest_align (shapes (xs ++ ys)) ≡ max (greatest_align (shapes xs)) (greatest_align (shapes ys))
greatest_align-append [] ys = omega (arith, greatest_align-low ys)
greatest_align-append (x ∷ xs) ys = omega (arith, greatest_align-append xs ys)

pub greatest_depth-append : (xs ys : List Ty)
    → greatest_depth (shapes (xs ++ ys)) ≡ max (greatest_depth (shapes xs)) (greatest_depth (shapes ys))
greatest_depth-append [] ys = omega arith
greatest_depth-append (x ∷ xs) ys = omega (arith, greatest_depth-append xs ys)

pub greatest_largest-append : (xs ys : List Ty)
    → greatest_largest (shapes (xs ++ ys)) ≡ max (greatest_largest (shapes xs)) (greatest_largest (shapes ys))
greatest_largest-append [] ys = omega arith
greatest_largest-append (x ∷ xs) ys = omega (arith, greatest_largest-append xs ys)

greatest_align-alignment : (ts : List Ty) → IsAlignment (greatest_align (shapes ts))
greatest_align-alignment [] = record { is = inl refl }
greatest_align-alignment (t ∷ ts) = greater _ _ (align_of-alignment t) (greatest_align-alignment ts)

pub greatest_align-multiple : (ts : List Ty) (k : ℕ) → k < length ts
    → greatest_align (shapes ts) % align_of (field_of ts k) ≡ 0
greatest_align-multiple [] k h = absurd (omega arith)
greatest_align-multiple (t ∷ ts) zero h = greater_left _ _ (align_of-alignment t) (greatest_align-alignment ts)
greatest_align-multiple (t ∷ ts) (suc k) h =
    let rest = greatest_align-alignment ts in
    multiple_of_multiple (greatest_align (shapes (t ∷ ts))) (greatest_align (shapes ts))
    (align_of (field_of ts k)) rest
    (align_of-alignment (field_of ts k)) (greatest_align-multiple ts k (omega arith))
    (greater_right _ _ (align_of-alignment t) rest)

-- What field k, of type t, adds to the measures of the k fields before it.
pub record IsNextField (ts : List Ty) (k : ℕ) (t : Ty) : Type 0 where
  pub end : end_after 0 (shapes (take (k + 1) ts)) ≡ next_multiple_of (end_after 0 (shapes (take k ts)))
      (align_of t) + size_of t
  pub align : greatest_align (shapes (take (k + 1) ts)) ≡ max (greatest_align (shapes (take k ts))) (align_of t)
  pub depth : greatest_depth (shapes (take (k + 1) ts)) ≡ max (greatest_depth (shapes (take k ts))) (shape t).depth
  pub largest : greatest_largest (shapes (take (k + 1) ts)) ≡ max (greatest_largest (shapes (take k ts)))
      (shape t).largest
  pub end_le : end_after 0 (shapes (take (k + 1) ts)) ≤ end_after 0 (shapes ts)
  pub align_le : greatest_align (shapes (take (k + 1) ts)) ≤ greatest_align (shapes ts)
  pub depth_le : (shape t).depth ≤ greatest_depth (shapes ts)
  pub largest_le : (shape t).largest ≤ greatest_largest (shapes ts)

module _ (ts : List Ty) (k : ℕ) (t : Ty) (h : k < length ts) (is : t ≡ get_or ts k t) where
  prefix_is : take (k + 1) ts ≡ take k ts ++ t ∷ []
  prefix_is = subst (λ (x : Ty). take (k + 1) ts ≡ take k ts ++ x ∷ []) (sym is) (take_more ts k t h)

  whole_is : ts ≡ take (k + 1) ts ++ drop (k + 1) ts
  whole_is = sym (take-append-drop (k + 1) ts)

  pub next_field : IsNextField ts k t
  next_field =
      let first = take k ts in
      let rest = drop (k + 1) ts in
      let depth_is =
      subst (λ (xs : List Ty). greatest_depth (shapes xs) ≡ max (greatest_depth (shapes first)) (shape t).depth)
      (sym prefix_is) (omega (arith, greatest_depth-append first (t ∷ []))) in
      let largest_is =
      subst (λ (xs : List Ty). greatest_largest (shapes xs)
      ≡ max (greatest_largest (shapes first)) (shape t).largest) (sym prefix_is)
      (omega (arith, greatest_largest-append first (t ∷ []))) in
      record {
        end =
            subst (λ (xs : List Ty). end_after 0 (shapes xs)
            ≡ next_multiple_of (end_after 0 (shapes first)) (align_of t) + size_of t) (sym prefix_is)
            (end_after-append 0 first (t ∷ []));
        align =
            subst (λ (xs : List Ty). greatest_align (shapes xs) ≡ max (greatest_align (shapes first)) (align_of t))
            (sym prefix_is) (omega (arith, greatest_align-low first, greatest_align-append first (t ∷ [])));
        depth = depth_is;
        largest = largest_is;
        end_le =
            subst (λ (xs : List Ty). end_after 0 (shapes (take (k + 1) ts)) ≤ end_after 0 (shapes xs)) (sym whole_is)
            (omega (
              arith,
              end_after-append 0 (take (k + 1) ts) rest,
              end_after-le (end_after 0 (shapes (take (k + 1) ts))) rest,
            ));
        align_le =
            subst (λ (xs : List Ty). greatest_align (shapes (take (k + 1) ts)) ≤ greatest_align (shapes xs))
            (sym whole_is) (omega (arith, greatest_align-append (take (k + 1) ts) rest));
        depth_le =
            subst (λ (xs : List Ty). (shape t).depth ≤ greatest_depth (shapes xs)) (sym whole_is)
            (omega (arith, depth_is, greatest_depth-append (take (k + 1) ts) rest));
        largest_le =
            subst (λ (xs : List Ty). (shape t).largest ≤ greatest_largest (shapes xs)) (sym whole_is)
            (omega (arith, largest_is, greatest_largest-append (take (k + 1) ts) rest));
      }

-- The type of a field that exists does not depend on the default.
pub field_of-is : (ts : List Ty) (k : ℕ) → k < length ts → field_of ts k ≡ get_or ts k (field_of ts k)
field_of-is ts k h = get_or_default ts k Ptr (field_of ts k) h

-- A field lies at a multiple of its alignment.
pub offset_in-multiple : (ts : List Ty) (k : ℕ) → offset_in ts k % align_of (field_of ts k) ≡ 0
offset_in-multiple ts k = next-multiple _ _ (align_of-alignment (field_of ts k))

-- Field k ends where the first k + 1 fields end.
pub field-end : (ts : List Ty) (k : ℕ) → k < length ts
    → offset_in ts k + size_of (field_of ts k) ≡ end_after 0 (shapes (take (k + 1) ts))
field-end ts k h = sym (next_field ts k (field_of ts k) h (field_of-is ts k h)).end

-- Fields lie in their order and do not overlap.
pub fields-apart : (ts : List Ty) (j k : ℕ) → j < k → k < length ts
    → offset_in ts j + size_of (field_of ts j) ≤ offset_in ts k
fields-apart ts j k before h =
    omega (arith, field-end ts j (omega arith), end_after-take 0 ts (j + 1) k (omega arith))

-- A field ends inside the struct.
pub field-inside : (ts : List Ty) (k : ℕ) → k < length ts
    → offset_in ts k + size_of (field_of ts k) ≤ size_of (Struct ts)
field-inside ts k h =
    let next : IsNextField ts k (field_of ts k) = next_field ts k (field_of ts k) h (field_of-is ts k h) in
    omega (arith, next.end, next.end_le, size_of-Struct ts)

-- The struct's alignment is a multiple of the field's.
pub field-align : (ts : List Ty) (k : ℕ) → k < length ts → align_of (Struct ts) % align_of (field_of ts k) ≡ 0
field-align ts k h =
    subst (λ (a : ℕ). a % align_of (field_of ts k) ≡ 0) (sym (align_of-Struct ts)) (greatest_align-multiple ts k h)

-- ---- what fits

pub Fits-Array : (n : ℕ) (e : Ty) → Fits (Array n e) → Fits e
Fits-Array n e f =
    let s : shape (Array n e) ≡ shape_of_level (Ty-F.Array n (shape e)) = shape-Array n e in
    let small : max (n * size_of e) (shape e).largest ≤ 67108864 =
    subst (λ (x : Shape). x.largest ≤ 67108864) s f.small in
    let shallow : (shape e).depth + 1 ≤ 32 = subst (λ (x : Shape). x.depth ≤ 32) s f.shallow in
    record { small = omega arith; shallow = omega arith }

pub field-fits : (fs : List Ty) (k : ℕ) → k < length fs → greatest_largest (shapes fs) ≤ LARGEST_TYPE
    → greatest_depth (shapes fs) ≤ 31 → Fits (field_of fs k)
field-fits fs k h small shallow =
    let next : IsNextField fs k (field_of fs k) = next_field fs k (field_of fs k) h (field_of-is fs k h) in
    record { small = omega (arith, next.largest_le); shallow = omega (arith, next.depth_le) }

-- Each field of a struct that fits also fits.
pub Fits-Struct : (fs : List Ty) (k : ℕ) → k < length fs → Fits (Struct fs) → Fits (field_of fs k)
Fits-Struct fs k h f =
    let s : shape (Struct fs) ≡ shape_of_level (Ty-F.Struct (shapes fs)) = shape-Struct fs in
    let small : max (struct_size (shapes fs)) (greatest_largest (shapes fs)) ≤ 67108864 =
    subst (λ (x : Shape). x.largest ≤ 67108864) s f.small in
    let shallow : greatest_depth (shapes fs) + 1 ≤ 32 = subst (λ (x : Shape). x.depth ≤ 32) s f.shallow in
    field-fits fs k h (omega arith) (omega arith)
