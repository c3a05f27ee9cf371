-- Whether two types are equal, as a test.
use Rattle.std.specs.Prelude.{ℕ, ◌==◌, ◌&&◌, Bool, true, false, List, [], ◌∷◌, Option, Some, None}
use Rattle.hip_types.specs.declared.number.Width.{Width}
use Rattle.hip_types.specs.declared.number.Scalar.{Scalar}
use Rattle.hip_types.specs.declared.number.Scalar.TheVariants as scalars
use Rattle.hip_types.specs.declared.ty.Ty.{Ty, out-Ty}
use Rattle.hip_types.specs.declared.ty.Ty.TheOpen.{Ty-F}
use Rattle.hip_types.specs.declared.ty.Ty.TheFolds.{fold-Ty}
use Rattle.hip_types.specs.Widths.{bits_of}

-- Two integer types have the same number of bits.
abbrev pub same_width : Width → Width → Bool
same_width v w = bits_of v == bits_of w

-- Two scalars are both pointers, or both integers of the same width.
abbrev pub same_scalar : Scalar → Scalar → Bool
same_scalar (scalars.Int v) (scalars.Int w) = same_width v w
same_scalar scalars.Ptr scalars.Ptr = true
same_scalar _ _ = false

-- The results of two functions are the same; a function may have none.
abbrev pub same_result : Option Scalar → Option Scalar → Bool
same_result None None = true
same_result (Some a) (Some b) = same_scalar a b
same_result _ _ = false

-- Each test passes at the type beside it, and there are as many tests as types.
abbrev pub all_pass : {A : Type 0} → List (A → Bool) → List A → Bool
all_pass [] [] = true
all_pass (test ∷ tests) (x ∷ xs) = test x && all_pass tests xs
all_pass _ _ = false

-- One level of a type is an integer of that width.
abbrev pub is_int : Width → Ty-F Ty → Bool
is_int w (Ty-F.Int v) = same_width w v
is_int w _ = false

-- One level of a type is a pointer.
abbrev pub is_ptr : Ty-F Ty → Bool
is_ptr Ty-F.Ptr = true
is_ptr _ = false

-- One level of a type is an array of n elements whose type passes the test, also where n is 0.
abbrev is_array : ℕ → (Ty → Bool) → Ty-F Ty → Bool
is_array n item (Ty-F.Array m t) = n == m && item t
is_array n item _ = false

-- One level of a type is a struct with a field for each test, whose type passes that test.
abbrev pub is_struct : List (Ty → Bool) → Ty-F Ty → Bool
is_struct tests (Ty-F.Struct ts) = all_pass tests ts
is_struct tests _ = false

-- Whether one level of a type is equal to another level, which has a test in the place of each type inside.
abbrev pub same_level : Ty-F (Ty → Bool) → Ty-F Ty → Bool
same_level (Ty-F.Int w) t = is_int w t
same_level Ty-F.Ptr t = is_ptr t
same_level (Ty-F.Array n item) t = is_array n item t
same_level (Ty-F.Struct tests) t = is_struct tests t

-- Whether the outermost level of a type is equal to a level that has a test in the place of each type inside.
abbrev pub same_step : Ty-F (Ty → Bool) → Ty → Bool
same_step tests t = same_level tests (out-Ty t)

-- Two types are equal if they are alike level by level, so a struct is given by its fields alone. (LLVM, "Structure
-- Type": literal types are uniqued by their contents.)
abbrev pub same_type : Ty → Ty → Bool
same_type = fold-Ty (Ty → Bool) same_step
