-- Constants: the names in them, and whether a constant has the shape of a type.
use Rattle.std.specs.Prelude.{ℕ, ◌==◌, ◌&&◌, Bool, true, false, List, [], ◌∷◌, length, Option, Some, None, slice_get}
use Rattle.hip_types.specs.declared.number.Bits.{Bits}
use Rattle.hip_types.specs.declared.ty.Ty.{Ty, out-Ty}
use Rattle.hip_types.specs.declared.ty.Ty.TheOpen.{Ty-F}
use Rattle.hip_types.specs.declared.ty.Ty.TheVariants.{Ptr}
use Rattle.hip_tree.specs.declared.constant.Const.{Const}
use Rattle.hip_tree.specs.declared.constant.Const.TheOpen.{Const-F, ConstGep-F, TypedConst-F}
use Rattle.hip_tree.specs.declared.constant.ConstGep.{ConstGep}
use Rattle.hip_tree.specs.declared.constant.TypedConst.{TypedConst}
use Rattle.hip_tree.specs.declared.constant.Const.TheFolds.{fold-Const, fold-ConstGep, fold-TypedConst}
use Rattle.hip_globals.specs.Constants.{index_of, joined}
use Rattle.hip_sound.specs.Types.{is_int, is_ptr, is_struct, same_type}

-- The names in a constant, by one level of it that has the names of each part in the part's place.
abbrev names_step : Const-F (List (List ℕ)) (List (List ℕ)) (List (List ℕ)) → List (List ℕ)
names_step (Const-F.Address name) = name ∷ []
names_step (Const-F.Gep names) = names
names_step (Const-F.Array items) = joined items
names_step (Const-F.Struct items) = joined items
names_step _ = []

-- The names in a constant `getelementptr` are the names in its base, since its indices are integers.
abbrev gep_names_step : ConstGep-F (List (List ℕ)) (List (List ℕ)) (List (List ℕ)) → List (List ℕ)
gep_names_step gep = gep.base

-- The names in a member of an aggregate constant are the names in its value, since types have none.
abbrev item_names_step : TypedConst-F (List (List ℕ)) (List (List ℕ)) (List (List ℕ)) → List (List ℕ)
item_names_step item = item.value

-- The names of globals in a constant, in the order of its text, with repeats.
abbrev pub names_in : Const → List (List ℕ)
names_in = fold-Const (List (List ℕ)) (List (List ℕ)) (List (List ℕ)) names_step gep_names_step item_names_step

-- The names of globals in a member of an aggregate constant, in the order of its text.
abbrev pub item_names : TypedConst → List (List ℕ)
item_names = fold-TypedConst (List (List ℕ)) (List (List ℕ))
    (List (List ℕ)) names_step gep_names_step item_names_step

-- The type that an index enters: an array's element, or the field that it numbers.
abbrev pub entered : ℕ → Ty-F Ty → Option Ty
entered i (Ty-F.Array n element) = Some element
entered i (Ty-F.Struct fields) = slice_get fields i
entered i _ = None

-- An index enters a type, and the test of the further indices passes there; false if it enters none.
abbrev pub goes_in : (Ty → Bool) → Option Ty → Bool
goes_in rest None = false
goes_in rest (Some t) = rest t

-- Each index enters an aggregate.
abbrev pub enters : List Bits → Ty → Bool
enters [] t = true
enters (i ∷ is) t = goes_in (enters is) (entered (index_of i) (out-Ty t))

-- The first index steps over whole values, and each further one enters an aggregate.
abbrev pub path_exists : List Bits → Ty → Bool
path_exists [] t = false
path_exists (first ∷ further) t = enters further t

-- Each of the tests passes at this one type; true if there are no tests.
abbrev pub all_have : List (Ty → Bool) → Ty → Bool
all_have [] t = true
all_have (item ∷ items) t = item t && all_have items t

-- The tests of a constant's members pass at an array type: as many as it has elements, each at the element type;
-- false at any other type.
abbrev array_has : List (Ty → Bool) → Ty-F Ty → Bool
array_has items (Ty-F.Array n t) = length items == n && all_have items t
array_has items _ = false

-- Whether a constant has the shape of a type, by one level of it that has the test of each part in the part's place. An
-- integer has the shape of the type of its width; `null`, an address and a `getelementptr` have that of `ptr`; lists
-- have those of arrays and structs; `zeroinitializer` has that of every type. (LLVM, "Constants".)
abbrev shape_step : Const-F (Ty → Bool) Bool (Ty → Bool) → Ty → Bool
shape_step (Const-F.Int b) t = is_int b.width (out-Ty t)
shape_step Const-F.Null t = is_ptr (out-Ty t)
shape_step Const-F.Zero t = true
shape_step (Const-F.Address name) t = is_ptr (out-Ty t)
shape_step (Const-F.Gep path) t = is_ptr (out-Ty t) && path
shape_step (Const-F.Array items) t = array_has items (out-Ty t)
shape_step (Const-F.Struct items) t = is_struct items (out-Ty t)

-- One level of a constant `getelementptr`: its base has the shape of `ptr`, and its path exists in its type; without
-- an index there is no path. (LLVM, "getelementptr".)
abbrev gep_shape : ConstGep-F (Ty → Bool) Bool (Ty → Bool) → Bool
gep_shape gep = gep.base Ptr && path_exists gep.indices gep.ty

-- One level of a member of an aggregate constant: it has this type, and its value has the shape of the type.
abbrev item_shape : TypedConst-F (Ty → Bool) Bool (Ty → Bool) → Ty → Bool
item_shape item t = same_type item.ty t && item.value t

-- The lists of the constant have the type's lengths and member types, and its paths exist.
abbrev pub has_shape : Const → Ty → Bool
has_shape = fold-Const (Ty → Bool) Bool (Ty → Bool) shape_step gep_shape item_shape

-- The base of the constant `getelementptr` has the shape of `ptr`, and its path exists in its type.
abbrev pub gep_is_sound : ConstGep → Bool
gep_is_sound = fold-ConstGep (Ty → Bool) Bool (Ty → Bool) shape_step gep_shape item_shape

-- The member of an aggregate constant has this type, and its value has the type's shape.
abbrev pub item_has_shape : TypedConst → Ty → Bool
item_has_shape = fold-TypedConst (Ty → Bool) Bool (Ty → Bool) shape_step gep_shape item_shape
