-- Constants: the types that are written in them, and the values of their indices.
use Rattle.std.specs.Prelude.{ℕ, List, [], ◌∷◌, ◌++◌}
use Rattle.hip_types.specs.declared.number.Bits.{Bits}
use Rattle.hip_types.specs.declared.ty.Ty.{Ty}
use Rattle.hip_types.specs.declared.number.Width.TheVariants.{W64}
use Rattle.hip_types.specs.Numbers.{signed, wrapped}
use Rattle.hip_tree.specs.declared.constant.Const.{Const}
use Rattle.hip_tree.specs.declared.constant.Const.TheOpen.{Const-F, ConstGep-F, TypedConst-F}
use Rattle.hip_tree.specs.declared.constant.ConstGep.{ConstGep}
use Rattle.hip_tree.specs.declared.constant.TypedConst.{TypedConst}
use Rattle.hip_tree.specs.declared.constant.Const.TheFolds.{fold-Const, fold-ConstGep, fold-TypedConst}

-- The items of all these lists, list by list.
abbrev pub joined : {A : Type 0} → List (List A) → List A
joined [] = []
joined (xs ∷ rest) = xs ++ joined rest

-- The types that are written in a constant, by those of the constants inside.
abbrev pub types_step : Const-F (List Ty) (List Ty) (List Ty) → List Ty
types_step (Const-F.Gep types) = types
types_step (Const-F.Array items) = joined items
types_step (Const-F.Struct items) = joined items
types_step _ = []

-- The types in a constant `getelementptr`: the type that its indices enter, and then the types in its base.
abbrev pub gep_types_step : ConstGep-F (List Ty) (List Ty) (List Ty) → List Ty
gep_types_step gep = gep.ty ∷ gep.base

-- The types in an item of a constant list: its own type, and then the types in its value.
abbrev pub item_types_step : TypedConst-F (List Ty) (List Ty) (List Ty) → List Ty
item_types_step item = item.ty ∷ item.value

-- The types that are written in a constant, in the order of its text: those of its items and of its `getelementptr`s;
-- none in an integer, a name, `null` and `zeroinitializer`.
abbrev pub types_in : Const → List Ty
types_in = fold-Const (List Ty) (List Ty) (List Ty) types_step gep_types_step item_types_step

-- The types that are written in a constant `getelementptr`.
abbrev pub gep_types : ConstGep → List Ty
gep_types = fold-ConstGep (List Ty) (List Ty) (List Ty) types_step gep_types_step item_types_step

-- The types that are written in an item of a constant list, its own the first one.
abbrev pub item_types : TypedConst → List Ty
item_types = fold-TypedConst (List Ty) (List Ty) (List Ty) types_step gep_types_step item_types_step

-- An index, sign-extended to 64 bits.
abbrev pub index_of : Bits → ℕ
index_of b = wrapped W64 (signed b.width b.value)
