-- A constant's path and a list's item, opened one level: the types in them, and the bytes.
use Rattle.std.proofs.Common.{ℕ, ◌≡◌, List, ◌∷◌, ap}
use Rattle.hip_types.specs.Layout.{Fits, size_of, align_of}
use Rattle.hip_types.specs.declared.ty.Ty.{Ty}
use Rattle.hip_tree.specs.declared.constant.ConstGep.{ConstGep}
use Rattle.hip_tree.specs.declared.constant.TypedConst.{TypedConst}
use Rattle.hip_tree.specs.declared.constant.Const.TheFolds.{fold_out-ConstGep, fold_out-TypedConst}
use Rattle.hip_globals.specs.Constants.{types_step, gep_types_step, item_types_step, types_in, gep_types, item_types}
use Rattle.hip_globals.specs.InitialSeen.{AllFit, item_piece}
use Rattle.hip_globals.specs.Values.{Written, ItemBytes, written_step, gep_step, item_step, written, sized}
use Rattle.hip_globals.proofs.ByteLists.{first_fits, others_fit}

gep_types-is : (gep : ConstGep) → gep_types gep ≡ gep.ty ∷ types_in gep.base
gep_types-is gep = fold_out-ConstGep (List Ty) (List Ty) (List Ty) types_step gep_types_step item_types_step gep

item_types-is : (item : TypedConst) → item_types item ≡ item.ty ∷ types_in item.value
item_types-is item = fold_out-TypedConst (List Ty) (List Ty) (List Ty) types_step gep_types_step item_types_step item

pub gep_type_fits : (gep : ConstGep) → AllFit (gep_types gep) → Fits gep.ty
gep_type_fits gep all = first_fits gep.ty (types_in gep.base) (rw (gep_types-is gep) at all)

pub gep_base_fits : (gep : ConstGep) → AllFit (gep_types gep) → AllFit (types_in gep.base)
gep_base_fits gep all = others_fit gep.ty (types_in gep.base) (rw (gep_types-is gep) at all)

pub item_type_fits : (item : TypedConst) → AllFit (item_types item) → Fits item.ty
item_type_fits item all = first_fits item.ty (types_in item.value) (rw (item_types-is item) at all)

pub item_value_fits : (item : TypedConst) → AllFit (item_types item) → AllFit (types_in item.value)
item_value_fits item all = others_fit item.ty (types_in item.value) (rw (item_types-is item) at all)

item_piece-is : (a : List ℕ → ℕ) (item : TypedConst) → item_piece a item ≡ record { align = align_of item.ty; bytes = sized (size_of item.ty) (written a item.value).bytes }
item_piece-is a item = fold_out-TypedConst Written ℕ ItemBytes (written_step a) gep_step item_step item

pub item_bytes : (a : List ℕ → ℕ) (item : TypedConst) → (item_piece a item).bytes ≡ sized (size_of item.ty) (written a item.value).bytes
item_bytes a item = ap (λ p. p.bytes) (item_piece-is a item)

pub item_align : (a : List ℕ → ℕ) (item : TypedConst) → (item_piece a item).align ≡ align_of item.ty
item_align a item = ap (λ p. p.align) (item_piece-is a item)
