-- What the functions that lay the bytes of globals use: the bytes of an item of a constant, and types that fit.
use Rattle.std.specs.Prelude.{ℕ, ◌<◌, List, ◌∷◌, All, length, get_or}
use Rattle.hip_types.specs.declared.ty.Ty.{Ty}
use Rattle.hip_types.specs.Layout.{Fits}
use Rattle.hip_tree.specs.declared.constant.TypedConst.{TypedConst}
use Rattle.hip_tree.specs.declared.constant.Const.TheFolds.{fold-TypedConst}
use Rattle.hip_tree.specs.declared.program.GlobalVar.{GlobalVar}
use Rattle.hip_globals.specs.Constants.{types_in}
use Rattle.hip_globals.specs.Values.{Written, ItemBytes, written_step, gep_step, item_step}

-- An item's bytes, with its alignment.
abbrev pub item_piece : (List ℕ → ℕ) → TypedConst → ItemBytes
item_piece address_of = fold-TypedConst Written ℕ ItemBytes (written_step address_of) gep_step item_step

-- Each of these types fits.
pub record AllFit (types : List Ty) : Type 0 where
  pub fit : All Fits types

-- The types of globals and those in their initialisers fit.
pub record GlobalsFit (globals : List GlobalVar) : Type 0 where
  pub fit : (k : ℕ) (d : GlobalVar) → k < length globals →
      AllFit ((get_or globals k d).ty ∷ types_in (get_or globals k d).init)
