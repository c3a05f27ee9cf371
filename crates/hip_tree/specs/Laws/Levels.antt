-- A type and a constant, opened one level.
use Rattle.std.proofs.Common.{◌≡◌, ℕ, List, sym, ap, ◌∙◌}
use Rattle.hip_types.specs.declared.number.Bits.{Bits}
use Rattle.hip_types.specs.declared.number.Width.{Width}
use Rattle.hip_types.specs.declared.ty.Ty.{Ty, out-Ty, out-roll-Ty}
use Rattle.hip_types.specs.declared.ty.Ty.TheOpen.{Ty-F}
use Rattle.hip_types.specs.declared.ty.Ty.TheVariants as types
use Rattle.hip_tree.specs.declared.constant.Const.{out-Const, out-roll-Const}
use Rattle.hip_tree.specs.declared.constant.Const.TheOpen.{Const-F}
use Rattle.hip_tree.specs.declared.constant.Const.TheVariants as consts
use Rattle.hip_tree.specs.declared.constant.ConstGep.{ConstGep}
use Rattle.hip_tree.specs.declared.constant.TypedConst.{TypedConst}

pub out-Ty-Int : (w : Width) → out-Ty (types.Int w) ≡ Ty-F.Int w
out-Ty-Int w = ap out-Ty (sym (types.rolls-Int w)) ∙ out-roll-Ty (Ty-F.Int w)

pub out-Ty-Ptr : out-Ty types.Ptr ≡ Ty-F.Ptr
out-Ty-Ptr = ap out-Ty (sym types.rolls-Ptr) ∙ out-roll-Ty Ty-F.Ptr

pub out-Ty-Array : (n : ℕ) (element : Ty) → out-Ty (types.Array n element) ≡ Ty-F.Array n element
out-Ty-Array n element = ap out-Ty (sym (types.rolls-Array n element)) ∙ out-roll-Ty (Ty-F.Array n element)

pub out-Ty-Struct : (fields : List Ty) → out-Ty (types.Struct fields) ≡ Ty-F.Struct fields
out-Ty-Struct fields = ap out-Ty (sym (types.rolls-Struct fields)) ∙ out-roll-Ty (Ty-F.Struct fields)

pub out-Const-Int : (b : Bits) → out-Const (consts.Int b) ≡ Const-F.Int b
out-Const-Int b = ap out-Const (sym (consts.rolls-Int b)) ∙ out-roll-Const (Const-F.Int b)

pub out-Const-Null : out-Const consts.Null ≡ Const-F.Null
out-Const-Null = ap out-Const (sym consts.rolls-Null) ∙ out-roll-Const Const-F.Null

pub out-Const-Zero : out-Const consts.Zero ≡ Const-F.Zero
out-Const-Zero = ap out-Const (sym consts.rolls-Zero) ∙ out-roll-Const Const-F.Zero

pub out-Const-Address : (name : List ℕ) → out-Const (consts.Address name) ≡ Const-F.Address name
out-Const-Address name = ap out-Const (sym (consts.rolls-Address name)) ∙ out-roll-Const (Const-F.Address name)

pub out-Const-Gep : (gep : ConstGep) → out-Const (consts.Gep gep) ≡ Const-F.Gep gep
out-Const-Gep gep = ap out-Const (sym (consts.rolls-Gep gep)) ∙ out-roll-Const (Const-F.Gep gep)

pub out-Const-Array : (items : List TypedConst) → out-Const (consts.Array items) ≡ Const-F.Array items
out-Const-Array items = ap out-Const (sym (consts.rolls-Array items)) ∙ out-roll-Const (Const-F.Array items)

pub out-Const-Struct : (items : List TypedConst) → out-Const (consts.Struct items) ≡ Const-F.Struct items
out-Const-Struct items = ap out-Const (sym (consts.rolls-Struct items)) ∙ out-roll-Const (Const-F.Struct items)
