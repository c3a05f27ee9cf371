-- What the indices of a `getelementptr` add to its base: an offset, and terms for the indices in registers.
use Rattle.std.specs.Prelude.{ℕ, ◌⊎◌, ◌+◌, ◌*◌, ◌≡◌, List, [], ◌∷◌, Some}
use Rattle.hip_types.specs.Layout.{TypePart, enter, size_of}
use Rattle.hip_types.specs.declared.ty.Ty.{Ty, out-Ty}
use Rattle.hip_types.specs.declared.ty.Ty.TheOpen.{Ty-F}
use Rattle.hip_tree.specs.declared.constant.Const.{Const}
use Rattle.hip_tree.specs.declared.instr.Arg.{Arg}
use Rattle.hip_tree.specs.declared.instr.Operand.TheVariants.{Fixed}
use Rattle.hip_tree.specs.declared.program.GlobalVar.{GlobalVar}
use Rattle.hip_globals.specs.Values.{const_value}
use Rattle.hip_runs.specs.Actions.{index_value}
use Rattle.hip_types.specs.Scalars.{width_of}
use Rattle.hip_code.specs.Resolved.{IsOperand}
use Rattle.hip_code.specs.declared.op.Term.{Term}

-- The index is a constant.
pub record IsFixed (globals : List GlobalVar) (region : ℕ) (a : Arg) (index : ℕ) : Type 0 where
  pub value : Const
  pub is : a.value ≡ Fixed value
  pub index_is : index_value a.ty (const_value globals region value) ≡ index

-- The term is an index in a register times a scale.
pub record IsScaled (globals : List GlobalVar) (region : ℕ) (names : List (List ℕ)) (constants : List ℕ) (a : Arg)
    (size : ℕ) (t : Term) : Type 0 where
  pub index : IsOperand globals region names constants t.index a.value
  pub width : t.width ≡ width_of a.ty
  pub scale : t.scale ≡ size

-- The indices lead into a type, one after another: a constant index enters a part, any other index an element of an
-- array.
abbrev pub is_path : List GlobalVar → ℕ → List (List ℕ) → List ℕ → Ty → List Arg → ℕ → List Term
    → Type 0
is_path globals region names constants t [] offset terms = (offset ≡ 0) × (terms ≡ [])
is_path globals region names constants t (a ∷ rest_args) offset terms =
    ((index : ℕ) × (p : TypePart) × (rest : ℕ) × IsFixed globals region a index × (enter t index ≡ Some p)
    × (offset ≡ p.offset + rest)
    × is_path globals region names constants p.ty rest_args rest terms)
    ⊎ ((n : ℕ) × (e : Ty) × (term : Term) × (rest : List Term)
    × IsScaled globals region names constants a (size_of e) term
    × (out-Ty t ≡ Ty-F.Array n e) × (terms ≡ term ∷ rest)
    × is_path globals region names constants e rest_args offset rest)

-- The first index steps over whole values of the type.
abbrev pub is_gep : List GlobalVar → ℕ → List (List ℕ) → List ℕ → Ty → List Arg → ℕ → List Term
    → Type 0
is_gep globals region names constants t [] offset terms = (offset ≡ 0) × (terms ≡ [])
is_gep globals region names constants t (a ∷ rest_args) offset terms =
    ((index : ℕ) × (rest : ℕ) × IsFixed globals region a index × (offset ≡ index * size_of t + rest)
    × is_path globals region names constants t rest_args rest terms)
    ⊎ ((term : Term) × (rest : List Term) × IsScaled globals region names constants a (size_of t) term
    × (terms ≡ term ∷ rest)
    × is_path globals region names constants t rest_args offset rest)

-- The indices of a `getelementptr` of a type add this to its base.
pub record IsGep (globals : List GlobalVar) (region : ℕ) (names : List (List ℕ)) (constants : List ℕ) (t : Ty)
    (args : List Arg) (offset : ℕ) (terms : List Term) : Type 0 where
  pub is : is_gep globals region names constants t args offset terms
