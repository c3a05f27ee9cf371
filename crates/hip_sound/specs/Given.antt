-- What holds in a sound program, fact by fact, for code that runs or changes it.
use Rattle.std.specs.Prelude.{ℕ, ◌≡◌, ◌⊎◌, List, map, All, Option, Some, slice_get}
use Rattle.hip_types.specs.declared.number.Scalar.{Scalar}
use Rattle.hip_tree.specs.declared.block.Block.{Block}
use Rattle.hip_tree.specs.declared.block.Phi.{Phi}
use Rattle.hip_tree.specs.declared.instr.Arg.{Arg}
use Rattle.hip_tree.specs.declared.instr.Instr.{Instr}
use Rattle.hip_tree.specs.declared.instr.Instr.TheVariants.{Call}
use Rattle.hip_tree.specs.declared.program.Function.{Function}
use Rattle.hip_tree.specs.declared.program.Program.{Program}
use Rattle.hip_externs.specs.Externs.{Signature, known_signature}
use Rattle.hip_names.specs.Names.{IsAmong}
use Rattle.hip_sound.specs.NumberedNames.{function_number}
use Rattle.hip_sound.specs.Places.{edge_labels}
use Rattle.hip_sound.specs.Registers.{instr_uses, end_uses, end_labels, phi_uses}
use Rattle.hip_sound.specs.Sound.{IsBlockAt, IsTyped}

-- ---- calls

-- The callee is a function, which has this result and these parameters.
pub record CallsFunction (P : Program) (callee : List ℕ) (ret : Option Scalar) (args : List Arg) : Type 0 where
  pub number : ℕ
  pub function : Function
  pub named : function_number P callee ≡ Some number
  pub here : slice_get P.functions number ≡ Some function
  pub result : function.ret ≡ ret
  pub params : map (λ p. p.ty) function.params ≡ map (λ a. a.ty) args

-- The callee is an external function, which has this result and these parameters.
pub record CallsExtern (callee : List ℕ) (ret : Option Scalar) (args : List Arg) : Type 0 where
  pub signature : Signature
  pub known : known_signature callee ≡ Some signature
  pub result : signature.ret ≡ ret
  pub params : signature.params ≡ map (λ a. a.ty) args

-- Each call names a function or an external function that has its result and its arguments' types.
abbrev pub CallsAgree : Program → Type 0
CallsAgree P =
    (f b i : ℕ) (fn : Function) (block : Block) (dest : Option (List ℕ)) (ret : Option Scalar) (callee : List ℕ)
    (args : List Arg) →
    IsBlockAt P f b fn block → slice_get block.body i ≡ Some (Call dest ret callee args) →
    CallsFunction P callee ret args ⊎ CallsExtern callee ret args

-- ---- operands

-- Each operand of a block has the type that its place states.
pub record IsTypedBlock (fn : Function) (block : Block) : Type 0 where
  pub phis : (i : ℕ) (p : Phi) → slice_get block.phis i ≡ Some p → All (IsTyped fn) (phi_uses p)
  pub body : (i : ℕ) (instr : Instr) → slice_get block.body i ≡ Some instr → All (IsTyped fn) (instr_uses instr)
  pub last : All (IsTyped fn) (end_uses block.end)

-- Each operand of each block of the program has the type that its place states.
abbrev pub OperandsAgree : Program → Type 0
OperandsAgree P = (f b : ℕ) (fn : Function) (block : Block) → IsBlockAt P f b fn block → IsTypedBlock fn block

-- ---- labels

-- Some block has the label.
pub record HasBlock (fn : Function) (label : List ℕ) : Type 0 where
  pub number : ℕ
  pub block : Block
  pub here : slice_get fn.blocks number ≡ Some block
  pub named : block.label ≡ label

-- Each label that the end of a block names is the label of a block of the same function.
abbrev pub LabelsExist : Program → Type 0
LabelsExist P =
    (f b : ℕ) (fn : Function) (block : Block) → IsBlockAt P f b fn block
    → All (HasBlock fn) (end_labels block.end)

-- A phi has an edge for each block whose end names the phi's own block.
abbrev pub PhisAgree : Program → Type 0
PhisAgree P =
    (f b c i : ℕ) (fn : Function) (block prior : Block) (p : Phi) → IsBlockAt P f b fn block →
    IsBlockAt P f c fn prior →
    IsAmong (end_labels prior.end) block.label → slice_get block.phis i ≡ Some p →
    IsAmong (edge_labels p.edges) prior.label
