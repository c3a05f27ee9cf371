-- Values that fit the types of registers and operands.
use Rattle.std.specs.Prelude.{◌≡◌, ℕ, ◌<◌, All, List, [], ◌∷◌, Option, Some, None, slice_get}
use Rattle.hip_types.specs.Numbers.{bits, modulus, signed, wrapped}
use Rattle.hip_types.specs.declared.number.Pred.{Pred}
use Rattle.hip_types.specs.declared.number.Scalar.{Scalar}
use Rattle.hip_types.specs.declared.number.Width.{Width}
use Rattle.hip_types.specs.declared.number.Width.TheVariants.{W32, W64}
use Rattle.hip_tree.specs.declared.block.Block.{Block}
use Rattle.hip_tree.specs.declared.block.End.{End}
use Rattle.hip_tree.specs.declared.block.End.TheVariants as ends
use Rattle.hip_tree.specs.declared.block.Phi.{Phi}
use Rattle.hip_tree.specs.declared.instr.Arg.{Arg}
use Rattle.hip_tree.specs.declared.instr.Instr.{Instr}
use Rattle.hip_tree.specs.declared.program.Function.{Function}
use Rattle.hip_tree.specs.declared.program.Program.{Program}
use Rattle.hip_num.specs.Comparisons.{holds}
use Rattle.hip_sound.specs.Registers.{Use, find_register, registers_of, instr_uses, end_uses, phi_uses}
use Rattle.hip_runs.specs.declared.input.Input.{Input}
use Rattle.hip_runs.specs.Actions.{index_value, returned}
use Rattle.hip_runs.specs.Operands.{value_of}
use Rattle.hip_types.specs.Scalars.{width_of}
use Rattle.hip_runs.specs.Places.{block_at, code_at, end_at}
use Rattle.hip_runs.specs.State.{Registers, Frame}
use Rattle.hip_runs.specs.Step.{run}
use Rattle.hip_runs.specs.Laws.StepLaws.{IsTop}
use Rattle.hip_invariants.specs.FrameFacts.{each_register}

-- The type of a register of a function.
abbrev pub type_in : Option Function → List ℕ → Option (Option Scalar)
type_in None name = None
type_in (Some fn) name = find_register (registers_of fn) name

-- The type that the function of a number gives a register; `None` if it has no such register.
abbrev pub register_type : Program → ℕ → List ℕ → Option (Option Scalar)
register_type P g name = type_in (slice_get P.functions g) name

-- A value fits a type: it is below 2^N for an integer of N bits, and below 2^64 for a pointer. (LLVM, "integer type".)
abbrev pub fits_type : Option (Option Scalar) → ℕ → Type 0
fits_type (Some (Some ty)) v = v < modulus (width_of ty)
fits_type _ v = Unit {0}

-- A register's value fits the type that its function gives it.
pub record FitsType (P : Program) (g : ℕ) (name : List ℕ) (v : ℕ) : Type 0 where
  pub is : fits_type (register_type P g name) v

-- The type of a function's result.
abbrev pub result_in : Option Function → Option (Option Scalar)
result_in None = None
result_in (Some fn) = Some fn.ret

-- A value fits the type of a function's result.
pub record FitsResult (P : Program) (g v : ℕ) : Type 0 where
  pub is : fits_type (result_in (slice_get P.functions g)) v

-- The registers of each frame have values of their types.
abbrev pub RegistersFit : Program → List Frame → Type 0
RegistersFit P fs = each_register (FitsType P) fs

-- An operand's value fits the type that is written at its place.
abbrev pub OperandFits : Program → Input → Registers → Use → Type 0
OperandFits P I rs u = value_of P.globals I.base rs u.operand < modulus (width_of u.ty)

-- The operands that the frame's next step may read fit: those of its instruction, of its block's end, and of phis.
pub record OperandsFit (P : Program) (I : Input) (f : Frame) : Type 0 where
  pub body : (i : Instr) (rest : List Instr) → code_at P f ≡ i ∷ rest
      → All (OperandFits P I f.registers) (instr_uses i)
  pub last : (e : End) → end_at P f ≡ Some e → All (OperandFits P I f.registers) (end_uses e)
  pub phis : (c j : ℕ) (to : Block) (p : Phi) → block_at P f.function c ≡ Some to
      → slice_get to.phis j ≡ Some p →
      All (OperandFits P I f.registers) (phi_uses p)

-- What the bottom frame returns fits the 32 bits of the code that a run stops with.
abbrev pub CodeFits : Program → Input → ℕ → Type 0
CodeFits P I n = (f : Frame) (arg : Option Arg) → IsTop (run P I n) f [] → end_at P f ≡ Some (ends.Ret arg) →
    returned P.globals I.base f.registers arg < modulus W32

-- A value that fits its width does not change when it is cut to this width: in comparisons, in indices and in the code
-- of a stop.
pub record AreUncut : Type 0 where
  pub compared : (pred : Pred) (w : Width) (a b : ℕ) → a < modulus w → b < modulus w →
      holds pred w (bits w a).value (bits w b).value ≡ holds pred w a b
  pub index : (ty : Scalar) (v : ℕ) → v < modulus (width_of ty) →
      index_value ty v ≡ wrapped W64 (signed (width_of ty) v)
  pub code : (v : ℕ) → v < modulus W32 → signed W32 (bits W32 v).value ≡ signed W32 v
