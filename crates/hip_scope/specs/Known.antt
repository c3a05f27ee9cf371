-- What the resolver needs to know of a sound program's instructions.
use Rattle.std.specs.Prelude.{ℕ, ◌≡◌, ◌<◌, ◌⊎◌, true, List, All, Option, Some, None, slice_get}
use Rattle.std.specs.List.{list_all}
use Rattle.hip_types.specs.Layout.{Fits}
use Rattle.hip_grammar.specs.Spelling.{spelled_index}
use Rattle.hip_tree.specs.declared.instr.Arg.{Arg}
use Rattle.hip_tree.specs.declared.instr.Instr.{Instr}
use Rattle.hip_tree.specs.declared.instr.Instr.TheVariants.{Binary, Compare, Select, Cast, Alloca, Load, Store, Gep, Call}
use Rattle.hip_tree.specs.declared.instr.Operand as named
use Rattle.hip_tree.specs.declared.instr.Operand.TheVariants.{Reg, Fixed}
use Rattle.hip_tree.specs.declared.program.Program.{Program}
use Rattle.hip_globals.specs.Constants.{types_in}
use Rattle.hip_names.specs.Names.{IsAmong}
use Rattle.hip_sound.specs.Given.{CallsFunction, CallsExtern}
use Rattle.hip_sound.specs.Places.{gep_agrees}
use Rattle.hip_runs.specs.Operands.{access_align}
use Rattle.hip_code.specs.declared.op.OpOperand.{OpOperand}
use Rattle.hip_code.specs.declared.op.OpOperand.TheVariants.{Constant, Register}
use Rattle.std.specs.Prelude.{ℕ, ◌≡◌, List, All, Some, map, slice_get}
use Rattle.hip_tree.specs.declared.block.Phi.{Phi}
use Rattle.std.specs.Prelude.{ℕ, ◌≡◌, true, List, Some, None, slice_get}
use Rattle.hip_tree.specs.declared.block.End.{End}
use Rattle.hip_tree.specs.declared.block.End.TheVariants as ends

-- The operand is a register of the function, or a constant whose types fit.
abbrev pub OperandKnown : List (List ℕ) → named.Operand → Type 0
OperandKnown names (Reg name) = IsAmong names name
OperandKnown names (Fixed value) = All Fits (types_in value)

-- The operand of each argument is known: a register of the function, or a constant whose types fit.
abbrev pub ArgsKnown : List (List ℕ) → List Arg → Type 0
ArgsKnown names args = All (λ a. OperandKnown names a.value) args

-- The register of a call's result, if there is one, is a register of the function.
abbrev pub ResultKnown : List (List ℕ) → Option (List ℕ) → Type 0
ResultKnown names None = Unit {0}
ResultKnown names (Some name) = IsAmong names name

-- Registers are the function's, types fit, no alignment is 0, indices lead into the type, and callees are there.
abbrev pub InstrKnown : Program → List (List ℕ) → Instr → Type 0
InstrKnown P names (Binary dest op flags width a b) = IsAmong names dest × OperandKnown names a × OperandKnown names b
InstrKnown P names (Compare dest pred ty a b) = IsAmong names dest × OperandKnown names a × OperandKnown names b
InstrKnown P names (Select dest test ty a b) =
    IsAmong names dest × OperandKnown names test × OperandKnown names a × OperandKnown names b
InstrKnown P names (Cast dest op from a to) = IsAmong names dest × OperandKnown names a
InstrKnown P names (Alloca dest ty align) = IsAmong names dest × Fits ty
InstrKnown P names (Load dest ty addr align) =
    IsAmong names dest × OperandKnown names addr × (0 < access_align ty align)
InstrKnown P names (Store ty value addr align) =
    OperandKnown names value × OperandKnown names addr × (0 < access_align ty align)
InstrKnown P names (Gep dest inbounds ty base indices) =
    IsAmong names dest × OperandKnown names base × ArgsKnown names indices × Fits ty
    × (gep_agrees indices ty ≡ true)
    × (list_all spelled_index indices ≡ true)
InstrKnown P names (Call dest ret callee args) =
    ResultKnown names dest × ArgsKnown names args × (CallsFunction P callee ret args ⊎ CallsExtern callee ret args)

-- The operand of an end is known, if it has one.
abbrev pub EndKnown : List (List ℕ) → End → Type 0
EndKnown names (ends.Br label) = Unit {0}
EndKnown names (ends.CondBr x first second) = OperandKnown names x
EndKnown names (ends.Switch width x other cases) = OperandKnown names x
EndKnown names (ends.Ret None) = Unit {0}
EndKnown names (ends.Ret (Some arg)) = OperandKnown names arg.value
EndKnown names ends.Unreachable = Unit {0}

-- The phi's register and operands are known, and it has an operand for control from the label.
pub record PhiKnown (names : List (List ℕ)) (from : List ℕ) (p : Phi) : Type 0 where
  pub dest : IsAmong names p.dest
  pub edges : All (λ e. OperandKnown names e.value) p.edges
  pub from_is : IsAmong (map (λ e. e.label) p.edges) from

-- Each of the phis is known, and has an operand for control from the label.
pub record PhisKnown (names : List (List ℕ)) (from : List ℕ) (ps : List Phi) : Type 0 where
  pub at : (k : ℕ) (p : Phi) → slice_get ps k ≡ Some p → PhiKnown names from p

-- The operand is a place in the table of constants, which has this number there.
abbrev pub IsConstant : List ℕ → OpOperand → ℕ → Type 0
IsConstant constants (Constant place) value = slice_get constants place ≡ Some value
IsConstant constants (Register slot) value = ⊥
