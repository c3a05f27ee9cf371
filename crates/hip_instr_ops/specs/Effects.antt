-- The arguments of calls.
use Rattle.std.specs.Prelude.{ℕ, ◌≡◌, List, Some, slice_get}
use Rattle.hip_tree.specs.declared.instr.Arg.{Arg}
use Rattle.hip_code.specs.Numbers.{Tables}
use Rattle.hip_code.specs.declared.op.OpOperand.{OpOperand}
use Rattle.hip_scope.specs.Scopes.{OperandStandsFor}
use Rattle.hip_scope.specs.declared.scope.Scope.{Scope}

-- The operand resolves the argument at that place.
abbrev pub StandsForArg : Scope → Tables → OpOperand → List Arg → ℕ → Type 0
StandsForArg s t o args k = (x : Arg) → slice_get args k ≡ Some x → OperandStandsFor s t o x.value
