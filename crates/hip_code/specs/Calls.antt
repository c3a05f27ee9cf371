-- The ops that calls of external functions become.
use Rattle.std.specs.Prelude.{ℕ, true, false, List, [], ◌∷◌, Option}
use Rattle.hip_tree.specs.declared.instr.Arg.{Arg}
use Rattle.hip_tree.specs.declared.program.GlobalVar.{GlobalVar}
use Rattle.hip_types.specs.declared.number.Scalar.{Scalar}
use Rattle.hip_externs.specs.Externs.{row_of}
use Rattle.hip_externs.specs.declared.call.ExternCall.{ExternCall}
use Rattle.hip_externs.specs.declared.call.LineEffect.{LineEffect}
use Rattle.hip_externs.specs.declared.call.LineEffect.TheVariants as lines
use Rattle.hip_externs.specs.declared.call.ExternCall.TheVariants as calls
use Rattle.hip_code.specs.Resolved.{IsOperand}
use Rattle.hip_code.specs.declared.op.Effect.{Effect}
use Rattle.hip_code.specs.declared.op.Effect.TheVariants as effects
use Rattle.hip_code.specs.declared.op.OpOperand.{OpOperand}
use Rattle.hip_code.specs.declared.op.Outside.TheVariants.{Assert, Print, Read}
use Rattle.hip_code.specs.declared.op.Persistence.{Persistence}
use Rattle.hip_code.specs.declared.op.Persistence.TheVariants.{Flush, Fence, Range}

-- The op of a call that flushes or fences, by the effect and the parameters of the function. A flush that takes only an
-- address flushes the line of that address; a flush that also takes a size flushes the lines of a range.
abbrev pub line_op : LineEffect → List Scalar → OpOperand → OpOperand → Persistence
line_op lines.Flush (addr ∷ size ∷ more) a b = Range a b false
line_op lines.Flush _ a b = Flush a
line_op lines.FlushAndFence params a b = Range a b true
line_op _ params a b = Fence

-- The op of a call of an external function, with the slot of its result and its first two operands. The function may
-- take fewer.
abbrev pub extern_op : ExternCall → Option ℕ → OpOperand → OpOperand → Effect
extern_op calls.ReadI64 dest a b = effects.Outside (Read dest)
extern_op calls.PrintI64 dest a b = effects.Outside (Print a)
extern_op calls.PmAssert dest a b = effects.Outside (Assert a b)
extern_op call dest a b = effects.Persistence (line_op (row_of call).effect (row_of call).params a b)

-- The operand resolves the first of the arguments; false if there is none.
abbrev pub is_first : List GlobalVar → ℕ → List (List ℕ) → List ℕ → List Arg → OpOperand → Type 0
is_first globals region names constants [] a = ⊥
is_first globals region names constants (x ∷ xs) a = IsOperand globals region names constants a x.value

-- The operands resolve the first two of the arguments; false if there are fewer.
abbrev pub are_both : List GlobalVar → ℕ → List (List ℕ) → List ℕ → List Arg → OpOperand → OpOperand
    → Type 0
are_both globals region names constants [] a b = ⊥
are_both globals region names constants (x ∷ xs) a b =
    IsOperand globals region names constants a x.value × is_first globals region names constants xs b

-- The operands resolve the arguments of a function with these parameters, or its first two arguments if it has more.
abbrev pub are_passed : List GlobalVar → ℕ → List (List ℕ) → List ℕ → List Scalar → List Arg → OpOperand
    → OpOperand →
    Type 0
are_passed globals region names constants [] args a b = Unit {0}
are_passed globals region names constants (x ∷ []) args a b = is_first globals region names constants args a
are_passed globals region names constants (x ∷ y ∷ more) args a b = are_both globals region names constants args a b

-- The operands resolve the arguments that the function takes.
abbrev pub are_taken : List GlobalVar → ℕ → List (List ℕ) → List ℕ → ExternCall → List Arg → OpOperand
    → OpOperand → Type 0
are_taken globals region names constants call args a b =
    are_passed globals region names constants (row_of call).params args a b
