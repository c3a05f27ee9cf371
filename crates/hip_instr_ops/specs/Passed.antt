-- The moves of arguments.
use Rattle.std.specs.Prelude.{ℕ, suc, ◌≡◌, List, [], ◌∷◌, ◌++◌, length, None, Some, slice_get}
use Rattle.hip_tree.specs.declared.instr.Arg.{Arg}
use Rattle.hip_tree.specs.declared.program.Function.{Function}
use Rattle.hip_tree.specs.declared.program.Program.{Program}
use Rattle.hip_externs.specs.Externs.{call_of}
use Rattle.hip_sound.specs.NumberedNames.{function_number}
use Rattle.hip_code.specs.Numbers.{Tables}
use Rattle.hip_code.specs.declared.op.Move.{Move}
use Rattle.hip_scope.specs.Growth.{Makes}
use Rattle.hip_scope.specs.Scopes.{OperandStandsFor}
use Rattle.hip_scope.specs.declared.scope.Scope.{Scope}

-- The moves are those of arguments into slots that follow one another.
abbrev pub are_passed : Scope → Tables → ℕ → List Move → List Arg → Type 0
are_passed s t slot [] [] = Unit {0}
are_passed s t slot [] (x ∷ xs) = ⊥
are_passed s t slot (m ∷ ms) [] = ⊥
are_passed s t slot (m ∷ ms) (x ∷ xs) =
    (m.dest ≡ slot) × OperandStandsFor s t m.value x.value × are_passed s t (suc slot) ms xs

-- The moves of arguments are put into the table.
pub record PassesArguments (s : Scope) (t u : Tables) (args : List Arg) : Type 0 where
  pub moves : List Move
  pub are : u.moves ≡ t.moves ++ moves
  pub makes : Makes t u (λ v. are_passed s v 0 moves args)

-- The callee is a function that takes as many arguments as there are.
pub record Calls (P : Program) (callee : List ℕ) (args : List Arg) : Type 0 where
  pub number : ℕ
  pub function : Function
  pub named : function_number P callee ≡ Some number
  pub here : slice_get P.functions number ≡ Some function
  pub as_long : length function.params ≡ length args
  pub free : call_of callee ≡ None
