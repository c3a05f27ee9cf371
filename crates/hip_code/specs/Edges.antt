-- The moves that phis and arguments become, and where edges and calls lead.
use Rattle.std.specs.List.Sorted.{IsNonDecreasingBy}
use Rattle.std.specs.Prelude.{ℕ, ◌≡◌, cond, List, [], ◌∷◌, length, Option, Some, None, slice_get}
use Rattle.std.specs.Str.{bytes_eq}
use Rattle.hip_tree.specs.declared.block.Case as named_case
use Rattle.hip_tree.specs.declared.block.Edge as named_edge
use Rattle.hip_tree.specs.declared.block.Phi.{Phi}
use Rattle.hip_tree.specs.declared.instr.Arg.{Arg}
use Rattle.hip_tree.specs.declared.instr.Operand as named
use Rattle.hip_tree.specs.declared.program.Function.{Function}
use Rattle.hip_tree.specs.declared.program.GlobalVar.{GlobalVar}
use Rattle.hip_tree.specs.declared.program.Param.{Param}
use Rattle.hip_tree.specs.declared.program.Program.{Program}
use Rattle.hip_names.specs.Names.{number_of}
use Rattle.hip_sound.specs.NumberedNames.{function_number}
use Rattle.hip_runs.specs.declared.input.Input.{Input}
use Rattle.hip_runs.specs.Actions.{case_label}
use Rattle.hip_runs.specs.Places.{blocks_of, block_at, block_number, phis_of, label_of}
use Rattle.hip_code.specs.Entries.{PlaceStandsAt}
use Rattle.hip_code.specs.Frames.{names_at}
use Rattle.hip_code.specs.Named.{has_pointer}
use Rattle.hip_code.specs.Numbers.{Tables, entries_of, HasSpan}
use Rattle.hip_code.specs.Ops.{case_edge}
use Rattle.hip_code.specs.Resolved.{IsOperand, is_result}
use Rattle.hip_code.specs.declared.op.Call.{Call}
use Rattle.hip_code.specs.declared.op.EdgeCase.{EdgeCase}
use Rattle.hip_code.specs.declared.op.OpEdge.{OpEdge}
use Rattle.hip_code.specs.declared.op.Move.{Move}

-- The operand that a phi has for control from a label.
abbrev pub edge_from : List named_edge.Edge → List ℕ → Option named.Operand
edge_from [] from = None
edge_from (e ∷ es) from = cond (bytes_eq e.label from) (Some e.value) (edge_from es from)

-- The move is that of a phi, for control from a label.
pub record IsMove (globals : List GlobalVar) (region : ℕ) (names : List (List ℕ)) (constants from : List ℕ)
    (m : Move)
    (p : Phi) : Type 0 where
  pub operand : named.Operand
  pub edge : edge_from p.edges from ≡ Some operand
  pub dest : number_of names p.dest ≡ Some m.dest
  pub value : IsOperand globals region names constants m.value operand

-- The moves are those of the phis of a block, one for each phi.
abbrev pub are_moves : List GlobalVar → ℕ → List (List ℕ) → List ℕ → List ℕ → List Move → List Phi
    → Type 0
are_moves globals region names constants from [] [] = Unit {0}
are_moves globals region names constants from (m ∷ ms) (p ∷ ps) =
    IsMove globals region names constants from m p × are_moves globals region names constants from ms ps
are_moves globals region names constants from [] (p ∷ ps) = ⊥
are_moves globals region names constants from (m ∷ ms) [] = ⊥

-- The moves are those of the arguments of a call into slots of the callee: one for each parameter that has an argument.
abbrev pub are_arguments : List GlobalVar → ℕ → List (List ℕ) → List (List ℕ) → List ℕ → List Move
    → List Param
    → List Arg → Type 0
are_arguments globals region names called constants [] [] args = Unit {0}
are_arguments globals region names called constants [] (p ∷ ps) [] = Unit {0}
are_arguments globals region names called constants [] (p ∷ ps) (x ∷ xs) = ⊥
are_arguments globals region names called constants (m ∷ ms) [] args = ⊥
are_arguments globals region names called constants (m ∷ ms) (p ∷ ps) [] = ⊥
are_arguments globals region names called constants (m ∷ ms) (p ∷ ps) (x ∷ xs) =
    (number_of called p.name ≡ Some m.dest) × IsOperand globals region names constants m.value x.value
    × are_arguments globals region names called constants ms ps xs

-- The edge of that number leads from a block to the one with a label.
pub record IsEdge (P : Program) (I : Input) (f b : ℕ) (tables : Tables) (number : ℕ)
    (label : List ℕ) : Type 0 where
  pub edge : OpEdge
  pub here : slice_get tables.edges number ≡ Some edge
  pub numbered : block_number (blocks_of P f) label ≡ Some edge.block
  pub begins : PlaceStandsAt P edge.target f edge.block 0
  pub span : HasSpan edge.moves tables.moves
  pub moves : are_moves P.globals I.base (names_at P f) tables.constants (label_of (block_at P f b))
      (entries_of edge.moves tables.moves) (phis_of (block_at P f edge.block))

-- The cases are those of a switch, in ascending order of value, and each has an edge of the block. For each value, they
-- give an edge to the label to which the switch goes; this holds for every default label.
pub record AreCases (P : Program) (I : Input) (f b : ℕ) (tables : Tables) (cs : List EdgeCase)
    (ds : List named_case.Case) : Type 0 where
  pub ascend : IsNonDecreasingBy (λ c. c.value) cs
  pub each : (k : ℕ) (c : EdgeCase) → slice_get cs k ≡ Some c
      → (label : List ℕ) × IsEdge P I f b tables c.edge label
  pub taken : (v other : ℕ) (label : List ℕ) → IsEdge P I f b tables other label
      → IsEdge P I f b tables (case_edge v cs other) (case_label v ds label)

-- The call is a call of this defined function, with these arguments and this result.
pub record IsOpCall (P : Program) (I : Input) (f : ℕ) (tables : Tables) (call : Call) (callee : List ℕ)
    (args : List Arg)
    (dest : Option (List ℕ)) : Type 0 where
  pub function : Function
  pub numbered : function_number P callee ≡ Some call.function
  pub here : slice_get P.functions call.function ≡ Some function
  pub begins : PlaceStandsAt P call.target call.function 0 0
  pub frame : call.frame ≡ length (names_at P f)
  pub size : call.size ≡ length (names_at P call.function)
  pub span : HasSpan call.arguments tables.moves
  pub arguments : are_arguments P.globals I.base (names_at P f) (names_at P call.function) tables.constants
      (entries_of call.arguments tables.moves) function.params args
  pub result : is_result (names_at P f) call.dest dest
  pub pointed : call.pointed ≡ has_pointer args
