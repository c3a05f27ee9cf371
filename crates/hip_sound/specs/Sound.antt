-- Sound programs: the rules, each in a field. Names, types, edges and paths are LLVM's ("Well-Formedness", and of
-- instructions "phi", "switch", "call", "getelementptr" and the conversions; its rule of dominance is stated by paths).
-- The external functions and the limits are this project's own.
use Rattle.std.specs.Prelude.{ℕ, ◌+◌, ◌≡◌, ◌≢◌, ◌≤◌, List, [], ◌∷◌, ◌++◌, map, All, Option, Some, None, slice_get, codes, option_map, IsTrue}
use Rattle.std.specs.List.{flat_map, AllPairs}
use Rattle.hip_types.specs.declared.number.Scalar.{Scalar}
use Rattle.hip_types.specs.declared.number.Scalar.TheVariants.{Int}
use Rattle.hip_types.specs.declared.number.Width.TheVariants.{W32}
use Rattle.hip_types.specs.declared.ty.Ty.{Ty}
use Rattle.hip_types.specs.Layout.{Fits}
use Rattle.hip_types.specs.declared.limits.TheConstants.{LARGEST_REGION, LARGEST_VOLATILE}
use Rattle.hip_tree.specs.declared.block.Block.{Block}
use Rattle.hip_tree.specs.declared.block.Edge.{Edge}
use Rattle.hip_tree.specs.declared.block.End.{End}
use Rattle.hip_tree.specs.declared.block.End.TheVariants.{Switch, Ret}
use Rattle.hip_tree.specs.declared.block.Phi.{Phi}
use Rattle.hip_tree.specs.declared.instr.Arg.{Arg}
use Rattle.hip_tree.specs.declared.instr.Instr.{Instr}
use Rattle.hip_tree.specs.declared.instr.Instr.TheVariants.{Cast, Gep, Call}
use Rattle.hip_tree.specs.declared.instr.Operand.{Operand}
use Rattle.hip_tree.specs.declared.instr.Operand.TheVariants.{Reg, Fixed}
use Rattle.hip_tree.specs.declared.program.Extern.{Extern}
use Rattle.hip_tree.specs.declared.program.Function.{Function}
use Rattle.hip_tree.specs.declared.program.GlobalVar.{GlobalVar}
use Rattle.hip_tree.specs.declared.program.Program.{Program}
use Rattle.hip_grammar.specs.ReadTexts.{IsSpelled}
use Rattle.hip_types.specs.Areas.{volatile_start}
use Rattle.hip_globals.specs.Addresses.{region_size, volatile_end}
use Rattle.hip_globals.specs.Addresses.{TypesFitIn}
use Rattle.hip_sound.specs.Constants.{has_shape, names_in}
use Rattle.hip_externs.specs.Externs.{known_signature, call_of}
use Rattle.hip_names.specs.Names.{IsAmong, number_of, AllDiffer}
use Rattle.hip_sound.specs.NumberedNames.{function_number, global_names, label_names}
use Rattle.hip_sound.specs.Paths.{IsAssigned, label_at, names_of}
use Rattle.hip_grammar.specs.Words.{type_of}
use Rattle.hip_sound.specs.Places.{callee_of, cast_agrees, gep_agrees, written_types, edge_labels}
use Rattle.hip_sound.specs.Registers.{Register, Use, find_register, registers_of, parameter_registers, block_registers, instr_uses, end_uses, end_labels, phi_uses, operand_registers, used_registers, used_globals, used_constant_types}
use Rattle.hip_sound.specs.declared.point.Point.TheVariants.{Before, AtEnd}

-- ---- names

-- The names that the callee of a call may have: those of external functions, then those of functions.
abbrev pub callee_names : Program → List (List ℕ)
callee_names P = map (λ e. e.name) P.externs ++ map (λ f. f.name) P.functions

-- The names of globals, of external functions and of functions, in this order.
abbrev pub top_names : Program → List (List ℕ)
top_names P = global_names P ++ callee_names P

-- The number of the block of that label.
abbrev pub label_number : Function → List ℕ → Option ℕ
label_number fn label = number_of (label_names fn) label

-- The names of a function's registers: its parameters, then what its blocks assign.
abbrev pub register_names : Function → List (List ℕ)
register_names fn = names_of (registers_of fn)

-- The label of a block, and the registers that its phis and its instructions assign.
abbrev pub names_in_block : Block → List (List ℕ)
names_in_block b = b.label ∷ names_of (block_registers b)

-- The parameters, and the names in each block.
abbrev pub names_in_function : Function → List (List ℕ)
names_in_function fn = names_of (parameter_registers fn) ++ flat_map names_in_block fn.blocks

-- ---- globals

-- The initialiser of the global has the shape of the global's type.
abbrev pub HasItsShape : GlobalVar → Type 0
HasItsShape g = IsTrue (has_shape g.init g.ty)

-- Each name in the initialiser is the name of a global, so no initialiser has the address of a function.
abbrev pub NamesGlobals : Program → GlobalVar → Type 0
NamesGlobals P g = All (IsAmong (global_names P)) (names_in g.init)

-- ---- external functions

-- The table has this declaration for its name.
abbrev pub IsOfTable : Extern → Type 0
IsOfTable e = known_signature e.name ≡ Some (record { ret = e.ret; params = e.params })

-- No external function has the name.
abbrev pub IsFree : List ℕ → Type 0
IsFree name = call_of name ≡ None

-- External functions are declared exactly as in the table, and nothing else has a name of the table.
pub record KeepsToTable (P : Program) : Type 0 where
  pub globals : All (λ g. IsFree g.name) P.globals
  pub externs : All IsOfTable P.externs
  pub functions : All (λ f. IsFree f.name) P.functions

-- ---- sizes

-- The region has at most 67,108,864 bytes, and the volatile globals end at most 16,777,216 bytes after their start.
pub record KeepsToSizes (P : Program) : Type 0 where
  pub region : region_size P ≤ LARGEST_REGION
  pub volatile : volatile_end P ≤ volatile_start + LARGEST_VOLATILE

-- ---- `main`

-- There is a function `main` without parameters, which returns an i32.
pub record HasMain (P : Program) : Type 0 where
  pub number : ℕ
  pub function : Function
  pub named : function_number P (codes "main") ≡ Some number
  pub here : slice_get P.functions number ≡ Some function
  pub params : function.params ≡ []
  pub result : function.ret ≡ Some (Int W32)

-- ---- places

-- An item of a block: a phi, an instruction or the end.
pub data BlockItem : Type 0 where
  PhiItem : Phi → BlockItem
  InstrItem : Instr → BlockItem
  EndItem : End → BlockItem

-- The operands of an item, each with the type that its place states.
abbrev pub uses_of : BlockItem → List Use
uses_of (PhiItem p) = phi_uses p
uses_of (InstrItem i) = instr_uses i
uses_of (EndItem e) = end_uses e

-- The labels that an item names: those of a phi's edges or of an end; an instruction names none.
abbrev pub labels_of : BlockItem → List (List ℕ)
labels_of (PhiItem p) = edge_labels p.edges
labels_of (InstrItem i) = []
labels_of (EndItem e) = end_labels e

-- The name of the callee at a call; none at any other item.
abbrev pub callees_of : BlockItem → List (List ℕ)
callees_of (InstrItem (Call dest ret callee args)) = callee ∷ []
callees_of _ = []

-- The type that an `alloca` makes room for or a `getelementptr` steps over; none at any other item.
abbrev own_types : BlockItem → List Ty
own_types (InstrItem i) = written_types i
own_types _ = []

-- The types that are written in an item, in constants too.
abbrev pub types_of : BlockItem → List Ty
types_of x = own_types x ++ used_constant_types (uses_of x)

-- The function and the block of these numbers.
pub record IsBlockAt (P : Program) (f b : ℕ) (fn : Function) (block : Block) : Type 0 where
  pub function : slice_get P.functions f ≡ Some fn
  pub block_is : slice_get fn.blocks b ≡ Some block

-- A fact holds of each phi, each instruction and the end of a block.
pub record EachItem (block : Block) (fact : BlockItem → Type 0) : Type 0 where
  pub phis : All (λ p. fact (PhiItem p)) block.phis
  pub body : All (λ i. fact (InstrItem i)) block.body
  pub last : fact (EndItem block.end)

-- A fact holds of each item of each block of each function.
abbrev pub Everywhere : Program → (Function → Block → BlockItem → Type 0) → Type 0
Everywhere P fact =
    (f b : ℕ) (fn : Function) (block : Block) → IsBlockAt P f b fn block → EachItem block (fact fn block)

-- The registers, globals, callees and labels that an item names exist.
pub record NamesExist (P : Program) (fn : Function) (x : BlockItem) : Type 0 where
  pub registers : All (IsAmong (register_names fn)) (used_registers (uses_of x))
  pub globals : All (IsAmong (global_names P)) (used_globals (uses_of x))
  pub callees : All (IsAmong (callee_names P)) (callees_of x)
  pub labels : All (IsAmong (label_names fn)) (labels_of x)

-- Each type that is written in an item, in constants too, fits.
abbrev pub TypesFit : BlockItem → Type 0
TypesFit x = All Fits (types_of x)

-- A register has the type that its place states, and a constant has the shape of that type.
abbrev pub operand_is_typed : List Register → Operand → Scalar → Type 0
operand_is_typed registers (Reg name) ty = find_register registers name ≡ Some (Some ty)
operand_is_typed registers (Fixed value) ty = IsTrue (has_shape value (type_of ty))

-- The operand of the use has the type that its place states; a register has its type in the function.
abbrev pub IsTyped : Function → Use → Type 0
IsTyped fn u = operand_is_typed (registers_of fn) u.operand u.ty

-- A call agrees with its callee in its result, and in the number and the types of its arguments. A call without a
-- result has no register.
pub record CallAgrees (P : Program) (dest : Option (List ℕ)) (ret : Option Scalar) (callee : List ℕ)
    (args : List Arg) : Type 0 where
  pub signature : callee_of P callee ≡ Some (record { ret = ret; params = map (λ a. a.ty) args })
  pub register : ret ≡ None → dest ≡ None

-- Conversions, paths of elements and calls agree, and what is returned has the type of the function's result.
abbrev pub OwnTypesAgree : Program → Function → BlockItem → Type 0
OwnTypesAgree P fn (InstrItem (Cast dest op from a to)) = IsTrue (cast_agrees op from to)
OwnTypesAgree P fn (InstrItem (Gep dest inbounds ty base indices)) = IsTrue (gep_agrees indices ty)
OwnTypesAgree P fn (InstrItem (Call dest ret callee args)) = CallAgrees P dest ret callee args
OwnTypesAgree P fn (EndItem (Ret arg)) = option_map (λ a. a.ty) arg ≡ fn.ret
OwnTypesAgree P fn _ = Unit {0}

-- Each operand has the type that its place states, and what the item itself requires of types holds.
pub record TypesAgree (P : Program) (fn : Function) (x : BlockItem) : Type 0 where
  pub operands : All (IsTyped fn) (uses_of x)
  pub own : OwnTypesAgree P fn x

-- The values of a switch's cases differ.
abbrev pub CasesDiffer : BlockItem → Type 0
CasesDiffer (EndItem (Switch width value other cases)) = AllPairs (λ c d. c.value ≢ d.value) cases
CasesDiffer _ = Unit {0}

-- A block has the first label, and its end names the second.
pub record Precedes (fn : Function) (from to : List ℕ) : Type 0 where
  pub number : ℕ
  pub block : Block
  pub here : slice_get fn.blocks number ≡ Some block
  pub label : block.label ≡ from
  pub named : IsAmong (end_labels block.end) to

-- A phi names each predecessor of its block and no other label, and edges with the same label carry the same operand.
pub record EdgesAgree (fn : Function) (block : Block) (edges : List Edge) : Type 0 where
  pub named : (label : List ℕ) → Precedes fn label block.label → IsAmong (edge_labels edges) label
  pub others : All (λ label. Precedes fn label block.label) (edge_labels edges)
  pub repeats : AllPairs (λ e d. e.label ≡ d.label → e.value ≡ d.value) edges

-- The edges of a phi agree, and no end names the entry block.
abbrev pub EdgesAreSound : Function → Block → BlockItem → Type 0
EdgesAreSound fn block (PhiItem p) = EdgesAgree fn block p.edges
EdgesAreSound fn block (InstrItem i) = Unit {0}
EdgesAreSound fn block (EndItem e) = All (λ label. label_at fn 0 ≢ Some label) (end_labels e)

-- ---- paths

-- Every path to the end of the predecessor assigns the register that the edge of a phi takes.
abbrev pub EdgeIsAssigned : Function → Edge → Type 0
EdgeIsAssigned fn e =
    (c : ℕ) → label_number fn e.label ≡ Some c → All (IsAssigned fn c AtEnd) (operand_registers e.value)

-- Every path to each use of a register in a block assigns the register.
pub record UsesAreAssigned (fn : Function) (b : ℕ) (block : Block) : Type 0 where
  pub phis : All (λ p. All (EdgeIsAssigned fn) p.edges) block.phis
  pub body : (i : ℕ) (instr : Instr) → slice_get block.body i ≡ Some instr →
      All (IsAssigned fn b (Before i)) (used_registers (instr_uses instr))
  pub last : All (IsAssigned fn b AtEnd) (used_registers (end_uses block.end))

-- Every path to each use of a register in a block assigns the register; if no path comes to the use, any register of
-- the function may be used. (LLVM, "Well-Formedness": a definition dominates its uses.)
abbrev pub RegistersAssigned : Program → Type 0
RegistersAssigned P = (f b : ℕ) (fn : Function) (block : Block) → IsBlockAt P f b fn block
    → UsesAreAssigned fn b block

-- ---- soundness

-- A program is sound if each of these rules holds.
pub record IsSound (P : Program) : Type 0 where
  -- Its canonical text reads as the program.
  pub spelled : IsSpelled P
  -- Names of globals, external functions and functions differ.
  pub names_differ : AllDiffer (top_names P)
  -- Types of globals fit, and those in their initialisers.
  pub global_types_fit : All TypesFitIn P.globals
  -- Initialisers have the shape of their globals' types.
  pub initialisers_have_shape : All HasItsShape P.globals
  -- Each name in an initialiser is the name of a global.
  pub initialisers_name_globals : All (NamesGlobals P) P.globals
  pub externs : KeepsToTable P
  pub sizes : KeepsToSizes P
  pub main : HasMain P
  -- Parameters, labels and registers of a function differ.
  pub inner_names_differ : All (λ fn. AllDiffer (names_in_function fn)) P.functions
  pub names_exist : Everywhere P (λ fn block. NamesExist P fn)
  pub types_fit : Everywhere P (λ fn block. TypesFit)
  pub types_agree : Everywhere P (λ fn block. TypesAgree P fn)
  pub cases_differ : Everywhere P (λ fn block. CasesDiffer)
  pub edges_agree : Everywhere P EdgesAreSound
  pub assigned : RegistersAssigned P
