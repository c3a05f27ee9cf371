-- The rules as requirements, in their order, and the first rule that a program breaks.
use Rattle.std.specs.Prelude.{ℕ, ◌+◌, ◌≡◌, ◌<◌, ◌&&◌, nat_le, Bool, true, false, List, [], ◌∷◌, ◌++◌, map, All, Option, Some, None, is_none, slice_get, codes, if◌then◌else◌}
use Rattle.std.specs.List.{flat_map, list_all}
use Rattle.std.specs.Str.{bytes_eq}
use Rattle.hip_types.specs.declared.number.Scalar.{Scalar}
use Rattle.hip_types.specs.declared.number.Scalar.TheVariants as scalars
use Rattle.hip_types.specs.declared.number.Width.TheVariants.{W32}
use Rattle.hip_tree.specs.declared.block.Block.{Block}
use Rattle.hip_tree.specs.declared.block.Edge.{Edge}
use Rattle.hip_tree.specs.declared.block.End.{End}
use Rattle.hip_tree.specs.declared.instr.Instr.{Instr}
use Rattle.hip_tree.specs.declared.block.Phi.{Phi}
use Rattle.hip_tree.specs.declared.program.Extern.{Extern}
use Rattle.hip_tree.specs.declared.program.Function.{Function}
use Rattle.hip_tree.specs.declared.program.GlobalVar.{GlobalVar}
use Rattle.hip_tree.specs.declared.program.Param.{Param}
use Rattle.hip_tree.specs.declared.program.Program.{Program}
use Rattle.hip_types.specs.declared.limits.TheConstants.{LARGEST_REGION, LARGEST_VOLATILE}
use Rattle.hip_tree.specs.declared.site.Site.{Site}
use Rattle.hip_grammar.specs.ReadTexts.{IsSpelled}
use Rattle.hip_types.specs.Areas.{volatile_start}
use Rattle.hip_globals.specs.Addresses.{region_size, volatile_end}
use Rattle.hip_sound.specs.Requirement.{Requirement, asks_true, and_then, each}
use Rattle.hip_sound.specs.Constants.{has_shape, names_in}
use Rattle.hip_globals.specs.Constants.{joined, types_in}
use Rattle.hip_externs.specs.Externs.{Signature, known_signature, call_of}
use Rattle.hip_sound.specs.declared.fault.Fault.{Fault}
use Rattle.hip_sound.specs.declared.fault.Fault.TheVariants as breaks
use Rattle.hip_names.specs.Names.{is_among}
use Rattle.hip_sound.specs.Names.{Named, all_differ, numbered}
use Rattle.hip_sound.specs.NumberedNames.{global_names}
use Rattle.hip_sound.specs.Paths.{IsAssigned, IsUnassigned}
use Rattle.hip_sound.specs.declared.point.Point.{Point}
use Rattle.hip_sound.specs.declared.point.Point.TheVariants.{Before, AtEnd}
use Rattle.hip_sound.specs.Places.{Scope, scope_of, types_fit, instr_required, end_required, phi_required}
use Rattle.hip_sound.specs.Registers.{instr_uses, end_uses, used_registers}
use Rattle.hip_sound.specs.Declarations.{Declares, declared_by}
use Rattle.hip_sound.specs.Types.{same_scalar, same_result, all_pass}
use Rattle.hip_sound.specs.declared.fault.Place.{Place}
use Rattle.hip_sound.specs.declared.fault.Place.TheVariants as places
use Rattle.hip_sound.specs.declared.fault.TypeFault.{TypeFault}
use Rattle.hip_sound.specs.declared.fault.TypeFault.TheVariants as faults
use Rattle.hip_sound.specs.declared.fault.TypeRefusal.{TypeRefusal}

-- ---- names of globals, externs and functions differ, the three lists taken in this order

-- A name with the place at which it is declared.
abbrev named : List ℕ → Place → Named
named name place = record { name = name; place = place }

-- The names of globals, each at its global's number from 0.
abbrev pub global_declarations : List GlobalVar → List Named
global_declarations globals = numbered (λ n g. named g.name (places.Global n)) globals

-- The names of external functions, each at its declaration's number from 0.
abbrev pub extern_declarations : List Extern → List Named
extern_declarations externs = numbered (λ n e. named e.name (places.Extern n)) externs

-- The names of functions, each at the head of its function, by number from 0.
abbrev pub function_declarations : List Function → List Named
function_declarations functions = numbered (λ n f. named f.name (places.Head n)) functions

-- The names at the top of a program: of globals, then of external functions, then of functions.
abbrev pub declarations : Program → List Named
declarations P = global_declarations P.globals ++ extern_declarations P.externs ++ function_declarations P.functions

-- The requirement that the names at the top of a program differ: Duplicate at the first one that is equal to an earlier one.
abbrev pub names_required : Program → Requirement
names_required P = all_differ (declarations P)

-- ---- globals: their types fit, their initialisers have their types' shape and name globals

-- The rules of the global of number n, in this order: its type and those in its initialiser fit (TooLarge), and the
-- initialiser has the shape of the type (BadGlobal) and names only globals that are known (Unknown).
abbrev pub global_required : List (List ℕ) → ℕ → GlobalVar → Requirement
global_required known n g =
    and_then (types_fit (g.ty ∷ types_in g.init) (places.Global n))
    (and_then (asks_true (has_shape g.init g.ty) breaks.BadGlobal (places.Global n))
    (asks_true (list_all (is_among known) (names_in g.init)) breaks.Unknown (places.Global n)))

-- The rules of each global, in order; an initialiser may name every global, its own and later ones too.
abbrev pub globals_required : Program → Requirement
globals_required P = each (global_required (global_names P)) P.globals

-- ---- the table has each external function, and nothing else has a name of the table

-- The table of external functions does not have the name.
abbrev pub is_free : List ℕ → Bool
is_free name = is_none (call_of name)

-- The declaration has the result and the parameters' types of the signature; false if there is no signature.
abbrev pub is_of : Extern → Option Signature → Bool
is_of e None = false
is_of e (Some s) = same_result e.ret s.ret && all_pass (map same_scalar s.params) e.params

-- The requirement that the name of global n is not in the table: BadExtern at the global.
abbrev pub free_global : ℕ → GlobalVar → Requirement
free_global n g = asks_true (is_free g.name) breaks.BadExtern (places.Global n)

-- The requirement that the name of external declaration n is in the table, with the same signature: BadExtern at the
-- declaration.
abbrev pub declared : ℕ → Extern → Requirement
declared n e = asks_true (is_of e (known_signature e.name)) breaks.BadExtern (places.Extern n)

-- The requirement that the name of function n is not in the table: BadExtern at the head of the function.
abbrev pub free_function : ℕ → Function → Requirement
free_function n f = asks_true (is_free f.name) breaks.BadExtern (places.Head n)

-- The requirements by the table of external functions, in this order: globals, declarations, functions.
abbrev pub externs_required : Program → Requirement
externs_required P =
    and_then (each free_global P.globals) (and_then (each declared P.externs) (each free_function P.functions))

-- ---- the region and the volatile globals are not too large

-- The region has at most 67,108,864 bytes, and the volatile globals end at most 16,777,216 bytes after their start:
-- TooLarge, placed at the whole program. (This project's own limits.)
abbrev pub sizes_required : Program → Requirement
sizes_required P =
    asks_true
    (nat_le (region_size P) LARGEST_REGION && nat_le (volatile_end P) (volatile_start + LARGEST_VOLATILE))
    breaks.TooLarge places.Whole

-- ---- `main` is there, has no parameters and returns an i32

-- The result of a function is an i32; false if the function is void.
abbrev pub is_i32 : Option Scalar → Bool
is_i32 (Some (scalars.Int W32)) = true
is_i32 _ = false

-- There is no parameter.
abbrev pub no_params : List Param → Bool
no_params [] = true
no_params _ = false

-- The function, whatever its name is, has no parameters and returns an i32.
abbrev pub is_main : Function → Bool
is_main f = no_params f.params && is_i32 f.ret

-- The first function with the name `main` has no parameters and returns an i32; false if no function has the name.
abbrev pub has_main : List Function → Bool
has_main [] = false
has_main (f ∷ fs) = if bytes_eq f.name (codes "main") then is_main f else has_main fs

-- The requirement that there is such a `main`: NoMain, placed at the whole program.
abbrev pub main_required : Program → Requirement
main_required P = asks_true (has_main P.functions) breaks.NoMain places.Whole

-- ---- parameters, labels and registers of a function differ

-- The site of phi i, or of instruction i of the body, in block b of function f; all are numbered from 0.
abbrev pub site : ℕ → ℕ → ℕ → Site
site f b i = record { function = f; block = b; index = i }

-- Each name with its place; a parameter and a label have the function's head as their place.
abbrev pub named_in : ℕ → Declares Named
named_in f = record {
  parameter = λ p. named p.name (places.Head f);
  label = λ b label. named label (places.Head f);
  phi = λ b i p. named p.dest (places.Phi (site f b i));
  instr = λ b i r. named r.name (places.Body (site f b i));
}

-- The parameters, labels and registers of the function of number f, in the order of its text, each at its place.
abbrev pub inner_names : ℕ → Function → List Named
inner_names f fn = declared_by (named_in f) fn

-- The requirement that the names inside function f differ: Duplicate at the first one that is equal to an earlier one.
abbrev pub inner_required : ℕ → Function → Requirement
inner_required f fn = all_differ (inner_names f fn)

-- Parameters, labels and registers differ in each function; two functions may share them.
abbrev pub inner_names_required : Program → Requirement
inner_names_required P = each inner_required P.functions

-- ---- each place of each function

-- The rules of phi i of block b of function f; `label` is that block's label.
abbrev pub phi_at : Scope → List ℕ → ℕ → ℕ → ℕ → Phi → Requirement
phi_at s label f b i p = phi_required s label p (places.Phi (site f b i))

-- The rules of instruction i in the body of block b of function f.
abbrev pub instr_at : Scope → ℕ → ℕ → ℕ → Instr → Requirement
instr_at s f b i instr = instr_required s instr (places.Body (site f b i))

-- The rules of the places of block b of function f, in order: its phis, its body, its end.
abbrev pub block_required : Scope → ℕ → ℕ → Block → Requirement
block_required s f b block =
    and_then (each (phi_at s block.label f b) block.phis)
    (and_then (each (instr_at s f b) block.body) (end_required s block.end (places.End f b)))

-- The rules of the places of the function of number f, block by block.
abbrev pub function_required : Program → ℕ → Function → Requirement
function_required P f fn = each (block_required (scope_of P fn) f) fn.blocks

-- The rules of all places, function by function.
abbrev pub places_required : Program → Requirement
places_required P = each (function_required P) P.functions

-- ---- every path to a use of a register assigns the register

-- A use of a register: the place of its fault, and its point in the function.
pub record RegisterUse : Type 0 where
  pub place : Place
  pub block : ℕ
  pub point : Point
  pub name : List ℕ

-- The use of a register at a point of block b, with the place at which its fault is reported.
abbrev pub use_at : Place → ℕ → Point → List ℕ → RegisterUse
use_at place b point name = record { place = place; block = b; point = point; name = name }

-- The number of the first block of that label, where blocks count from n, as a list: empty if no block has it.
abbrev pub block_number_from : ℕ → List Block → List ℕ → List ℕ
block_number_from n [] label = []
block_number_from n (b ∷ bs) label = if bytes_eq b.label label then n ∷ [] else block_number_from (n + 1) bs label

-- The use of a register by an edge of a phi, at the end of the predecessor. Empty if the operand is a constant, or if
-- no block has the label.
abbrev pub edge_register_uses : List Block → Place → Scalar → Edge → List RegisterUse
edge_register_uses blocks place ty e =
    flat_map (λ b. map (use_at place b AtEnd) (used_registers (record { operand = e.value; ty = ty } ∷ [])))
    (block_number_from 0 blocks e.label)

-- The registers that a phi takes, edge by edge, all placed at the phi; an edge gives none if no block has its label.
abbrev pub phi_register_uses : List Block → Place → Phi → List RegisterUse
phi_register_uses blocks place p = flat_map (edge_register_uses blocks place p.ty) p.edges

-- The registers that an instruction uses, at the point before it.
abbrev pub instr_register_uses : ℕ → ℕ → ℕ → Instr → List RegisterUse
instr_register_uses f b i instr =
    map (use_at (places.Body (site f b i)) b (Before i)) (used_registers (instr_uses instr))

-- The register that the end of a block uses, after all that the block assigns.
abbrev pub end_register_uses : ℕ → ℕ → End → List RegisterUse
end_register_uses f b end = map (use_at (places.End f b) b AtEnd) (used_registers (end_uses end))

-- The uses of registers in block b of function f: in its phis, in its body, at its end.
abbrev pub block_register_uses : List Block → ℕ → ℕ → Block → List RegisterUse
block_register_uses blocks f b block =
    joined (numbered (λ i p. phi_register_uses blocks (places.Phi (site f b i)) p) block.phis)
    ++ joined (numbered (instr_register_uses f b) block.body) ++ end_register_uses f b block.end

-- The uses of registers in a function, in the order of their places.
abbrev pub register_uses : ℕ → Function → List RegisterUse
register_uses f fn = joined (numbered (block_register_uses fn.blocks f) fn.blocks)

-- Every path to the use assigns the register.
abbrev pub UseIsAssigned : Function → RegisterUse → Type 0
UseIsAssigned fn u = IsAssigned fn u.block u.point u.name

-- Every path to each use of a register in the function assigns the register (f is its number, for places).
abbrev pub AllAssigned : Function → ℕ → Type 0
AllAssigned fn f = All (UseIsAssigned fn) (register_uses f fn)

-- ---- what meets the requirements

-- A program that is spelled, that meets each requirement, and whose uses are assigned on every path.
pub record PassesVerifier (P : Program) : Type 0 where
  pub spelled : IsSpelled P
  pub names : (names_required P).Holds
  pub globals : (globals_required P).Holds
  pub externs : (externs_required P).Holds
  pub sizes : (sizes_required P).Holds
  pub main : (main_required P).Holds
  pub registers : (inner_names_required P).Holds
  pub places : (places_required P).Holds
  pub assigned : (f : ℕ) (fn : Function) → slice_get P.functions f ≡ Some fn → AllAssigned fn f

-- The rules between spelling and paths, in order.
abbrev pub rules_required : Program → Requirement
rules_required P =
    and_then (names_required P)
    (and_then (globals_required P)
    (and_then (externs_required P)
    (and_then (sizes_required P) (and_then (main_required P) (and_then (inner_names_required P) (places_required P))))))

-- A use of a register has this place, and the path to it does not assign the register. For every use before it, every
-- path assigns the register.
pub record IsFirstUnassigned (P : Program) (place : Place) (path : List ℕ) : Type 0 where
  pub function : ℕ
  pub fn : Function
  pub here : slice_get P.functions function ≡ Some fn
  pub earlier : (g : ℕ) (gn : Function) → g < function → slice_get P.functions g ≡ Some gn → AllAssigned gn g
  pub before : List RegisterUse
  pub it : RegisterUse
  pub after : List RegisterUse
  pub uses : register_uses function fn ≡ before ++ it ∷ after
  pub assigned : All (UseIsAssigned fn) before
  pub at : it.place ≡ place
  pub unassigned : IsUnassigned fn it.block it.point it.name path

-- The program is spelled, and the first of the rules that it breaks has this fault at this place.
abbrev BreaksFirst : Program → Fault → Place → Type 0
BreaksFirst P fault place = IsSpelled P × ((rules_required P).found ≡ Some (record { fault = fault; place = place }))

-- The fault and the place are those of the first rule that fails, at the first place, in the order of the rules above.
abbrev is_first : Program → Place → TypeFault → Type 0
is_first P place faults.BadShape = (¬ IsSpelled P) × (place ≡ places.Whole)
is_first P place faults.Duplicate = BreaksFirst P breaks.Duplicate place
is_first P place faults.Unknown = BreaksFirst P breaks.Unknown place
is_first P place faults.Mismatch = BreaksFirst P breaks.Mismatch place
is_first P place faults.NoMain = BreaksFirst P breaks.NoMain place
is_first P place (faults.Unassigned path) =
    IsSpelled P × ((rules_required P).found ≡ None) × IsFirstUnassigned P place path
is_first P place faults.BadExtern = BreaksFirst P breaks.BadExtern place
is_first P place faults.BadGlobal = BreaksFirst P breaks.BadGlobal place
is_first P place faults.BadEdge = BreaksFirst P breaks.BadEdge place
is_first P place faults.TooLarge = BreaksFirst P breaks.TooLarge place
is_first P place faults.NoMemory = ⊥

-- The fault and the place of a refusal are the first ones of the program. `NoMemory` is no fault of a program.
abbrev pub IsFirstFault : Program → TypeRefusal → Type 0
IsFirstFault P refusal = is_first P refusal.place refusal.fault
