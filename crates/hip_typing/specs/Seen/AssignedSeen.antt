-- What the verification of uses on paths answers, by the tables of a function.
use Rattle.std.specs.Prelude.{ℕ, ◌≡◌, ◌++◌, ◌∷◌, nat_le, ◌==◌, ◌&&◌, if◌then◌else◌, Bool, true, List, All, Option, Some, None, Result, Ok, Err, slice_get}
use Rattle.hip_tree.specs.declared.program.Function.{Function}
use Rattle.hip_tree.specs.declared.program.Program.{Program}
use Rattle.hip_sound.specs.Sound.{names_in_function}
use Rattle.hip_typing.specs.Seen.Inner.{inner_entries, graph_of}
use Rattle.hip_names.specs.Names.{AllDiffer}
use Rattle.hip_sound.specs.Paths.{IsUnassigned}
use Rattle.hip_sound.specs.Rules.{RegisterUse, UseIsAssigned, AllAssigned, IsFirstUnassigned}
use Rattle.hip_names.specs.Tables.{TableStandsFor}
use Rattle.hip_typing.specs.declared.assigned.NotAssigned.{NotAssigned}
use Rattle.hip_typing.specs.declared.assigned.NotAssigned.TheVariants as unassigned
use Rattle.hip_sound.specs.declared.point.Point.{Point}
use Rattle.hip_sound.specs.declared.point.Point.TheVariants.{Before, AtEnd}
use Rattle.hip_sound.specs.declared.fault.Place.{Place}
use Rattle.hip_typing.specs.declared.tables.inner_table.Inner.{Inner}
use Rattle.hip_typing.specs.declared.tables.inner_table.Inner.TheVariants.{Parameter, Assigned}

-- Whether a register that can be used after n instructions of its block can be used at the point.
abbrev pub is_there : Point → ℕ → Bool
is_there (Before k) after = nat_le after k
is_there AtEnd after = true

-- The block that each path to a use at the point has to pass: the one that assigns the register. `None` if the register
-- is a parameter, or if the block of the use assigns it before the use. If nothing assigns the register, the number is
-- `count`, which no block has.
abbrev pub to_pass : ℕ → ℕ → Point → Option Inner → Option ℕ
to_pass count block point (Some Parameter) = None
to_pass count block point (Some (Assigned b after)) = if b == block && is_there point after then None else Some b
to_pass count block point _ = Some count

-- The names of a function differ, the table finds what they denote, and the graph is that of its blocks.
pub record DescribesPaths (fn : Function) (names : List (List ℕ)) (values : List Inner)
    (graph : List (List ℕ)) : Type 0 where
  pub stands : TableStandsFor names values (inner_entries fn)
  pub graph_is : graph ≡ graph_of fn
  pub differ : AllDiffer (names_in_function fn)

-- The path shows that a use at the place is not assigned on every path, and all uses before it are.
pub record IsFirstOf (fn : Function) (uses : List RegisterUse) (place : Place) (path : List ℕ) : Type 0 where
  pub before : List RegisterUse
  pub it : RegisterUse
  pub after : List RegisterUse
  pub is : uses ≡ before ++ it ∷ after
  pub assigned : All (UseIsAssigned fn) before
  pub at : it.place ≡ place
  pub shown : IsUnassigned fn it.block it.point it.name path

-- The answer for these uses: all are assigned on every path, or the first one that is not is named. Out of memory says
-- nothing about them.
abbrev pub AnswersUses : {T : Type 0} → Function → Result T NotAssigned → List RegisterUse → Type 0
AnswersUses fn (Ok _) uses = All (UseIsAssigned fn) uses
AnswersUses fn (Err (unassigned.Use place path)) uses = IsFirstOf fn uses place path
AnswersUses fn (Err unassigned.NoMemory) uses = Unit {0}

-- The answer for all functions of a program, in the same way.
abbrev pub AnswersAssigned : {T : Type 0} → Result T NotAssigned → Program → Type 0
AnswersAssigned (Ok _) P = (f : ℕ) (fn : Function) → slice_get P.functions f ≡ Some fn → AllAssigned fn f
AnswersAssigned (Err (unassigned.Use place path)) P = IsFirstUnassigned P place path
AnswersAssigned (Err unassigned.NoMemory) P = Unit {0}
