-- The objects of a program in a run: its globals, and the live blocks on the stack. An address points into the object
-- whose bytes contain it.
use Rattle.std.specs.Prelude.{ℕ, suc, cond, List, [], ◌∷◌, Option, Some, None, option_map}
use Rattle.hip_types.specs.Layout.{shape}
use Rattle.hip_tree.specs.declared.program.GlobalVar.{GlobalVar}
use Rattle.hip_tree.specs.declared.program.Program.{Program}
use Rattle.hip_globals.specs.Addresses.{address_in}
use Rattle.hip_mem.specs.Memory.{range_contains}
use Rattle.hip_runs.specs.declared.event.Object.{Object}
use Rattle.hip_runs.specs.State.{Slot, Frame}
use Rattle.hip_runs.specs.declared.event.Object.TheVariants as objects

-- The number of the global that contains the address, of these from number n on.
abbrev pub global_from : List GlobalVar → ℕ → ℕ → ℕ → List GlobalVar → Option ℕ
global_from globals base a n [] = None
global_from globals base a n (g ∷ gs) =
    cond (range_contains (address_in globals base n) (shape g.ty).size a) (Some n)
    (global_from globals base a (suc n) gs)

-- The number of the first global that contains address a, if the region begins at a base; none if no global contains
-- it.
abbrev pub global_at : Program → ℕ → ℕ → Option ℕ
global_at P base a = global_from P.globals base a 0 P.globals

-- The site of the `alloca` of the first of these blocks that contains address a; none if no block contains it.
abbrev pub slot_in : List Slot → ℕ → Option Object
slot_in [] a = None
slot_in (x ∷ xs) a = cond (range_contains x.addr x.size a) (Some (objects.Slot x.site)) (slot_in xs a)

-- The first object if there is one, else the second.
abbrev pub or_else : Option Object → Option Object → Option Object
or_else None later = later
or_else (Some o) later = Some o

-- The first block on the stack that contains address a, from the top frame's blocks down; none if no block contains it.
abbrev pub slot_at : List Frame → ℕ → Option Object
slot_at [] a = None
slot_at (f ∷ fs) a = or_else (slot_in f.slots a) (slot_at fs a)

-- The object that an address points into, by the globals and these frames.
abbrev pub object_at : Program → ℕ → List Frame → ℕ → Option Object
object_at P base frames a = or_else (option_map objects.Global (global_at P base a)) (slot_at frames a)
