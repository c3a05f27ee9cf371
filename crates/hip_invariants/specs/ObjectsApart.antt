-- The objects of a run do not overlap: at most one contains an address.
use Rattle.std.specs.Prelude.{◌≡◌, ℕ, true, List, Some, slice_get}
use Rattle.std.specs.List.{flat_map}
use Rattle.hip_types.specs.Layout.{shape}
use Rattle.hip_tree.specs.declared.program.GlobalVar.{GlobalVar}
use Rattle.hip_tree.specs.declared.program.Program.{Program}
use Rattle.hip_globals.specs.Addresses.{address}
use Rattle.hip_mem.specs.Memory.{range_contains}
use Rattle.hip_runs.specs.declared.event.Object.TheVariants as objects
use Rattle.hip_runs.specs.Found.Objects.{object_at}
use Rattle.hip_runs.specs.State.{Slot, Frame}

-- The blocks of all frames, the newest first.
abbrev pub slots_of : List Frame → List Slot
slots_of frames = flat_map (λ f. f.slots) frames

-- The global of that number exists and contains the address.
abbrev pub GlobalHas : Program → ℕ → ℕ → GlobalVar → ℕ → Type 0
GlobalHas P base k g a = (slice_get P.globals k ≡ Some g)
    × (range_contains (address P base k) (shape g.ty).size a ≡ true)

-- Block j of all frames, counted from 0 for the newest one, exists and contains an address.
abbrev pub SlotHas : List Frame → ℕ → Slot → ℕ → Type 0
SlotHas frames j x a = (slice_get (slots_of frames) j ≡ Some x) × (range_contains x.addr x.size a ≡ true)

-- Two globals that contain the same address are the same global, and two blocks of these frames that contain the same
-- address are the same block. No global and block contain the same address. The object that an address points into is
-- the one that contains it. (This project's own.)
pub record ObjectsAreApart (P : Program) (base : ℕ) (frames : List Frame) : Type 0 where
  pub globals : (j k a : ℕ) (g h : GlobalVar) → GlobalHas P base j g a → GlobalHas P base k h a → j ≡ k
  pub slots : (j k a : ℕ) (x y : Slot) → SlotHas frames j x a → SlotHas frames k y a → j ≡ k
  pub kinds : (j k a : ℕ) (g : GlobalVar) (x : Slot) → GlobalHas P base k g a → ¬ SlotHas frames j x a
  pub global_found : (k a : ℕ) (g : GlobalVar) → GlobalHas P base k g a →
      object_at P base frames a ≡ Some (objects.Global k)
  pub slot_found : (j a : ℕ) (x : Slot) → SlotHas frames j x a →
      object_at P base frames a ≡ Some (objects.Slot x.site)
