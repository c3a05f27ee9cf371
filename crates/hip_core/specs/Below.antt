-- The frames below the top one, and what the code keeps of them.
use Rattle.std.specs.Prelude.{ℕ, suc, ◌+◌, ◌<◌, ◌≤◌, ◌≡◌, true, List, [], ◌∷◌, ◌++◌, length, Option, Some}
use Rattle.hip_tree.specs.declared.program.Program.{Program}
use Rattle.hip_names.specs.Names.{number_of}
use Rattle.hip_runs.specs.State.{Frame, Level, Registers}
use Rattle.hip_code.specs.Frames.{names_at, is_assigned, HoldsFrame}
use Rattle.hip_code.specs.Resolved.{is_result}
use Rattle.hip_core.specs.declared.core_parts.Activation.{Activation}
use Rattle.hip_core.specs.Blocks.{blocks_of}
use Rattle.hip_core.specs.Placed.{placed_at}

-- The instruction before a frame's place is the call that made the frame above it, and this many steps were taken
-- before that call.
pub record IsCallOf (g : Frame) (birth : ℕ) (level : Option Level) : Type 0 where
  pub index : ℕ
  pub past : g.place ≡ suc index
  pub is : level ≡ Some (record {
    call = record { function = g.function; block = g.block; index = index };
    birth = birth;
  })

-- Each register that has a value has a slot, counted from a base on, before a place.
pub record EndsBefore (names : List (List ℕ)) (rs : Registers) (base place : ℕ) : Type 0 where
  pub at : (name : List ℕ) (slot : ℕ) → number_of names name ≡ Some slot → is_assigned rs name ≡ true
      → base + slot < place

-- What an activation keeps of a frame g with the frames gs below it. The slots of the registers of g that have a value
-- end before the base of the frame above g, which may use the slots from there on. The frame above was made by a call
-- of g, and its result goes to a register of g.
pub record IsSaved (P : Program) (slots : List ℕ) (base : ℕ) (slot : Option ℕ) (name : Option (List ℕ))
    (level : Option Level) (x : Activation) (g : Frame) (gs : List Frame) : Type 0 where
  pub placed : placed_at P x g
  pub registers : HoldsFrame (names_at P g.function) slots x.base g.registers
  pub lower : x.base ≤ base
  pub apart : EndsBefore (names_at P g.function) g.registers x.base base
  pub result : is_result (names_at P g.function) slot name
  pub mark : x.mark ≡ g.mark
  pub blocks : x.blocks ≡ length (blocks_of gs)
  pub call : IsCallOf g x.left level

-- The last activations keep the frames, from the top one down, one activation for each frame; no activation is left
-- over.
abbrev pub are_saved : Program → List ℕ → ℕ → Option ℕ → Option (List ℕ) → Option Level
    → List Activation →
    List Frame → Type 0
are_saved P slots base slot name level saved [] = saved ≡ []
are_saved P slots base slot name level saved (g ∷ gs) =
    (rest : List Activation) × (x : Activation) × (saved ≡ rest ++ x ∷ [])
    × IsSaved P slots base slot name level x g gs × are_saved P slots x.base x.dest g.dest g.level rest gs

-- The activations keep the frames below a frame that a call made. The slots of this frame begin at a base, and its
-- result goes to a register.
pub record AreSaved (P : Program) (slots : List ℕ) (base : ℕ) (slot : Option ℕ) (name : Option (List ℕ))
    (level : Option Level) (saved : List Activation) (fs : List Frame) : Type 0 where
  pub are : are_saved P slots base slot name level saved fs
