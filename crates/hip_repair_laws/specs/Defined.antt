-- A repair makes nothing undefined that was defined. (This project's own.)
use Rattle.std.specs.Prelude.{◌≡◌, ℕ, Bool, false, List, [], ◌∷◌, Option, Some, None}
use Rattle.hip_tree.specs.declared.block.End.{End}
use Rattle.hip_tree.specs.declared.instr.Instr.{Instr}
use Rattle.hip_tree.specs.declared.instr.Instr.TheVariants.{Call}
use Rattle.hip_tree.specs.declared.program.Program.{Program}
use Rattle.hip_tree.specs.declared.site.Site.{Site}
use Rattle.hip_repairs.specs.Harmless.{stands_inserted}
use Rattle.hip_repairs.specs.Repaired.{repaired}
use Rattle.hip_repairs.specs.declared.plan.Plan.{Plan}
use Rattle.hip_runs.specs.Places.{code_at, end_at}
use Rattle.hip_runs.specs.State.{Frame, Registers, State, World}
use Rattle.hip_runs.specs.Step.{run}
use Rattle.hip_runs.specs.Validity.{IsValid}
use Rattle.hip_runs.specs.declared.input.Input.{Input}

-- The instruction without the name of its callee, since a repaired program may call a clone.
abbrev pub nameless : Instr → Instr
nameless (Call dest ret callee args) = Call dest ret [] args
nameless i = i

-- The first of these instructions, without the name of its callee; none at the end of a block.
abbrev pub first_of : List Instr → Option Instr
first_of [] = None
first_of (i ∷ is) = Some (nameless i)

-- What a step is about to do: the next instruction of the top frame, if there is one, the end of its block, the frame's
-- registers, and the world with the memory.
pub record Doing : Type 0 where
  pub instr : Option Instr
  pub end : Option End
  pub registers : Registers
  pub world : World

abbrev pub doing_in : Program → World → List Frame → Option Doing
doing_in P w [] = None
doing_in P w (f ∷ fs) =
    Some (record { instr = first_of (code_at P f); end = end_at P f; registers = f.registers; world = w })

-- What the next step of a state is about to do.
abbrev pub doing : Program → State → Option Doing
doing P s = doing_in P s.world s.frames

-- Take any test of what a step is about to do, such as that an addition overflows under `nsw`, that an access leaves
-- its object, or that a byte is read which nobody wrote. If no step of P's run passes it before its end, no step of
-- the repaired program's run does, apart from the inserted flushes and fences.
abbrev pub AddsNothingUndefined : Program → Plan → (Site → Bool) → Type 0
AddsNothingUndefined P plan skip =
    (I : Input) → IsValid P I → (undefined : Option Doing → Bool)
    → ((n : ℕ) → (run P I n).world.ending ≡ None → undefined (doing P (run P I n)) ≡ false)
    → (n : ℕ) → (run (repaired P plan skip) I n).world.ending ≡ None
    → stands_inserted P plan skip (run (repaired P plan skip) I n) ≡ false
    → undefined (doing (repaired P plan skip) (run (repaired P plan skip) I n)) ≡ false
