-- What a machine's memory and cache lines represent: the state of a run.
use Rattle.std.specs.Prelude.{◌≡◌, ℕ, ◌*◌, List, length}
use Rattle.hip_tree.specs.declared.program.Program.{Program}
use Rattle.hip_lines.specs.Line.{Line, AreOrdered}
use Rattle.hip_lines.specs.Pending.{Pending}
use Rattle.hip_types.specs.declared.areas.TheConstants.{LINE_SIZE}
use Rattle.hip_lines.specs.declared.part.Part.{Part}
use Rattle.hip_mem.specs.Areas.{Areas, Holds, IsLaidOut, mark_of}
use Rattle.hip_mem.specs.Memory.{Write}
use Rattle.hip_globals.specs.Initial.{volatile_bytes}
use Rattle.hip_runs.specs.declared.input.Input.{Input}
use Rattle.hip_runs.specs.StoredParts.Shown.{shown}
use Rattle.hip_runs.specs.State.{StorePart}
use Rattle.hip_runs.specs.Step.{run}

-- The areas of a `Ram` hold the memory after these writes, and their mark is the stack's mark.
pub record HoldsMemory (P : Program) (I : Input) (r : Areas) (writes : List Write) (mark : ℕ) : Type 0 where
  pub holds : Holds r (record { base = I.base; volatile = volatile_bytes P I.base; region = I.image; writes = writes })
  pub mark_is : mark_of r ≡ mark
  pub laid_out : IsLaidOut r

-- The pending parts of a `Lines` are those of these cache lines.
pub record HoldsLines (I : Input) (ps : List (Pending Part)) (ls : List (Line StorePart)) : Type 0 where
  pub are : ps ≡ shown ls
  pub ordered : AreOrdered ls
  pub whole : length I.image ≡ LINE_SIZE * length ps

-- A `Ram` and a `Lines` represent the state of a run after n steps.
pub record Represents (P : Program) (I : Input) (n : ℕ) (r : Areas) (ps : List (Pending Part)) : Type 0 where
  pub memory : HoldsMemory P I r (run P I n).world.writes (run P I n).world.mark
  pub lines : HoldsLines I ps (run P I n).lines
