-- What the storage of a run represents: its memory.
use Rattle.std.specs.Prelude.{◌≡◌, ℕ, Bool, cond, ◌+◌, ◌<◌, List, length, Option}
use Rattle.hip_tree.specs.declared.program.Program.{Program}
use Rattle.hip_globals.specs.Addresses.{volatile_end}
use Rattle.hip_globals.specs.Initial.{volatile_bytes}
use Rattle.hip_lines.specs.Line.{Line}
use Rattle.hip_mem.specs.Memory.{Write}
use Rattle.hip_types.specs.Areas.{volatile_start}
use Rattle.hip_runs.specs.Actions.{Action, accessed, flushing}
use Rattle.hip_runs.specs.Represented.{HoldsMemory}
use Rattle.hip_runs.specs.State.{Counts, Frame, State, StorePart, World}
use Rattle.hip_runs.specs.Step.{event_of, perform, with_turn}
use Rattle.hip_runs.specs.declared.event.Event.{Event}
use Rattle.hip_runs.specs.declared.event.TrapKind.{TrapKind}
use Rattle.hip_runs.specs.declared.input.Input.{Input}
use Rattle.hip_storage.specs.Contents.{Contents, access_trap}

-- The contents are those of a run's memory after these writes, with this stack mark; and the initial bytes of the
-- volatile globals end where the last of these globals ends.
pub record HoldsRun (P : Program) (I : Input) (s : Contents) (writes : List Write) (mark : ℕ) : Type 0 where
  pub volatile : volatile_start + length (volatile_bytes P I.base) ≡ volatile_end P
  pub memory : HoldsMemory P I s.areas writes mark

-- The contents are those of a state.
abbrev pub HoldsState : Program → Input → Contents → State → Type 0
HoldsState P I s t = HoldsRun P I s t.world.writes t.world.mark

-- What a step begins with: the world, the top frame and those below, the cache lines, and the counts before it and
-- after it; and whether it is a turn.
pub record Point : Type 0 where
  pub world : World
  pub frame : Frame
  pub frames : List Frame
  pub lines : List (Line StorePart)
  pub before : Counts
  pub after : Counts
  pub turn : Bool

-- The contents are those of the state that a step begins with.
abbrev pub HoldsAt : Program → Input → Contents → Point → Type 0
HoldsAt P I s p = HoldsRun P I s p.world.writes p.world.mark

-- A storage at a step of a run: the run's program and input, what the step begins with, and the contents of the
-- storage, which are those of the state at that step.
pub record Stand : Type 0 where
  pub program : Program
  pub input : Input
  pub point : Point
  pub contents : Contents
  pub holds : HoldsAt program input contents point

-- The state after an action.
abbrev pub performed : Input → Point → Action → State
performed I p action =
    perform I (cond p.turn (with_turn p.world) p.world) p.frame p.frames p.lines p.before p.after action

-- A step with this action does the action `done`: the contents are those of the state after it, and the event is the
-- one that is seen.
pub record HasDone (P : Program) (I : Input) (p : Point) (s : Contents) (e : Event)
    (action done : Action) : Type 0 where
  pub is : action ≡ done
  pub holds : HoldsState P I s (performed I p done)
  pub seen : e ≡ event_of I p.frames done

-- The step does the action `done`, which leaves these contents and shows this event.
abbrev pub Does : Stand → Contents → Event → Action → Action → Type 0
Does at s e action done = HasDone at.program at.input at.point s e action done

-- An access of some bytes at an address, with its alignment.
pub record Access : Type 0 where
  pub addr : ℕ
  pub size : ℕ
  pub align : ℕ
  pub some : 0 < size

-- The action of an access at a step, where `go` is the action if the access does not trap.
abbrev pub accessed_at : Stand → Access → Action → Action
accessed_at at x go = accessed at.program at.input at.point.world x.addr x.size x.align go

-- The trap of an access to the storage, if there is one.
abbrev pub trap_at : Stand → Access → Option TrapKind
trap_at at x = access_trap at.contents x.addr x.size x.align

-- The action of a flush of a range at a step, where `go` is the action if the flush does not trap.
abbrev pub flushing_at : Stand → ℕ → ℕ → Action → Action
flushing_at at addr size go = flushing at.program at.input at.point.world addr size go
