-- The state of the run that the machine's parts represent, except for its cache lines.
use Rattle.std.specs.Prelude.{ℕ, ◌≡◌, List, [], ◌∷◌, drop}
use Rattle.hip_tree.specs.declared.program.Program.{Program}
use Rattle.hip_runs.specs.declared.event.Event.{Event}
use Rattle.hip_runs.specs.declared.input.Input.{Input}
use Rattle.hip_runs.specs.State.{Frame, World, State}
use Rattle.hip_code.specs.Frames.{names_at, HoldsFrame}
use Rattle.hip_storage.specs.Represented.{HoldsRun}
use Rattle.hip_core.specs.Below.{AreSaved}
use Rattle.hip_core.specs.Blocks.{HoldsBlocks}
use Rattle.hip_core.specs.Placed.{placed_at}
use Rattle.hip_core.specs.declared.core_parts.Core.{Core}

-- The parts represent a state with a frame on top, after n steps.
pub record Stands (P : Program) (I : Input) (c : Core) (w : World) (f : Frame) (fs : List Frame) (n : ℕ)
    : Type 0 where
  pub limit : c.limit ≡ I.limit
  pub turns : c.turns ≡ w.turns
  pub taken : c.taken ≡ n
  pub ending : c.ending ≡ w.ending
  pub left : drop c.read I.numbers ≡ w.left
  pub placed : placed_at P c.top f
  pub registers : HoldsFrame (names_at P f.function) c.slots.items c.top.base f.registers
  pub mark : c.top.mark ≡ f.mark
  pub saved : AreSaved P c.slots.items c.top.base c.top.dest f.dest f.level c.saved.items fs
  pub blocks : HoldsBlocks c.blocks c.top.blocks f.slots fs
  pub storage : HoldsRun P I c.storage w.writes w.mark

-- The parts represent a state with these frames, the top one first, after n steps. Without a frame, no parts represent
-- it.
abbrev pub StandsOn : Program → Input → Core → World → List Frame → ℕ → Type 0
StandsOn P I c w [] n = ⊥
StandsOn P I c w (f ∷ fs) n = Stands P I c w f fs n

-- The parts represent a state, after as many steps as it counts.
abbrev pub StandsFor : Program → Input → Core → State → Type 0
StandsFor P I c s = StandsOn P I c s.world s.frames s.counts.steps

-- After a step with an event, the parts represent a state, and the event is the expected one.
pub record Stepped (P : Program) (I : Input) (c : Core) (e : Event) (s : State) (seen : Event) : Type 0 where
  pub stands : StandsFor P I c s
  pub event : e ≡ seen
