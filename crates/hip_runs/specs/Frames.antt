-- What one step does to the frames.
use Rattle.std.specs.Prelude.{◌≡◌, suc, List, ◌∷◌, Some}
use Rattle.hip_tree.specs.Sites.{instr_of}
use Rattle.hip_tree.specs.declared.program.Program.{Program}
use Rattle.hip_runs.specs.Sites.{called_number}
use Rattle.hip_runs.specs.State.{Frame, State, site_of}
use Rattle.hip_runs.specs.Step.{next}

-- A frame before and after a step that keeps it.
pub record IsSameCall (f f' : Frame) : Type 0 where
  pub function : f'.function ≡ f.function
  pub mark : f'.mark ≡ f.mark
  pub dest : f'.dest ≡ f.dest
  pub level : f'.level ≡ f.level

-- The frames and the count of steps before and after a step. A run that has ended stays as it is. Otherwise one of
-- three things happens to the top frame: it stays; it calls a function, whose frame is put on top; or it returns. The
-- frames below, or below the one that it returns to, do not change.
pub data FramesMove (P : Program) (s s' : State) : Type 0 where
  rests : s' ≡ s → FramesMove P s s'
  stays : (f f' : Frame) (fs : List Frame) → s.frames ≡ f ∷ fs → s'.frames ≡ f' ∷ fs → IsSameCall f f' →
      s'.counts.steps ≡ suc s.counts.steps → FramesMove P s s'
  calls : (f g : Frame) (fs : List Frame) → s.frames ≡ f ∷ fs → s'.frames ≡ g ∷ next f ∷ fs →
      called_number P (instr_of P (site_of f)) ≡ Some g.function →
      g.level ≡ Some (record { call = site_of f; birth = s.counts.steps }) →
      s'.counts.steps ≡ suc s.counts.steps → FramesMove P s s'
  returns : (f g g' : Frame) (fs : List Frame) → s.frames ≡ f ∷ g ∷ fs → s'.frames ≡ g' ∷ fs
      → IsSameCall g g' →
      s'.counts.steps ≡ suc s.counts.steps → FramesMove P s s'
