-- Whole runs: how they end, what they print, and what they leave in working memory. (This project's own.)
use Rattle.std.specs.Prelude.{◌≡◌, ℕ, List, Some}
use Rattle.hip_tree.specs.declared.program.Program.{Program}
use Rattle.hip_mem.specs.Memory.{Memory}
use Rattle.hip_runs.specs.Actions.{memory_of}
use Rattle.hip_runs.specs.Step.{run}
use Rattle.hip_runs.specs.declared.event.Ending.{Ending}
use Rattle.hip_runs.specs.declared.input.Input.{Input}

-- After n steps the run has ended with this ending, this output and this working memory: its initial bytes and all
-- writes in order, which give each byte its value.
pub record HasEnded (P : Program) (I : Input) (n : ℕ) (ending : Ending) (output : List ℕ)
    (memory : Memory) : Type 0 where
  pub ended : (run P I n).world.ending ≡ Some ending
  pub printed : (run P I n).world.output ≡ output
  pub working : memory_of P I (run P I n).world ≡ memory

-- After some number of steps the run has ended in this way.
abbrev pub EndsSo : Program → Input → Ending → List ℕ → Memory → Type 0
EndsSo P I ending output memory = (n : ℕ) × HasEnded P I n ending output memory

-- The run of Q ends exactly where the run of P ends, with the same ending, output and working memory.
pub record EndAlike (P Q : Program) (I : Input) : Type 0 where
  pub forth : (ending : Ending) (output : List ℕ) (memory : Memory) → EndsSo P I ending output memory →
      EndsSo Q I ending output memory
  pub back : (ending : Ending) (output : List ℕ) (memory : Memory) → EndsSo Q I ending output memory →
      EndsSo P I ending output memory

-- The run ends, and it has one ending, one output and one working memory.
pub record EndsInOneWay (P : Program) (I : Input) : Type 0 where
  pub ending : Ending
  pub output : List ℕ
  pub memory : Memory
  pub ends : EndsSo P I ending output memory
  pub alone : (n : ℕ) (other : Ending) → (run P I n).world.ending ≡ Some other →
      HasEnded P I n ending output memory
