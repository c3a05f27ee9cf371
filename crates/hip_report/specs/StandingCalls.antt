-- The calls that the ledger has, beside the standing calls.
use Rattle.std.specs.Prelude.{◌≡◌, ℕ, ◌-◌, ◌≤◌, false, true, List, drop, length}
use Rattle.hip_tree.specs.declared.program.Program.{Program}
use Rattle.hip_runs.specs.State.{Level, levels_of}
use Rattle.hip_runs.specs.Seen.{Seen, state_of}
use Rattle.hip_runs.specs.Step.{run}
use Rattle.hip_runs.specs.declared.event.Event.{Event}
use Rattle.hip_runs.specs.declared.input.Input.{Input}
use Rattle.hip_ledger.specs.Sights.{needs_calls}
use Rattle.hip_ledger.specs.declared.ledger.Ledger.{Ledger}

-- The standing calls of a machine, the innermost one first.
abbrev pub standing : Seen → List Level
standing m = levels_of (state_of m).frames

-- These calls are the outermost ones of others.
pub record AreOutermost (calls all : List Level) : Type 0 where
  pub few : length calls ≤ length all
  pub are : calls ≡ drop (length all - length calls) all

-- These calls are the outermost ones of the standing calls after n steps of a run, or after fewer.
pub record StoodOutermost (P : Program) (I : Input) (n : ℕ) (calls : List Level) : Type 0 where
  pub steps : ℕ
  pub few : steps ≤ n
  pub outer : AreOutermost calls (levels_of (run P I steps).frames)

-- After a step with this event the ledger has the standing calls of the machine, if the event needs them. Nothing else
-- is noted.
pub record LooksAt (e : Event) (m : Seen) (old new : Ledger) : Type 0 where
  pub rest : new ≡ record old { calls = new.calls }
  pub looked : needs_calls e ≡ true → new.calls ≡ standing m
  pub same : needs_calls e ≡ false → new.calls ≡ old.calls
