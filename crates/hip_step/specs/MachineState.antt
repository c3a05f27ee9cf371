-- A machine during its run: its lines hold what is pending in the state of its runner.
use Rattle.hip_runs.specs.Seen.{Seen, state_of}
use Rattle.hip_runs.specs.Represented.{HoldsLines}
use Rattle.hip_step.specs.declared.machine.Machine.TheInside.{Inside}

-- What contracts see of a machine is what they see of its runner.
abbrev pub view_of : Inside → Seen
view_of m = m.runner

-- The lines are those of the state after the steps that the runner took.
abbrev pub IsRunning : Inside → Type 0
IsRunning m = HoldsLines m.runner.input m.lines.lines (state_of m.runner).lines
