-- The input of a run that begins with the initialisers' bytes.
use Rattle.std.specs.Prelude.{ℕ, ℤ, List}
use Rattle.hip_globals.specs.Initial.{region_bytes}
use Rattle.hip_tree.specs.declared.program.Program.{Program}
use Rattle.hip_runs.specs.declared.input.Input.{Input}

-- The region begins at a base and holds the initial bytes of the persistent globals; the run has a limit of turns,
-- and reads these numbers in order.
abbrev pub first_input : Program → ℕ → ℕ → List ℤ → Input
first_input program base limit numbers =
    record { base = base; image = region_bytes program base; numbers = numbers; limit = limit }
