-- A repair leaves nothing to report.
use Rattle.std.specs.Prelude.{◌≡◌, ℕ, []}
use Rattle.hip_tree.specs.declared.program.Program.{Program}
use Rattle.hip_runs.specs.declared.input.Input.{Input}
use Rattle.hip_runs.specs.Found.Reports.{reports}

-- No step of the program's run on the input has a report.
abbrev pub IsClean : Program → Input → Type 0
IsClean P I = (n : ℕ) → reports P I n ≡ []
