-- What the resolver makes of a program.
use Rattle.std.specs.Prelude.{ℕ, ◌≡◌, length, List}
use Rattle.hip_tree.specs.declared.program.Program.{Program}
use Rattle.hip_runs.specs.declared.input.Input.{Input}
use Rattle.hip_code.specs.Entries.{entry}
use Rattle.hip_code.specs.Numbers.{Tables}
use Rattle.hip_code.specs.Whole.{RunsOn}
use Rattle.hip_code.specs.declared.code.Code.{Code}
use Rattle.hip_code.specs.declared.op.Op.{Op}
use Rattle.hip_resolve.specs.Made.{IsFront}

-- There is an op for each place of the program.
pub record AreWhole (P : Program) (base : ℕ) (ops : List Op) (t : Tables) : Type 0 where
  pub front : IsFront P base ops t
  pub count : length ops ≡ entry P (length P.functions) 0

-- The code runs the program, on each input whose region begins at the base.
pub record IsResolved (P : Program) (base : ℕ) (code : Code) : Type 0 where
  pub on : (I : Input) → I.base ≡ base → RunsOn P I code
