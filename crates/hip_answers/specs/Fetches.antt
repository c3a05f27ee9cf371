-- How many files a call fetches.
use Rattle.std.specs.Prelude.{ℕ, ◌+◌, ◌≡◌, ◌≤◌, Option, Some, None, IfSome}
use Rattle.hip_answers.specs.declared.status.FileRole.TheVariants as roles
use Rattle.hip_answers.specs.declared.status.Status.{Status}
use Rattle.hip_answers.specs.declared.status.Status.TheVariants as statuses
use Rattle.hip_io.specs.Cabinets.{CabinetState}
use Rattle.hip_program_files.specs.Outside.{MakesFetches}

-- How many files a call has fetched that ends with this status and whose command has `all` files. A file that is
-- refused is the last one that was fetched: the program is the first file, a trace the second, and trace k of many the
-- file 1 + k. None after a read fault and out of memory, which may come at each of the files.
abbrev pub fetches_by : ℕ → Status → Option ℕ
fetches_by all statuses.ReadFault = None
fetches_by all statuses.NoMemory = None
fetches_by all statuses.TooLarge = Some 1
fetches_by all (statuses.BadProgram why) = Some 1
fetches_by all (statuses.Missing roles.Program) = Some 1
fetches_by all (statuses.Missing roles.Trace) = Some 2
fetches_by all (statuses.Missing (roles.Number number)) = Some (1 + number)
fetches_by all (statuses.Misfit entry kind) = Some 2
fetches_by all (statuses.MisfitIn trace entry kind) = Some (1 + trace)
fetches_by all _ = Some all

-- The call fetches each of its command's `all` files at most once, and no other: at most so many fetches, and exactly
-- as many as the status says.
pub record FetchesFiles (all : ℕ) (status : Status) (old new : CabinetState) : Type 0 where
  pub count : ℕ
  pub made : MakesFetches count old new
  pub few : count ≤ all
  pub exact : IfSome (fetches_by all status) (λ n. count ≡ n)
