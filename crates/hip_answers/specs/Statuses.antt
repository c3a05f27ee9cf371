-- The exit status of each status, and the status of a program that is not loaded.
use Rattle.std.specs.Prelude.{ℕ}
use Rattle.hip_answers.specs.declared.status.FileRole.TheVariants as roles
use Rattle.hip_answers.specs.declared.status.Status.{Status}
use Rattle.hip_answers.specs.declared.status.Status.TheVariants as statuses
use Rattle.hip_program_files.specs.declared.failure.Failure.{Failure}
use Rattle.hip_program_files.specs.declared.failure.Failure.TheVariants as failures
use Rattle.hip_program_files.specs.declared.refusal.LoadRefusal.{LoadRefusal}
use Rattle.hip_program_files.specs.declared.refusal.LoadRefusal.TheVariants as loads

-- The exit status of the process: 0 for Done alone, and for each other kind of status one of its own, from 1 to 13.
abbrev pub code_of : Status → ℕ
code_of statuses.Done = 0
code_of statuses.Usage = 1
code_of (statuses.Missing file) = 2
code_of statuses.ReadFault = 3
code_of statuses.WriteFault = 4
code_of (statuses.BadProgram refusal) = 5
code_of (statuses.Misfit entry kind) = 6
code_of statuses.NoMemory = 7
code_of statuses.TooLarge = 8
code_of (statuses.Trapped kind) = 9
code_of statuses.Cut = 10
code_of (statuses.MisfitIn trace entry kind) = 11
code_of (statuses.NoEntry entries) = 12
code_of (statuses.BadPick refusal) = 13

-- The status that says why there is no program in a file.
abbrev pub status_of_refusal : LoadRefusal → Status
status_of_refusal loads.Missing = statuses.Missing roles.Program
status_of_refusal loads.TooLarge = statuses.TooLarge
status_of_refusal (loads.Bad refusal) = statuses.BadProgram refusal

-- The status of a program that is not loaded: why it is refused, a read fault, or out of memory.
abbrev pub status_of_failure : Failure LoadRefusal → Status
status_of_failure (failures.Refused refusal) = status_of_refusal refusal
status_of_failure failures.ReadFault = statuses.ReadFault
status_of_failure failures.NoMemory = statuses.NoMemory
