-- What a command answers where its file has no program.
use Rattle.std.specs.Prelude.{ℕ, ◌≡◌, false, List, ◌⊎◌}
use Rattle.hip_answers.specs.Answers.{Answer, refusal}
use Rattle.hip_answers.specs.Statuses.{status_of_refusal}
use Rattle.hip_answers.specs.declared.status.Status.TheVariants as statuses
use Rattle.hip_io.specs.Cabinets.{CabinetState}
use Rattle.hip_program_files.specs.LoadedPrograms.{HasFailedLoading, HasNoProgram, is_missing}
use Rattle.hip_program_files.specs.Outside.{HasMet}
use Rattle.hip_program_files.specs.declared.refusal.LoadRefusal.{LoadRefusal}

-- There is no program in the file, and the answer says why.
pub record IsUnloaded (old new : CabinetState) (name : List ℕ) (answer : Answer) : Type 0 where
  pub why : LoadRefusal
  pub met : HasMet (is_missing why) false old new
  pub cause : HasNoProgram old.files name why
  pub is : answer ≡ refusal (status_of_refusal why)

-- The program's file could not be read.
pub record IsUnread (old new : CabinetState) (name : List ℕ) (answer : Answer) : Type 0 where
  pub failed : HasFailedLoading old new name
  pub is : answer ≡ refusal statuses.ReadFault

-- What a command answers without a program: why there is none in the file, or a read fault.
abbrev pub LacksProgram : CabinetState → CabinetState → List ℕ → Answer → Type 0
LacksProgram old new name answer = IsUnloaded old new name answer ⊎ IsUnread old new name answer
