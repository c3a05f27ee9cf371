-- Answers that are the same, but for the path that shows a register without an assignment.
use Rattle.std.specs.Prelude.{◌≡◌, ◌⊎◌, List, Some}
use Rattle.hip_answers.specs.Answers.{Answer}
use Rattle.hip_answers.specs.declared.status.Status.{Status}
use Rattle.hip_answers.specs.declared.status.Status.TheVariants as statuses
use Rattle.hip_io.specs.Cabinets.{CabinetState}
use Rattle.hip_io.specs.declared.cabinet.NamedFile.{NamedFile}
use Rattle.hip_program_files.specs.Laws.{without_path}
use Rattle.hip_program_files.specs.declared.refusal.ProgramRefusal.TheVariants as refusals

-- The status without that path: one path or another may show the register.
abbrev pub pathless : Status → Status
pathless (statuses.BadProgram (refusals.Form why)) =
    statuses.BadProgram (refusals.Form (record { fault = without_path why.fault; place = why.place }))
pathless status = status

-- Both texts are equal, and so are the statuses but for the path that shows a register without an assignment.
pub record IsSameAnswer (a b : Answer) : Type 0 where
  pub status : pathless a.status ≡ pathless b.status
  pub out : a.out ≡ b.out
  pub notes : a.notes ≡ b.notes

-- Where the files are known, two answers by a table are the same, unless one of them is a read fault.
abbrev pub AreOne : (CabinetState → CabinetState → Answer → Type 0) → Type 0
AreOne table =
    (files : List NamedFile) (old new other other_new : CabinetState) (a b : Answer) → old.files ≡ Some files
    → other.files ≡ Some files → table old new a → table other other_new b
    → (a.status ≡ statuses.ReadFault) ⊎ ((b.status ≡ statuses.ReadFault) ⊎ IsSameAnswer a b)
