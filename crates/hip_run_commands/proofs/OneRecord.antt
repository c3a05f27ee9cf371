-- The files give one answer of `record`.
use Rattle.std.proofs.Common.{◌≡◌, ℕ, ℤ, List, subst}
use Rattle.hip_answers.specs.Answers.{Answer}
use Rattle.hip_answers.specs.EndingLaws.{one_given}
use Rattle.hip_answers.specs.Same.{IsSameAnswer}
use Rattle.hip_answers.specs.SameLaws.{same_answer}
use Rattle.hip_answers.specs.Traces.{GivesTrace}
use Rattle.hip_run_commands.proofs.OneProgram.{one_answer, same_program}
use Rattle.hip_run_commands.specs.RunLaws.{RecordsAreOne}
use Rattle.hip_run_commands.specs.Record.{HasRecordedFile}
use Rattle.hip_io.specs.Cabinets.{CabinetState}
use Rattle.hip_io.specs.declared.cabinet.NamedFile.{NamedFile}
use Rattle.hip_program_files.specs.Laws.{LoadsOne}
use Rattle.hip_runs.specs.FirstInput.{first_input}

module _ (one : (files : List NamedFile) (name : List ℕ) → LoadsOne files name) (name : List ℕ) (base limit : ℕ)
    (numbers : List ℤ) where
  both_recorded : (old new other other_new : CabinetState) (a b : Answer)
      → (u : HasRecordedFile old new name base limit numbers a) → (v : HasRecordedFile other other_new name base limit numbers b)
      → u.program ≡ v.program → IsSameAnswer a b
  both_recorded old new other other_new a b u v same =
      same_answer (one_given v.program (first_input v.program base limit numbers) a b
      (subst (λ P. GivesTrace P (first_input P base limit numbers) a) same u.recorded) v.recorded)

pub one_record : ((files : List NamedFile) (name : List ℕ) → LoadsOne files name) → RecordsAreOne
one_record one name base limit numbers files old new other other_new a b e h =
    one_answer one files name old new other other_new e h (HasRecordedFile old new name base limit numbers a)
    (HasRecordedFile other other_new name base limit numbers b) a b (λ u. (u.program, u.loaded))
    (λ v. (v.program, v.loaded))
    (λ u v. both_recorded one name base limit numbers old new other other_new a b u v
    (same_program one files name old new other other_new e h u.program v.program u.loaded v.loaded))
