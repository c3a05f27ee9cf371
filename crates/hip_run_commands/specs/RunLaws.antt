-- The files give one answer of each command.
use Rattle.std.specs.Prelude.{ℕ, ℤ, List}
use Rattle.hip_answers.specs.Same.{AreOne}
use Rattle.hip_run_commands.specs.Record.{RecordAnswers}
use Rattle.hip_run_commands.specs.Run.{RunAnswers}

-- If the files are known, two answers of `run` on them are the same, unless one is a read fault.
abbrev pub RunsAreOne : Type 0
RunsAreOne =
    (name : List ℕ) (limit : ℕ) (numbers : List ℤ)
    → AreOne (λ old new answer. RunAnswers old new name limit numbers answer)

-- If the files are known, two answers of `record` on them are the same, unless one is a read fault.
abbrev pub RecordsAreOne : Type 0
RecordsAreOne =
    (name : List ℕ) (base limit : ℕ) (numbers : List ℤ)
    → AreOne (λ old new answer. RecordAnswers old new name base limit numbers answer)
