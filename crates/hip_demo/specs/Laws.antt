-- A seed and a size give one answer.
use Rattle.std.specs.Prelude.{ℕ}
use Rattle.hip_answers.specs.Same.{AreOne}
use Rattle.hip_demo.specs.Demo.{DemoAnswers}

-- Where the files are known, two answers for one seed and one size are the same; none of them is a read fault.
abbrev pub DemosAreOne : Type 0
DemosAreOne = (seed size : ℕ) → AreOne (λ old new answer. DemoAnswers seed size old new answer)
