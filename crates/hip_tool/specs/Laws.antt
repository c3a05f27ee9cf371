-- The files determine one answer for each order.
use Rattle.std.specs.Prelude.{Option}
use Rattle.hip_answers.specs.Same.{AreOne}
use Rattle.hip_tool.specs.Call.{AnswersTo}
use Rattle.hip_words.specs.declared.order.Order.{Order}

-- If the files are known, two answers to the same words are the same, apart from the path that shows a register without
-- an assignment, unless one of them is a read fault.
abbrev pub AnswersAreOne : Type 0
AnswersAreOne = (o : Option Order) → AreOne (AnswersTo o)
