-- The files give one answer of each order.
use Rattle.std.proofs.Common.{inr, sym, ap, ◌∙◌}
use Rattle.std.specs.Prelude.{Option, Some, None}
use Rattle.hip_answers.specs.Same.{AreOne, pathless}
use Rattle.hip_run_commands.specs.RunLaws.{RecordsAreOne, RunsAreOne}
use Rattle.hip_run_commands.specs.CrashLaws.{CrashesAreOne}
use Rattle.hip_demo.specs.Laws.{DemosAreOne}
use Rattle.hip_repair_commands.specs.ManyLaws.{ManyAreOne}
use Rattle.hip_repair_answers.specs.Answers.{HasChecked, HasRepaired, HasRerun}
use Rattle.hip_answers.specs.RunLaws.{GivesOne}
use Rattle.hip_repair_commands.specs.Thin.{HasThinned}
use Rattle.hip_tool.specs.Call.{AnswersTo, IsMisused}
use Rattle.hip_words.specs.declared.order.Order.{Order}
use Rattle.hip_words.specs.declared.order.Order.TheVariants.{Run, Record, Check, Repair, Rerun, Demo, Many, Crash, Thin}

one_misuse : AreOne IsMisused
one_misuse files old new other other_new a b stated stated' h k =
    let same = h.is ∙ sym k.is in
    inr (inr (record { status = ap (λ x. pathless x.status) same; out = ap (λ x. x.out) same; notes = ap (λ x. x.notes) same }))

module _ (runs : RunsAreOne) (records : RecordsAreOne) (checks : GivesOne HasChecked) (repairs : GivesOne HasRepaired)
    (reruns : GivesOne HasRerun) (thins : GivesOne HasThinned) (crashes : CrashesAreOne) (many : ManyAreOne)
    (demos : DemosAreOne) where
  pub one_answer : (o : Option Order) → AreOne (AnswersTo o)
  one_answer None = one_misuse
  one_answer (Some (Run program limit numbers)) = runs program limit numbers
  one_answer (Some (Record program base limit numbers)) = records program base limit numbers
  one_answer (Some (Check program trace)) = checks program trace
  one_answer (Some (Repair program trace)) = repairs program trace
  one_answer (Some (Rerun program trace)) = reruns program trace
  one_answer (Some (Demo seed size)) = demos seed size
  one_answer (Some (Many program traces)) = many program traces
  one_answer (Some (Crash program trace entry picks)) = crashes entry picks program trace
  one_answer (Some (Thin program trace)) = thins program trace
