use Rattle.hip_repair_answers.specs.Answers.{HasChecked, HasRepaired, HasRerun}
use Rattle.hip_answers.specs.RunLaws.OneAnswer.{gives_one}
use Rattle.hip_repair_answers.specs.Laws.Repairs.{checked_alike, repaired_alike, rerun_alike}
use Rattle.hip_repair_answers.proofs.laws.answers_are_one.Goals as goal

pub returns : goal.returns
returns c = record {
  check = gives_one HasChecked checked_alike;
  repair = gives_one HasRepaired repaired_alike;
  rerun = gives_one HasRerun rerun_alike;
}
