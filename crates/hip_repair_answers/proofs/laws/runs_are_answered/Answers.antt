use Rattle.hip_repair_answers.specs.Answers.{HasChecked, HasRepaired, HasRerun}
use Rattle.hip_repair_answers.specs.Laws.Repairs.{answers_runs, checks, repairs, reruns}
use Rattle.hip_repair_answers.proofs.laws.runs_are_answered.Goals as goal

pub returns : goal.returns
returns c = record {
  check = answers_runs HasChecked checks;
  repair = answers_runs HasRepaired repairs;
  rerun = answers_runs HasRerun reruns;
}
