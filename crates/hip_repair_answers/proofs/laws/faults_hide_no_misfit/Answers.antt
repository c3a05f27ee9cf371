use Rattle.hip_repair_answers.specs.Answers.{HasChecked, HasRepaired, HasRerun}
use Rattle.hip_answers.specs.RunLaws.OneAnswer.{hide_none}
use Rattle.hip_repair_answers.proofs.laws.faults_hide_no_misfit.Goals as goal

pub returns : goal.returns
returns c = record {
  check = hide_none HasChecked (λ P I found a x. x.status_is);
  repair = hide_none HasRepaired (λ P I found a x. x.status_is);
  rerun = hide_none HasRerun (λ P I found a x. x.status_is);
}
