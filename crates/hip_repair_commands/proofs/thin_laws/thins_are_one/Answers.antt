use Rattle.hip_answers.specs.RunLaws.OneAnswer.{gives_one, hide_none}
use Rattle.hip_repair_answers.specs.Laws.Repairs.{answers_runs}
use Rattle.hip_repair_commands.specs.Thin.{HasThinned}
use Rattle.hip_repair_commands.proofs.Thins.{alike, thins}
use Rattle.hip_repair_commands.proofs.thin_laws.thins_are_one.Goals as goal

pub returns : goal.returns
returns c = record {
  one = gives_one HasThinned alike;
  faults = hide_none HasThinned (λ P I found a x. x.status_is);
  runs = answers_runs HasThinned (thins c.thins_cure.ensures);
}
