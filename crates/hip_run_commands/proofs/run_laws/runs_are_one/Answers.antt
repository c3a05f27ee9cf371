use Rattle.hip_run_commands.proofs.OneRun.{one_run}
use Rattle.hip_run_commands.proofs.run_laws.runs_are_one.Goals as goal

pub returns : goal.returns
returns c = one_run c.files_give_one_answer.ensures
