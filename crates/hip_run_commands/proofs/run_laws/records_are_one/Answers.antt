use Rattle.hip_run_commands.proofs.OneRecord.{one_record}
use Rattle.hip_run_commands.proofs.run_laws.records_are_one.Goals as goal

pub returns : goal.returns
returns c = one_record c.files_give_one_answer.ensures
