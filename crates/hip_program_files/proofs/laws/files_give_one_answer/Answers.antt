use Rattle.hip_program_files.specs.Laws.OneAnswer.{loads_one}
use Rattle.hip_program_files.proofs.laws.files_give_one_answer.Goals as goal

pub returns : goal.returns
returns c = loads_one
