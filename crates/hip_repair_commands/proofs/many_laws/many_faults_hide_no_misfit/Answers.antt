use Rattle.hip_repair_commands.proofs.Faults.{faults_hide_none}
use Rattle.hip_repair_commands.proofs.many_laws.many_faults_hide_no_misfit.Goals as goal

pub returns : goal.returns
returns c = faults_hide_none
