use Rattle.hip_run_commands.proofs.Faults.{faults_hide_none}
use Rattle.hip_run_commands.proofs.crash_laws.crash_faults_hide_no_misfit.Goals as goal

pub returns : goal.returns
returns c = faults_hide_none
