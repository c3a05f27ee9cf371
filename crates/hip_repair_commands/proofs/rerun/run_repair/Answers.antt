use Rattle.hip_command_io.specs.StageLaws.{stopped_delivered}
use Rattle.hip_repair_commands.proofs.Reruns.{rerun, rerun_ended}
use Rattle.hip_repair_commands.proofs.rerun.run_repair.Goals as goal

pub returns-in-Ok-clause-gives : goal.returns-in-Ok-clause-gives
returns-in-Ok-clause-gives g c =
    let P = c.args.checked.now in
    let I = c.args.replayed.now.input in
    let found = c.args.replayed.now.findings in
    rw (c.len.ensures, c.reports.ensures, c.len-in-Ok.ensures, c.reports-in-Ok.ensures) (rerun P I found
    (c.repairs_cure.ensures P I found c.program-program.ensures.sound c.requires.valid c.requires.found)
    c.args.repair.now.repaired.checked c.requires.repair.applied.program_is c.in-Ok.recorded c.in-Ok.ensures.records)

pub returns-in-Err-clause-gives : goal.returns-in-Err-clause-gives
returns-in-Err-clause-gives g c =
    let P = c.args.checked.now in
    let I = c.args.replayed.now.input in
    let found = c.args.replayed.now.findings in
    rw c.status_of_recording.ensures (rerun_ended P I found
    (c.repairs_cure.ensures P I found c.program-program.ensures.sound c.requires.valid c.requires.found)
    c.args.repair.now.repaired.checked c.requires.repair.applied.program_is c.in-Err.refusal c.in-Err.ensures.records)

pub returns-in-Err-clause-delivered : goal.returns-in-Err-clause-delivered
returns-in-Err-clause-delivered g c =
    rw c.status_of_recording.ensures (stopped_delivered c.in-Err.refusal _ c.in-Err.ensures.delivered)
