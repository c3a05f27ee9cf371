use Rattle.hip_repair_commands.proofs.Repairs.{repaired, repaired_part}
use Rattle.hip_repair_commands.proofs.repair.put_repair.Goals as goal

pub returns-in_err-write-clause-gives : goal.returns-in_err-write-clause-gives
returns-in_err-write-clause-gives g c =
    let P = c.args.checked.now in
    let I = c.args.replayed.now.input in
    let found = c.args.replayed.now.findings in
    repaired_part P I found c.args.repair c.requires.repair
    (c.repairs_cure.ensures P I found c.program-program.ensures.sound c.requires.valid c.requires.found) c.from_residual.result
    (rw c.program.ensures.is at c.in_err-write.ensures.wrote) c.from_residual.ensures.1

pub returns-clause-gives : goal.returns-clause-gives
returns-clause-gives g c =
    let P = c.args.checked.now in
    let I = c.args.replayed.now.input in
    let found = c.args.replayed.now.findings in
    rw (c.len.ensures, c.reports.ensures, c.len-2.ensures) (repaired P I found c.args.repair c.requires.repair
    (c.repairs_cure.ensures P I found c.program-program.ensures.sound c.requires.valid c.requires.found)
    (rw c.program.ensures.is at c.in_ok-write.ensures.wrote))
