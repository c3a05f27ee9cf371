use Rattle.std.proofs.Common.{OnOk}
use Rattle.hip_ledger.specs.Pending.{lines_of}
use Rattle.hip_ledger.proofs.Repeated.{repeated, stays_added}
use Rattle.hip_ledger.proofs.checks.add_byte.Goals as goal

pub returns-then-repeats_last : goal.returns-then-repeats_last
returns-then-repeats_last c =
    let lines = lines_of c.args.notes.now in
    let stays = repeated lines c.args.groups.now c.args.last c.args.byte (c.repeats_last.ensures c.if-repeats_last.true) c.requires.last in
    record { adds = stays_added lines c.args.groups.now c.args.byte stays; stays = stays }
