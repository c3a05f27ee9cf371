use Rattle.hip_demo.proofs.Replaying.{ahead_is, not_misfit, replayed_whole}
use Rattle.hip_io.specs.Fakes.{mem_cabinet_state}
use Rattle.hip_demo.proofs.replayed.replay_text.Goals as goal

pub returns-in-Ok : goal.returns-in-Ok
returns-in-Ok c =
    let fetched = mem_cabinet_state c.fetch.new.self in
    replayed_whole c.each_run_has_one_trace.ensures.one c.args.checked.now c.args.text c.replay.new.reader fetched
    (mem_cabinet_state c.replay.new.cabinet) c.in-Ok.replayed
    (ahead_is c.in_ok-cabinet.cabinet.files c.args.text fetched c.in_ok-cabinet.ensures c.in-Ready.ensures.fetch.stated)
    c.in-Ok.ensures

pub unreachable-requires-in-Err-Misfit : goal.unreachable-requires-in-Err-Misfit
unreachable-requires-in-Err-Misfit c =
    let fetched = mem_cabinet_state c.fetch.new.self in
    not_misfit c.misfits_are_one.ensures.none c.args.checked.now c.args.text c.replay.new.reader fetched
    (mem_cabinet_state c.replay.new.cabinet) c.in-Err-Misfit.field-0-0 c.in-Err-Misfit.field-0-1 c.requires
    (ahead_is c.in_ok-cabinet.cabinet.files c.args.text fetched c.in_ok-cabinet.ensures c.in-Ready.ensures.fetch.stated)
    (rw c.in-Err-Misfit.field-0-is at c.in-Err-Misfit.ensures)
