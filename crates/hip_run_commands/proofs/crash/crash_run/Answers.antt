use Rattle.std.proofs.Common.{List, Err, subst}
use Rattle.hip_run_commands.specs.ImagesAtEntries.{PicksImage}
use Rattle.hip_types.specs.declared.pick.Pick.{Pick}
use Rattle.hip_run_commands.proofs.Crashes.{crashed, refused}
use Rattle.hip_run_commands.proofs.crash.crash_run.Goals as goal

pub returns-clause-gives : goal.returns-clause-gives
returns-clause-gives g c =
    let run = c.args.loaded.replayed in
    crashed c.args.loaded.checked run.input c.args.point.entry c.args.point.picks run.findings c.in-Ok.image
    c.put_trace.result (rw c.as_slice.ensures at c.in-Ok.ensures) c.put_trace.ensures.gives

pub returns-in-Err-clause-gives : goal.returns-in-Err-clause-gives
returns-in-Err-clause-gives g c =
    let run = c.args.loaded.replayed in
    rw c.status_of_image.ensures (refused c.args.loaded.checked run.input c.args.point.entry c.args.point.picks run.findings
    c.in-Err.failure (subst (λ (ps : List Pick). PicksImage c.args.loaded.checked run.input c.args.point.entry ps
    (Err c.in-Err.failure)) c.as_slice.ensures c.in-Err.ensures))
