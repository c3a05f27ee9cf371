use Rattle.std.proofs.Common.{◌≡◌, length, subst}
use Rattle.std.specs.Prelude.{IfOk}
use Rattle.hip_lockstep.proofs.Rooms.{header_small}
use Rattle.hip_run_traces.specs.Traces.{header_of}
use Rattle.hip_replay_tests.proofs.noted_steps.entries_before.Goals as goal

pub returns-clause-bound : goal.returns-clause-bound
returns-clause-bound g c =
    let P = c.args.checked.now in
    let I = c.args.input.now in
    let counted = subst (λ r. IfOk r (λ n. n ≡ length (header_of I))) c.expect.ensures c.put_header.ensures.count in
    header_small P I c.program-program.ensures.sound c.requires (c.runs_are_bounded.ensures.bounded P I) c.expect.result counted
