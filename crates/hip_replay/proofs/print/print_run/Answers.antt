use Rattle.std.proofs.Common.{subst}
use Rattle.hip_lockstep.proofs.Going.{stated_by}
use Rattle.hip_replay.proofs.Outputs.{ran_out, started, stopped}
use Rattle.hip_replay.specs.PrintedText.{Prints}
use Rattle.hip_replay.proofs.print.print_run.Goals as goal

pub returns-in-Err-clause-prints : goal.returns-in-Err-clause-prints
returns-in-Err-clause-prints g c =
    ran_out (g.S.Sink.state c.out_of_memory.new.out) c.out_of_memory.result
    (stopped (stated_by c.args.checked.now c.args.input.now c.events_tell_output_and_ending.ensures.output c.events_tell_output_and_ending.ensures.ending c.runs_end.ensures c.runs_are_bounded.ensures.bounded)
    (started c.args.checked.now c.args.input.now (g.S.Sink.state c.args.out.now)))
    c.out_of_memory.ensures.ends

pub returns-clause-prints : goal.returns-clause-prints
returns-clause-prints g c =
    subst (λ m. Prints m.program m.input (g.S.Sink.state c.args.out.now) (g.S.Sink.state c.print_whole.new.out) c.print_whole.result) c.in-Ok.ensures
    c.print_whole.ensures.prints
