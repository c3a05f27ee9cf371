use Rattle.hip_replay.proofs.Outputs.{has_printed, not_delivered, ran_out}
use Rattle.hip_replay.proofs.print.print_whole.Goals as goal

pub returns-in-Done-clause-prints : goal.returns-in-Done-clause-prints
returns-in-Done-clause-prints g c = has_printed c.in-Ok.ensures c.in-Done.ensures.nothing

pub returns-in-Failed-clause-prints : goal.returns-in-Failed-clause-prints
returns-in-Failed-clause-prints g c = not_delivered c.in-Ok.ensures c.in-Failed.ensures.nothing

pub returns-in-Err-NoMemory-clause-prints : goal.returns-in-Err-NoMemory-clause-prints
returns-in-Err-NoMemory-clause-prints g c =
    ran_out (g.S.Sink.state c.out_of_memory.new.out) c.out_of_memory.result (rw c.in-Err-NoMemory.field-0-is at c.in-Err-NoMemory.ensures) c.out_of_memory.ensures.ends
