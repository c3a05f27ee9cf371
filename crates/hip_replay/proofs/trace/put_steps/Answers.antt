use Rattle.hip_replay.proofs.TraceTexts.{has_put, not_delivered, ran_out}
use Rattle.hip_replay.proofs.trace.put_steps.Goals as goal

pub returns-in-Done-clause-trace : goal.returns-in-Done-clause-trace
returns-in-Done-clause-trace g c = λ start h. has_put (c.in-Ok.ensures start h) c.in-Done.ensures.nothing

pub returns-in-Failed-clause-trace : goal.returns-in-Failed-clause-trace
returns-in-Failed-clause-trace g c = λ start h. not_delivered (c.in-Ok.ensures start h) c.in-Failed.ensures.nothing

pub returns-in-Err-NoMemory-clause-trace : goal.returns-in-Err-NoMemory-clause-trace
returns-in-Err-NoMemory-clause-trace g c = λ start h.
    ran_out (g.S.Sink.state c.out_of_memory.new.out) c.out_of_memory.result (rw c.in-Err-NoMemory.field-0-is at (c.in-Err-NoMemory.ensures start h)) c.out_of_memory.ensures.ends
