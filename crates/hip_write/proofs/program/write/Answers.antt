use Rattle.hip_io.specs.Laws.SinkLaws.{then_delivers}
use Rattle.hip_write.proofs.program.write.Goals as goal

pub returns-in-Done-clause-wrote : goal.returns-in-Done-clause-wrote
returns-in-Done-clause-wrote g c = (then_delivers c.put_program-put.ensures c.in-Done.ensures).how

pub returns-in-Failed-clause-wrote : goal.returns-in-Failed-clause-wrote
returns-in-Failed-clause-wrote g c = (then_delivers c.put_program-put.ensures c.in-Failed.ensures).how
