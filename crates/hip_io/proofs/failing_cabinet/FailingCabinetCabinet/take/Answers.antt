use Rattle.hip_io.proofs.Pieces.{fails_take}
use Rattle.hip_io.proofs.failing_cabinet.FailingCabinetCabinet.take.Goals as goal

pub returns-in-Some-eq0-clause-take : goal.returns-in-Some-eq0-clause-take
returns-in-Some-eq0-clause-take c = fails_take c.args.self.now c.count_fault.new.self c.count_fault.ensures.count c.count_fault.ensures.later c.requires.current
