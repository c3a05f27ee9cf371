use Rattle.hip_mem.proofs.RamCalls.{access-below, load-is}
use Rattle.hip_mem.proofs.ram.Ram.load.Goals as goal

pub number_at-requires-clause-fits : goal.number_at-requires-clause-fits
number_at-requires-clause-fits c = access-below c.self.inside c.args.self.now c.args.addr c.args.size c.args.align c.self.view_is c.self.invariant c.requires.some c.in-None.ensures

pub returns-in-None : goal.returns-in-None
returns-in-None c = load-is c.self.inside c.args.self.now c.args.addr c.args.size c.args.align c.number_at.result c.self.view_is c.self.invariant c.requires.some c.in-None.ensures c.number_at.ensures
