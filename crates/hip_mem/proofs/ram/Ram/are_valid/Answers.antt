use Rattle.hip_mem.proofs.RamCalls.{valid_region}
use Rattle.hip_mem.proofs.ram.Ram.are_valid.Goals as goal

pub returns-then-addr-self : goal.returns-then-addr-self
returns-then-addr-self c = valid_region c.self.inside c.args.self.now c.args.addr c.args.size c.lies_in.result c.self.view_is c.self.invariant c.requires c.if-addr-self.true c.lies_in.ensures
