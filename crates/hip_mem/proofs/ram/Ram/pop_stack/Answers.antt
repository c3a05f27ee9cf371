use Rattle.std.proofs.Common.{arith, refl, ap, ◌∙◌}
use Rattle.hip_mem.specs.Areas.{mark_of, after_pop}
use Rattle.hip_mem.proofs.RamAreas.{mark-is}
use Rattle.hip_mem.proofs.RamCalls.{areas-popped}
use Rattle.hip_mem.proofs.ram.Ram.pop_stack.Goals as goal

pub invariant_of-self : goal.invariant_of-self
invariant_of-self c = record {
  low = c.self.invariant.low;
  high = c.self.invariant.high;
  aligned = c.self.invariant.aligned;
  volatile = c.self.invariant.volatile;
  region = c.self.invariant.region;
  start = c.requires.low;
  end = omega (arith, c.requires.high, c.self.invariant.end, ap mark_of c.self.view_is, mark-is c.self.inside c.self.invariant);
}

pub returns : goal.returns
returns c = areas-popped c.args.mark c.self.inside _ c.self.invariant refl refl refl refl refl (omega (arith, c.requires.high, ap mark_of c.self.view_is, mark-is c.self.inside c.self.invariant)) ∙ ap (after_pop c.args.mark) c.self.view_is
