use Rattle.std.proofs.Common.{◌-◌, length}
use Rattle.hip_trace.specs.Fronts.{HoldsMore}
use Rattle.hip_trace.proofs.front.find_front.Given as goal

abbrev pub invariant-more : goal.invariant-more
invariant-more g l = HoldsMore l.initial.held l.held (g.C.Cabinet.state l.initial.cabinet) (g.C.Cabinet.state l.cabinet)

abbrev pub decreases-more : goal.decreases-more
decreases-more g l = 257 - length l.held
