use Rattle.hip_lockstep.proofs.Headers.{IsWriting}
use Rattle.hip_lockstep.proofs.header.put_image.Given as goal

abbrev pub invariant-lines : goal.invariant-lines
invariant-lines g l = IsWriting l.base l.image l.line l.count (g.S.Sink.state l.initial.out) (g.S.Sink.state l.out)
