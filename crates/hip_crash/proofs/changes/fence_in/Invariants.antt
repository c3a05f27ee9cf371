use Rattle.std.proofs.Common.{take}
use Rattle.hip_crash.proofs.Walks.{AreFenced}
use Rattle.hip_crash.proofs.changes.fence_in.Given as goal

abbrev pub invariant-loop-line : goal.invariant-loop-line
invariant-loop-line l = AreFenced (take l.line-index l.flushed) l.initial.lines l.lines
