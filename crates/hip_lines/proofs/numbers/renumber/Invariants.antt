use Rattle.hip_lines.proofs.Renumbers.{Renumbered}
use Rattle.hip_lines.proofs.numbers.renumber.Given as goal

abbrev pub invariant-loop-k : goal.invariant-loop-k
invariant-loop-k l = Renumbered l.initial.news l.news l.initial.tags l.tags l.k l.kept
