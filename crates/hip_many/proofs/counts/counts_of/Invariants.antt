use Rattle.std.proofs.Common.{take}
use Rattle.hip_many.proofs.CountLemmas.{Tallies}
use Rattle.hip_many.proofs.counts.counts_of.Given as goal

abbrev pub invariant-each : goal.invariant-each
invariant-each l = Tallies l.counts.entries l.sort (take l.index l.plans) l.index
