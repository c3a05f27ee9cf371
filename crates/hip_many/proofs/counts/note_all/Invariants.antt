use Rattle.std.proofs.Common.{take}
use Rattle.hip_many.proofs.CountLemmas.{AreNoted}
use Rattle.hip_many.proofs.counts.note_all.Given as goal

abbrev pub invariant-each : goal.invariant-each
invariant-each l = AreNoted l.fn.counts.entries (take l.site-index l.sites) l.number l.counts.entries
