-- One more site is counted.
use Rattle.hip_many.proofs.CountLemmas.{next_noted}
use Rattle.hip_many.proofs.counts.note_all.Goals as goal

pub each-preserved : goal.each-preserved
each-preserved c = next_noted c.args.counts.now.entries c.each.counts.entries c.note.new.counts.entries c.args.sites.now c.each.site-index _ c.args.number c.each-test.true c.in_ok-note.ensures c.each.invariant
