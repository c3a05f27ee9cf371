-- Only the count of this site changes.
use Rattle.std.proofs.Common.{Some}
use Rattle.hip_sites.proofs.SiteOrder.{table_updated}
use Rattle.hip_many.proofs.CountLemmas.{one_noted}
use Rattle.hip_many.proofs.counts.note.Goals as goal

pub returns : goal.returns
returns c =
    let old = c.args.counts.now.entries in
    let new = c.insert.new.self.entries in
    one_noted old new c.args.site c.counted-count.result c.count_of.result c.args.number c.counted-count.ensures c.count_of.ensures
    (table_updated old new c.args.site (Some c.counted-count.result) c.in_ok-insert.ensures.updates.0)
