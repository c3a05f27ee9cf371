use Rattle.std.proofs.Common.{take}
use Rattle.hip_sites.proofs.Put.{HasPut}
use Rattle.hip_sites.proofs.site_set.SiteSet.insert_all.Given as goal

abbrev pub invariant-each : goal.invariant-each
invariant-each l = HasPut (take l.site-index l.sites) l.fn.self l.self
