-- The keys of an ordered set ascend.
use Rattle.std.proofs.Common.{◌≡◌, true, List, subst}
use Rattle.hip_tree.specs.declared.site.Site.{Site}
use Rattle.hip_repairs.specs.Suits.{is_ascending}
use Rattle.hip_sites.proofs.SiteOrder.{keys_ascend}
use Rattle.hip_sites.proofs.site_set.SiteSet.to_row.Goals as goal

pub returns-in_err-sites-clause-ascending : goal.returns-in_err-sites-clause-ascending
returns-in_err-sites-clause-ascending c =
    subst (λ (sites : List Site). is_ascending sites ≡ true) c.self.view_is
    (keys_ascend c.self.inside.sites.keys c.iter.ensures.ordered)

pub returns-clause-ascending : goal.returns-clause-ascending
returns-clause-ascending c =
    subst (λ (sites : List Site). is_ascending sites ≡ true) c.self.view_is
    (keys_ascend c.self.inside.sites.keys c.iter.ensures.ordered)
