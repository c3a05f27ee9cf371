-- The set's keys are the old ones and the new one.
use Rattle.std.proofs.Common.{◌||◌, List, ap, ◌∙◌}
use Rattle.hip_tree.specs.Laws.SiteLaws.{key_put}
use Rattle.hip_tree.specs.Sites.{has_site, same_site}
use Rattle.hip_tree.specs.declared.site.Site.{Site}
use Rattle.hip_sites.proofs.site_set.SiteSet.insert.Goals as goal

pub returns-clause-ok : goal.returns-clause-ok
returns-clause-ok c = λ s.
    key_put c.self.inside.sites.keys c.insert.new.self.keys c.args.site s (c.in_ok-insert.ensures.updates.0 s)
    ∙ ap (λ (sites : List Site). same_site s c.args.site || has_site sites s) c.self.view_is
