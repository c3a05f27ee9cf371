-- Each set has the site that a report asks for in it.
use Rattle.std.proofs.Common.{◌&&◌, ◌||◌, Option, ap, ◌∙◌}
use Rattle.hip_tree.specs.Sites.{has_site}
use Rattle.hip_tree.specs.declared.site.Site.{Site}
use Rattle.hip_repairs.specs.Choice.{is_site}
use Rattle.hip_plan.specs.Asked.{is_there}
use Rattle.hip_plan.proofs.findings_plan.add_asked.Goals as goal

pub returns : goal.returns
returns c =
    let P = c.args.program.now in
    record {
      flushes = λ s. c.in_ok-add.ensures s ∙ ap (λ (o : Option Site). (is_site o s && is_there P s) || has_site c.args.sites.now.flush_after s) c.flush_asked.ensures;
      fences = λ s. c.in_ok-add-2.ensures s ∙ ap (λ (o : Option Site). (is_site o s && is_there P s) || has_site c.args.sites.now.fence_after s) c.fence_asked.ensures;
      hoists = λ s. c.in_ok-add-3.ensures s ∙ ap (λ (o : Option Site). (is_site o s && is_there P s) || has_site c.args.sites.now.hoist s) c.hoist_asked.ensures;
    }
