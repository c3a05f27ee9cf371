-- Each set has the sites of its list.
use Rattle.std.proofs.Common.{◌||◌, List, ap, ◌∙◌}
use Rattle.hip_tree.specs.Sites.{has_site}
use Rattle.hip_tree.specs.declared.site.Site.{Site}
use Rattle.hip_many.proofs.union.add_plan.Goals as goal

pub returns : goal.returns
returns c = record {
  flushes = λ s. c.in_ok-insert_all.ensures s ∙ ap (λ (xs : List Site). has_site xs s || has_site c.args.sites.now.flush_after s) c.as_slice.ensures;
  fences = λ s. c.in_ok-insert_all-2.ensures s ∙ ap (λ (xs : List Site). has_site xs s || has_site c.args.sites.now.fence_after s) c.as_slice-2.ensures;
  hoists = λ s. c.in_ok-insert_all-3.ensures s ∙ ap (λ (xs : List Site). has_site xs s || has_site c.args.sites.now.hoist s) c.as_slice-3.ensures;
}
