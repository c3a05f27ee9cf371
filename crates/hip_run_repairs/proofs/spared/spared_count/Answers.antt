use Rattle.std.proofs.Common.{◌≡◌, List, length, ap, ◌∙◌}
use Rattle.std.specs.List.{filter}
use Rattle.hip_tree.specs.Sites.{has_site, sites_of}
use Rattle.hip_tree.specs.declared.program.Program.{Program}
use Rattle.hip_tree.specs.declared.site.Site.{Site}
use Rattle.hip_repairs.specs.Direct.{direct}
use Rattle.hip_repairs.specs.declared.plan.CloneOf.{CloneOf}
use Rattle.hip_run_repairs.specs.Spared.{has_original, is_spared_by}
use Rattle.hip_run_repairs.proofs.SparedCounts.{counted}
use Rattle.hip_run_repairs.proofs.spared.spared_count.Goals as goal

pub returns : goal.returns
returns c =
    let P = c.args.checked.now in
    let plan = c.args.plan.now in
    let keys = c.in_ok-cloned.cloned.keys in
    let direct_is : has_site c.in_ok-direct.direct ≡ has_site (filter (direct P) (sites_of P)) =
    c.in_ok-direct.ensures ∙ ap has_site (c.as_slice.ensures ∙ c.in_ok-stores.ensures ∙ ap (λ (p : Program). filter (direct p) (sites_of p)) c.program.ensures.is) in
    let flushed_is : has_site c.in_ok-flushed.flushed ≡ has_site plan.flush_after = c.in_ok-flushed.ensures ∙ ap has_site c.as_slice-2.ensures in
    c.count_spared.ensures
    ∙ (λ i. length (filter (is_spared_by keys (direct_is i) (flushed_is i)) c.args.low.now))
    ∙ ap (λ (sites : List Site). length (filter (is_spared_by keys (has_site (filter (direct P) (sites_of P))) (has_site plan.flush_after)) sites)) c.requires.low
    ∙ counted P plan keys (λ f. c.in_ok-cloned.ensures f ∙ ap (λ (cs : List CloneOf). has_original cs f) c.requires.clones)
