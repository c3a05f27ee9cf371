use Rattle.std.proofs.Common.{◌≡◌, Bool, List, sym, ap, ◌∙◌, subst}
use Rattle.std.specs.List.{filter}
use Rattle.hip_tree.specs.Sites.{has_site, sites_of}
use Rattle.hip_tree.specs.declared.site.Site.{Site}
use Rattle.hip_repairs.specs.StayOutside.{StayOutside}
use Rattle.hip_fix.specs.Applied.{IsApplied}
use Rattle.hip_vol.specs.LowStores.{low_stores}
use Rattle.hip_vol.proofs.LowSites.{found_low}
use Rattle.hip_vol.proofs.thin.thin_repair.Goals as goal

pub returns : goal.returns
returns c =
    let P = c.args.checked.now in
    let plan = c.args.plan.now in
    let low = c.as_slice.result.now in
    let listed : low ≡ filter (low_stores P) (sites_of P) = c.as_slice.ensures ∙ c.in_ok-low.ensures.sites in
    let same : has_site low ≡ low_stores P = λ i s. (ap (λ (xs : List Site). has_site xs s) listed ∙ found_low P s) i in
    let quiet : StayOutside P (has_site low) = subst (λ (xs : List Site). StayOutside P (has_site xs)) (sym c.as_slice.ensures) c.in_ok-low.ensures.quiet in
    record {
      repaired = subst (λ (test : Site → Bool). IsApplied P plan test c.in_ok-repaired.repaired) same c.in_ok-repaired.ensures.repaired;
      thorough = c.in_ok-repaired.ensures.thorough quiet;
      low = c.in_ok-low.ensures.sites;
    }
