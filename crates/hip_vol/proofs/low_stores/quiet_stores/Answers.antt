use Rattle.std.proofs.Common.{◌≡◌, ◌∙◌, ap, List, sym, subst}
use Rattle.std.specs.Prelude.{IfOk, Result, Ok, Err}
use Rattle.std.specs.List.{filter}
use Rattle.hip_tree.specs.Sites.{has_site, sites_of}
use Rattle.hip_tree.specs.declared.program.Program.{Program}
use Rattle.hip_tree.specs.declared.site.Site.{Site}
use Rattle.hip_sound.specs.Sound.{IsSound}
use Rattle.hip_repairs.specs.StayOutside.{StayOutside}
use Rattle.hip_vol.specs.LowStores.{low_stores, least_levels}
use Rattle.hip_vol.proofs.Fitting.{functions_fit}
use Rattle.hip_vol.proofs.KnownLevels.{program_is_least}
use Rattle.hip_vol.proofs.LowQuiet.{low_quiet}
use Rattle.hip_vol.proofs.LowSites.{found_low}
use Rattle.hip_vol.proofs.low_stores.quiet_stores.Goals as goal

pub sites_in-requires-clause-fits : goal.sites_in-requires-clause-fits
sites_in-requires-clause-fits c = functions_fit c.program-program.result.now (subst IsSound (sym c.program-program.ensures.is) c.program-program.ensures.sound)

-- The sites that were found stay outside the region.
listed_quiet : (P : Program) (sites : List Site) → IsSound P → sites ≡ filter (low_stores P) (sites_of P) → StayOutside P (has_site sites)
listed_quiet P sites sound e =
    let same : has_site sites ≡ low_stores P = λ i s. (ap (λ (xs : List Site). has_site xs s) e ∙ found_low P s) i in
    subst (StayOutside P) (sym same) (low_quiet P (least_levels P) sound (program_is_least P).closed)

answer_quiet : {E : Type 0} (P : Program) → IsSound P → (r : Result (List Site) E) → IfOk r (λ sites. sites ≡ filter (low_stores P) (sites_of P)) → IfOk r (λ sites. StayOutside P (has_site sites))
answer_quiet P sound (Ok sites) e = listed_quiet P sites sound e
answer_quiet P sound (Err fault) e = e

pub returns : goal.returns
returns c =
    let P = c.args.checked.now in
    let r = c.sites_in.result in
    let listed : IfOk r (λ sites. sites ≡ filter (low_stores P) (sites_of P)) =
    subst (λ (p : Program). IfOk r (λ sites. sites ≡ filter (low_stores p) (sites_of p))) c.program-program.ensures.is c.sites_in.ensures in
    record { sites = listed; quiet = answer_quiet P c.program-program.ensures.sound r listed }
