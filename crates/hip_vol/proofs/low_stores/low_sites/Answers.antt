use Rattle.std.proofs.Common.{◌∙◌, ◌++◌, ap, List, Some, Bool, sym, subst}
use Rattle.std.specs.Prelude.{All}
use Rattle.std.specs.List.{filter}
use Rattle.hip_tree.specs.Sites.{sites_of}
use Rattle.hip_tree.specs.declared.program.Function.{Function}
use Rattle.hip_tree.specs.declared.site.Site.{Site}
use Rattle.hip_vol.specs.Gathered.{FunctionFits}
use Rattle.hip_vol.specs.LowStores.{stores_low}
use Rattle.hip_sites.specs.Laws.SiteWalkLaws.{walk_filtered}
use Rattle.hip_sites.specs.SiteWalk.{passing_in_functions}
use Rattle.hip_vol.specs.Tables.{level_among}
use Rattle.hip_vol.proofs.LowSites.{low_by_least}
use Rattle.hip_vol.proofs.low_stores.low_sites.Goals as goal

pub add_functions-requires-clause-fits : goal.add_functions-requires-clause-fits
add_functions-requires-clause-fits c = subst (λ (fs : List Function). All FunctionFits fs) (sym c.as_slice.ensures) c.requires.fits

pub returns : goal.returns
returns c =
    let P = c.args.program.now in
    let A = level_among c.args.levels.now in
    c.in_ok-add_functions.ensures
    ∙ (λ i. c.new-sites.ensures i ++ passing_in_functions (λ f x. stores_low (c.requires.program i) A f (Some x)) 0 (c.as_slice.ensures i))
    ∙ walk_filtered P (stores_low P A) ∙ ap (λ (t : Site → Bool). filter t (sites_of P)) (low_by_least P A c.requires.least)
