-- The walk that collects low stores finds exactly those.
use Rattle.std.proofs.Common.{◌≡◌, Bool, ap}
use Rattle.std.specs.List.{filter}
use Rattle.std.proofs.Math.Path.{fun_ext}
use Rattle.hip_tree.specs.Sites.{has_site, instr_of, sites_of}
use Rattle.hip_tree.specs.declared.program.Program.{Program}
use Rattle.hip_tree.specs.declared.site.Site.{Site}
use Rattle.hip_sites.specs.Laws.SiteWalkLaws.{listed}
use Rattle.hip_vol.specs.Bounds.{Assignment}
use Rattle.hip_vol.specs.Closed.{IsLeast}
use Rattle.hip_vol.specs.LowStores.{stores_low, low_stores, least_levels}
use Rattle.hip_vol.specs.Rules.{level_rules}
use Rattle.hip_vol.proofs.KnownLevels.{rules_know, program_is_least}
use Rattle.hip_vol.proofs.LeastLevels.{least_is_one}

-- The stores that are low by an assignment.
abbrev pub low_by : Program → Assignment → Site → Bool
low_by P A s = stores_low P A s.function (instr_of P s)

-- Where the assignment is a least one, the stores are the low ones.
pub low_by_least : (P : Program) (A : Assignment) → IsLeast (level_rules P) A → low_by P A ≡ low_stores P
low_by_least P A least =
    ap (low_by P) (fun_ext (λ v. least_is_one (level_rules P) (rules_know P) A (least_levels P) least (program_is_least P) v))

-- A site is found exactly if it has a low store.
pub found_low : (P : Program) (s : Site) → has_site (filter (low_stores P) (sites_of P)) s ≡ low_stores P s
found_low P = listed P (low_stores P) (λ s e. ap (stores_low P (least_levels P) s.function) e)
