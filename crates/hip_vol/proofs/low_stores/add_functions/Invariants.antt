use Rattle.std.proofs.Common.{◌≡◌, ◌++◌, drop, Some}
use Rattle.hip_vol.specs.LowStores.{stores_low}
use Rattle.hip_sites.specs.SiteWalk.{passing_in_functions}
use Rattle.hip_vol.specs.Tables.{level_among}
use Rattle.hip_vol.proofs.low_stores.add_functions.Given as goal

abbrev pub invariant-each : goal.invariant-each
invariant-each l = l.sites ++ passing_in_functions (λ f i. stores_low l.scope.program.now (level_among l.levels) f (Some i)) l.function (drop l.function l.functions) ≡ l.initial.sites ++ passing_in_functions (λ f i. stores_low l.scope.program.now (level_among l.levels) f (Some i)) 0 l.functions
