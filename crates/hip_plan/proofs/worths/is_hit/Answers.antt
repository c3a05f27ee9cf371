-- Equality of numbers is symmetric.
use Rattle.std.proofs.Common.{◌∙◌}
use Rattle.std.specs.List.{list_any}
use Rattle.hip_sites.proofs.SiteOrder.{flipped}
use Rattle.hip_plan.proofs.worths.is_hit.Goals as goal

pub returns : goal.returns
returns c = c.contains.ensures.value ∙ (λ i. list_any (λ n. flipped n c.args.global i) c.args.hit.now)
