-- The set has a key exactly where its list has the number.
use Rattle.std.proofs.Common.{◌∙◌}
use Rattle.hip_sites.proofs.SiteOrder.{numbers_have}
use Rattle.hip_plan.proofs.worth_table.is_hit.Goals as goal

pub returns : goal.returns
returns c = c.contains.ensures ∙ numbers_have c.args.hit.now.keys c.args.global
