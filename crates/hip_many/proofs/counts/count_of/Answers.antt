-- The table has at a site what its entries have.
use Rattle.std.proofs.Common.{Option, ap, ◌∙◌}
use Rattle.std.specs.Prelude.{unwrap_or}
use Rattle.hip_sites.proofs.SiteOrder.{table_has}
use Rattle.hip_many.specs.Counts.{none_met}
use Rattle.hip_many.specs.declared.counts.Count.{Count}
use Rattle.hip_many.proofs.counts.count_of.Goals as goal

pub returns-in-Some : goal.returns-in-Some
returns-in-Some c = ap (λ (o : Option Count). unwrap_or o none_met) (c.in-Some.ensures.value ∙ table_has c.args.counts.now.entries c.args.site)

pub returns-in-None : goal.returns-in-None
returns-in-None c = ap (λ (o : Option Count). unwrap_or o none_met) (c.in-None.ensures.value ∙ table_has c.args.counts.now.entries c.args.site)
