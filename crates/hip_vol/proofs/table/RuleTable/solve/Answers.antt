use Rattle.std.proofs.Common.{◌≡◌, List, ◌∙◌, subst}
use Rattle.hip_vol.specs.declared.numbered.LevelRule as numbered_rule
use Rattle.hip_vol.specs.Bounds.{LevelRule}
use Rattle.hip_vol.specs.Closed.{IsLeast}
use Rattle.hip_vol.specs.Numbered.{AreMetBy, IsBelowAll, at}
use Rattle.hip_vol.specs.Tables.{leveled, level_among}
use Rattle.hip_vol.proofs.TableLemmas.{table_is_least}
use Rattle.hip_vol.proofs.table.RuleTable.solve.Goals as goal

pub returns : goal.returns
returns c =
    let vs = c.self.inside.variables in
    let rs = c.self.inside.rules in
    let levels = c.in_ok-levels.levels in
    let given : c.as_slice.result.now ≡ rs = c.as_slice.ensures in
    subst (λ (r : List LevelRule). IsLeast r (level_among (leveled vs levels))) c.self.view_is
    (table_is_least vs rs levels c.self.invariant (c.in_ok-levels.ensures.count ∙ c.len.ensures)
    (subst (λ (r : List numbered_rule.LevelRule). IsBelowAll r levels) given c.in_ok-levels.ensures.below)
    (subst (AreMetBy (at levels)) given c.in_ok-levels.ensures.met))
