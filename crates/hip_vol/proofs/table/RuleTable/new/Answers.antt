use Rattle.std.proofs.Common.{◌≡◌, [], List, sym, subst}
use Rattle.hip_vol.specs.declared.numbered.LevelRule as numbered_rule
use Rattle.hip_vol.specs.Bounds.{Variable}
use Rattle.hip_vol.specs.Tables.{IsNumberedTable}
use Rattle.hip_vol.proofs.TableLemmas.{empty_table}
use Rattle.hip_vol.proofs.table.RuleTable.new.Goals as goal

empty : (vs : List Variable) (rs : List numbered_rule.LevelRule) → vs ≡ [] → rs ≡ [] → IsNumberedTable vs rs
empty vs rs e f = subst (λ v. IsNumberedTable v rs) (sym e) (subst (IsNumberedTable []) (sym f) empty_table)

pub invariant_of-result : goal.invariant_of-result
invariant_of-result c = empty _ _ c.new.ensures c.new-2.ensures
