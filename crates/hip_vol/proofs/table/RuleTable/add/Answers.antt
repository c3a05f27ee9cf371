use Rattle.std.proofs.Common.{◌≡◌, [], ◌∷◌, ◌++◌, List, map, length, sym, ap, ◌∙◌, subst}
use Rattle.std.specs.Prelude.{Result, Ok, Err, OnOk, OnErr}
use Rattle.std.proofs.lemmas.List.{map-append}
use Rattle.hip_vol.specs.declared.numbered.LevelRule as numbered_rule
use Rattle.hip_vol.specs.Bounds.{Variable, LevelRule}
use Rattle.hip_vol.specs.Tables.{IsNumberedTable, named, variable_of, bound_of}
use Rattle.hip_vol.specs.Numbered.{RuleIsWithin}
use Rattle.hip_vol.proofs.TableLemmas.{grows_twice, table_grown, table_next, named_grown}
use Rattle.hip_vol.proofs.table.RuleTable.add.Goals as goal

pub invariant_of-self : goal.invariant_of-self
invariant_of-self c = table_grown _ _ c.self.inside.rules c.number.ensures.grows c.self.invariant

pub invariant_of-self-in_err-least : goal.invariant_of-self-in_err-least
invariant_of-self-in_err-least c = table_grown _ _ c.self.inside.rules (grows_twice _ _ _ c.number.ensures.grows c.numbered_least.ensures.grows) c.self.invariant

pushed : {T E : Type 0} (vs : List Variable) (rs new : List numbered_rule.LevelRule) (r : numbered_rule.LevelRule) (o : Result T E) → OnOk o (new ≡ rs ++ r ∷ []) → OnErr o (new ≡ rs) → RuleIsWithin (length vs) r → IsNumberedTable vs rs → IsNumberedTable vs new
pushed vs rs new r (Ok x) ok err w t = subst (IsNumberedTable vs) (sym ok) (table_next vs rs r t w)
pushed vs rs new r (Err e) ok err w t = subst (IsNumberedTable vs) (sym err) t

pub invariant_of-self-2 : goal.invariant_of-self-2
invariant_of-self-2 c =
    let grows = c.numbered_least.ensures.grows in
    pushed _ c.self.inside.rules _ (record { variable = c.in_ok-variable.variable; least = c.in_ok-least.least }) c.push.result c.push.ensures.ok c.push.ensures.err
    (record { variable = (grows.kept c.in_ok-variable.variable c.in_ok-variable.ensures.within).0; least = c.in_ok-least.ensures.within })
    (table_grown _ _ c.self.inside.rules (grows_twice _ _ _ c.number.ensures.grows grows) c.self.invariant)

named_pushed : {T E : Type 0} (vs : List Variable) (rs new : List numbered_rule.LevelRule) (r : numbered_rule.LevelRule) (o : Result T E) (before : List LevelRule) (rule : LevelRule) → OnOk o (new ≡ rs ++ r ∷ []) → map (named vs) rs ≡ before → named vs r ≡ rule → OnOk o (map (named vs) new ≡ before ++ rule ∷ [])
named_pushed vs rs new r (Ok x) before rule ok e f = ap (map (named vs)) ok ∙ map-append (named vs) rs (r ∷ []) ∙ (λ i. e i ++ f i ∷ [])
named_pushed vs rs new r (Err x) before rule ok e f = ok

pub returns : goal.returns
returns c =
    let grows = c.numbered_least.ensures.grows in
    let number = c.in_ok-variable.variable in
    named_pushed c.numbered_least.new.variables c.self.inside.rules c.push.new.self (record { variable = number; least = c.in_ok-least.least }) c.push.result c.args.self.now
    (record { variable = variable_of c.args.variable; least = bound_of c.args.least }) c.push.ensures.ok
    (named_grown _ _ (grows_twice _ _ _ c.number.ensures.grows grows) c.self.inside.rules c.self.invariant.within ∙ c.self.view_is)
    (λ i. record { variable = ((grows.kept number c.in_ok-variable.ensures.within).1 ∙ c.in_ok-variable.ensures.there) i; least = c.in_ok-least.ensures.there i })
