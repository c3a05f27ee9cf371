use Rattle.std.proofs.Common.{◌≤◌, length, Bool, true, false, List, ℕ, arith}
use Rattle.hip_vol.specs.declared.numbered.LevelRule.{LevelRule}
use Rattle.hip_vol.specs.Numbered.{swept}
use Rattle.hip_vol.proofs.Rising.{has_at, all_met, so_far}
use Rattle.hip_vol.proofs.propagation.sweep.Goals as goal

pub raise_and_note-requires-clause-one : goal.raise_and_note-requires-clause-one
raise_and_note-requires-clause-one c = has_at c.args.rules.now c.each.rule-index _ (omega arith)

swept_whole : (rose : Bool) (old new : List ℕ) (rules : List LevelRule) (n : ℕ) → length rules ≤ n → so_far rose old new rules n → swept rose old new rules
swept_whole true old new rules n le s = s
swept_whole false old new rules n le s = (s.0, all_met old rules n le s.1)

pub returns-clause-swept : goal.returns-clause-swept
returns-clause-swept c = swept_whole c.each.rose _ _ c.args.rules.now c.each.rule-index (omega arith) c.each.invariant.swept
