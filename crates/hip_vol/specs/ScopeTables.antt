-- What the scope in which rules are gathered knows of its program.
use Rattle.std.specs.Prelude.{◌≡◌}
use Rattle.hip_invariants.specs.PointerLevels.{global_level}
use Rattle.hip_vol.specs.declared.rule_walk.RuleScope.{RuleScope}
use Rattle.hip_vol.specs.Gathered.{level_beside}

-- Its tables have the levels of the program's globals, and the numbers of its functions.
pub record DescribesRuleScope (scope : RuleScope) : Type 0 where
  pub globals : level_beside scope.persistence ≡ global_level scope.program.now.globals
  pub functions : scope.functions ≡ scope.program.now
