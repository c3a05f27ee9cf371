use Rattle.std.proofs.Common.{◌≡◌, ◌++◌, drop}
use Rattle.std.specs.List.{flat_map}
use Rattle.hip_vol.specs.Rules as spec
use Rattle.hip_vol.proofs.rule_walk.add_function.Given as goal

abbrev pub invariant-each : goal.invariant-each
invariant-each l = l.rules ++ flat_map (spec.block_rules l.scope.program.now l.number) (drop l.block-index l.blocks) ≡ l.initial.rules ++ flat_map (spec.block_rules l.scope.program.now l.number) l.blocks
