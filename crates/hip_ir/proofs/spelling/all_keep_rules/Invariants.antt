use Rattle.std.proofs.Common.{◌≡◌, drop}
use Rattle.std.specs.List.{list_all}
use Rattle.hip_ir.proofs.spelling.all_keep_rules.Given as goal

abbrev pub invariant-each : goal.invariant-each
invariant-each g l = list_all g.T.KeepsRules.test (drop l.part-index l.parts) ≡ list_all g.T.KeepsRules.test l.fn.parts
