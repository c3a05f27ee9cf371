use Rattle.std.proofs.Common.{sym, ◌∙◌}
use Rattle.hip_core.proofs.OtherArms.{assert_traps, asserts}
use Rattle.hip_core.proofs.memory_steps.assert_range.Goals as goal

pub returns-then-is_in_region-clause-does : goal.returns-then-is_in_region-clause-does
returns-then-is_in_region-clause-does c = asserts c.args.addr c.args.size (sym c.is_in_region.ensures ∙ c.if-is_in_region.true) c.pass.ensures

pub returns-else-is_in_region-clause-does : goal.returns-else-is_in_region-clause-does
returns-else-is_in_region-clause-does c = assert_traps c.args.addr c.args.size (sym c.is_in_region.ensures ∙ c.if-is_in_region.false) c.trap.ensures.does
