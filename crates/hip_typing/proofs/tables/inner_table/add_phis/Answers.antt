use Rattle.hip_typing.specs.Seen.Inner.{entries}
use Rattle.hip_typing.proofs.InnerLemmas.{gains_numbered}
use Rattle.hip_typing.proofs.tables.inner_table.add_phis.Goals as goal

pub phis-preserved : goal.phis-preserved
phis-preserved c = gains_numbered (entries.phi c.args.block) c.args.phis.now c.phis.phi-index c.phi-item.result c.phis-test.true c.phi-item.is c.phis.invariant c.in_ok-add_name.ensures
