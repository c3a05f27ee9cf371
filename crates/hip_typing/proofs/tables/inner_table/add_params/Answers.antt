use Rattle.hip_typing.specs.Seen.Inner.{entries}
use Rattle.hip_typing.proofs.InnerLemmas.{gains_one}
use Rattle.hip_typing.proofs.tables.inner_table.add_params.Goals as goal

pub params-preserved : goal.params-preserved
params-preserved c = gains_one entries.parameter c.args.params.now c.params.param-index c.param-item.result c.params-test.true c.param-item.is c.params.invariant c.in_ok-add_name.ensures
