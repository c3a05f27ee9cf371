use Rattle.hip_sound.specs.Declarations.{instr_declared}
use Rattle.hip_typing.specs.Seen.Inner.{entries}
use Rattle.hip_typing.proofs.InnerLemmas.{gains_some}
use Rattle.hip_typing.proofs.tables.inner_table.add_body.Goals as goal

pub instrs-preserved : goal.instrs-preserved
instrs-preserved c = gains_some (instr_declared (entries.instr c.args.block)) c.args.body.now c.instrs.index c.index-body-index.result c.instrs-test.true c.index-body-index.is c.instrs.invariant c.in_ok-add_assigned.ensures
