use Rattle.hip_sound.specs.Registers.{assigned_by}
use Rattle.hip_typing.proofs.RegisterLemmas.{adds_some}
use Rattle.hip_typing.proofs.tables.registers.add_body.Goals as goal

pub body-preserved : goal.body-preserved
body-preserved c =
    adds_some (assigned_by) c.args.body.now c.body.instr-index c.instr-item.result c.body-test.true c.instr-item.is c.body.invariant c.in_ok-add_assigned.ensures
