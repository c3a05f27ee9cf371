use Rattle.std.proofs.Common.{ap}
use Rattle.hip_types.specs.declared.number.Bits.{Bits}
use Rattle.hip_core.proofs.MemoryArms.{acts_load, acts_load_trap, width_few, width_some}
use Rattle.std.proofs.Common.{◌<◌, ◌≤◌, sym, subst}
use Rattle.hip_core.proofs.memory_steps.load.Goals as goal

pub load-requires-clause-some : goal.load-requires-clause-some
load-requires-clause-some c = subst (λ n. 0 < n) (sym c.bytes-count.ensures) (width_some c.args.width)

pub load-requires-clause-few : goal.load-requires-clause-few
load-requires-clause-few c = subst (λ n. n ≤ 8) (sym c.bytes-count.ensures) (width_few c.args.width)

pub returns-in-Ok-clause-acts : goal.returns-in-Ok-clause-acts
returns-in-Ok-clause-acts c =
    acts_load c.read_here-address.result c.bytes-count.result c.in-Ok.number c.new-cut.result.value c.read_here-address.ensures c.bytes-count.ensures c.in-Ok.ensures.ok (ap (λ (b : Bits). b.value) c.new-cut.ensures) c.assign.ensures.others c.assign.ensures.slots

pub returns-in-Err-clause-acts : goal.returns-in-Err-clause-acts
returns-in-Err-clause-acts c = acts_load_trap c.read_here-address.result c.bytes-count.result c.in-Err.kind c.read_here-address.ensures c.bytes-count.ensures c.in-Err.ensures.trap c.trap.ensures.does
