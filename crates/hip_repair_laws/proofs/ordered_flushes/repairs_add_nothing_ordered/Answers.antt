use Rattle.hip_repair_laws.proofs.Ordered.{adds_nothing_ordered}
use Rattle.hip_repair_laws.proofs.ordered_flushes.repairs_add_nothing_ordered.Goals as goal

pub returns : goal.returns
returns c = λ ordered P plan skip sound.
    adds_nothing_ordered ordered P plan skip sound (c.repairs_do_no_harm.ensures P plan skip sound)
    (c.repairs_take_the_same_steps.ensures P plan skip sound)
