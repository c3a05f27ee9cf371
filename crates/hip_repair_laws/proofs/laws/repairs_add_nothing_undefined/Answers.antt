use Rattle.hip_repair_laws.proofs.Defined.{adds_nothing}
use Rattle.hip_repair_laws.proofs.laws.repairs_add_nothing_undefined.Goals as goal

pub returns : goal.returns
returns c = λ P plan skip sound.
    adds_nothing P plan skip (c.repairs_do_no_harm.ensures P plan skip sound)
    (c.repairs_take_the_same_steps.ensures P plan skip sound)
