use Rattle.std.proofs.Common.{◌*◌, ◌+◌, ◌%◌, ◌^◌, refl, ap}
use Rattle.hip_instr_ops.proofs.Indices.{steps_fixed, steps_scaled}
use Rattle.hip_instr_ops.proofs.path.step_over.Goals as goal

pub returns-in_ok-number-in-Fixed : goal.returns-in_ok-number-in-Fixed
returns-in_ok-number-in-Fixed c =
    steps_fixed _ _ c.in-Fixed.value _ c.in_ok-number-in-Fixed.number _ _ c.in-Fixed.is c.in_ok-number-in-Fixed.ensures
    (ap (λ z. (c.args.path.now.offset + (c.in_ok-number-in-Fixed.number * z) % 2 ^ 64) % 2 ^ 64) c.from.ensures) refl

pub returns-in_ok-push-in-Reg : goal.returns-in_ok-push-in-Reg
returns-in_ok-push-in-Reg c = steps_scaled _ _ c.in-Reg.name c.in_ok-slot-in-Reg.field-0 _ _ _ _ c.in-Reg.is c.in_ok-slot-in-Reg.ensures c.width_of-width.ensures refl c.in_ok-push-in-Reg.ensures.ok
