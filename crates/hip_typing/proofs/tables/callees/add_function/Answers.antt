use Rattle.std.proofs.Common.{[], ◌∷◌, refl}
use Rattle.hip_typing.proofs.tables.callees.add_function.Goals as goal

pub returns : goal.returns
returns c = record { adds = λ entries stands. record { more = _ ∷ []; stands = c.in_ok-add.ensures.ok entries stands; are = rw (c.as_slice.ensures, c.as_slice-2.ensures) refl } }
