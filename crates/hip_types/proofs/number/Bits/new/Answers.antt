use Rattle.hip_types.specs.Numbers.{same_bits}
use Rattle.hip_types.proofs.Masks.{masked}
use Rattle.hip_types.proofs.number.Bits.new.Goals as goal
use Rattle.std.proofs.Common.{refl}

pub returns : goal.returns
returns c = same_bits _ _ refl (masked c.args.width c.args.value c.all_bits.result c.all_bits.ensures)
