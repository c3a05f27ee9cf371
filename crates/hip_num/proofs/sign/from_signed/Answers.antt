use Rattle.std.proofs.Common.{ap, ◌∙◌}
use Rattle.std.specs.Int.{cast_unsigned, w64}
use Rattle.std.proofs.lemmas.Int.{to_z-of_z}
use Rattle.hip_types.specs.Numbers.{bits}
use Rattle.hip_num.proofs.Wraps.{bits_cast}
use Rattle.hip_num.proofs.sign.from_signed.Goals as goal

pub returns : goal.returns
returns c =
    c.new.ensures ∙ ap (bits c.args.width) (c.cast_unsigned.ensures ∙ ap (cast_unsigned w64) (to_z-of_z w64 c.args.value c.ranges.value))
    ∙ bits_cast c.args.width c.args.value c.ranges.value
