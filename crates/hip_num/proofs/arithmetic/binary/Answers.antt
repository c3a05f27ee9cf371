use Rattle.std.proofs.Common.{◌+◌, ◌*◌, ◌-◌, ◌^◌, ◌<◌, Ok, ap, sym, subst, ◌∙◌}
use Rattle.hip_types.specs.declared.number.Width.{Width}
use Rattle.hip_types.specs.Numbers.{modulus}
use Rattle.hip_num.proofs.Wraps.{bits_wrap, bits_sub}
use Rattle.hip_num.proofs.arithmetic.binary.Goals as goal

pub returns-in-Add : goal.returns-in-Add
returns-in-Add c = rw c.in-Add.is (ap Ok (c.new.ensures ∙ bits_wrap c.args.a.width (c.args.a.value + c.args.b.value)))

pub returns-in-Sub : goal.returns-in-Sub
returns-in-Sub c =
    let below : c.args.b.value < modulus c.args.a.width = subst (λ (w : Width). c.args.b.value < modulus w) (sym c.requires) c.args.b.in_range in
    rw c.in-Sub.is
    (ap Ok (c.new-in-Sub.ensures ∙ bits_wrap c.args.a.width (c.args.a.value + (2 ^ 64 - c.args.b.value))
    ∙ bits_sub c.args.a.width c.args.a.value c.args.b.value below))

pub returns-in-Mul : goal.returns-in-Mul
returns-in-Mul c = rw c.in-Mul.is (ap Ok (c.new-in-Mul.ensures ∙ bits_wrap c.args.a.width (c.args.a.value * c.args.b.value)))
