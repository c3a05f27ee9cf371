use Rattle.std.proofs.Common.{ℕ, ◌*◌, ◌^◌, ◌<◌, ◌≡◌, Ok, ap, sym, ◌∙◌}
use Rattle.hip_types.specs.Widths.{bits_of}
use Rattle.hip_types.specs.Numbers.{bits}
use Rattle.hip_num.specs.Arithmetic.{modulo}
use Rattle.hip_num.proofs.Wraps.{bits_wrap, shifted_in}
use Rattle.hip_num.proofs.arithmetic.shift_left.Goals as goal

pub returns-in-Some : goal.returns-in-Some
returns-in-Some c =
    let w = c.args.a.width in
    let a = c.args.a.value in
    let amount : (c.args.b.value < bits_of w) × (c.in-Some.amount ≡ c.args.b.value) = c.in-Some.ensures in
    ap Ok (c.new.ensures ∙ bits_wrap w (a * 2 ^ c.in-Some.amount) ∙ ap (λ (k : ℕ). bits w (a * 2 ^ k)) amount.1)
    ∙ sym (ap (modulo w) (shifted_in w c.args.b.value (a * 2 ^ c.args.b.value) amount.0))
