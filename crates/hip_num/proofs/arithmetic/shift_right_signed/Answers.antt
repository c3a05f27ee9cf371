use Rattle.std.proofs.Common.{ℕ, ◌<◌, ◌≡◌, Ok, ap, sym, ◌∙◌, rules}
use Rattle.std.specs.Prelude.{ℤ, FitsSigned}
use Rattle.std.specs.Int.{int_shr, w64}
use Rattle.std.proofs.lemmas.Int.{to_z-of_z}
use Rattle.hip_types.specs.Widths.{bits_of}
use Rattle.hip_types.specs.Numbers.{bits, signed, wrapped}
use Rattle.hip_num.specs.Arithmetic.{modulo}
use Rattle.hip_num.proofs.Wraps.{shifted_in}
use Rattle.hip_num.proofs.arithmetic.shift_right_signed.Goals as goal

pub returns-in-Some : goal.returns-in-Some
returns-in-Some c =
    let w = c.args.a.width in
    let x = c.signed_value.result in
    let amount : (c.args.b.value < bits_of w) × (c.in-Some.amount ≡ c.args.b.value) = c.in-Some.ensures in
    let x_fits : FitsSigned w64 x = search rules in
    let fits : FitsSigned w64 (int_shr x c.in-Some.amount) = search rules in
    let shown = simp to_z-of_z at c.from_signed.ensures in
    ap Ok (shown ∙ ap (λ (z : ℤ). bits w (wrapped w (int_shr z c.in-Some.amount))) c.signed_value.ensures
    ∙ ap (λ (k : ℕ). bits w (wrapped w (int_shr (signed w c.args.a.value) k))) amount.1)
    ∙ sym (ap (modulo w) (shifted_in w c.args.b.value (wrapped w (int_shr (signed w c.args.a.value) c.args.b.value)) amount.0))
