use Rattle.std.proofs.Common.{◌≡◌, ◌<◌, None, Ok, ap, sym, subst, ◌∙◌, rules}
use Rattle.std.specs.Prelude.{ℤ, Option, FitsSigned, int_div}
use Rattle.std.specs.Int.{w64}
use Rattle.std.proofs.lemmas.Int.{quot_is}
use Rattle.hip_types.specs.declared.number.Width.{Width}
use Rattle.hip_types.specs.Numbers.{bits, modulus, signed, wrapped}
use Rattle.hip_num.specs.declared.arithmetic.NumTrap.{NumTrap}
use Rattle.hip_num.specs.Arithmetic.{division_fault, modulo, unless}
use Rattle.hip_num.proofs.Quotients.{quotient_fits, no_overflow}
use Rattle.hip_num.proofs.arithmetic.signed_quotient.Goals as goal

pub returns-in-None : goal.returns-in-None
returns-in-None c =
    let w = c.args.a.width in
    let x = c.signed_value.result in
    let y = c.signed_value-in-None.result in
    let allowed : None ≡ division_fault w c.args.a.value c.args.b.value = c.in-None.ensures in
    let y_is : y ≡ signed w c.args.b.value = c.signed_value-in-None.ensures ∙ ap (λ (v : Width). signed v c.args.b.value) (sym c.requires) in
    let b_in : c.args.b.value < modulus w = subst (λ (v : Width). c.args.b.value < modulus v) (sym c.requires) c.args.b.in_range in
    let x_fits : FitsSigned w64 x = search rules in
    let y_fits : FitsSigned w64 y = search rules in
    let fits : FitsSigned w64 (int_div x y) =
    quotient_fits x y x_fits
    (λ e f. no_overflow w c.args.a.value c.args.b.value c.args.a.in_range b_in allowed (sym y_is ∙ e) (sym c.signed_value.ensures ∙ f)) in
    ap Ok (c.from_signed.ensures ∙ ap (λ (z : ℤ). bits w (wrapped w z)) (quot_is w64 x y x_fits y_fits fits)
    ∙ ap (λ (z : ℤ). bits w (wrapped w (int_div z y))) c.signed_value.ensures
    ∙ ap (λ (z : ℤ). bits w (wrapped w (int_div (signed w c.args.a.value) z))) y_is)
    ∙ ap (λ (o : Option NumTrap). modulo w (unless o (wrapped w (int_div (signed w c.args.a.value) (signed w c.args.b.value))))) allowed
