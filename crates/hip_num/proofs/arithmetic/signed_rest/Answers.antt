use Rattle.std.proofs.Common.{◌≡◌, None, Ok, ap, sym, ◌∙◌, rules}
use Rattle.std.specs.Prelude.{ℤ, Option, FitsSigned, int_rem}
use Rattle.std.specs.Int.{w64}
use Rattle.std.proofs.lemmas.Int.{rem_is}
use Rattle.hip_types.specs.declared.number.Width.{Width}
use Rattle.hip_types.specs.Numbers.{bits, signed, wrapped}
use Rattle.hip_num.specs.declared.arithmetic.NumTrap.{NumTrap}
use Rattle.hip_num.specs.Arithmetic.{division_fault, modulo, unless}
use Rattle.hip_num.proofs.arithmetic.signed_rest.Goals as goal

pub returns-in-None : goal.returns-in-None
returns-in-None c =
    let w = c.args.a.width in
    let x = c.signed_value.result in
    let y = c.signed_value-in-None.result in
    let allowed : None ≡ division_fault w c.args.a.value c.args.b.value = c.in-None.ensures in
    let y_is : y ≡ signed w c.args.b.value = c.signed_value-in-None.ensures ∙ ap (λ (v : Width). signed v c.args.b.value) (sym c.requires) in
    let x_fits : FitsSigned w64 x = search rules in
    let y_fits : FitsSigned w64 y = search rules in
    ap Ok (c.from_signed.ensures ∙ ap (λ (z : ℤ). bits w (wrapped w z)) (rem_is w64 x y x_fits y_fits)
    ∙ ap (λ (z : ℤ). bits w (wrapped w (int_rem z y))) c.signed_value.ensures
    ∙ ap (λ (z : ℤ). bits w (wrapped w (int_rem (signed w c.args.a.value) z))) y_is)
    ∙ ap (λ (o : Option NumTrap). modulo w (unless o (wrapped w (int_rem (signed w c.args.a.value) (signed w c.args.b.value))))) allowed
