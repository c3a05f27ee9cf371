use Rattle.std.proofs.Common.{◌≡◌, Some, None, refl, sym, ap, ◌∙◌}
use Rattle.hip_names.specs.Names.{number_of}
use Rattle.hip_names.proofs.NameLemmas.{number-rows, pointed}
use Rattle.hip_names.proofs.names.NameSet.number_of.Goals as goal

pub returns-in-Some : goal.returns-in-Some
returns-in-Some c =
    let found : number_of (pointed c.self.inside.few) c.args.name.now ≡ Some c.in-Some.number =
    ap (λ names. number_of (pointed names) c.args.name.now) (sym c.as_slice.ensures) ∙ sym c.number_in.ensures ∙ c.in-Some.is in
    rw (← c.self.view_is, number-rows c.self.inside.few c.self.inside.more c.args.name.now, found) refl

pub returns-in_err-number-in-None : goal.returns-in_err-number-in-None
returns-in_err-number-in-None c =
    let none : number_of (pointed c.self.inside.few) c.args.name.now ≡ None =
    ap (λ names. number_of (pointed names) c.args.name.now) (sym c.as_slice.ensures) ∙ sym c.number_in.ensures ∙ c.in-None.is in
    rw (c.from_residual.ensures, ← c.self.view_is, number-rows c.self.inside.few c.self.inside.more c.args.name.now, none, ← c.in_err-number-in-None.ensures.number) refl

pub returns-in_ok-number-in-None : goal.returns-in_ok-number-in-None
returns-in_ok-number-in-None c =
    let none : number_of (pointed c.self.inside.few) c.args.name.now ≡ None =
    ap (λ names. number_of (pointed names) c.args.name.now) (sym c.as_slice.ensures) ∙ sym c.number_in.ensures ∙ c.in-None.is in
    rw (c.len.ensures, ← c.self.view_is, number-rows c.self.inside.few c.self.inside.more c.args.name.now, none, ← c.in_ok-number-in-None.ensures.number) refl
