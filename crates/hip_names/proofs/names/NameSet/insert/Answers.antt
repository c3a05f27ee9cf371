use Rattle.std.proofs.Common.{◌≡◌, ◌<◌, true, false, is_some, length, refl, sym, ap, ◌∙◌, arith}
use Rattle.hip_names.specs.Names.{number_of}
use Rattle.hip_names.proofs.NameLemmas.{among-rows, pointed}
use Rattle.hip_names.proofs.names.NameSet.insert.Goals as goal

pub returns-then-is_some-clause-new : goal.returns-then-is_some-clause-new
returns-then-is_some-clause-new c =
    let there : is_some (number_of (pointed c.self.inside.few) c.args.name.now) ≡ true =
    ap (λ names. is_some (number_of (pointed names) c.args.name.now)) (sym c.as_slice.ensures)
    ∙ ap is_some (sym c.number_in.ensures) ∙ sym c.is_some.ensures ∙ c.if-is_some.true in
    rw (← c.self.view_is, among-rows (pointed c.self.inside.few) c.self.inside.more c.args.name.now, there) refl

pub returns-then-len-lt-FEW-clause-new : goal.returns-then-len-lt-FEW-clause-new
returns-then-len-lt-FEW-clause-new c =
    let not_there : is_some (number_of (pointed c.self.inside.few) c.args.name.now) ≡ false =
    ap (λ names. is_some (number_of (pointed names) c.args.name.now)) (sym c.as_slice.ensures)
    ∙ ap is_some (sym c.number_in.ensures) ∙ sym c.is_some.ensures ∙ c.if-is_some.false in
    let short : length c.self.inside.few < 4 = omega (arith, c.len.ensures, c.if-len-lt-FEW.true) in
    rw (← c.self.view_is, among-rows (pointed c.self.inside.few) c.self.inside.more c.args.name.now, not_there, c.self.invariant.in_order short) refl

pub returns-clause-new : goal.returns-clause-new
returns-clause-new c =
    let not_there : is_some (number_of (pointed c.self.inside.few) c.args.name.now) ≡ false =
    ap (λ names. is_some (number_of (pointed names) c.args.name.now)) (sym c.as_slice.ensures)
    ∙ ap is_some (sym c.number_in.ensures) ∙ sym c.is_some.ensures ∙ c.if-is_some.false in
    rw (← c.self.view_is, among-rows (pointed c.self.inside.few) c.self.inside.more c.args.name.now, not_there) c.insert.ensures.new
