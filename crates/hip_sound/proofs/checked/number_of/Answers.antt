use Rattle.std.proofs.Common.{sym, ap, ◌∙◌}
use Rattle.std.specs.Str.{bytes_eq}
use Rattle.hip_sound.proofs.NumberLemmas.{number_here, number_later}
use Rattle.hip_sound.proofs.checked.number_of.Goals as goal

pub returns-then-eq : goal.returns-then-eq
returns-then-eq c =
    let label = c.as_slice.ensures ∙ ap (λ f. f.name) (sym c.index-functions-number.is) in
    number_here c.args.functions.now c.each.number c.index-functions-number.result c.args.name.now c.each-test.true c.index-functions-number.is c.each.invariant
    (sym (ap (λ n. bytes_eq n c.args.name.now) label) ∙ sym c.eq.ensures ∙ c.if-eq.true)

pub each-preserved : goal.each-preserved
each-preserved c =
    let label = c.as_slice.ensures ∙ ap (λ f. f.name) (sym c.index-functions-number.is) in
    number_later c.args.functions.now c.each.number c.index-functions-number.result c.args.name.now c.each-test.true c.index-functions-number.is c.each.invariant
    (sym (ap (λ n. bytes_eq n c.args.name.now) label) ∙ sym c.eq.ensures ∙ c.if-eq.false)
