use Rattle.std.proofs.Common.{true, false, sym, ◌∙◌}
use Rattle.hip_names.proofs.NameLemmas.{number-step}
use Rattle.hip_names.proofs.names.number_in.Goals as goal

pub returns-then-eq : goal.returns-then-eq
returns-then-eq c =
    sym (number-step c.args.names.now c.args.name.now c.each.number _ true c.each-test.true c.if-eq.ensures) ∙ c.each.invariant

pub each-preserved : goal.each-preserved
each-preserved c =
    sym (number-step c.args.names.now c.args.name.now c.each.number _ false c.each-test.true c.if-eq.ensures) ∙ c.each.invariant
