use Rattle.std.proofs.Common.{◌-◌, sym, subst, ◌∙◌, arith}
use Rattle.hip_objects.specs.Order.{AreSplit}
use Rattle.hip_objects.proofs.Search.{none-of-none, last_by}
use Rattle.hip_objects.proofs.globals.number_in.Goals as goal

pub returns-then-count-eq0 : goal.returns-then-count-eq0
returns-then-count-eq0 c = sym (none-of-none (λ p. p.start) (λ p. p.size) (λ p. p.number) c.args.places.now c.args.addr
    (subst (λ n. AreSplit (λ p. p.start) c.args.places.now c.args.addr n) c.if-count-eq0.true c.count_upto-count.ensures.split))

pub returns : goal.returns
returns c =
    c.number_of.ensures
    ∙ last_by (λ p. p.start) (λ p. p.size) (λ p. p.number) c.args.places.now c.args.addr c.count_upto-count.result (c.count_upto-count.result - 1) _ c.requires
    c.count_upto-count.ensures.split c.count_upto-count.ensures.few (omega (arith, c.if-count-eq0.false))
