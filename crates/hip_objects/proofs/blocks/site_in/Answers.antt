use Rattle.std.proofs.Common.{◌-◌, sym, subst, ap, ◌∙◌, arith}
use Rattle.hip_objects.specs.Blocks.{sited}
use Rattle.hip_objects.specs.Order.{AreSplit}
use Rattle.hip_objects.proofs.Search.{none-of-none, last_by}
use Rattle.hip_objects.proofs.Stacks.{first_is_newest}
use Rattle.hip_objects.proofs.blocks.site_in.Goals as goal

pub returns-then-count-eq0 : goal.returns-then-count-eq0
returns-then-count-eq0 c =
    ap sited (sym (none-of-none (λ b. b.addr) (λ b. b.size) (λ b. b.site) c.args.blocks.now c.args.addr
    (subst (λ n. AreSplit (λ b. b.addr) c.args.blocks.now c.args.addr n) c.if-count-eq0.true c.count_upto-count.ensures.split)))
    ∙ first_is_newest c.args.blocks.now c.args.addr c.requires

pub returns : goal.returns
returns c =
    ap sited (c.site_of.ensures
    ∙ last_by (λ b. b.addr) (λ b. b.size) (λ b. b.site) c.args.blocks.now c.args.addr c.count_upto-count.result (c.count_upto-count.result - 1) _ c.requires
    c.count_upto-count.ensures.split c.count_upto-count.ensures.few (omega (arith, c.if-count-eq0.false)))
    ∙ first_is_newest c.args.blocks.now c.args.addr c.requires
