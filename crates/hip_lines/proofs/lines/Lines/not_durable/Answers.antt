use Rattle.std.proofs.Common.{ap, ◌∙◌, arith}
use Rattle.hip_lines.specs.Parts.{Held, loose_from}
use Rattle.hip_lines.proofs.Helds.{held-length}
use Rattle.hip_lines.proofs.LooseRest.{loose_of-lines}
use Rattle.hip_lines.proofs.lines.Lines.not_durable.Goals as goal

pub new-requires : goal.new-requires
new-requires c = omega (arith, c.requires, c.self.invariant.small, held-length c.self.inside.count c.self.inside.queues _ (ap (λ (h : Held). h.lines) c.self.view_is))

pub returns : goal.returns
returns c =
    c.new.ensures
    ∙ loose_of-lines c.self.inside.queues c.self.inside.count c.args.from c.args.len (omega (arith, c.requires, held-length c.self.inside.count c.self.inside.queues _ (ap (λ (h : Held). h.lines) c.self.view_is)))
    ∙ ap (λ (h : Held). loose_from h.lines c.args.from c.args.len) c.self.view_is
