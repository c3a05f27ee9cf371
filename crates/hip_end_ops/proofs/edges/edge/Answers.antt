use Rattle.std.proofs.Common.{sym, ap, ◌∙◌}
use Rattle.hip_names.specs.Names.{number_of}
use Rattle.hip_end_ops.proofs.EdgeOps.{label_known, is_target, edge_new}
use Rattle.hip_scope.proofs.Names.{known_numbered}
use Rattle.hip_end_ops.proofs.edges.edge.Goals as goal

pub unreachable-requires : goal.unreachable-requires
unreachable-requires c =
    known_numbered _ _ (label_known c.args.scope.now c.requires.scope c.args.source.now c.requires.source c.args.label.now c.requires.named)
    (ap (λ ns. number_of ns c.args.label.now) (sym c.requires.scope.labels) ∙ ap (number_of c.args.scope.now.labels) (sym c.as_slice.ensures) ∙ sym c.number_of.ensures ∙ c.in-None.is)

pub new_edge-requires-clause-target : goal.new_edge-requires-clause-target
new_edge-requires-clause-target c =
    is_target c.args.scope.now c.requires.scope c.args.source.now c.requires.source c.args.label.now c.in-Some.number c.requires.named
    (ap (λ ns. number_of ns c.args.label.now) (sym c.requires.scope.labels) ∙ ap (number_of c.args.scope.now.labels) (sym c.as_slice.ensures) ∙ sym c.number_of.ensures ∙ c.in-Some.is)

pub returns : goal.returns
returns c =
    edge_new c.args.scope.now _ _ c.args.source.now c.in_ok-number.number c.in-Some.number c.args.label.now c.requires.lead c.in_ok-number.ensures
    (ap (λ ns. number_of ns c.args.label.now) (sym c.requires.scope.labels) ∙ ap (number_of c.args.scope.now.labels) (sym c.as_slice.ensures) ∙ sym c.number_of.ensures ∙ c.in-Some.is)
