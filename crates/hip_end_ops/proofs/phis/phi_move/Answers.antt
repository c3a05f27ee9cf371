use Rattle.std.proofs.Common.{◌≡◌, Some, map, slice_get, sym, ap, ◌∙◌}
use Rattle.std.specs.Option.{option_copied}
use Rattle.hip_names.specs.Names.{number_of}
use Rattle.hip_names.specs.Tables.{value_beside}
use Rattle.hip_end_ops.proofs.EdgeOps.{edge_numbered, is_move}
use Rattle.hip_scope.proofs.Growth.{makes_also}
use Rattle.hip_end_ops.proofs.phis.phi_move.Goals as goal

pub unreachable-requires : goal.unreachable-requires
unreachable-requires c =
    edge_numbered _ _ c.args.phi.now c.args.numbers.now c.requires.known c.requires.numbers
    (sym (c.requires.numbers.finds c.args.from.now) ∙ ap (value_beside c.args.numbers.now.names c.args.numbers.now.values) (sym c.as_slice.ensures) ∙ sym c.get.ensures ∙ c.in-None.is)

pub returns-clause-moves : goal.returns-clause-moves
returns-clause-moves c =
    let n : number_of (map (λ e. e.label) c.args.phi.now.edges) c.args.from.now ≡ Some c.in-Some.number =
    sym (c.requires.numbers.finds c.args.from.now) ∙ ap (value_beside c.args.numbers.now.names c.args.numbers.now.values) (sym c.as_slice.ensures) ∙ sym c.get.ensures ∙ c.in-Some.is in
    let e : slice_get c.args.phi.now.edges c.in-Some.number ≡ Some c.in-Some-get.edge.now = sym c.get-2.ensures ∙ ap option_copied c.in-Some-get.is in
    makes_also c.in_ok-value-in-Some-get.ensures.stands (λ t h. is_move _ _ _ t.constants _ c.args.phi.now c.in-Some.number c.in_ok-dest.dest _ c.in-Some-get.edge.now n e c.in_ok-dest.ensures h)
