use Rattle.std.proofs.Common.{ℕ, ◌≡◌, None, map, slice_get, sym, ap, ◌∙◌, subst}
use Rattle.std.specs.Option.{option_copied}
use Rattle.std.proofs.lemmas.Option.{same_Some}
use Rattle.hip_names.specs.declared.table.NameTable.{NameTable}
use Rattle.hip_names.specs.Numbered.{NumbersNames}
use Rattle.hip_scope.specs.Grown.{grown}
use Rattle.hip_end_ops.proofs.EdgeOps.{moves_none, moves_on, moves_all, phi_at}
use Rattle.hip_end_ops.proofs.phis.phi_moves.Goals as goal

pub moving-init : goal.moving-init
moving-init c = moves_none c.args.scope.now (grown c.args.tables.now) c.args.from.now

pub moving-preserved : goal.moving-preserved
moving-preserved c =
    moves_on c.args.scope.now _ _ _ _ _ c.args.phis.now c.moving.index c.in_ok-moved-in-Some.moved c.index-phis-index.result c.moving.invariant c.in_ok-moved-in-Some.ensures.moves c.in_ok-moved-in-Some.ensures.others
    c.in_ok-push-in-Some.ensures.ok c.moving-test.true c.index-phis-index.is

pub phi_move-requires-clause-known : goal.phi_move-requires-clause-known
phi_move-requires-clause-known c = c.requires.known.at c.moving.index c.index-phis-index.result (phi_at c.args.phis.now c.moving.index _ c.moving-test.true c.index-phis-index.is)

pub phi_move-requires-clause-numbers : goal.phi_move-requires-clause-numbers
phi_move-requires-clause-numbers c =
    let h = c.requires.numbers.at c.moving.index c.index-phis-index.result (phi_at c.args.phis.now c.moving.index _ c.moving-test.true c.index-phis-index.is) in
    let same : h.table ≡ c.in-Some.numbers.now = same_Some h.table c.in-Some.numbers.now (sym h.here ∙ sym c.get.ensures ∙ ap option_copied c.in-Some.is) in
    subst (λ (t : NameTable ℕ). NumbersNames t.names t.values (map (λ e. e.label) c.index-phis-index.result.edges)) same h.numbers

pub unreachable-requires : goal.unreachable-requires
unreachable-requires c =
    let h = c.requires.numbers.at c.moving.index c.index-phis-index.result (phi_at c.args.phis.now c.moving.index _ c.moving-test.true c.index-phis-index.is) in
    let there = h.here in
    let none : slice_get c.args.numbers.now c.moving.index ≡ None = sym c.get.ensures ∙ ap option_copied c.in-None.is in
    cc (none, there)

pub returns : goal.returns
returns c = moves_all _ _ _ _ c.args.phis.now c.moving.index c.moving-test.false c.moving.invariant
