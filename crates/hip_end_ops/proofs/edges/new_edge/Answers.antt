use Rattle.std.proofs.Common.{ℕ, ◌≡◌, List, Some, None, length, slice_get, sym, ap, ◌∙◌, subst, arith}
use Rattle.std.specs.Option.{option_copied}
use Rattle.std.proofs.lemmas.Option.{same_Some, slice_get_within}
use Rattle.hip_tree.specs.declared.block.Phi.{Phi}
use Rattle.hip_names.specs.declared.table.NameTable.{NameTable}
use Rattle.hip_runs.specs.Places.{blocks_of}
use Rattle.hip_end_ops.specs.Edged.{PutsMoves}
use Rattle.hip_scope.specs.Grown.{grown}
use Rattle.hip_scope.specs.PhiNumbers.{NumbersPhis}
use Rattle.hip_end_ops.proofs.EdgeOps.{block_here, edge_made}
use Rattle.hip_end_ops.proofs.edges.new_edge.Goals as goal

pub unreachable-requires-in-None-get : goal.unreachable-requires-in-None-get
unreachable-requires-in-None-get c =
    let b = block_here c.args.scope.now c.requires.scope c.args.target c.requires.target.block c.requires.target.here in
    let same : c.requires.target.block ≡ c.in-Some.block.now = same_Some _ _ (sym b ∙ sym c.get.ensures ∙ ap option_copied c.in-Some.is) in
    let h = c.requires.scope.sources c.args.target c.in-Some.block.now (c.requires.target.here ∙ ap Some same) in
    let there = h.here in
    let none : slice_get c.args.scope.now.sources c.args.target ≡ None = sym c.get-2.ensures ∙ ap option_copied c.in-None-get.is in
    cc (none, there)

pub phi_moves-requires-clause-numbers : goal.phi_moves-requires-clause-numbers
phi_moves-requires-clause-numbers c =
    let b = block_here c.args.scope.now c.requires.scope c.args.target c.requires.target.block c.requires.target.here in
    let same : c.requires.target.block ≡ c.in-Some.block.now = same_Some _ _ (sym b ∙ sym c.get.ensures ∙ ap option_copied c.in-Some.is) in
    let h = c.requires.scope.sources c.args.target c.in-Some.block.now (c.requires.target.here ∙ ap Some same) in
    let tables : h.tables ≡ c.in-Some-get.numbers.now = same_Some _ _ (sym h.here ∙ sym c.get-2.ensures ∙ ap option_copied c.in-Some-get.is) in
    subst (λ (ps : List Phi). NumbersPhis c.in-Some-get.numbers.now ps) (sym c.as_slice.ensures) (subst (λ (ts : List (NameTable ℕ)). NumbersPhis ts c.in-Some.block.now.phis) tables h.numbers)

pub number_at-begins-requires : goal.number_at-begins-requires
number_at-begins-requires c =
    let w = slice_get_within (blocks_of c.args.scope.now.program.now c.args.scope.now.number) c.args.target c.requires.target.block c.requires.target.here in
    let l = ap length c.as_slice-2.ensures in
    let k = c.requires.scope.as_long in
    omega (arith, w, l, k)

pub returns : goal.returns
returns c =
    let b = block_here c.args.scope.now c.requires.scope c.args.target c.requires.target.block c.requires.target.here in
    let same : c.requires.target.block ≡ c.in-Some.block.now = same_Some _ _ (sym b ∙ sym c.get.ensures ∙ ap option_copied c.in-Some.is) in
    edge_made c.args.scope.now _ _ c.args.source.now c.args.target c.in_ok-number.number c.in_ok-from.from c.in_ok-count.count c.number_at-begins.result c.in_ok-block.block c.push.new.self c.in-Some.block.now c.requires.scope c.requires.source
    (c.requires.target.here ∙ ap Some same) (subst (λ (ps : List Phi). PutsMoves c.args.scope.now (grown c.args.tables.now) (grown c.phi_moves.new.tables) c.args.source.now.block.now.label ps) c.as_slice.ensures c.in_ok-phi_moves.ensures)
    (c.in_ok-from.ensures ∙ c.len.ensures) (c.in_ok-count.ensures ∙ c.len-2.ensures) (c.in_ok-number.ensures ∙ c.len-3.ensures) c.in_ok-block.ensures
    (ap (λ xs. slice_get xs c.args.target) (sym c.as_slice-2.ensures) ∙ c.number_at-begins.ensures) c.in_ok-push.ensures.ok
