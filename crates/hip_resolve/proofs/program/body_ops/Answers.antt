use Rattle.std.proofs.Common.{◌≡◌, ◌∷◌, [], List, Some, length, slice_get, refl, sym, ap, subst, arith}
use Rattle.std.proofs.lemmas.List.{length-append}
use Rattle.std.proofs.lemmas.Option.{slice_get_read}
use Rattle.hip_tree.specs.declared.instr.Instr.{Instr}
use Rattle.hip_code.specs.Extents.{IsExtent, keeps_extent}
use Rattle.hip_code.specs.declared.op.Op.{Op}
use Rattle.hip_scope.specs.Grown.{grown}
use Rattle.hip_scope.specs.Scopes.{DoesInstr}
use Rattle.hip_resolve.specs.Made.{IsFront}
use Rattle.hip_resolve.proofs.BlockOps.{does_kept, extent_kept, known_at}
use Rattle.hip_resolve.proofs.Fronts.{front_grows, front_op}
use Rattle.hip_resolve.proofs.program.body_ops.Goals as goal

pub instr_op-requires-clause-known : goal.instr_op-requires-clause-known
instr_op-requires-clause-known c =
    known_at c.args.scope.now c.requires.scope c.args.number c.args.block.now c.requires.block c.translating.index c.index-body-index.result
    (subst (λ (xs : List Instr). slice_get xs c.translating.index ≡ Some c.index-body-index.result) c.as_slice-body.ensures (slice_get_read _ _ _ _ refl c.translating-test.true c.index-body-index.is))

pub translating-preserved : goal.translating-preserved
translating-preserved c =
    let P = c.args.scope.now.program.now in
    let base = c.args.scope.now.base in
    let made = c.in_ok-op.ensures in
    let here = subst (λ (xs : List Instr). slice_get xs c.translating.index ≡ Some c.index-body-index.result) c.as_slice-body.ensures (slice_get_read _ _ _ _ refl c.translating-test.true c.index-body-index.is) in
    let s = c.args.scope.now in
    let extent = c.number_at-extent.result in
    let kept : IsExtent P s.number c.args.number extent = c.requires.scope.extents.at c.args.number extent (subst (λ xs. slice_get xs c.args.number ≡ Some extent) c.as_slice.ensures c.number_at-extent.ensures) in
    let front = front_grows P base c.translating.ops _ _ c.translating.invariant.front made.grows in
    record {
      front = subst (λ (xs : List Op). IsFront P base xs (grown c.instr_op.new.tables)) (sym c.in_ok-push.ensures.ok)
          (front_op P base c.translating.ops (grown c.instr_op.new.tables) c.keeping.result s.number c.args.number c.translating.index c.args.block.now c.index-body-index.result front c.requires.block here c.translating.invariant.place
          (λ u g. subst (λ (o : Op). DoesInstr P base s.number u o c.index-body-index.result) (sym c.keeping.ensures) (does_kept P base s.number u extent c.in_ok-op.op c.index-body-index.result kept.within (made.lasts u g)))
          (subst (λ (o : Op). keeps_extent P s.number c.args.number o) (sym c.keeping.ensures) (extent_kept P s.number c.args.number extent c.in_ok-op.op kept)));
      place = (let l = ap length c.in_ok-push.ensures.ok in let m = length-append c.translating.ops (c.keeping.result ∷ []) in let p = c.translating.invariant.place in omega (arith, l, m, p));
    }
