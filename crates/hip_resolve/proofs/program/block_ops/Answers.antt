use Rattle.std.proofs.Common.{◌∷◌, [], List, length, sym, ap, subst, arith}
use Rattle.std.proofs.lemmas.List.{length-append}
use Rattle.hip_code.specs.declared.op.Op.{Op}
use Rattle.hip_scope.specs.Grown.{grown}
use Rattle.hip_resolve.specs.Made.{IsFront}
use Rattle.hip_resolve.proofs.BlockOps.{next_block}
use Rattle.hip_resolve.proofs.Fronts.{front_end, front_grows}
use Rattle.hip_resolve.proofs.program.block_ops.Goals as goal

pub returns-clause-front : goal.returns-clause-front
returns-clause-front c =
    let P = c.args.scope.now.program.now in
    let base = c.args.scope.now.base in
    let last = c.in_ok-op.ensures in
    let front = front_grows P base c.body_ops.new.ops _ _ c.in_ok-body_ops.ensures.front last.makes.grows in
    subst (λ (xs : List Op). IsFront P base xs (grown c.end_op.new.tables)) (sym c.in_ok-push.ensures.ok)
    (front_end P base c.body_ops.new.ops (grown c.end_op.new.tables) c.in_ok-op.op c.args.scope.now.number c.args.number c.args.block.now front c.requires.block c.in_ok-body_ops.ensures.place last.end_is last.makes.lasts)

pub returns-clause-place : goal.returns-clause-place
returns-clause-place c =
    let l = ap length c.in_ok-push.ensures.ok in
    let m = length-append c.body_ops.new.ops (c.in_ok-op.op ∷ []) in
    let p = c.in_ok-body_ops.ensures.place in
    let n = next_block c.args.scope.now c.requires.scope c.args.number c.args.block.now c.requires.block in
    omega (arith, l, m, p, n)
