use Rattle.std.proofs.Common.{◌≡◌, length, sym, ap, ◌∙◌, arith}
use Rattle.hip_code.specs.Entries.{entry}
use Rattle.hip_scope.proofs.Places.{next_function}
use Rattle.hip_resolve.proofs.program.resolve_function.Goals as goal

pub returns-clause-place : goal.returns-clause-place
returns-clause-place c =
    let P = c.args.scope.now.program.now in
    let f = c.args.scope.now.number in
    let l = ap length c.as_slice-blocks.ensures in
    let beyond = c.resolving-test.false in
    let within = c.resolving.auto.number-end in
    let e : c.resolving.number ≡ length c.args.scope.now.function.now.blocks = omega (arith, l, beyond, within) in
    c.resolving.invariant.place ∙ ap (entry P f) e ∙ sym (next_function P f c.args.scope.now.function.now c.requires.scope.function)
