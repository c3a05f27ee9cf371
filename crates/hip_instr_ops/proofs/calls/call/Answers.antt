use Rattle.std.proofs.Common.{◌≡◌, Some, None, length, arith, sym, ap, ◌∙◌}
use Rattle.std.proofs.lemmas.Option.{slice_get_within}
use Rattle.hip_names.specs.Names.{number_of}
use Rattle.hip_instr_ops.proofs.CallOps.{does_call, number_is, number_given}
use Rattle.hip_instr_ops.proofs.calls.call.Goals as goal

pub unreachable-requires : goal.unreachable-requires
unreachable-requires c =
    let none : number_of c.args.scope.now.functions.now c.args.callee.now ≡ None = ap (number_of c.args.scope.now.functions.now) (sym c.as_slice.ensures) ∙ sym c.number_of.ensures ∙ c.in-None.is in
    let there : number_of c.args.scope.now.functions.now c.args.callee.now ≡ Some c.requires.calls.number = ap (λ ns. number_of ns c.args.callee.now) c.requires.scope.functions ∙ c.requires.calls.named in
    cc (none, there)

pub number_at-target-requires : goal.number_at-target-requires
number_at-target-requires c =
    let num = number_is c.args.scope.now c.args.callee.now c.args.args.now c.in-Some.number c.requires.scope c.requires.calls (ap (number_of c.args.scope.now.functions.now) (sym c.as_slice.ensures) ∙ sym c.number_of.ensures ∙ c.in-Some.is) in
    let lt = slice_get_within _ c.requires.calls.number c.requires.calls.function c.requires.calls.here in
    let long = c.requires.scope.starts.as_long in
    omega (arith, num, lt, long)

pub number_at-size-requires : goal.number_at-size-requires
number_at-size-requires c =
    let num = number_is c.args.scope.now c.args.callee.now c.args.args.now c.in-Some.number c.requires.scope c.requires.calls (ap (number_of c.args.scope.now.functions.now) (sym c.as_slice.ensures) ∙ sym c.number_of.ensures ∙ c.in-Some.is) in
    let lt = slice_get_within _ c.requires.calls.number c.requires.calls.function c.requires.calls.here in
    let long = c.requires.scope.sizes.as_long in
    omega (arith, num, lt, long)

pub returns : goal.returns
returns c =
    let num = number_is c.args.scope.now c.args.callee.now c.args.args.now c.in-Some.number c.requires.scope c.requires.calls (ap (number_of c.args.scope.now.functions.now) (sym c.as_slice.ensures) ∙ sym c.number_of.ensures ∙ c.in-Some.is) in
    let lt = slice_get_within _ c.requires.calls.number c.requires.calls.function c.requires.calls.here in
    let target = number_given c.args.scope.now.program.now _ _ c.in-Some.number c.requires.calls.number _ num c.requires.scope.starts lt c.number_at-target.ensures in
    let size = number_given c.args.scope.now.program.now _ _ c.in-Some.number c.requires.calls.number _ num c.requires.scope.sizes lt c.number_at-size.ensures in
    record {
      grows = c.in_ok-arguments.ensures.makes.grows;
      lasts = λ v g ret.
          does_call c.args.scope.now _ _ v _ ret _ _ _ c.requires.scope c.requires.calls (c.in_ok-function.ensures ∙ num) c.in_ok-arguments.ensures g target size
          (c.in_ok-frame.ensures ∙ c.len-2.ensures.length ∙ ap length c.requires.scope.registers) c.in_ok-slot.ensures (c.in_ok-from.ensures ∙ c.len.ensures) c.in_ok-count.ensures c.has_pointer.ensures;
    }
