use Rattle.hip_scope.specs.Grown.{grown}
use Rattle.hip_instr_ops.proofs.EffectOps.{arg_known}
use Rattle.hip_instr_ops.proofs.CallOps.{passes_none, passes_on, passes_all}
use Rattle.hip_instr_ops.proofs.calls.arguments.Goals as goal

pub operand-requires-clause-known : goal.operand-requires-clause-known
operand-requires-clause-known c = arg_known _ c.args.args.now c.passing.number _ c.requires.known c.passing-test.true c.index-args-number.is

pub passing-init : goal.passing-init
passing-init c = passes_none c.args.scope.now (grown c.args.tables.now)

pub passing-preserved : goal.passing-preserved
passing-preserved c =
    passes_on c.args.scope.now _ _ _ _ c.args.args.now c.passing.number c.in_ok-value.value c.in_ok-dest.dest c.index-args-number.result c.passing.invariant c.in_ok-value.ensures.stands c.in_ok-value.ensures.others
    c.in_ok-dest.ensures c.in_ok-push.ensures.ok c.passing-test.true c.index-args-number.is

pub returns : goal.returns
returns c = passes_all _ _ _ c.args.args.now c.passing.number c.passing-test.false c.passing.invariant
