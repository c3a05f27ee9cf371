use Rattle.std.proofs.Common.{subst}
use Rattle.hip_tree.specs.declared.instr.Arg.{Arg}
use Rattle.hip_code.specs.declared.op.OpOperand.TheVariants.{Register}
use Rattle.hip_scope.specs.Grown.{grown}
use Rattle.hip_instr_ops.specs.Effects.{StandsForArg}
use Rattle.hip_scope.specs.Scopes.{OperandStandsFor}
use Rattle.hip_instr_ops.proofs.EffectOps.{arg_known, arg_same, none_there}
use Rattle.hip_scope.proofs.Growth.{makes_also, makes_same}
use Rattle.hip_instr_ops.proofs.externs.argument.Goals as goal

pub operand-requires-clause-known : goal.operand-requires-clause-known
operand-requires-clause-known c = arg_known _ c.args.args.now c.args.index _ c.requires.known c.if-index-args.false c.index-args-index.is

pub returns : goal.returns
returns c =
    makes_also c.in_ok-argument.ensures.stands
    (λ t h x e. subst (λ (a : Arg). OperandStandsFor c.args.scope.now t c.in_ok-argument.argument a.value) (arg_same c.args.args.now c.args.index _ x c.index-args-index.is e) h)

pub returns-then-index-args : goal.returns-then-index-args
returns-then-index-args c =
    makes_same (grown c.args.tables.now) (λ t. StandsForArg c.args.scope.now t (Register 0) c.args.args.now c.args.index)
    (λ v x e. absurd (none_there c.args.args.now c.args.index x c.if-index-args.true e))
