use Rattle.std.proofs.Common.{subst}
use Rattle.hip_scope.specs.Grown.{grown}
use Rattle.hip_scope.specs.Scopes.{names_of}
use Rattle.hip_scope.specs.Known.{EndKnown}
use Rattle.hip_end_ops.proofs.EndOps.{known_end, ends_unreachable}
use Rattle.hip_end_ops.proofs.ends.end_op.Goals as goal

pub branch_on-requires-clause-test : goal.branch_on-requires-clause-test
branch_on-requires-clause-test c =
    rw c.get.ensures (subst (EndKnown (names_of c.args.scope.now)) c.in-CondBr.is (known_end c.args.scope.now c.requires.scope c.args.source.now c.requires.source))

pub switch-requires-clause-value : goal.switch-requires-clause-value
switch-requires-clause-value c =
    rw c.get-in-Switch.ensures (subst (EndKnown (names_of c.args.scope.now)) c.in-Switch.is (known_end c.args.scope.now c.requires.scope c.args.source.now c.requires.source))

pub returns-in-Unreachable : goal.returns-in-Unreachable
returns-in-Unreachable c = ends_unreachable c.args.scope.now c.args.source.now (grown c.args.tables.now) c.in-Unreachable.is
