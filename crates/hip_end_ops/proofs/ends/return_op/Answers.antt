use Rattle.std.proofs.Common.{subst, ap, ◌∙◌}
use Rattle.hip_tree.specs.declared.block.End.TheVariants as ends
use Rattle.hip_scope.specs.Grown.{grown}
use Rattle.hip_scope.specs.Scopes.{names_of}
use Rattle.hip_scope.specs.Known.{EndKnown}
use Rattle.hip_end_ops.proofs.EndOps.{known_end, ends_nothing}
use Rattle.hip_end_ops.proofs.ends.return_op.Goals as goal

pub give_back-requires-clause-value : goal.give_back-requires-clause-value
give_back-requires-clause-value c =
    subst (EndKnown (names_of c.args.scope.now)) (c.requires.last ∙ ap ends.Ret c.in-Some.is) (known_end c.args.scope.now c.requires.scope c.args.source.now c.requires.source)

pub returns-in-None : goal.returns-in-None
returns-in-None c = ends_nothing c.args.scope.now c.args.source.now (grown c.args.tables.now) (c.requires.last ∙ ap ends.Ret c.in-None.is)
