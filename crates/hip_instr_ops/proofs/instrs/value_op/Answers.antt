use Rattle.std.proofs.Common.{sym, subst}
use Rattle.hip_tree.specs.declared.instr.Instr.{Instr}
use Rattle.hip_tree.specs.declared.instr.Instr.TheVariants as instrs
use Rattle.hip_scope.specs.Scopes.{DoesHere}
use Rattle.hip_scope.proofs.Growth.{given_also}
use Rattle.hip_instr_ops.proofs.instrs.value_op.Goals as goal

pub returns-in-Binary : goal.returns-in-Binary
returns-in-Binary c =
    given_also _ _ c.binary.result c.binary.ensures
    (λ o t h. subst (λ (i : Instr). DoesHere c.args.scope.now t o i) (sym c.in-Binary.is) (h c.in-Binary.flags))

pub returns-in-Compare : goal.returns-in-Compare
returns-in-Compare c =
    given_also _ _ c.compare.result c.compare.ensures
    (λ o t h. subst (λ (i : Instr). DoesHere c.args.scope.now t o i) (sym c.in-Compare.is) (h))

pub returns-in-Select : goal.returns-in-Select
returns-in-Select c =
    given_also _ _ c.select.result c.select.ensures
    (λ o t h. subst (λ (i : Instr). DoesHere c.args.scope.now t o i) (sym c.in-Select.is)
    (subst (λ test. DoesHere c.args.scope.now t o (instrs.Select c.in-Select.dest test c.in-Select.ty c.in-Select.a c.in-Select.b))
    c.get.ensures (h c.in-Select.ty)))

pub returns-in-Cast : goal.returns-in-Cast
returns-in-Cast c =
    given_also _ _ c.cast.result c.cast.ensures
    (λ o t h. subst (λ (i : Instr). DoesHere c.args.scope.now t o i) (sym c.in-Cast.is) (h))
