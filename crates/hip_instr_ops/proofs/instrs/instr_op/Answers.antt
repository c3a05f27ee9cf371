use Rattle.std.proofs.Common.{List, sym, subst}
use Rattle.hip_tree.specs.declared.instr.Arg.{Arg}
use Rattle.hip_tree.specs.declared.instr.Instr.{Instr}
use Rattle.hip_tree.specs.declared.instr.Instr.TheVariants as instrs
use Rattle.hip_scope.specs.Grown.{grown}
use Rattle.hip_scope.specs.Scopes.{DoesHere}
use Rattle.hip_scope.proofs.Growth.{given_also, given_same}
use Rattle.hip_instr_ops.proofs.instrs.instr_op.Goals as goal

pub returns-in-Alloca : goal.returns-in-Alloca
returns-in-Alloca c =
    given_same (grown c.args.tables.now) c.alloca.result c.alloca.ensures
    (λ o t h. subst (λ (i : Instr). DoesHere c.args.scope.now t o i) (sym c.in-Alloca.is) (h c.in-Alloca.align))

pub returns-in-Load : goal.returns-in-Load
returns-in-Load c =
    given_also _ _ c.load.result c.load.ensures
    (λ o t h. subst (λ (i : Instr). DoesHere c.args.scope.now t o i) (sym c.in-Load.is) (h))

pub returns-in-Store : goal.returns-in-Store
returns-in-Store c =
    given_also _ _ c.store.result c.store.ensures
    (λ o t h. subst (λ (i : Instr). DoesHere c.args.scope.now t o i) (sym c.in-Store.is) (h))

pub returns-in-Gep : goal.returns-in-Gep
returns-in-Gep c =
    given_also _ _ c.gep.result c.gep.ensures
    (λ o t h. subst (λ (i : Instr). DoesHere c.args.scope.now t o i) (sym c.in-Gep.is) (subst (λ (xs : List Arg). DoesHere c.args.scope.now t o (instrs.Gep c.in-Gep.dest c.in-Gep.inbounds c.in-Gep.ty c.in-Gep.base xs)) c.as_slice-chosen.ensures (h c.in-Gep.inbounds)))

pub returns-in-Call : goal.returns-in-Call
returns-in-Call c =
    given_also _ _ c.any_call.result c.any_call.ensures
    (λ o t h. subst (λ (i : Instr). DoesHere c.args.scope.now t o i) (sym c.in-Call.is) (subst (λ (xs : List Arg). DoesHere c.args.scope.now t o (instrs.Call c.in-Call.dest c.in-Call.ret c.in-Call.callee xs)) c.as_slice-given.ensures (h c.in-Call.ret)))
