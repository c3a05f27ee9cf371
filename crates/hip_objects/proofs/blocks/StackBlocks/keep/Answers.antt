use Rattle.std.proofs.Common.{sym, subst}
use Rattle.hip_objects.specs.Blocks.{AreStacked, IsPast}
use Rattle.hip_objects.proofs.Stacks.{pushed}
use Rattle.hip_objects.proofs.blocks.StackBlocks.keep.Goals as goal
use Rattle.hip_objects.proofs.blocks.StackBlocks.keep.Goals.{in-Ok, in-Err}

pub invariant_of-self : goal.invariant_of-self
invariant_of-self c = elim c.match-push.branch [
  | in-Ok w ↦ subst (λ xs. AreStacked xs) (sym w.in-Ok.ensures.items)
      (pushed c.self.inside.blocks.items c.args.block c.self.invariant (subst (λ xs. IsPast c.args.block.addr xs) (sym c.self.view_is) c.requires))
  | in-Err w ↦ subst (λ xs. AreStacked xs) (sym w.in-Err.ensures.items) c.self.invariant
]
