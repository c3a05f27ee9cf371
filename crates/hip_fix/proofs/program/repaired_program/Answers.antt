use Rattle.std.proofs.Common.{◌≡◌, IfOk, subst}
use Rattle.hip_tree.specs.Sites.{has_site}
use Rattle.hip_fix.specs.Walk.{wanted_in}
use Rattle.hip_fix.proofs.Whole.{names_as_long, walked_is}
use Rattle.hip_fix.proofs.program.repaired_program.Goals as goal

pub walk-requires : goal.walk-requires
walk-requires c = names_as_long c.args.program.now c.args.originals.now c.args.names.now c.requires.names

pub returns : goal.returns
returns c =
    subst (λ q. IfOk c.walk.result (λ p. p ≡ q))
    (walked_is c.args.program.now c.args.plan.now (has_site c.args.skip.now) c.args.originals.now c.args.names.now c.in_ok-repair.repair.clones (wanted_in c.in_ok-repair.repair)
    c.requires.originals c.requires.names c.in_ok-repair.ensures.clones c.in_ok-repair.ensures.wanted)
    c.walk.ensures
