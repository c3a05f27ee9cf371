use Rattle.std.proofs.Common.{◌+◌, ◌∙◌, ap}
use Rattle.hip_code.specs.Moves.{put}
use Rattle.hip_core.specs.Acts.{numbers_of}
use Rattle.hip_core.specs.declared.core_parts.Core.{Core}
use Rattle.hip_core.proofs.BranchArms.{follows}
use Rattle.hip_core.proofs.branches.follow.Goals as goal

pub returns-clause-ok : goal.returns-clause-ok
returns-clause-ok c =
    let old = c.args.core.now in
    let edge = c.edge_at-edge.result in
    follows c.make_moves.new.core edge c.edge_at-edge.ensures.here
    (c.in_ok-make_moves.ensures.ok ∙ ap (λ ms. put (numbers_of c.args.code.now old) old.top.base ms old.slots.items) c.moves_of-moves.ensures)
    (c.go.ensures ∙ ap (λ (k : Core). record k { top = record k.top { place = edge.target; entry = edge.target; block = edge.block }; taken = k.taken + 1; turns = k.turns + 1 }) c.make_moves.ensures.others)
