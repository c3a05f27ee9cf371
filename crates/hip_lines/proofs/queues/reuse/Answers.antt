use Rattle.std.proofs.Common.{◌∙◌}
use Rattle.hip_lines.proofs.Placed.{fresh-set}
use Rattle.hip_lines.proofs.queues.reuse.Goals as goal

pub returns-clause-ok : goal.returns-clause-ok
returns-clause-ok c = (c.in-Some.ensures.1, fresh-set c.args.line c.args.queues.now.items c.args.place c.make_room.new.self c.requires (c.make_room.ensures.line ∙ c.restart.ensures.line) (c.make_room.ensures.pending ∙ c.restart.ensures.pending) c.in_ok-make_room.ensures.ok)
