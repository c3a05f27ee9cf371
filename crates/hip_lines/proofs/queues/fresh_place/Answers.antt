use Rattle.std.proofs.Common.{◌+◌, length}
use Rattle.hip_lines.proofs.Placed.{unused-end, placed-unused, fresh-from}
use Rattle.hip_lines.proofs.queues.fresh_place.Goals as goal

pub returns-then-is_free-clause-placed : goal.returns-then-is_free-clause-placed
returns-then-is_free-clause-placed c = placed-unused c.args.directory.now c.in-Some.place c.args.queues.now.items c.reuse.new.queues.items (c.is_free.ensures.free c.if-is_free.true) c.reuse.ensures.kept c.requires

pub returns-then-is_free-clause-ok : goal.returns-then-is_free-clause-ok
returns-then-is_free-clause-ok c = fresh-from c.reuse.result c.args.directory.now c.args.line c.in-Some.place c.reuse.new.queues.items (c.is_free.ensures.free c.if-is_free.true) c.reuse.ensures.ok

pub returns-clause-placed : goal.returns-clause-placed
returns-clause-placed c = placed-unused c.args.directory.now (length c.args.queues.now.items) c.args.queues.now.items c.append.new.queues.items (unused-end c.args.directory.now c.args.queues.now.items c.requires) c.append.ensures.kept c.requires

pub returns-clause-ok : goal.returns-clause-ok
returns-clause-ok c = fresh-from c.append.result c.args.directory.now c.args.line (length c.args.queues.now.items) c.append.new.queues.items (unused-end c.args.directory.now c.args.queues.now.items c.requires) c.append.ensures.ok
