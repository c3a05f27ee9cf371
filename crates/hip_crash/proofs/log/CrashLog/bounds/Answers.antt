use Rattle.std.proofs.Common.{arith}
use Rattle.hip_crash.proofs.Picking.{size-seen}
use Rattle.hip_crash.proofs.log.CrashLog.bounds.Goals as goal

pub line_bounds-requires : goal.line_bounds-requires
line_bounds-requires c = let size = size-seen c.self.inside c.self.invariant c.args.self.now c.self.view_is in omega (arith, c.requires, size)
