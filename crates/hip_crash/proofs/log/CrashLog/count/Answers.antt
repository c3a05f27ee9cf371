use Rattle.std.proofs.Common.{arith, refl}
use Rattle.hip_crash.proofs.LineBounds.{image-lines}
use Rattle.hip_crash.proofs.log.CrashLog.count.Goals as goal

pub returns : goal.returns
returns c = let many = image-lines c.self.inside c.self.invariant c.self.inside.input.now.image refl c.args.self.now c.self.view_is in omega (arith, many, c.len.ensures)
