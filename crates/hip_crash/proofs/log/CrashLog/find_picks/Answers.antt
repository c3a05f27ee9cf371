use Rattle.std.proofs.Common.{subst, sym, arith}
use Rattle.hip_runs.specs.Seen.{state_of}
use Rattle.hip_crash.specs.Numbers.{IsNumberOf}
use Rattle.hip_crash.proofs.PickLaws.{AreFound, found-more, found-all, not-image}
use Rattle.hip_crash.proofs.Picking.{size-seen}
use Rattle.hip_crash.proofs.log.CrashLog.find_picks.Goals as goal

pub returns-in-None : goal.returns-in-None
returns-in-None c = not-image c.args.self.now.input (state_of c.args.self.now) c.args.image.now c.lines.line (omega (arith, c.lines-test.true, c.count-line-end.ensures)) (subst (IsNumberOf c.args.self.now.input (state_of c.args.self.now) c.args.image.now c.lines.line) c.in-None.is c.number_of.ensures)

pub lines-preserved : goal.lines-preserved
lines-preserved c =
    subst (AreFound c.args.self.now.input (state_of c.args.self.now) c.args.image.now _) (sym c.in_ok-push-in-Some.ensures.ok)
    (found-more c.args.self.now.input (state_of c.args.self.now) c.args.image.now c.lines.line c.lines.picks c.in-Some.upto c.lines.invariant (subst (IsNumberOf c.args.self.now.input (state_of c.args.self.now) c.args.image.now c.lines.line) c.in-Some.is c.number_of.ensures))

pub returns : goal.returns
returns c = found-all c.args.self.now.input (state_of c.args.self.now) c.args.image.now c.lines.line c.lines.picks (size-seen c.self.inside c.self.invariant c.args.self.now c.self.view_is) c.requires (omega (arith, c.lines-test.false, c.lines.auto.line-end, c.count-line-end.ensures)) c.lines.invariant
