use Rattle.std.proofs.Common.{◌∙◌, ◌<◌, ap, subst, sym, length, arith}
use Rattle.hip_runs.specs.Crash.{IsCrashImage, crash_image}
use Rattle.hip_runs.specs.Seen.{state_of}
use Rattle.hip_crash.specs.Picks.{bounds_of, number_or, picked}
use Rattle.hip_crash.proofs.PickLaws.{front-more, front-whole}
use Rattle.hip_crash.proofs.Picking.{size-seen, number-between, picked-image, image-valid}
use Rattle.hip_crash.proofs.log.CrashLog.pick_image.Goals as goal

pub bytes_at-bytes-requires-clause-within : goal.bytes_at-bytes-requires-clause-within
bytes_at-bytes-requires-clause-within c =
    let lt : c.lines.line < length (state_of c.args.self.now).lines = omega (arith, c.lines-test.true, c.count-line-end.ensures) in
    number-between c.self.inside c.self.invariant c.args.self.now c.self.view_is c.args.picks.now c.in_ok-numbers.ensures.fit c.lines.line lt c.number_in-number.result
    (c.number_in-number.ensures ∙ c.in_ok-numbers.ensures.numbers.are c.lines.line)

pub lines-preserved : goal.lines-preserved
lines-preserved c =
    let number = c.number_in-number.ensures ∙ c.in_ok-numbers.ensures.numbers.are c.lines.line in
    c.in-Ok.ensures.ok ∙ front-more (crash_image c.args.self.now.input (state_of c.args.self.now) (picked (state_of c.args.self.now) c.args.picks.now)) c.lines.image c.bytes_at-bytes.result c.lines.line c.lines.invariant
    (c.bytes_at-bytes.ensures (picked (state_of c.args.self.now) c.args.picks.now) (ap (number_or (bounds_of (state_of c.args.self.now) c.lines.line).least) (sym number)))

pub returns-clause-image : goal.returns-clause-image
returns-clause-image c = front-whole c.args.self.now.input (state_of c.args.self.now) (picked (state_of c.args.self.now) c.args.picks.now) c.lines.image c.lines.line (size-seen c.self.inside c.self.invariant c.args.self.now c.self.view_is) (omega (arith, c.lines-test.false, c.count-line-end.ensures)) c.lines.invariant

pub returns-clause-is : goal.returns-clause-is
returns-clause-is c =
    let whole = front-whole c.args.self.now.input (state_of c.args.self.now) (picked (state_of c.args.self.now) c.args.picks.now) c.lines.image c.lines.line (size-seen c.self.inside c.self.invariant c.args.self.now c.self.view_is) (omega (arith, c.lines-test.false, c.count-line-end.ensures)) c.lines.invariant in
    subst (IsCrashImage c.args.self.now.input (state_of c.args.self.now)) (sym whole) (picked-image c.self.inside c.self.invariant c.args.self.now c.self.view_is c.args.picks.now c.in_ok-numbers.ensures.fit)

pub returns-clause-valid : goal.returns-clause-valid
returns-clause-valid c =
    let whole = front-whole c.args.self.now.input (state_of c.args.self.now) (picked (state_of c.args.self.now) c.args.picks.now) c.lines.image c.lines.line (size-seen c.self.inside c.self.invariant c.args.self.now c.self.view_is) (omega (arith, c.lines-test.false, c.count-line-end.ensures)) c.lines.invariant in
    image-valid c.self.inside c.self.invariant c.args.self.now c.self.view_is c.lines.image (subst (IsCrashImage c.args.self.now.input (state_of c.args.self.now)) (sym whole) (picked-image c.self.inside c.self.invariant c.args.self.now c.self.view_is c.args.picks.now c.in_ok-numbers.ensures.fit))
