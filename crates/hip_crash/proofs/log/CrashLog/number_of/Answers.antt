use Rattle.std.proofs.Common.{◌*◌, ap, length, arith, refl}
use Rattle.hip_crash.specs.Views.{later_in}
use Rattle.hip_crash.proofs.LineBounds.{reach, start-low, image-same, number-viewed, none-viewed, count-fits}
use Rattle.hip_crash.proofs.log.CrashLog.number_of.Goals as goal

pub view-view-requires : goal.view-view-requires
view-view-requires c = reach c.self.inside c.self.invariant c.self.inside.input.now.image refl c.args.self.now c.self.view_is c.args.line c.requires.line

pub overflow_mul-line : goal.overflow_mul-line
overflow_mul-line c = let low = start-low c.self.inside c.self.invariant c.self.inside.input.now.image refl c.args.self.now c.self.view_is c.args.line c.requires.line in omega (arith, low)

pub line-requires : goal.line-requires
line-requires c =
    let far = reach c.self.inside c.self.invariant c.self.inside.input.now.image refl c.args.self.now c.self.view_is c.args.line c.requires.line in
    let same = ap length (image-same c.self.inside c.self.invariant c.self.inside.input.now.image refl c.args.self.now c.self.view_is) in
    omega (arith, far, same, c.requires.whole)

pub find-requires : goal.find-requires
find-requires c = let low = start-low c.self.inside c.self.invariant c.self.inside.input.now.image refl c.args.self.now c.self.view_is c.args.line c.requires.line in omega (arith, low)

pub overflow_add-result : goal.overflow_add-result
overflow_add-result c = let fits = count-fits c.self.inside c.self.invariant c.self.inside.input.now.image refl c.args.self.now c.self.view_is c.args.line c.requires.line c.view-view.result.bytes c.view-view.result.least (later_in c.view-view.result) (c.args.line * 64) c.view-view.ensures.bytes c.view-view.ensures.least c.view-view.ensures.later (omega arith) c.in-Some.count c.in-Some.ensures.0 in omega (arith, fits)

pub returns-in-Some : goal.returns-in-Some
returns-in-Some c = number-viewed c.self.inside c.self.invariant c.self.inside.input.now.image refl c.args.self.now c.self.view_is c.args.line c.requires.line c.view-view.result.bytes c.view-view.result.least (later_in c.view-view.result) (c.args.line * 64) c.view-view.ensures.bytes c.view-view.ensures.least c.view-view.ensures.later (omega arith) c.args.image.now c.requires.whole c.line.result c.line.ensures c.in-Some.count c.in-Some.ensures.0 c.in-Some.ensures.1

pub returns-in-None : goal.returns-in-None
returns-in-None c = none-viewed c.self.inside c.self.invariant c.self.inside.input.now.image refl c.args.self.now c.self.view_is c.args.line c.requires.line c.view-view.result.bytes c.view-view.result.least (later_in c.view-view.result) (c.args.line * 64) c.view-view.ensures.bytes c.view-view.ensures.least c.view-view.ensures.later (omega arith) c.args.image.now c.requires.whole c.line.result c.line.ensures c.in-None.ensures
