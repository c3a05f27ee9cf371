use Rattle.std.proofs.Common.{◌∙◌, ◌+◌, ap, length, List, arith, refl}
use Rattle.hip_crash.specs.declared.values.StoredValue.{StoredValue}
use Rattle.hip_crash.proofs.LineBounds.{reach, few, bounds-are}
use Rattle.hip_crash.proofs.log.CrashLog.line_bounds.Goals as goal

pub view-view-requires : goal.view-view-requires
view-view-requires c = reach c.self.inside c.self.invariant c.self.inside.input.now.image refl c.args.self.now c.self.view_is c.args.line c.requires

pub most-requires : goal.most-requires
most-requires c = omega (arith, c.view-view.ensures.least, ap (λ (xs : List StoredValue). length xs) c.view-view.ensures.later, few c.self.inside c.self.invariant c.self.inside.input.now.image refl c.args.self.now c.self.view_is c.args.line c.requires)

pub returns : goal.returns
returns c =
    bounds-are c.self.inside c.self.invariant c.self.inside.input.now.image refl c.args.self.now c.self.view_is c.args.line c.requires c.view-view.result.least c.most.result c.view-view.ensures.least
    (c.most.ensures ∙ ap (λ (xs : List StoredValue). c.view-view.result.least + length xs) c.view-view.ensures.later)
