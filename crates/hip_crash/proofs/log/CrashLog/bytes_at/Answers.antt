use Rattle.std.proofs.Common.{◌≡◌, ◌∙◌, ◌≤◌, ◌*◌, ap, subst, arith, refl}
use Rattle.hip_runs.specs.Seen.{state_of}
use Rattle.hip_crash.specs.Picks.{bounds_of, number_or}
use Rattle.hip_crash.specs.Views.{later_in}
use Rattle.hip_crash.proofs.LineBounds.{reach, start-low, piece-viewed, bounds-least, bounds-most}
use Rattle.hip_crash.proofs.log.CrashLog.bytes_at.Goals as goal

pub view-view-requires : goal.view-view-requires
view-view-requires c = reach c.self.inside c.self.invariant c.self.inside.input.now.image refl c.args.self.now c.self.view_is c.args.line c.requires.line

pub overflow_mul-line : goal.overflow_mul-line
overflow_mul-line c = let low = start-low c.self.inside c.self.invariant c.self.inside.input.now.image refl c.args.self.now c.self.view_is c.args.line c.requires.line in omega (arith, low)

pub later_count-requires : goal.later_count-requires
later_count-requires c = subst (λ n. n ≤ number_or n c.args.number) (bounds-least c.self.inside c.self.invariant c.self.inside.input.now.image refl c.args.self.now c.self.view_is c.args.line c.requires.line c.view-view.result.bytes c.view-view.result.least (later_in c.view-view.result) (c.args.line * 64) c.view-view.ensures.bytes c.view-view.ensures.least c.view-view.ensures.later (omega arith)) c.requires.within.least

pub bytes_after-requires-clause-start : goal.bytes_after-requires-clause-start
bytes_after-requires-clause-start c = let low = start-low c.self.inside c.self.invariant c.self.inside.input.now.image refl c.args.self.now c.self.view_is c.args.line c.requires.line in omega (arith, low)

pub bytes_after-requires-clause-count : goal.bytes_after-requires-clause-count
bytes_after-requires-clause-count c =
    let most = bounds-most c.self.inside c.self.invariant c.self.inside.input.now.image refl c.args.self.now c.self.view_is c.args.line c.requires.line c.view-view.result.bytes c.view-view.result.least (later_in c.view-view.result) (c.args.line * 64) c.view-view.ensures.bytes c.view-view.ensures.least c.view-view.ensures.later (omega arith) in
    let same : number_or (bounds_of (state_of c.args.self.now) c.args.line).least c.args.number ≡ number_or c.view-view.result.least c.args.number = ap (λ n. number_or n c.args.number) (bounds-least c.self.inside c.self.invariant c.self.inside.input.now.image refl c.args.self.now c.self.view_is c.args.line c.requires.line c.view-view.result.bytes c.view-view.result.least (later_in c.view-view.result) (c.args.line * 64) c.view-view.ensures.bytes c.view-view.ensures.least c.view-view.ensures.later (omega arith)) in
    omega (arith, c.later_count.ensures, most, same, c.requires.within.most)

pub returns : goal.returns
returns c = λ pick e.
    let least = bounds-least c.self.inside c.self.invariant c.self.inside.input.now.image refl c.args.self.now c.self.view_is c.args.line c.requires.line c.view-view.result.bytes c.view-view.result.least (later_in c.view-view.result) (c.args.line * 64) c.view-view.ensures.bytes c.view-view.ensures.least c.view-view.ensures.later (omega arith) in
    let q = number_or c.view-view.result.least c.args.number in
    piece-viewed c.self.inside c.self.invariant c.self.inside.input.now.image refl c.args.self.now c.self.view_is c.args.line c.requires.line c.view-view.result.bytes c.view-view.result.least (later_in c.view-view.result) (c.args.line * 64) c.view-view.ensures.bytes c.view-view.ensures.least c.view-view.ensures.later (omega arith) pick q c.later_count.result c.bytes_after.result
    (subst (λ n. n ≤ number_or n c.args.number) least c.requires.within.least) c.later_count.ensures (e ∙ ap (λ n. number_or n c.args.number) least) c.bytes_after.ensures
