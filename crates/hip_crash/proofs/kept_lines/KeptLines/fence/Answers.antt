use Rattle.std.proofs.Common.{◌<◌, ◌-◌, ap, arith, ◌∙◌, sym, slice_get, refl, subst}
use Rattle.hip_directory.specs.Directories.{number_at}
use Rattle.hip_crash.specs.Kept.{with_fence}
use Rattle.hip_crash.specs.Places.{ChangesKeptPlace}
use Rattle.hip_crash.proofs.Placed.{at-place, placed-changed, changes-line}
use Rattle.hip_crash.proofs.kept_lines.KeptLines.fence.Goals as goal

pub fence_at-requires-clause-line : goal.fence_at-requires-clause-line
fence_at-requires-clause-line c = λ x e.
    let some : 0 < number_at c.args.self.now.directory c.args.line = omega (arith, c.get-place.ensures.number, c.if-place-ne0.true) in
    (at-place c.args.self.now c.args.line x some (ap (λ n. slice_get c.args.self.now.lines.items (n - 1)) (sym c.get-place.ensures.number) ∙ e)).1

pub invariant_of-self : goal.invariant_of-self
invariant_of-self c =
    let some : 0 < number_at c.args.self.now.directory c.args.line = omega (arith, c.get-place.ensures.number, c.if-place-ne0.true) in
    record { placed = placed-changed (with_fence c.args.line) c.args.self.now.directory c.args.self.now.lines.items c.fence_at.new.lines.items c.args.line c.args.self.now.placed some (subst (λ n. ChangesKeptPlace (with_fence c.args.line) (n - 1) c.args.self.now.lines.items c.fence_at.new.lines.items) c.get-place.ensures.number c.fence_at.ensures) }

pub returns-then-place-ne0 : goal.returns-then-place-ne0
returns-then-place-ne0 c =
    let some : 0 < number_at c.args.self.now.directory c.args.line = omega (arith, c.get-place.ensures.number, c.if-place-ne0.true) in
    changes-line (with_fence c.args.line) c.args.self.now _ c.args.line refl some (subst (λ n. ChangesKeptPlace (with_fence c.args.line) (n - 1) c.args.self.now.lines.items c.fence_at.new.lines.items) c.get-place.ensures.number c.fence_at.ensures)
