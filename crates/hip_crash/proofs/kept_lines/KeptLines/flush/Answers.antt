use Rattle.std.proofs.Common.{◌-◌, refl, subst}
use Rattle.hip_crash.specs.Kept.{with_flush}
use Rattle.hip_crash.specs.Places.{ChangesKeptPlace}
use Rattle.hip_crash.proofs.Placed.{some-place, placed-changed, changes-line}
use Rattle.hip_crash.proofs.kept_lines.KeptLines.flush.Goals as goal

pub invariant_of-self : goal.invariant_of-self
invariant_of-self c = record { placed = placed-changed with_flush c.args.self.now.directory c.args.self.now.lines.items c.flush_at.new.lines.items c.args.line c.args.self.now.placed (some-place c.args.self.now c.args.line c.requires) (subst (λ n. ChangesKeptPlace with_flush (n - 1) c.args.self.now.lines.items c.flush_at.new.lines.items) c.get.ensures.number c.flush_at.ensures) }

pub returns : goal.returns
returns c = changes-line with_flush c.args.self.now _ c.args.line refl (some-place c.args.self.now c.args.line c.requires) (subst (λ n. ChangesKeptPlace with_flush (n - 1) c.args.self.now.lines.items c.flush_at.new.lines.items) c.get.ensures.number c.flush_at.ensures)
