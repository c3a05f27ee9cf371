use Rattle.std.proofs.Common.{◌-◌, refl, subst}
use Rattle.hip_crash.specs.Kept.{with_store}
use Rattle.hip_crash.specs.Places.{ChangesKeptPlace}
use Rattle.hip_lines.specs.Laws.ItemLaws.{on_ok_map}
use Rattle.hip_crash.proofs.Placed.{on_err_map, some-place, placed-either, changes-line, changes-nothing}
use Rattle.hip_crash.proofs.kept_lines.KeptLines.push.Goals as goal

pub invariant_of-self : goal.invariant_of-self
invariant_of-self c = record { placed = placed-either c.push_at.result (with_store c.args.stored) (λ k. k) c.args.self.now.directory c.args.self.now.lines.items c.push_at.new.lines.items c.args.line c.get.result c.args.self.now.placed (some-place c.args.self.now c.args.line c.requires.there) c.get.ensures.number c.push_at.ensures.ok c.push_at.ensures.err }

pub returns-clause-ok : goal.returns-clause-ok
returns-clause-ok c = on_ok_map c.push_at.result (λ h. changes-line (with_store c.args.stored) c.args.self.now _ c.args.line refl (some-place c.args.self.now c.args.line c.requires.there) (subst (λ n. ChangesKeptPlace (with_store c.args.stored) (n - 1) c.args.self.now.lines.items c.push_at.new.lines.items) c.get.ensures.number h)) c.push_at.ensures.ok

pub returns-clause-err : goal.returns-clause-err
returns-clause-err c = on_err_map c.push_at.result (λ h. changes-nothing c.args.self.now _ c.args.line (changes-line (λ k. k) c.args.self.now _ c.args.line refl (some-place c.args.self.now c.args.line c.requires.there) (subst (λ n. ChangesKeptPlace (λ k. k) (n - 1) c.args.self.now.lines.items c.push_at.new.lines.items) c.get.ensures.number h))) c.push_at.ensures.err
