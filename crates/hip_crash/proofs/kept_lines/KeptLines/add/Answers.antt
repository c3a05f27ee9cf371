use Rattle.std.proofs.Common.{◌≡◌, ◌+◌, ◌==◌, cond, length, ap, arith, ◌∙◌, sym, subst}
use Rattle.hip_directory.specs.Directories.{number_at}
use Rattle.hip_crash.specs.Places.{KeptLinesArePlaced}
use Rattle.hip_crash.proofs.Placed.{placed-same, placed-added, gives-line}
use Rattle.hip_crash.proofs.kept_lines.KeptLines.add.Goals as goal

pub invariant_of-self-2 : goal.invariant_of-self-2
invariant_of-self-2 c =
    let place : c.len-place.result + 1 ≡ length c.args.self.now.lines.items + 1 = omega (arith, c.len-place.ensures, c.args.self.now.lines.ok.0) in
    record {
      placed = subst (KeptLinesArePlaced c.set.new.self) (sym c.in_ok-append.ensures.ok) (placed-added c.make_room.new.self c.set.new.self c.args.self.now.lines.items c.args.line c.new.result
          (placed-same c.args.self.now.directory c.make_room.new.self c.args.self.now.lines.items c.make_room.ensures.same c.args.self.now.placed) c.new.ensures.line
          (λ j. c.set.ensures.numbers j ∙ ap (λ n. cond (j == c.args.line) n (number_at c.make_room.new.self j)) place));
    }

pub returns-clause-ok : goal.returns-clause-ok
returns-clause-ok c =
    let place : c.len-place.result + 1 ≡ length c.args.self.now.lines.items + 1 = omega (arith, c.len-place.ensures, c.args.self.now.lines.ok.0) in
    gives-line c.args.self.now _ c.make_room.new.self c.args.line c.new.result _ c.new.ensures.kept c.make_room.ensures.same (λ j. c.set.ensures.numbers j ∙ ap (λ n. cond (j == c.args.line) n (number_at c.make_room.new.self j)) place) c.new.ensures.line c.in_ok-append.ensures.ok
