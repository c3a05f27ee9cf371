use Rattle.std.proofs.Common.{◌≡◌, ◌+◌, ◌*◌, ◌/◌, ◌<◌, cond, length, refl, sym, ap, ◌∙◌, subst, arith}
use Rattle.hip_runs.specs.Step.{image_lines, some_byte}
use Rattle.hip_crash.proofs.ImageLines.{lines-more}
use Rattle.hip_crash.proofs.entry_counts.count_lines.Goals as goal
use Rattle.hip_crash.proofs.entry_counts.count_lines.Goals.{then-has_byte, else-has_byte}

pub lines-preserved : goal.lines-preserved
lines-preserved c =
    let count : c.if-has_byte.count ≡ c.lines.count + cond c.has_byte.result 1 0 =
    elim c.if-has_byte.branch [
      | then-has_byte w ↦ w.count-is ∙ ap (λ b. c.lines.count + cond b 1 0) (sym w.if-has_byte.true)
      | else-has_byte w ↦ w.count-is ∙ (let z : c.lines.count ≡ c.lines.count + 0 = omega arith in z) ∙ ap (λ b. c.lines.count + cond b 1 0) (sym w.if-has_byte.false)
    ]
    in
    record {
      most = elim c.if-has_byte.branch [ then-has_byte w ↦ omega (arith, w.count-is, c.lines.invariant.most) | else-has_byte w ↦ omega (arith, w.count-is, c.lines.invariant.most) ];
      count = lines-more c.args.image.now (length c.args.image.now / 64) c.lines.line c.lines.count c.if-has_byte.count (image_lines (length c.args.image.now / 64) c.args.image.now) (64 * c.lines.line) 64 c.has_byte.result (subst (λ n. c.lines.line < n / 64) c.len.ensures c.lines-test.true) refl refl (c.has_byte.ensures ∙ ap some_byte c.line.ensures) count c.lines.invariant.count;
    }
