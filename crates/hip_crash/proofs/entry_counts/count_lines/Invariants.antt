use Rattle.std.proofs.Common.{◌≡◌, ◌≤◌, ◌+◌, ◌-◌, ◌*◌, ◌/◌, drop, length}
use Rattle.hip_runs.specs.Step.{image_lines}
use Rattle.hip_crash.proofs.entry_counts.count_lines.Given as goal

abbrev pub invariant-lines : goal.invariant-lines
invariant-lines l = record {
  most : l.count ≤ l.line;
  count : l.count + image_lines (length l.image / 64 - l.line) (drop (64 * l.line) l.image) ≡ image_lines (length l.image / 64) l.image;
}
