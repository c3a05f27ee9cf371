use Rattle.std.proofs.Common.{◌≡◌, ◌⊎◌, ℕ, ◌-◌, ◌≤◌, cond}
use Rattle.std.specs.Prelude.{option_map}
use Rattle.hip_ledger.specs.Pending.{is_between, lines_of, with_flush}
use Rattle.hip_ledger.proofs.pending.flush_range.Given as goal

abbrev pub invariant-each : goal.invariant-each
invariant-each l = record {
  low : l.first ≤ l.next;
  high : (l.next ≡ l.first) ⊎ (l.next ≤ l.end);
  stated : (j : ℕ) → lines_of l.lines j ≡ cond (is_between l.first l.next j) (option_map (with_flush l.flush) (lines_of l.fn.lines j)) (lines_of l.fn.lines j);
}

abbrev pub decreases-each : goal.decreases-each
decreases-each l = l.end - l.next
