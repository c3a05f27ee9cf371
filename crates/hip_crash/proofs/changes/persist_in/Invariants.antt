use Rattle.std.proofs.Common.{◌≤◌, ◌/◌, ◌-◌}
use Rattle.hip_crash.specs.Kept.{with_fence, with_flush}
use Rattle.hip_crash.proofs.Walks.{IsWalked}
use Rattle.hip_crash.proofs.changes.persist_in.Given as goal

abbrev pub invariant-persists : goal.invariant-persists
invariant-persists l = record {
  low : l.offset / 64 ≤ l.next;
  walked : IsWalked (λ j k. with_fence j (with_flush k)) l.offset l.len l.next l.initial.lines l.lines;
}

abbrev pub decreases-persists : goal.decreases-persists
decreases-persists l = l.end - l.next
