use Rattle.std.proofs.Common.{◌≤◌, ◌/◌, ◌-◌}
use Rattle.hip_crash.specs.Kept.{with_flush}
use Rattle.hip_crash.specs.KeptLines.{AreListed}
use Rattle.hip_crash.proofs.Walks.{IsWalked}
use Rattle.hip_crash.proofs.changes.flush_in.Given as goal

abbrev pub invariant-flushes : goal.invariant-flushes
invariant-flushes l = record {
  low : l.offset / 64 ≤ l.next;
  walked : IsWalked (λ _ k. with_flush k) l.offset l.len l.next l.initial.lines l.lines;
  listed : AreListed l.flushed.items l.lines;
}

abbrev pub decreases-flushes : goal.decreases-flushes
decreases-flushes l = l.end - l.next
