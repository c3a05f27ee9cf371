use Rattle.std.proofs.Common.{◌-◌, ◌/◌, ◌≤◌}
use Rattle.hip_mem.proofs.Clears.{IsCleared}
use Rattle.hip_mem.proofs.pages.Pages.clear.Given as goal

abbrev pub invariant-loop-next : goal.invariant-loop-next
invariant-loop-next l = record { cleared : IsCleared l.self l.initial.self l.from l.to l.next; forward : l.from / 4096 ≤ l.next }

abbrev pub decreases-loop-next : goal.decreases-loop-next
decreases-loop-next l = l.end - l.next
