use Rattle.std.proofs.Common.{◌≡◌, ℕ, cond, take}
use Rattle.std.specs.List.{list_any}
use Rattle.std.specs.Ordering.{nat_cmp}
use Rattle.std.specs.BTreeMap.{is_at}
use Rattle.hip_lines.specs.Pending.{pending_fenced}
use Rattle.hip_lines.specs.Kept.{count_of, pending_at, AreBelow}
use Rattle.hip_lines.proofs.kept.fence_in.Given as goal

abbrev pub invariant-loop-line : goal.invariant-loop-line
invariant-loop-line l = ((j : ℕ) → pending_at l.queues j ≡ cond (list_any (is_at (nat_cmp j)) (take l.line-index l.flushed)) (pending_fenced (pending_at l.initial.queues j)) (pending_at l.initial.queues j)) × ((n : ℕ) → AreBelow n l.initial.queues → AreBelow n l.queues) × (count_of l.queues ≡ count_of l.initial.queues)
