use Rattle.std.proofs.Common.{◌≡◌, ℕ, cond, nat_lt, ◌-◌, slice_index}
use Rattle.hip_lines.proofs.numbers.lower.Given as goal

abbrev pub invariant-loop-number : goal.invariant-loop-number
invariant-loop-number l = (k : ℕ) → slice_index l.numbers k ≡ cond (nat_lt k l.number-index) (slice_index l.initial.numbers k - l.by) (slice_index l.initial.numbers k)
