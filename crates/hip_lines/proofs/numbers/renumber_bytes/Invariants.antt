use Rattle.std.proofs.Common.{◌≡◌, ℕ, cond, nat_lt, length, slice_index}
use Rattle.hip_lines.proofs.numbers.renumber_bytes.Given as goal

abbrev pub invariant-loop-number : goal.invariant-loop-number
invariant-loop-number l = (k : ℕ) → slice_index l.numbers k ≡ cond (nat_lt k l.number-index) (slice_index l.news (slice_index l.initial.numbers k)) (slice_index l.initial.numbers k)
