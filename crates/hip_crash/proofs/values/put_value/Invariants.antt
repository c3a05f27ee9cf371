use Rattle.std.proofs.Common.{◌≡◌, ◌<◌, ◌≤◌, ℕ, ◌+◌, ◌&&◌, cond, max, nat_le, nat_lt, length, slice_index}
use Rattle.hip_crash.specs.Values.{stored_byte}
use Rattle.hip_crash.proofs.values.put_value.Given as goal

abbrev pub invariant-loop-at : goal.invariant-loop-at
invariant-loop-at l = record {
  long : length l.bytes ≡ 64;
  most : l.at ≤ max l.from l.end;
  written : (i : ℕ) → i < 64 → slice_index l.bytes i ≡ cond (nat_le l.from (l.start + i) && nat_lt (l.start + i) l.at) (stored_byte l.stored (l.start + i)) (slice_index l.initial.bytes i);
}
