use Rattle.std.proofs.Common.{◌≡◌, drop}
use Rattle.hip_runs.specs.Step.{some_byte}
use Rattle.hip_crash.proofs.entry_counts.has_byte.Given as goal

abbrev pub invariant-loop-byte : goal.invariant-loop-byte
invariant-loop-byte l = some_byte (drop l.byte-index l.bytes) ≡ some_byte l.bytes
