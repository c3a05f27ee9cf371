use Rattle.std.proofs.Common.{◌≡◌, drop}
use Rattle.hip_runs.specs.Step.{some_byte}
use Rattle.hip_lockstep.proofs.header.some_byte.Given as goal

abbrev pub invariant-bytes : goal.invariant-bytes
invariant-bytes l = some_byte (drop l.byte-index l.line) ≡ some_byte l.line
