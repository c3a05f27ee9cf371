use Rattle.std.proofs.Common.{◌≡◌, take}
use Rattle.hip_crash.specs.Values.{bytes_after}
use Rattle.hip_crash.proofs.kept_line.put_front.Given as goal

abbrev pub invariant-loop-place : goal.invariant-loop-place
invariant-loop-place l = l.bytes ≡ bytes_after (take l.place l.values) l.start l.initial.bytes
