use Rattle.std.proofs.Common.{◌+◌, ◌-◌, ◌^◌, ◌≡◌, ◌<◌, ◌≤◌, ◌++◌, drop, false}
use Rattle.std.specs.Fmt.{digits}
use Rattle.hip_num.proofs.HexDigits.{onto}
use Rattle.hip_trace.proofs.write.digits_before.Given as goal

pub record Invariant (l : goal.Live-pairs) : Type 0 where
  pub start : l.at < l.end
  pub low : l.end ≤ l.at + 16
  pub room : l.rest < 16 ^ (l.at + 16 - l.end + 1)
  pub text : onto (l.at + 16 - l.end + 49) l.rest (drop (l.at + 1) l.bytes) ≡ digits 16 false l.number ++ drop l.end l.initial.bytes

abbrev pub invariant-pairs : goal.invariant-pairs
invariant-pairs l = Invariant l

abbrev pub decreases-pairs : goal.decreases-pairs
decreases-pairs l = l.rest
