use Rattle.std.proofs.Common.{length, ◌-◌, ◌≡◌, ◌≤◌, take}
use Rattle.std.specs.Str.Parse.{AllDigits, digits_value}
use Rattle.hip_trace.proofs.line.first_number.Given as goal

abbrev pub invariant-digits : goal.invariant-digits
invariant-digits l = record {
  within : l.at ≤ length l.bytes;
  few : l.at ≤ 16;
  all : AllDigits 16 (take l.at l.bytes);
  value : l.number ≡ digits_value 16 (take l.at l.bytes);
}

abbrev pub decreases-digits : goal.decreases-digits
decreases-digits l = 16 - l.at
