use Rattle.std.proofs.Common.{◌≡◌, ◌≤◌, ◌%◌, ◌^◌, drop, length}
use Rattle.hip_code.specs.Numbers.{numbers}
use Rattle.hip_code.specs.Values.{sum_of}
use Rattle.hip_code.proofs.calculate.sum_of_terms.Given as goal

abbrev pub invariant-adding : goal.invariant-adding
invariant-adding l = record {
  here : l.at ≤ length l.chosen;
  sum_is : l.sum ≡ sum_of (numbers l.code l.slots l.base) (drop l.at l.chosen) % 2 ^ 64;
}

abbrev pub decreases-adding : goal.decreases-adding
decreases-adding l = l.at
