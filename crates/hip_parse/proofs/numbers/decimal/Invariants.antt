use Rattle.std.proofs.Common.{◌≡◌, drop}
use Rattle.hip_grammar.specs.Numbers.{digits_from}
use Rattle.hip_parse.proofs.numbers.decimal.Given as goal

abbrev pub invariant-loop-d : goal.invariant-loop-d
invariant-loop-d l = digits_from l.n (drop l.d-index l.digits) ≡ digits_from 0 l.digits
