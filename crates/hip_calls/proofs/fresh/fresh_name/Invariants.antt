use Rattle.std.proofs.Common.{◌≡◌, ◌++◌, ◌-◌}
use Rattle.hip_calls.specs.Fresh.{fresh_from, fresh_name}
use Rattle.hip_calls.proofs.fresh.fresh_name.Given as goal

abbrev pub invariant-numbers : goal.invariant-numbers
invariant-numbers l = fresh_from (l.earlier.keys ++ l.taken) l.name (l.limit - l.number) l.number ≡ fresh_name (l.earlier.keys ++ l.taken) l.name
