use Rattle.std.proofs.Common.{◌≡◌, ◌++◌, drop}
use Rattle.hip_fix.specs.DirectWalk.{direct_in_functions}
use Rattle.hip_fix.proofs.direct.add_functions.Given as goal

abbrev pub invariant-each : goal.invariant-each
invariant-each l =
    l.sites ++ direct_in_functions l.volatile l.number (drop l.number l.functions) ≡ l.initial.sites ++ direct_in_functions l.volatile 0 l.functions
