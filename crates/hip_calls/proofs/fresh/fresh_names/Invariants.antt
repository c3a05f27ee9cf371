use Rattle.std.proofs.Common.{◌≡◌, ◌++◌, drop, map}
use Rattle.hip_sound.specs.Sound.{top_names}
use Rattle.hip_calls.specs.Fresh.{fresh_for, fresh_names, name_of}
use Rattle.hip_calls.proofs.fresh.fresh_names.Given as goal

abbrev pub invariant-each : goal.invariant-each
invariant-each l =
    l.fresh.keys ++ fresh_for (l.fresh.keys ++ top_names l.program) (map (name_of l.program) (drop l.number-index l.functions))
    ≡ fresh_names l.program l.functions
