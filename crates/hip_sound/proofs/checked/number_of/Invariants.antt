use Rattle.std.proofs.Common.{◌≡◌, drop, ◌+◌}
use Rattle.std.specs.Prelude.{option_map}
use Rattle.hip_names.specs.Names.{number_of}
use Rattle.hip_sound.specs.NumberedNames.{function_names}
use Rattle.hip_sound.proofs.checked.number_of.Given as goal

abbrev pub invariant-each : goal.invariant-each
invariant-each l = option_map (λ k. l.number + k) (number_of (function_names (drop l.number l.functions)) l.name) ≡ number_of (function_names l.functions) l.name
