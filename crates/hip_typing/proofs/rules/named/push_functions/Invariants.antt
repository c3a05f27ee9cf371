use Rattle.std.proofs.Common.{◌≡◌, ◌++◌, take}
use Rattle.hip_typing.specs.Seen.NamesSeen.{seen}
use Rattle.hip_sound.specs.Rules.{function_declarations}
use Rattle.hip_typing.proofs.rules.named.push_functions.Given as goal

abbrev pub invariant-functions : goal.invariant-functions
invariant-functions l = seen l.names ≡ seen l.initial.names ++ function_declarations (take l.number l.functions)
