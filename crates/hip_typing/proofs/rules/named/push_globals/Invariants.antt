use Rattle.std.proofs.Common.{◌≡◌, ◌++◌, take}
use Rattle.hip_typing.specs.Seen.NamesSeen.{seen}
use Rattle.hip_sound.specs.Rules.{global_declarations}
use Rattle.hip_typing.proofs.rules.named.push_globals.Given as goal

abbrev pub invariant-globals : goal.invariant-globals
invariant-globals l = seen l.names ≡ seen l.initial.names ++ global_declarations (take l.number l.globals)
