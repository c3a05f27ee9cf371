use Rattle.std.proofs.Common.{◌≡◌, ◌++◌, take}
use Rattle.hip_typing.specs.Seen.NamesSeen.{seen}
use Rattle.hip_sound.specs.Rules.{extern_declarations}
use Rattle.hip_typing.proofs.rules.named.push_externs.Given as goal

abbrev pub invariant-externs : goal.invariant-externs
invariant-externs l = seen l.names ≡ seen l.initial.names ++ extern_declarations (take l.number l.externs)
