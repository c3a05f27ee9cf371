use Rattle.std.proofs.Common.{◌≡◌, ◌++◌, map, take}
use Rattle.hip_typing.specs.Seen.NamesSeen.{seen}
use Rattle.hip_sound.specs.Rules.{named_in}
use Rattle.hip_typing.proofs.rules.inner.push_params.Given as goal

abbrev pub invariant-params : goal.invariant-params
invariant-params l = seen l.names ≡ seen l.initial.names ++ map (named_in l.function).parameter (take l.number l.params)
