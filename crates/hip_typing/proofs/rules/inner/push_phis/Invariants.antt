use Rattle.std.proofs.Common.{◌≡◌, ◌++◌, take}
use Rattle.hip_typing.specs.Seen.NamesSeen.{seen}
use Rattle.hip_sound.specs.Names.{numbered}
use Rattle.hip_sound.specs.Rules.{named_in}
use Rattle.hip_typing.proofs.rules.inner.push_phis.Given as goal

abbrev pub invariant-phis : goal.invariant-phis
invariant-phis l = seen l.names ≡ seen l.initial.names ++ numbered ((named_in l.function).phi l.block) (take l.index l.phis)
