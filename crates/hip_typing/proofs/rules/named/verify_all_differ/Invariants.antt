use Rattle.std.proofs.Common.{◌≡◌, drop}
use Rattle.hip_sound.specs.Names.{differ_after, all_differ}
use Rattle.hip_typing.specs.Seen.NamesSeen.{seen}
use Rattle.hip_typing.proofs.rules.named.verify_all_differ.Given as goal

abbrev pub invariant-names : goal.invariant-names
invariant-names l = (differ_after l.earlier (seen (drop l.named-index l.names))).found ≡ (all_differ (seen l.names)).found
