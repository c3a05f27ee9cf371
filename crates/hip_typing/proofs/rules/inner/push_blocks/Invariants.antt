use Rattle.std.proofs.Common.{◌≡◌, ◌++◌, take}
use Rattle.hip_typing.specs.Seen.NamesSeen.{seen}
use Rattle.hip_sound.specs.Declarations.{blocks_declared}
use Rattle.hip_sound.specs.Rules.{named_in}
use Rattle.hip_typing.proofs.rules.inner.push_blocks.Given as goal

abbrev pub invariant-each_block : goal.invariant-each_block
invariant-each_block l = seen l.names ≡ seen l.initial.names ++ blocks_declared (named_in l.function) (take l.number l.blocks)
