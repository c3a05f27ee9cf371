use Rattle.std.proofs.Common.{◌≡◌, drop}
use Rattle.hip_sound.specs.Requirement.{each, each_from}
use Rattle.hip_sound.specs.Rules.{block_required}
use Rattle.hip_typing.specs.Seen.TablesSeen.{scope_in}
use Rattle.hip_typing.proofs.places.verify_blocks.Given as goal

abbrev pub invariant-each_block : goal.invariant-each_block
invariant-each_block l = (each_from l.block (block_required (scope_in l.program l.function) l.number) (drop l.block l.blocks)).found ≡ (each (block_required (scope_in l.program l.function) l.number) l.blocks).found
