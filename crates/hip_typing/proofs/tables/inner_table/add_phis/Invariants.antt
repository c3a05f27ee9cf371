use Rattle.std.proofs.Common.{take}
use Rattle.hip_names.specs.Tables.{Gains}
use Rattle.hip_sound.specs.Names.{numbered}
use Rattle.hip_typing.specs.Seen.Inner.{entries}
use Rattle.hip_typing.proofs.tables.inner_table.add_phis.Given as goal

abbrev pub invariant-phis : goal.invariant-phis
invariant-phis l = Gains l.initial.table.names l.initial.table.values l.table.names l.table.values (numbered (entries.phi l.block) (take l.phi-index l.phis))
