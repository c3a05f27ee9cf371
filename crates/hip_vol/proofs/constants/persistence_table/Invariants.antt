use Rattle.std.proofs.Common.{map, take}
use Rattle.hip_names.specs.Tables.{TableStandsFor}
use Rattle.hip_vol.proofs.ConstantLevels.{entry_of}
use Rattle.hip_vol.proofs.constants.persistence_table.Given as goal

abbrev pub invariant-each : goal.invariant-each
invariant-each l = TableStandsFor l.table.names l.table.values (map entry_of (take l.global-index l.globals))
