use Rattle.std.proofs.Common.{map, take}
use Rattle.hip_names.specs.Tables.{TableStandsFor}
use Rattle.hip_calls.specs.Fresh.{name_of}
use Rattle.hip_names.specs.Numbered.{entries_from}
use Rattle.hip_fix.proofs.clone_table.places_of.Given as goal

abbrev pub invariant-each : goal.invariant-each
invariant-each l = TableStandsFor l.places.names l.places.values (entries_from 0 (take l.place (map (name_of l.program) l.originals)))
