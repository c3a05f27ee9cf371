use Rattle.std.proofs.Common.{take}
use Rattle.hip_names.specs.Tables.{TableStandsFor}
use Rattle.hip_sound.specs.NumberedNames.{function_names}
use Rattle.hip_names.specs.Numbered.{entries_from}
use Rattle.hip_calls.proofs.function_table.numbers_of.Given as goal

abbrev pub invariant-each : goal.invariant-each
invariant-each l = TableStandsFor l.numbers.names l.numbers.values (entries_from 0 (take l.number (function_names l.functions)))
