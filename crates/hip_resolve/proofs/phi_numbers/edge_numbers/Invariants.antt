use Rattle.std.proofs.Common.{take, map}
use Rattle.hip_names.specs.Tables.{TableStandsFor}
use Rattle.hip_names.specs.Numbered.{entries_from}
use Rattle.hip_resolve.proofs.phi_numbers.edge_numbers.Given as goal

abbrev pub invariant-each : goal.invariant-each
invariant-each l = TableStandsFor l.numbers.names l.numbers.values (entries_from 0 (take l.number (map (λ e. e.label) l.edges)))
