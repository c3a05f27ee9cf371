use Rattle.std.proofs.Common.{take, map}
use Rattle.hip_typing.specs.Seen.Tables.{AddsCallees, extern_entry}
use Rattle.hip_typing.proofs.tables.callees.add_externs.Given as goal

abbrev pub invariant-each : goal.invariant-each
invariant-each l =
    AddsCallees l.initial.table.names l.initial.table.values l.table.names l.table.values (map extern_entry (take l.external-index l.externs))
