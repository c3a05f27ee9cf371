use Rattle.std.proofs.Common.{take, map}
use Rattle.hip_typing.specs.Seen.Tables.{AddsCallees, function_entry}
use Rattle.hip_typing.proofs.tables.callees.add_functions.Given as goal

abbrev pub invariant-each : goal.invariant-each
invariant-each l =
    AddsCallees l.initial.table.names l.initial.table.values l.table.names l.table.values (map function_entry (take l.function-index l.functions))
