use Rattle.std.proofs.Common.{take, map}
use Rattle.hip_names.specs.Tables.{Gains}
use Rattle.hip_typing.specs.Seen.Inner.{entries}
use Rattle.hip_typing.proofs.tables.inner_table.add_params.Given as goal

abbrev pub invariant-params : goal.invariant-params
invariant-params l = Gains l.initial.table.names l.initial.table.values l.table.names l.table.values (map entries.parameter (take l.param-index l.params))
