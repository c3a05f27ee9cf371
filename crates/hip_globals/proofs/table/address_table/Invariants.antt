use Rattle.hip_types.specs.Areas.{volatile_start}
use Rattle.hip_globals.proofs.AddressLists.{IsLaid}
use Rattle.hip_globals.proofs.table.address_table.Given as goal

abbrev pub invariant-globals : goal.invariant-globals
invariant-globals l = IsLaid l.table.names l.table.values l.base volatile_start l.persistent l.volatile l.globals l.index
