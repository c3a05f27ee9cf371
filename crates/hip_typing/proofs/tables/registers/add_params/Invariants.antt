use Rattle.std.proofs.Common.{take, map, Some}
use Rattle.hip_typing.specs.Seen.Tables.{Adds}
use Rattle.hip_typing.proofs.tables.registers.add_params.Given as goal

abbrev pub invariant-params : goal.invariant-params
invariant-params l =
    Adds l.initial.table.names l.initial.table.values l.table.names l.table.values (map (λ p. record { name = p.name; ty = Some p.ty }) (take l.param-index l.params))
