use Rattle.std.proofs.Common.{take, map}
use Rattle.hip_names.specs.Names.{Knows}
use Rattle.hip_typing.proofs.rules.globals.names_of_globals.Given as goal

abbrev pub invariant-globals : goal.invariant-globals
invariant-globals l = Knows l.names (map (λ g. g.name) (take l.global-index l.globals))
