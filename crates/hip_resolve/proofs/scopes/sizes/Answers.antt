use Rattle.std.proofs.Common.{sym, subst}
use Rattle.hip_scope.specs.Listed.{RegistersDiffer}
use Rattle.hip_resolve.proofs.Scoped.{registers_differ_in, sizes_are}
use Rattle.hip_resolve.proofs.scopes.sizes.Goals as goal

pub sizes_of-requires : goal.sizes_of-requires
sizes_of-requires c = record { differ = subst RegistersDiffer (sym c.as_slice.ensures) (registers_differ_in c.args.program.now c.requires) }

pub returns : goal.returns
returns c = sizes_are c.args.program.now _ c.in_ok-sizes.sizes c.as_slice.ensures c.in_ok-sizes.ensures
