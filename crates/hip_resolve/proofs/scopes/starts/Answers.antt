use Rattle.hip_resolve.proofs.Scoped.{starts_are}
use Rattle.hip_resolve.proofs.scopes.starts.Goals as goal

pub returns : goal.returns
returns c = starts_are c.args.program.now _ c.in_ok-starts.starts c.as_slice.ensures c.in_ok-starts.ensures
