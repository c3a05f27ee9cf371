use Rattle.hip_scope.proofs.Growth.{makes_constant}
use Rattle.hip_scope.proofs.tables.Growing.constant.Goals as goal

pub returns-clause-stands : goal.returns-clause-stands
returns-clause-stands c = rw (c.in_ok-place.ensures, c.len.ensures) (makes_constant _ c.args.value c.push.new.self c.in_ok-push.ensures.ok)
