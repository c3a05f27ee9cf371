use Rattle.std.proofs.Common.{◌≡◌, ◌+◌, ◌-◌}
use Rattle.hip_repairs.specs.Choice.{best_of}
use Rattle.hip_plan.proofs.choice.best_level.Given as goal

abbrev pub invariant-each : goal.invariant-each
invariant-each g l =
    (best_of l.checked (g.W.Worths.found l.worths) (record { level = l.level; score = l.best }) (l.index + 1) (l.closed - l.index) l.left).level
    ≡ (best_of l.checked (g.W.Worths.found l.worths) (record { level = 0; score = l.fn.store }) 1 l.closed l.fn.calls).level
