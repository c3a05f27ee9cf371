use Rattle.std.proofs.Common.{◌≡◌, ◌++◌, take, map}
use Rattle.hip_many.specs.Reasons.{reason_for}
use Rattle.hip_many.proofs.reason.add_reasons.Given as goal

abbrev pub invariant-each : goal.invariant-each
invariant-each l = l.rows ≡ l.fn.rows ++ map (reason_for l.sort l.plans) (take l.site-index l.site-items)
