use Rattle.std.proofs.Common.{◌≡◌, drop, pos, neg_ℤ, ◌≤ℤ◌}
use Rattle.hip_runs.specs.Found.Scores.{worth_in}
use Rattle.hip_plan.proofs.worths.worth_by.Given as goal

abbrev pub invariant-each : goal.invariant-each
invariant-each l = record {
  rest : worth_in l.hit l.site l.operand (drop l.mark-index l.pointed) l.sum ≡ worth_in l.hit l.site l.operand l.pointed (pos 0);
  least : neg_ℤ (pos l.mark-index) ≤ℤ l.sum;
  most : l.sum ≤ℤ pos l.mark-index;
}
