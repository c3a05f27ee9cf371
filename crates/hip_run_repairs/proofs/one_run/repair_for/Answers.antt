use Rattle.std.proofs.Common.{subst}
use Rattle.hip_fix.specs.Applied.{IsApplied}
use Rattle.hip_repairs.specs.Direct.{direct}
use Rattle.hip_repairs.specs.declared.plan.Plan.{Plan}
use Rattle.hip_run_repairs.proofs.one_run.repair_for.Goals as goal

pub returns : goal.returns
returns c =
    let P = c.args.checked.now in
    record {
      plan_is = c.in_ok-plan.ensures.is;
      applied = subst (λ (plan : Plan). IsApplied P plan (direct P) c.in_ok-repaired.repaired) c.in_ok-plan.ensures.is c.in_ok-repaired.ensures.repaired;
    }
