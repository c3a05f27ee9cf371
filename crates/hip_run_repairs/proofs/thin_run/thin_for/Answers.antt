use Rattle.std.proofs.Common.{ap, ◌∙◌, subst}
use Rattle.hip_fix.specs.Applied.{IsApplied}
use Rattle.hip_vol.specs.LowStores.{low_stores}
use Rattle.hip_repairs.specs.declared.plan.Plan.{Plan}
use Rattle.hip_run_repairs.specs.Spared.{spared_count}
use Rattle.hip_run_repairs.proofs.thin_run.thin_for.Goals as goal

pub returns : goal.returns
returns c =
    let P = c.args.checked.now in
    let made = c.in_ok-repaired.field-0 in
    record {
      repair = record {
        plan_is = c.in_ok-plan.ensures.is;
        applied = subst (λ (plan : Plan). IsApplied P plan (low_stores P) made.repaired) c.in_ok-plan.ensures.is c.in_ok-repaired.ensures.repaired;
      };
      spared_is = c.in_ok-spared.ensures ∙ ap (λ (plan : Plan). spared_count P plan) c.in_ok-plan.ensures.is;
    }
