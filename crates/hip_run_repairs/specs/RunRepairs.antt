-- The repairs as they are made.
use Rattle.std.specs.Prelude.{◌≡◌, Bool, List}
use Rattle.hip_fix.specs.Applied.{IsApplied}
use Rattle.hip_vol.specs.LowStores.{low_stores}
use Rattle.hip_many.specs.Reasons as many
use Rattle.hip_many.specs.Union.{IsUnion}
use Rattle.hip_run_repairs.specs.Spared.{spared_count}
use Rattle.hip_run_repairs.specs.declared.many_runs.ManyRepair.{ManyRepair}
use Rattle.hip_run_repairs.specs.declared.one_run.Repair.{Repair}
use Rattle.hip_run_repairs.specs.declared.thin_run.Thinned.{Thinned}
use Rattle.hip_repairs.specs.Choice.{Contains, plan_for}
use Rattle.hip_repairs.specs.Direct.{direct}
use Rattle.hip_repairs.specs.declared.plan.Plan.{Plan}
use Rattle.hip_runs.specs.StoredParts.Parts.{In}
use Rattle.hip_runs.specs.declared.report.Findings.{Findings}
use Rattle.hip_tree.specs.declared.program.Program.{Program}
use Rattle.hip_tree.specs.declared.site.Site.{Site}

-- The repair by this plan; its clones do not flush the stores to skip.
pub record IsRepairBy (P : Program) (plan : Plan) (skip : Site → Bool) (repair : Repair) : Type 0 where
  pub plan_is : repair.plan ≡ plan
  pub applied : IsApplied P plan skip repair.repaired

-- The repair by the plan for what a run found; the clones do not flush the direct stores.
abbrev pub IsRepairFor : Program → Findings → Repair → Type 0
IsRepairFor P found repair = IsRepairBy P (plan_for P found) (direct P) repair

-- The repair by that plan whose clones do not flush the low stores, and how many stores this spares.
pub record IsThinnedFor (P : Program) (found : Findings) (thinned : Thinned) : Type 0 where
  pub repair : IsRepairBy P (plan_for P found) (low_stores P) thinned.repair
  pub spared_is : thinned.spared ≡ spared_count P (plan_for P found)

-- The repair by the union of the plans, which contains each of them, with a reason for each site of the union.
pub record IsRepairForAll (P : Program) (plans : List Plan) (made : ManyRepair) : Type 0 where
  pub union : IsUnion plans made.repair.plan
  pub contains : (part : Plan) → In part plans → Contains made.repair.plan part
  pub reasons_are : made.reasons ≡ many.reasons plans made.repair.plan
  pub repair : IsRepairBy P made.repair.plan (direct P) made.repair
