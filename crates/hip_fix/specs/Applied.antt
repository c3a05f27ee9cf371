-- What a repair is, and what it promises.
use Rattle.std.specs.Prelude.{◌≡◌, Bool}
use Rattle.hip_tree.specs.declared.program.Program.{Program}
use Rattle.hip_tree.specs.declared.site.Site.{Site}
use Rattle.hip_runs.specs.Found.Marks.{IsFound}
use Rattle.hip_runs.specs.Validity.{IsValid}
use Rattle.hip_runs.specs.declared.input.Input.{Input}
use Rattle.hip_runs.specs.declared.report.Findings.{Findings}
use Rattle.hip_repairs.specs.Choice.{Contains, plan_for}
use Rattle.hip_repairs.specs.Clean.{IsClean}
use Rattle.hip_repairs.specs.CloneNumbers.{clone_numbers}
use Rattle.hip_repairs.specs.Covered.{AreHoistsFenced, IsCovered}
use Rattle.hip_repairs.specs.Harmless.{IsHarmless}
use Rattle.hip_repairs.specs.Repaired.{repaired}
use Rattle.hip_repairs.specs.declared.plan.Plan.{Plan}
use Rattle.hip_repairs.specs.declared.repaired.Repaired.{Repaired}

-- r is the program repaired by a plan, with its clones; the clones do not flush the stores to skip. It does no harm,
-- and a fence follows each hoisted call.
pub record IsApplied (P : Program) (plan : Plan) (skip : Site → Bool) (r : Repaired) : Type 0 where
  pub program_is : r.checked ≡ repaired P plan skip
  pub clones_are : r.clones ≡ clone_numbers P plan
  pub harmless : IsHarmless P plan skip
  pub fenced : AreHoistsFenced P plan skip

-- Q is clean on the input of each run of P whose plan is contained in this plan, and its hoisted calls are covered.
pub record IsThorough (P : Program) (plan : Plan) (Q : Program) : Type 0 where
  pub clean : (I : Input) → (found : Findings) →
      IsValid P I → IsFound P I found → Contains plan (plan_for P found) → IsClean Q I
  pub covered : IsCovered P Q
