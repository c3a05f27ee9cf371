-- What a repair for a run is, and what it does.
use Rattle.std.specs.Prelude.{Bool}
use Rattle.hip_grammar.specs.ReadTexts.{Reads}
use Rattle.hip_grammar.specs.Show.{show}
use Rattle.hip_tree.specs.declared.program.Program.{Program}
use Rattle.hip_tree.specs.declared.site.Site.{Site}
use Rattle.hip_histories.specs.CrashSafe.{IsCrashSafe}
use Rattle.hip_repairs.specs.Choice.{plan_for}
use Rattle.hip_repairs.specs.Clean.{IsClean}
use Rattle.hip_repairs.specs.Covered.{AreHoistsFenced, IsCovered}
use Rattle.hip_repairs.specs.Direct.{direct}
use Rattle.hip_repairs.specs.Harmless.{IsHarmless}
use Rattle.hip_repairs.specs.Repaired.{repaired}
use Rattle.hip_repairs.specs.declared.plan.Plan.{Plan}
use Rattle.hip_runs.specs.declared.input.Input.{Input}
use Rattle.hip_runs.specs.declared.report.Findings.{Findings}
use Rattle.hip_sound.specs.Sound.{IsSound}

-- The program repaired by the plan for what a run found; the direct stores get no flush by cloning.
abbrev pub repaired_for : Program → Findings → Program
repaired_for P found = repaired P (plan_for P found) (direct P)

-- What a repair by a plan does; its clones do not flush the stores to skip. On every valid input the repaired program
-- prints the same and reaches the same memory at corresponding steps, and it leaves no crash image that was not
-- possible there before. On this input every byte is durable where it is checked. A hoisted call goes to a clone of its
-- callee, and every store under it is durable after the fence that follows it. The repaired program is sound, and its
-- canonical text reads as the repaired program. What is durable survives a crash, no crash history is added, and all
-- this lasts through later repairs.
pub record IsCuredBy (P : Program) (I : Input) (plan : Plan) (skip : Site → Bool) : Type 0 where
  pub harmless : IsHarmless P plan skip
  pub clean : IsClean (repaired P plan skip) I
  pub covered : IsCovered P (repaired P plan skip)
  pub fenced : AreHoistsFenced P plan skip
  pub sound : IsSound (repaired P plan skip)
  pub reads : Reads (show (repaired P plan skip)) (repaired P plan skip)
  pub crashes : IsCrashSafe P I plan skip

-- The repair for what a run found does all this, on the run's input.
abbrev pub IsCured : Program → Input → Findings → Type 0
IsCured P I found = IsCuredBy P I (plan_for P found) (direct P)
