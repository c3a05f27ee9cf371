-- What a repair guarantees over crashes and over later repairs. (This project's own.)
use Rattle.std.specs.Prelude.{Bool}
use Rattle.hip_tree.specs.declared.program.Program.{Program}
use Rattle.hip_tree.specs.declared.site.Site.{Site}
use Rattle.hip_runs.specs.Validity.{IsValid}
use Rattle.hip_runs.specs.declared.input.Input.{Input}
use Rattle.hip_repairs.specs.Repaired.{repaired}
use Rattle.hip_repairs.specs.declared.plan.Plan.{Plan}
use Rattle.hip_survival.specs.Kept.{ChecksSurvive, CoveredSurvive, LoosensNothing, WorsensNoCheck}
use Rattle.hip_histories.specs.Chains.{LastsOn}
use Rattle.hip_histories.specs.Histories.{AddsNoHistory}
use Rattle.hip_histories.specs.WholeRuns.{EndAlike}

-- On this input each byte that the repaired program checks survives a crash at the check. On every input, what was
-- stored under a hoisted call survives a crash after the fence that follows the call, no byte becomes loose and no
-- check is worse than in the program, each crash history is a crash history of the program, and the run ends exactly as
-- the program's run does. All this still holds after later repairs.
pub record IsCrashSafe (P : Program) (I : Input) (plan : Plan) (skip : Site → Bool) : Type 0 where
  pub checks : ChecksSurvive (repaired P plan skip) I
  pub calls : CoveredSurvive P (repaired P plan skip)
  pub no_looser : LoosensNothing P plan skip
  pub no_worse : WorsensNoCheck P plan skip
  pub histories : AddsNoHistory P (repaired P plan skip)
  pub endings : (J : Input) → IsValid P J → EndAlike P (repaired P plan skip) J
  pub lasts : LastsOn P (repaired P plan skip) I
