-- A program that is repaired several times, and what later repairs keep. (This project's own.)
use Rattle.std.specs.List.{All}
use Rattle.std.specs.Prelude.{◌≡◌, ℕ, suc, ◌<◌, ◌≤◌, Bool, List, [], ◌∷◌, Some, length, map, slice_get}
use Rattle.hip_tree.specs.declared.program.Program.{Program}
use Rattle.hip_tree.specs.declared.site.Site.{Site}
use Rattle.hip_lines.specs.Line.{Line}
use Rattle.hip_runs.specs.Found.Marks.{IsFound}
use Rattle.hip_runs.specs.State.{StorePart}
use Rattle.hip_runs.specs.Step.{run}
use Rattle.hip_runs.specs.Validity.{IsValid}
use Rattle.hip_runs.specs.declared.input.Input.{Input}
use Rattle.hip_runs.specs.declared.report.Findings.{Findings}
use Rattle.hip_repairs.specs.Choice.{Contains, plan_for}
use Rattle.hip_repairs.specs.Clean.{IsClean}
use Rattle.hip_repairs.specs.Covered.{IsAfterCloneCall, IsLastBefore}
use Rattle.hip_repairs.specs.StayOutside.{StayOutside}
use Rattle.hip_repairs.specs.Repaired.{repaired}
use Rattle.hip_repairs.specs.declared.plan.Plan.{Plan}
use Rattle.hip_sound.specs.Sound.{IsSound}
use Rattle.hip_histories.specs.Histories.{AddsNoHistory, KeepsLosslessHistories}
use Rattle.hip_histories.specs.NoHarm.{DoesNoHarm, GoesAlong}
use Rattle.hip_histories.specs.WholeRuns.{EndAlike}

-- A repair: its plan, and the stores that its clones do not flush.
pub record Repair : Type 0 where
  pub plan : Plan
  pub skip : Site → Bool

-- The program after these repairs, the first one first.
abbrev pub repaired_on : Program → List Repair → Program
repaired_on P [] = P
repaired_on P (r ∷ rs) = repaired_on (repaired P r.plan r.skip) rs

-- The calls that a repair of P hoisted in Q stay covered in R, whose run goes along Q's. Take the step of R that
-- corresponds to a fence of Q directly after a call of a clone: after that step, each part of a store that R made since
-- the call is durable.
abbrev pub StaysCovered : Program → Program → Program → Type 0
StaysCovered P Q R =
    (original : ℕ → ℕ) (I : Input) → IsValid Q I → (along : GoesAlong original Q R I) → (j n : ℕ) →
    IsAfterCloneCall Q (length P.functions) (run Q I (along.steps_of n)) → IsLastBefore Q I j (along.steps_of n) →
    along.steps_of (suc n) ≡ suc (along.steps_of n) →
    (m : ℕ) (l : Line StorePart) → slice_get (run R I (suc n)).lines m ≡ Some l →
    (k : ℕ) (p : StorePart) → slice_get l.parts k ≡ Some p → j ≤ along.steps_of p.step → k < l.durable

-- Q is a repair of P. Whatever repairs follow it, the program after them is sound, does no harm in the place of P,
-- keeps the calls covered that Q hoisted, and has nothing to report on this input.
pub record LastsOn (P Q : Program) (I : Input) : Type 0 where
  pub sound : (later : List Repair) → IsSound (repaired_on Q later)
  pub harmless : (later : List Repair) → DoesNoHarm P (repaired_on Q later)
  pub covered : (later : List Repair) → StaysCovered P Q (repaired_on Q later)
  pub clean : (later : List Repair) → IsClean (repaired_on Q later) I

-- ---- repairs one after another

-- What every chain of repairs from P to Q keeps, whatever its plans are: Q is sound and does no harm in the place of P.
-- A clean run stays clean, no crash history is added, a history in which no crash loses anything stays a history, and
-- each run ends as the run of P does.
pub record KeepsProgram (P Q : Program) : Type 0 where
  pub sound : IsSound Q
  pub harmless : DoesNoHarm P Q
  pub clean : (I : Input) → IsValid P I → IsClean P I → IsClean Q I
  pub histories : AddsNoHistory P Q
  pub lossless : KeepsLosslessHistories P Q
  pub endings : (I : Input) → IsValid P I → EndAlike P Q I

-- A repair that was made for a trace: the input of the traced run, what that run found, and the repair.
pub record TraceRepair : Type 0 where
  pub input : Input
  pub findings : Findings
  pub repair : Repair

-- The repair is made for the run of P on its input: its plan has what the run found, and the stores that its clones do
-- not flush never write to the region.
pub record IsMadeFor (P : Program) (r : TraceRepair) : Type 0 where
  pub valid : IsValid P r.input
  pub found : IsFound P r.input r.findings
  pub planned : Contains r.repair.plan (plan_for P r.findings)
  pub quiet : StayOutside P r.repair.skip

-- Each repair is made for a run of the program that the repairs before it left.
abbrev pub AreMadeInTurn : Program → List TraceRepair → Type 0
AreMadeInTurn P [] = Unit {0}
AreMadeInTurn P (r ∷ rs) = IsMadeFor P r × AreMadeInTurn (repaired P r.repair.plan r.repair.skip) rs

-- The program after these repairs, the first one first.
abbrev pub mended : Program → List TraceRepair → Program
mended P rs = repaired_on P (map (λ r. r.repair) rs)

-- The calls that each of these repairs hoisted stay covered in R.
abbrev pub AllStayCovered : Program → List TraceRepair → Program → Type 0
AllStayCovered P [] R = Unit {0}
AllStayCovered P (r ∷ rs) R = StaysCovered P (repaired P r.repair.plan r.repair.skip) R
    × AllStayCovered (repaired P r.repair.plan r.repair.skip) rs R

-- The program after the repairs has nothing to report on the input of every trace so far, and the calls that any of
-- them hoisted are covered.
pub record IsMendedFor (P : Program) (rs : List TraceRepair) : Type 0 where
  pub clean : All (λ r. IsClean (mended P rs) r.input) rs
  pub covered : AllStayCovered P rs (mended P rs)
