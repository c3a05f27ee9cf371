-- What survives a crash in a run of a repaired program. (This project's own.)
use Rattle.std.specs.Prelude.{◌≡◌, ℕ, suc, ℤ, [], ◌+◌, ◌/◌, ◌<◌, ◌≤◌, Bool, false, Some, length, slice_get}
use Rattle.hip_tree.specs.declared.program.Program.{Program}
use Rattle.hip_tree.specs.declared.site.Site.{Site}
use Rattle.hip_lines.specs.Line.{Line}
use Rattle.hip_lines.specs.Loose.{IsLastOver}
use Rattle.hip_types.specs.declared.areas.TheConstants.{LINE_SIZE}
use Rattle.hip_runs.specs.Crash.{covers}
use Rattle.hip_runs.specs.Found.Reports.{Range, check_reports, next_check}
use Rattle.hip_runs.specs.State.{StorePart, State}
use Rattle.hip_runs.specs.Step.{event, has_ended, run}
use Rattle.hip_runs.specs.StoredParts.Parts.{In}
use Rattle.hip_runs.specs.Validity.{IsValid}
use Rattle.hip_runs.specs.declared.event.Ending.TheVariants.{Stop}
use Rattle.hip_runs.specs.declared.event.Event.TheVariants as events
use Rattle.hip_runs.specs.declared.input.Input.{Input}
use Rattle.hip_runs.specs.declared.report.Report.{Report}
use Rattle.hip_repairs.specs.Covered.{IsAfterCloneCall, IsLastBefore}
use Rattle.hip_repairs.specs.Harmless.{matched}
use Rattle.hip_repairs.specs.Repaired.{repaired}
use Rattle.hip_repairs.specs.declared.plan.Plan.{Plan}
use Rattle.hip_survival.specs.Survival.{IsLooseAt, IsOfStep, IsOnlyImage, Survives}

-- ---- at corresponding states

-- In each cache line of the second state at least as many parts are flushed, and at least as many are durable, as in
-- the first state.
abbrev pub IsAsDurable : State → State → Type 0
IsAsDurable s s' =
    (j : ℕ) (l l' : Line StorePart) → slice_get s.lines j ≡ Some l → slice_get s'.lines j ≡ Some l' →
    (l.flushed ≤ l'.flushed) × (l.durable ≤ l'.durable)

-- On every valid input, in each state of the repaired program at least as much is flushed and durable as in the
-- corresponding state of the program. So each byte that is loose in the repaired program's run is also loose in the
-- program's run, and each byte that survives a crash of the program also survives a crash of the repaired program.
pub record LoosensNothing (P : Program) (plan : Plan) (skip : Site → Bool) : Type 0 where
  pub durable : (I : Input) → IsValid P I → (n : ℕ) →
      IsAsDurable (run P I (matched P plan skip I n)) (run (repaired P plan skip) I n)
  pub loose : (I : Input) → IsValid P I → (n b : ℕ) → IsLooseAt (run (repaired P plan skip) I n) b →
      IsLooseAt (run P I (matched P plan skip I n)) b
  pub survives : (I : Input) → IsValid P I → (n b : ℕ) →
      Survives P I (run P I (matched P plan skip I n)) b →
      Survives (repaired P plan skip) I (run (repaired P plan skip) I n) b

-- ---- checks

-- A check of P's run has a report of the same store as a report of Q's check: Q makes that store in a step, and P
-- makes it in the step that corresponds.
pub record HasReportOf (P Q : Program) (I : Input) (steps_of : ℕ → ℕ) (n : ℕ) (range : Range) (r' : Report) :
    Type 0 where
  pub report : Report
  pub there : In report (check_reports (run P I (steps_of n)) (Some range))
  pub step : ℕ
  pub store' : IsOfStep Q I step r'
  pub store : IsOfStep P I (steps_of step) report

-- A check of Q's run, after n steps, is a check of P's run in the corresponding state. For each report of Q's check P's
-- check has a report of the same store, so Q's check reports nothing if P's reports nothing.
pub record IsNoWorse (P Q : Program) (I : Input) (steps_of : ℕ → ℕ) (n : ℕ) (range : Range) : Type 0 where
  pub there : next_check P I (run P I (steps_of n)) ≡ Some range
  pub reports : (r' : Report) → In r' (check_reports (run Q I n) (Some range))
      → HasReportOf P Q I steps_of n range r'
  pub quiet : check_reports (run P I (steps_of n)) (Some range) ≡ [] → check_reports (run Q I n) (Some range) ≡ []

-- On every valid input no check of the repaired program is worse than the program's check in the corresponding state.
abbrev pub WorsensNoCheck : Program → Plan → (Site → Bool) → Type 0
WorsensNoCheck P plan skip =
    (I : Input) → IsValid P I → (n : ℕ) (range : Range) →
    next_check (repaired P plan skip) I (run (repaired P plan skip) I n) ≡ Some range →
    IsNoWorse P (repaired P plan skip) I (matched P plan skip I) n range

-- ---- what survives

-- Each byte that a check of the run checks survives a crash at that check. After the run has stopped, every crash
-- image is equal to working memory.
pub record ChecksSurvive (P : Program) (I : Input) : Type 0 where
  pub bytes : (n : ℕ) (range : Range) → next_check P I (run P I n) ≡ Some range →
      (b : ℕ) → range.offset ≤ b → b < range.offset + range.size → Survives P I (run P I n) b
  pub stop : (n : ℕ) (code : ℤ) → has_ended (run P I n) ≡ false →
      event P I (run P I n) ≡ events.End (Stop code) → IsOnlyImage P I (run P I (suc n))

-- The last part over byte b of the region is of a store that was made in this step or later.
pub record IsStoredSince (s : State) (step b : ℕ) : Type 0 where
  pub line : Line StorePart
  pub at : slice_get s.lines (b / LINE_SIZE) ≡ Some line
  pub place : ℕ
  pub part : StorePart
  pub over : IsLastOver covers line.parts b place part
  pub since : step ≤ part.step

-- At each fence of Q directly after a call of a clone: each byte of the region whose last store came since that call
-- survives a crash after the fence.
abbrev pub CoveredSurvive : Program → Program → Type 0
CoveredSurvive P Q =
    (I : Input) → IsValid P I → (j n : ℕ) → IsAfterCloneCall Q (length P.functions) (run Q I n)
    → IsLastBefore Q I j n →
    (b : ℕ) → IsStoredSince (run Q I (suc n)) j b → Survives Q I (run Q I (suc n)) b
