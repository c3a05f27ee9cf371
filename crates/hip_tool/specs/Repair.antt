-- What `hippo` writes when it repairs a program: which program, what it costs, and what holds of it.
use Rattle.std.specs.List.{All}
use Rattle.std.specs.Prelude.{ℕ, suc, ◌≡◌, ◌≤◌, Bool, List, [], ◌∷◌, length, map}
use Rattle.hip_answers.specs.Answers.{Answer}
use Rattle.hip_answers.specs.declared.status.Status.TheVariants.{Done}
use Rattle.hip_grammar.specs.ReadTexts.{Reads}
use Rattle.hip_grammar.specs.Show.{show}
use Rattle.hip_histories.specs.Chains.{KeepsProgram, Repair, StaysCovered, repaired_on}
use Rattle.hip_histories.specs.NoHarm.{GoesAlong}
use Rattle.hip_histories.specs.SameSteps.{TakesSameSteps}
use Rattle.hip_vol.specs.LowStores.{low_stores}
use Rattle.hip_many.specs.Reasons.{reasons}
use Rattle.hip_many.specs.Union.{IsUnion}
use Rattle.hip_command_io.specs.Notes.{many_notes, thin_counts}
use Rattle.hip_repair_commands.specs.ManyRuns.{TracedRun, plans_of, reports_of}
use Rattle.hip_repair_laws.specs.Local.{IsLocal, IsPlanned, IsReportedSite}
use Rattle.hip_survival.specs.Kept.{ChecksSurvive, CoveredSurvive, IsStoredSince}
use Rattle.hip_run_repairs.specs.Spared.{spared_count}
use Rattle.hip_repairs.specs.Choice.{Contains, plan_for}
use Rattle.hip_repairs.specs.Clean.{IsClean}
use Rattle.hip_repairs.specs.CloneNumbers.{clone_numbers}
use Rattle.hip_repairs.specs.Covered.{AreHoistsFenced, IsAfterCloneCall, IsCovered, IsLastBefore}
use Rattle.hip_repairs.specs.Direct.{direct}
use Rattle.hip_repairs.specs.Harmless.{IsHarmless}
use Rattle.hip_repairs.specs.Repaired.{repaired}
use Rattle.hip_repairs.specs.declared.plan.Plan.{Plan}
use Rattle.hip_report_lines.specs.Counts.{repair_counts}
use Rattle.hip_runs.specs.Found.Marks.{IsFound}
use Rattle.hip_runs.specs.Step.{run}
use Rattle.hip_runs.specs.StoredParts.Parts.{In}
use Rattle.hip_runs.specs.Validity.{IsValid}
use Rattle.hip_runs.specs.declared.input.Input.{Input}
use Rattle.hip_runs.specs.declared.report.Findings.{Findings}
use Rattle.hip_survival.specs.Survival.{Survives}
use Rattle.hip_tree.specs.declared.program.Program.{Program}
use Rattle.hip_tree.specs.declared.site.Site.{Site}

-- ---- what lasts

-- What was stored last under the calls that a repair of P hoisted in Q survives in R, whose run goes along Q's. Take
-- the step of R that corresponds to a fence of Q directly after a call of a clone: after that step, each byte whose
-- last store R made since the call survives a crash.
abbrev pub StaysSurviving : Program → Program → Program → Type 0
StaysSurviving P Q R =
    (original : ℕ → ℕ) (I : Input) → IsValid Q I → (along : GoesAlong original Q R I) → (j n : ℕ) →
    IsAfterCloneCall Q (length P.functions) (run Q I (along.steps_of n)) → IsLastBefore Q I j (along.steps_of n) →
    along.steps_of (suc n) ≡ suc (along.steps_of n) →
    (from : ℕ) → j ≤ along.steps_of from → (b : ℕ) → IsStoredSince (run R I (suc n)) from b →
    Survives R I (run R I (suc n)) b

-- On this input each checked byte of Q is durable at its check and survives a crash there, also after any later
-- repairs.
pub record StaysClean (Q : Program) (I : Input) : Type 0 where
  pub clean : (later : List Repair) → IsClean (repaired_on Q later) I
  pub survives : (later : List Repair) → ChecksSurvive (repaired_on Q later) I

-- ---- the repaired program

-- What holds of the program repaired by a plan, whose clones skip some stores that are never in the region.
pub record IsRepair (P : Program) (plan : Plan) (skip : Site → Bool) : Type 0 where
  -- Its canonical text reads as it.
  pub reads : Reads (show (repaired P plan skip)) (repaired P plan skip)
  -- It differs from P only at the plan's sites.
  pub local : IsLocal P plan skip
  -- Each hoisted call has become a call of a clone of its callee, and a fence comes directly after it.
  pub fenced : AreHoistsFenced P plan skip
  -- On every valid input the states of both runs match at corresponding steps, no crash image is new, and 3n steps of
  -- the repaired program are at least n steps of P.
  pub harmless : IsHarmless P plan skip
  -- A step that corresponds to a step of P takes the same instruction, and any other step is a flush of what was just
  -- stored, or a fence.
  pub steps : TakesSameSteps P plan skip
  -- On every valid input each store under a hoisted call is durable after the fence that follows the call, and survives
  -- a crash there.
  pub covered : IsCovered P (repaired P plan skip)
  pub calls : CoveredSurvive P (repaired P plan skip)
  -- It is clean on every valid input where the plan has what the run finds.
  pub clean : (J : Input) (found : Findings) → IsValid P J → IsFound P J found → Contains plan (plan_for P found)
      → StaysClean (repaired P plan skip) J
  -- Whatever repairs follow, the program after them is sound and does no harm in the place of P, no crash history is
  -- added to those of P, each run ends as the run of P does, and the hoisted calls stay covered.
  pub kept : (later : List Repair) → KeepsProgram P (repaired_on (repaired P plan skip) later)
  pub stays_covered : (later : List Repair)
      → StaysCovered P (repaired P plan skip) (repaired_on (repaired P plan skip) later)
  pub stays_surviving : (later : List Repair)
      → StaysSurviving P (repaired P plan skip) (repaired_on (repaired P plan skip) later)

-- The answer is done, and its text for out is that of the program repaired by exactly this plan, which is clean on
-- these inputs.
pub record WritesRepair (P : Program) (plan : Plan) (skip : Site → Bool) (inputs : List Input) (answer : Answer) :
    Type 0
  where
    pub status_is : answer.status ≡ Done
    pub out_is : answer.out ≡ show (repaired P plan skip)
    pub repair : IsRepair P plan skip
    pub clean : All (StaysClean (repaired P plan skip)) inputs

-- ---- the three commands that repair

-- What `repair` writes: the program repaired by the plan for what the run found, each of whose sites a report of the
-- run names; its direct stores get no flush by cloning.
pub record HasPlanned (P : Program) (I : Input) (found : Findings) (answer : Answer) : Type 0 where
  pub texts : WritesRepair P (plan_for P found) (direct P) (I ∷ []) answer
  pub notes_is : answer.notes
      ≡ repair_counts (length found.reports) (plan_for P found) (length (clone_numbers P (plan_for P found)))
  pub reported : (s : Site) → IsPlanned (plan_for P found) s → IsReportedSite found s

-- What `thin` writes: the same, but the low stores get no flush by cloning either.
pub record HasPlannedThin (P : Program) (I : Input) (found : Findings) (answer : Answer) : Type 0 where
  pub texts : WritesRepair P (plan_for P found) (low_stores P) (I ∷ []) answer
  pub notes_is : answer.notes
      ≡ thin_counts (length found.reports) (plan_for P found) (length (clone_numbers P (plan_for P found)))
      (spared_count P (plan_for P found))
  pub reported : (s : Site) → IsPlanned (plan_for P found) s → IsReportedSite found s

-- A report of one of the runs names the site.
pub record IsReportedIn (runs : List TracedRun) (s : Site) : Type 0 where
  pub run : TracedRun
  pub there : In run runs
  pub reported : IsReportedSite run.found s

-- What `many` writes: the program repaired by the union of the plans for what the runs found, each of whose sites a
-- report of one of the runs names.
pub record HasPlannedMany (P : Program) (runs : List TracedRun) (answer : Answer) : Type 0 where
  pub plan : Plan
  pub union : IsUnion (plans_of P runs) plan
  pub texts : WritesRepair P plan (direct P) (map (λ r. r.input) runs) answer
  pub notes_is : answer.notes ≡ many_notes P (length runs) (reports_of runs) plan (length (clone_numbers P plan))
      (reasons (plans_of P runs) plan)
  pub reported : (s : Site) → IsPlanned plan s → IsReportedIn runs s
