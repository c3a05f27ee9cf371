-- The answers of `thin`.
use Rattle.std.specs.Prelude.{ℕ, ◌≡◌, List, length}
use Rattle.hip_answers.specs.Answers.{Answer}
use Rattle.hip_answers.specs.declared.status.Status.TheVariants.{Done}
use Rattle.hip_io.specs.Cabinets.{CabinetState}
use Rattle.hip_grammar.specs.Show.{show}
use Rattle.hip_tree.specs.declared.program.Program.{Program}
use Rattle.hip_answers.specs.RunAnswers.{TraceAnswers}
use Rattle.hip_repair_answers.specs.Cured.{IsCuredBy}
use Rattle.hip_repairs.specs.Choice.{plan_for}
use Rattle.hip_repairs.specs.CloneNumbers.{clone_numbers}
use Rattle.hip_repairs.specs.Repaired.{repaired}
use Rattle.hip_command_io.specs.Notes.{thin_counts}
use Rattle.hip_runs.specs.declared.input.Input.{Input}
use Rattle.hip_runs.specs.declared.report.Findings.{Findings}
use Rattle.hip_run_repairs.specs.Spared.{spared_count}
use Rattle.hip_vol.specs.LowStores.{low_stores}

-- The program repaired by the plan for what a run found; the low stores get no flush by cloning.
abbrev pub thinned_for : Program → Findings → Program
thinned_for P found = repaired P (plan_for P found) (low_stores P)

-- What that repair does, on the run's input.
abbrev pub IsThinned : Program → Input → Findings → Type 0
IsThinned P I found = IsCuredBy P I (plan_for P found) (low_stores P)

-- Out has the canonical text of the repaired program, and notes how many reports, flushes, fences, hoisted calls,
-- clones and spared stores there are. The repaired program does no harm, is clean on the trace's input and has its
-- hoisted calls covered.
pub record HasThinned (P : Program) (I : Input) (found : Findings) (answer : Answer) : Type 0 where
  pub status_is : answer.status ≡ Done
  pub out_is : answer.out ≡ show (thinned_for P found)
  pub notes_is : answer.notes
      ≡ thin_counts (length found.reports) (plan_for P found) (length (clone_numbers P (plan_for P found)))
      (spared_count P (plan_for P found))
  pub cured : IsThinned P I found

-- The answers of `thin`: if there is a run, the program repaired for it; its clones do not flush the low stores.
abbrev pub ThinAnswers : CabinetState → CabinetState → List ℕ → List ℕ → Answer → Type 0
ThinAnswers = TraceAnswers HasThinned
