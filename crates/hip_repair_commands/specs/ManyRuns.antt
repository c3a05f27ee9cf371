-- The runs of a program whose traces are in files.
use Rattle.std.specs.Prelude.{ℕ, ◌≡◌, ◌+◌, suc, List, [], ◌∷◌, ◌++◌, length, map, Option, IfSome}
use Rattle.std.specs.List.{All}
use Rattle.hip_io.specs.declared.cabinet.NamedFile.{NamedFile}
use Rattle.hip_tree.specs.declared.program.Program.{Program}
use Rattle.hip_answers.specs.TraceFiles.{IsTraceFile}
use Rattle.hip_repairs.specs.Choice.{plan_for}
use Rattle.hip_repairs.specs.declared.plan.Plan.{Plan}
use Rattle.hip_runs.specs.Found.Marks.{IsFound}
use Rattle.hip_runs.specs.Validity.{IsValid}
use Rattle.hip_runs.specs.declared.input.Input.{Input}
use Rattle.hip_runs.specs.declared.report.Findings.{Findings}

-- A run: the name of the file that has its trace, its input, and what it found.
pub record TracedRun : Type 0 where
  pub name : List ℕ
  pub input : Input
  pub found : Findings

-- The file is the trace of the program's run on the input, which found this.
pub record IsRunOf (files : Option (List NamedFile)) (P : Program) (r : TracedRun) : Type 0 where
  pub traced : IfSome files (λ fs. IsTraceFile fs r.name P r.input)
  pub valid : IsValid P r.input
  pub found_is : IsFound P r.input r.found

-- The files of these names are the traces of these runs, in order.
pub record AreRunsOf (files : Option (List NamedFile)) (P : Program) (names : List (List ℕ)) (runs : List TracedRun) :
    Type 0 where
  pub named : map (λ r. r.name) runs ≡ names
  pub each : All (IsRunOf files P) runs

-- The name is at that place among the names, counted from 1, and all files before it are traces of runs.
pub record IsAfterRuns (files : Option (List NamedFile)) (P : Program) (names : List (List ℕ)) (number : ℕ)
    (name : List ℕ) : Type 0 where
  pub before : List (List ℕ)
  pub after : List (List ℕ)
  pub names_are : names ≡ before ++ name ∷ after
  pub number_is : number ≡ suc (length before)
  pub runs : List TracedRun
  pub are : AreRunsOf files P before runs

-- ---- the plans and reports of runs

-- The plan for each run.
abbrev pub plans_of : Program → List TracedRun → List Plan
plans_of P runs = map (λ r. plan_for P r.found) runs

-- How many reports the runs have together.
abbrev pub reports_of : List TracedRun → ℕ
reports_of [] = 0
reports_of (r ∷ rs) = length r.found.reports + reports_of rs
