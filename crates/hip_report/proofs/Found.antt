-- What is found of a whole run, by what was sought.
use Rattle.std.proofs.Common.{◌≡◌, ◌∙◌, ℕ, true, List, ap, refl}
use Rattle.hip_tree.specs.declared.program.Program.{Program}
use Rattle.hip_runs.specs.Found.Marks.{findings, hit, pointed}
use Rattle.hip_runs.specs.Found.Reports.{reports}
use Rattle.hip_runs.specs.Step.{has_ended, run}
use Rattle.hip_runs.specs.declared.input.Input.{Input}
use Rattle.hip_runs.specs.declared.report.Findings.{Findings}
use Rattle.hip_runs.specs.declared.report.Mark.{Mark}
use Rattle.hip_runs.specs.declared.report.Report.{Report}
use Rattle.hip_ledger.specs.SoughtFindings.{Finds}
use Rattle.hip_ledger.specs.declared.sought.Sought.{Sought}
use Rattle.hip_ledger.specs.declared.sought.Sought.TheVariants as soughts

found_of : (rs : List Report) → (ps : List Mark) → (hs : List ℕ) → Findings
found_of rs ps hs = record { reports = rs; marks = record { pointed = ps; hit = hs } }

-- The reports are those of the run, and the marks too if they were sought.
pub finds : (sought : Sought) (P : Program) (I : Input) (n : ℕ) (rs : List Report) (ps : List Mark) (hs : List ℕ) → has_ended (run P I n) ≡ true → rs ≡ reports P I n
    → (sought ≡ soughts.Findings → ps ≡ pointed P I n) → (sought ≡ soughts.Findings → hs ≡ hit P I n)
    → Finds sought P I (record { reports = rs; marks = record { pointed = ps; hit = hs } })
unfolding found_of
finds soughts.Reports P I n rs ps hs ended r p h = record { steps = n; ended = ended; are = r }
finds soughts.Findings P I n rs ps hs ended r p h = record {
  steps = n;
  ended = ended;
  is = ap (λ (x : List Report). found_of x ps hs) r ∙ ap (λ (x : List Mark). found_of (reports P I n) x hs) (p refl) ∙ ap (λ (x : List ℕ). found_of (reports P I n) (pointed P I n) x) (h refl);
}
