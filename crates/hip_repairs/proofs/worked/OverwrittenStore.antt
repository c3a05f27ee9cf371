-- The run of two stores to one place, and its repair.
use Rattle.std.proofs.Common.{◌≡◌, true, [], ◌∷◌, List, refl, ap}
use Rattle.hip_types.specs.Laws.LayoutLaws.{shape-Int}
use Rattle.hip_runs.specs.Actions.{Deed, Returns, Stores}
use Rattle.hip_runs.specs.Found.Reports.{reports}
use Rattle.hip_runs.specs.Step.{start, run, has_ended}
use Rattle.hip_runs.specs.Laws.Opened.{run_opened}
use Rattle.hip_repairs.specs.examples.Words.{zeroed, IsWorked}
use Rattle.hip_repairs.specs.examples.OverwrittenStore.{overwritten_store, overwritten_store_report, overwritten_store_repaired}
use Rattle.hip_repairs.proofs.worked.Runs.{Follows, done_opened, int_value, address_value, run_is, reports_are}

-- What is done, step by step.
abbrev deeds : List Deed
deeds = record { turn = true; action = Stores 4294967296 (5 ∷ 0 ∷ 0 ∷ 0 ∷ 0 ∷ 0 ∷ 0 ∷ 0 ∷ []) } ∷ record { turn = true; action = Stores 4294967296 (6 ∷ 0 ∷ 0 ∷ 0 ∷ 0 ∷ 0 ∷ 0 ∷ 0 ∷ []) } ∷ record { turn = true; action = Returns 0 } ∷ []

follows : Follows overwritten_store (zeroed 1) (start overwritten_store (zeroed 1)) deeds
unfolding run_opened
follows = (refl, simp (int_value, address_value, shape-Int) refl, (refl, simp (int_value, address_value, shape-Int) refl, (refl, simp (int_value) refl, tt)))

ended : has_ended (run overwritten_store (zeroed 1) 3) ≡ true
unfolding done_opened
ended = ap has_ended (run_is overwritten_store (zeroed 1) deeds follows)

found : reports overwritten_store (zeroed 1) 3 ≡ overwritten_store_report ∷ []
unfolding done_opened
found = reports_are overwritten_store (zeroed 1) deeds follows

pub overwritten_store_worked : IsWorked overwritten_store (zeroed 1) 3 (overwritten_store_report ∷ []) overwritten_store_repaired
overwritten_store_worked = record { ended = ended; reports = found; repaired = λ skip. rw found refl }
