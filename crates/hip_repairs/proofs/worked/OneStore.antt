-- The run of a store that is neither flushed nor fenced, and its repair.
use Rattle.std.proofs.Common.{◌≡◌, true, [], ◌∷◌, refl, ap, List}
use Rattle.hip_types.specs.Laws.LayoutLaws.{shape-Int}
use Rattle.hip_runs.specs.Actions.{Deed, Stores, Returns}
use Rattle.hip_runs.specs.Found.Reports.{reports}
use Rattle.hip_runs.specs.Step.{start, run, has_ended}
use Rattle.hip_runs.specs.Laws.Opened.{run_opened}
use Rattle.hip_repairs.specs.examples.Words.{zeroed, IsWorked}
use Rattle.hip_repairs.specs.examples.OneStore.{one_store, one_store_report, one_store_repaired}
use Rattle.hip_repairs.proofs.worked.Runs.{Follows, done_opened, int_value, address_value, run_is, reports_are}

abbrev deeds : List Deed
deeds = record { turn = true; action = Stores 4294967296 (5 ∷ 0 ∷ 0 ∷ 0 ∷ 0 ∷ 0 ∷ 0 ∷ 0 ∷ []) } ∷ record { turn = true; action = Returns 0 } ∷ []

follows : Follows one_store (zeroed 1) (start one_store (zeroed 1)) deeds
unfolding run_opened
follows = (refl, simp (int_value, address_value, shape-Int) refl, (refl, simp (int_value) refl, tt))

ended : has_ended (run one_store (zeroed 1) 2) ≡ true
unfolding done_opened
ended = ap has_ended (run_is one_store (zeroed 1) deeds follows)

found : reports one_store (zeroed 1) 2 ≡ one_store_report ∷ []
unfolding done_opened
found = reports_are one_store (zeroed 1) deeds follows

pub one_store_worked : IsWorked one_store (zeroed 1) 2 (one_store_report ∷ []) one_store_repaired
one_store_worked = record { ended = ended; reports = found; repaired = λ skip. rw found refl }
