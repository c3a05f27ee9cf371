-- The run of a store with a fence and no flush after it, and its repair.
use Rattle.std.proofs.Common.{◌≡◌, true, false, [], ◌∷◌, List, refl, ap}
use Rattle.hip_types.specs.Laws.LayoutLaws.{shape-Int}
use Rattle.hip_runs.specs.Actions.{Deed, Fences, Returns, Stores}
use Rattle.hip_runs.specs.Found.Reports.{reports}
use Rattle.hip_runs.specs.Step.{start, run, has_ended}
use Rattle.hip_runs.specs.Laws.Opened.{run_opened}
use Rattle.hip_repairs.specs.examples.Words.{zeroed, IsWorked}
use Rattle.hip_repairs.specs.examples.FenceWithoutFlush.{fence_without_flush, fence_without_flush_report, fence_without_flush_repaired}
use Rattle.hip_repairs.proofs.worked.Runs.{Follows, done_opened, int_value, address_value, run_is, reports_are}

-- What is done, step by step.
abbrev deeds : List Deed
deeds = record { turn = true; action = Stores 4294967296 (5 ∷ 0 ∷ 0 ∷ 0 ∷ 0 ∷ 0 ∷ 0 ∷ 0 ∷ []) } ∷ record { turn = false; action = Fences } ∷ record { turn = true; action = Returns 0 } ∷ []

follows : Follows fence_without_flush (zeroed 1) (start fence_without_flush (zeroed 1)) deeds
unfolding run_opened
follows = (refl, simp (int_value, address_value, shape-Int) refl, (refl, refl, (refl, simp (int_value) refl, tt)))

ended : has_ended (run fence_without_flush (zeroed 1) 3) ≡ true
unfolding done_opened
ended = ap has_ended (run_is fence_without_flush (zeroed 1) deeds follows)

found : reports fence_without_flush (zeroed 1) 3 ≡ fence_without_flush_report ∷ []
unfolding done_opened
found = reports_are fence_without_flush (zeroed 1) deeds follows

pub fence_without_flush_worked : IsWorked fence_without_flush (zeroed 1) 3 (fence_without_flush_report ∷ []) fence_without_flush_repaired
fence_without_flush_worked = record { ended = ended; reports = found; repaired = λ skip. rw found refl }
