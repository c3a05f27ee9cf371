-- The run of a store with a flush and no fence after it, and its repair.
use Rattle.std.proofs.Common.{◌≡◌, true, false, [], ◌∷◌, List, refl, ap}
use Rattle.hip_types.specs.Laws.LayoutLaws.{shape-Int}
use Rattle.hip_runs.specs.Actions.{Deed, Flushes, Returns, Stores}
use Rattle.hip_runs.specs.Found.Reports.{reports}
use Rattle.hip_runs.specs.Step.{start, run, has_ended}
use Rattle.hip_runs.specs.Laws.Opened.{run_opened}
use Rattle.hip_repairs.specs.examples.Words.{zeroed, IsWorked}
use Rattle.hip_repairs.specs.examples.FlushWithoutFence.{flush_without_fence, flush_without_fence_report, flush_without_fence_repaired}
use Rattle.hip_repairs.proofs.worked.Runs.{Follows, done_opened, int_value, address_value, run_is, reports_are}

-- What is done, step by step.
abbrev deeds : List Deed
deeds = record { turn = true; action = Stores 4294967296 (5 ∷ 0 ∷ 0 ∷ 0 ∷ 0 ∷ 0 ∷ 0 ∷ 0 ∷ []) } ∷ record { turn = false; action = Flushes 4294967296 1 } ∷ record { turn = true; action = Returns 0 } ∷ []

follows : Follows flush_without_fence (zeroed 1) (start flush_without_fence (zeroed 1)) deeds
unfolding run_opened
follows = (refl, simp (int_value, address_value, shape-Int) refl, (refl, simp (address_value, shape-Int) refl, (refl, simp (int_value) refl, tt)))

ended : has_ended (run flush_without_fence (zeroed 1) 3) ≡ true
unfolding done_opened
ended = ap has_ended (run_is flush_without_fence (zeroed 1) deeds follows)

found : reports flush_without_fence (zeroed 1) 3 ≡ flush_without_fence_report ∷ []
unfolding done_opened
found = reports_are flush_without_fence (zeroed 1) deeds follows

pub flush_without_fence_worked : IsWorked flush_without_fence (zeroed 1) 3 (flush_without_fence_report ∷ []) flush_without_fence_repaired
flush_without_fence_worked = record { ended = ended; reports = found; repaired = λ skip. rw found refl }
