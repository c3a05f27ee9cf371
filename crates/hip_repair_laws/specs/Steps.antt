-- How many steps a repair adds to a run. (This project's own.)
use Rattle.std.specs.Prelude.{ℕ, zero, suc, ◌+◌, ◌*◌, ◌≤◌, Bool, false, cond, List, [], ◌∷◌, Option, Some, None}
use Rattle.hip_tree.specs.Sites.{has_site, instr_of}
use Rattle.hip_tree.specs.declared.program.Program.{Program}
use Rattle.hip_tree.specs.declared.site.Site.{Site}
use Rattle.hip_runs.specs.Sites.{is_flush_call, is_store}
use Rattle.hip_runs.specs.State.{Frame, site_of}
use Rattle.hip_runs.specs.Step.{run}
use Rattle.hip_runs.specs.Validity.{IsValid}
use Rattle.hip_runs.specs.declared.event.Ending.{Ending}
use Rattle.hip_runs.specs.declared.input.Input.{Input}
use Rattle.hip_repairs.specs.Harmless.{matched}
use Rattle.hip_repairs.specs.declared.plan.Plan.{Plan}

-- Whether the top frame is at a site that passes a test; false once the run has ended, and where there is no frame.
abbrev pub is_at : (Site → Bool) → Option Ending → List Frame → Bool
is_at test (Some ending) fs = false
is_at test None [] = false
is_at test None (f ∷ fs) = test (site_of f)

-- How many of the first n steps of P's run are at sites that pass a test.
abbrev pub steps_at : Program → Input → (Site → Bool) → ℕ → ℕ
steps_at P I test zero = 0
steps_at P I test (suc n) =
    cond (is_at test (run P I n).world.ending (run P I n).frames) 1 0 + steps_at P I test n

-- How many of the first n steps of P's run are stores, calls that flush and take no fence, and calls that the plan
-- hoists.
abbrev pub stores_run : Program → Input → ℕ → ℕ
stores_run P I n = steps_at P I (λ s. is_store (instr_of P s)) n

abbrev pub flushes_run : Program → Input → ℕ → ℕ
flushes_run P I n = steps_at P I (λ s. is_flush_call (instr_of P s)) n

abbrev pub hoists_run : Program → Plan → Input → ℕ → ℕ
hoists_run P plan I n = steps_at P I (has_site plan.hoist) n

-- At most so many steps are added to the first n steps of P's run: two for each store, and one for each flush and each
-- hoisted call.
abbrev pub added_at_most : Program → Plan → Input → ℕ → ℕ
added_at_most P plan I n = 2 * stores_run P I n + (flushes_run P I n + hoists_run P plan I n)

-- On every valid input the first n steps of the repaired program's run are those of P to which they correspond, and at
-- most so many more.
abbrev pub AddsFewSteps : Program → Plan → (Site → Bool) → Type 0
AddsFewSteps P plan skip =
    (I : Input) → IsValid P I → (n : ℕ)
    → n ≤ matched P plan skip I n + added_at_most P plan I (matched P plan skip I n)
