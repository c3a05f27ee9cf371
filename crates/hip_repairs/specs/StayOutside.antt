-- Stores that never write to the region.
use Rattle.std.specs.Prelude.{◌≡◌, ℕ, Bool, true, List, ◌∷◌}
use Rattle.hip_tree.specs.declared.program.Program.{Program}
use Rattle.hip_tree.specs.declared.site.Site.{Site}
use Rattle.hip_runs.specs.declared.event.Event.{Event}
use Rattle.hip_runs.specs.declared.event.Event.TheVariants as events
use Rattle.hip_runs.specs.declared.input.Input.{Input}
use Rattle.hip_runs.specs.State.{Frame, site_of}
use Rattle.hip_runs.specs.Step.{event, run}
use Rattle.hip_runs.specs.Validity.{IsValid}

-- The event is that of a store into the region.
abbrev pub stores_in_region : Event → Type 0
stores_in_region (events.Store addr value size) = Unit {0}
stores_in_region _ = ⊥

-- A set of sites stays outside the region if, in the run of every valid input, no step at one of them is a store into the region.
abbrev pub StayOutside : Program → (Site → Bool) → Type 0
StayOutside P skip =
    (I : Input) → IsValid P I → (n : ℕ) (f : Frame) (fs : List Frame) → (run P I n).frames ≡ f ∷ fs →
    skip (site_of f) ≡ true → ¬ stores_in_region (event P I (run P I n))
