-- Requirements on a program: what each asks, and the first fault that it finds.
use Rattle.std.specs.Prelude.{ℕ, ◌≡◌, ◌+◌, Bool, List, [], ◌∷◌, Option, Some, None, IsTrue, if◌then◌else◌}
use Rattle.hip_sound.specs.declared.fault.Fault.{Fault}
use Rattle.hip_sound.specs.declared.fault.Finding.{Finding}
use Rattle.hip_sound.specs.declared.fault.Place.{Place}

-- What is required, and the first finding against it.
pub record Requirement : Type 1 where
  pub Holds : Type 0
  pub found : Option Finding

-- A requirement is decided if it finds nothing exactly when it holds.
pub record IsDecided (c : Requirement) : Type 0 where
  pub sound : c.found ≡ None → c.Holds
  pub whole : c.Holds → c.found ≡ None

-- The earlier finding, or else the later one, if there is either.
abbrev pub or_else : Option Finding → Option Finding → Option Finding
or_else None later = later
or_else (Some f) later = Some f

-- The requirement that requires nothing: it always holds and finds nothing.
abbrev pub nothing_asked : Requirement
nothing_asked = record { Holds = Unit {0}; found = None }

-- The requirement that requires a fact, with the test that decides it and the fault where it fails.
abbrev pub asks : Type 0 → Bool → Fault → Place → Requirement
asks fact test fault place =
    record { Holds = fact; found = if test then None else Some (record { fault = fault; place = place }) }

-- The requirement that requires a test to pass, with the fault where it fails.
abbrev pub asks_true : Bool → Fault → Place → Requirement
asks_true test fault place = asks (IsTrue test) test fault place

-- One requirement, and then another.
abbrev pub and_then : Requirement → Requirement → Requirement
and_then a b = record { Holds = a.Holds × b.Holds; found = or_else a.found b.found }

-- A requirement of each item with its number, in order.
abbrev pub each_from : {A : Type 0} → ℕ → (ℕ → A → Requirement) → List A → Requirement
each_from n check [] = nothing_asked
each_from n check (x ∷ xs) = and_then (check n x) (each_from (n + 1) check xs)

-- A requirement of each item with its number from 0, in order; an empty list requires nothing.
abbrev pub each : {A : Type 0} → (ℕ → A → Requirement) → List A → Requirement
each check xs = each_from 0 check xs
