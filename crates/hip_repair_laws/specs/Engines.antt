-- What the author of a storage engine may rely on after repairs. (This project's own.)
use Rattle.std.specs.Prelude.{◌≡◌, ℕ, suc, ◌+◌, ◌/◌, ◌<◌, Bool, true, false, ◌&&◌, nat_le, nat_lt, List, length, map, count_by, Option, Some, None, slice_get}
use Rattle.hip_tree.specs.declared.program.Program.{Program}
use Rattle.hip_types.specs.declared.areas.TheConstants.{LINE_SIZE}
use Rattle.hip_runs.specs.Crash.{IsCrashImage}
use Rattle.hip_runs.specs.State.{State}
use Rattle.hip_runs.specs.Step.{run}
use Rattle.hip_runs.specs.Validity.{IsValid}
use Rattle.hip_runs.specs.declared.event.Ending.{Ending}
use Rattle.hip_runs.specs.declared.input.Input.{Input}
use Rattle.hip_repairs.specs.Harmless.{Content, contents}
use Rattle.hip_survival.specs.Survival.{IsLooseAt}
use Rattle.hip_histories.specs.Histories.{IsHistory, Round, endings, outputs}

-- ---- invariants of crash images

-- What every crash image of P's run passes, every crash image of Q's run passes: any test of the region's bytes that an
-- engine's recovery relies on.
abbrev pub KeepsCrashInvariants : Program → Program → Type 0
KeepsCrashInvariants P Q =
    (I : Input) → IsValid P I → (holds : List ℕ → Bool)
    → ((n : ℕ) (content : List ℕ) → IsCrashImage I (run P I n) content → holds content ≡ true)
    → (n : ℕ) (content : List ℕ) → IsCrashImage I (run Q I n) content → holds content ≡ true

-- ---- write-ahead orders

-- Whether the stored bytes cover byte b of the region.
abbrev pub has_byte : ℕ → Content → Bool
has_byte b c = nat_le c.offset b && nat_lt b (c.offset + length c.bytes)

-- How many of a line's stores cover byte b; 0 if there is no such line.
abbrev pub count_over : ℕ → Option (List Content) → ℕ
count_over b None = 0
count_over b (Some cs) = count_by (has_byte b) cs

-- How many stores over byte b of the region were made so far.
abbrev pub stores_over : State → ℕ → ℕ
stores_over s b = count_over b (slice_get (map contents s.lines) (b / LINE_SIZE))

-- Whenever byte `later` is stored, byte `first` is durable: no crash loses what was stored last over it. So a log that
-- is written ahead is on the medium before the record that relies on it.
abbrev pub IsWrittenAhead : Program → Input → ℕ → ℕ → Type 0
IsWrittenAhead P I first later =
    (n : ℕ) → stores_over (run P I n) later < stores_over (run P I (suc n)) later → ¬ IsLooseAt (run P I n) first

-- Each such order of P's run is one of Q's run.
abbrev pub KeepsWriteAhead : Program → Program → Type 0
KeepsWriteAhead P Q =
    (I : Input) → IsValid P I → (first later : ℕ) → IsWrittenAhead P I first later → IsWrittenAhead Q I first later

-- ---- outcomes of crash histories

-- No crash history of P has this outcome, by a test of what its crashes leave, what its rounds print, and how they end.
abbrev pub NeverHas : Program → (List (List ℕ) → List (List ℕ) → List (Option Ending) → Bool) → Type 0
NeverHas P outcome =
    (bytes : List ℕ) (rounds : List Round) → IsHistory P bytes rounds
    → outcome (map (λ r. r.image) rounds) (outputs P bytes rounds) (endings P bytes rounds) ≡ false

-- An outcome that no crash history of P has, no crash history of Q has.
abbrev pub AddsNoOutcome : Program → Program → Type 0
AddsNoOutcome P Q =
    (outcome : List (List ℕ) → List (List ℕ) → List (Option Ending) → Bool) → NeverHas P outcome → NeverHas Q outcome

-- What an engine's author may rely on: Q keeps the invariants of P's crash images and its write-ahead orders, and adds
-- no outcome of crash histories.
pub record KeepsPromises (P Q : Program) : Type 0 where
  pub invariants : KeepsCrashInvariants P Q
  pub orders : KeepsWriteAhead P Q
  pub outcomes : AddsNoOutcome P Q
