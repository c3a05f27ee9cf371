-- Crash histories: a program runs, a crash leaves an image, and the program runs again from that image, with any
-- input and any number of times. (This project's own.)
use Rattle.std.specs.Prelude.{◌≡◌, ℕ, ℤ, List, [], ◌∷◌, Option}
use Rattle.hip_tree.specs.declared.program.Program.{Program}
use Rattle.hip_runs.specs.Crash.{IsCrashImage}
use Rattle.hip_runs.specs.State.{State}
use Rattle.hip_runs.specs.Step.{run}
use Rattle.hip_runs.specs.Validity.{IsValid}
use Rattle.hip_runs.specs.declared.event.Ending.{Ending}
use Rattle.hip_runs.specs.declared.input.Input.{Input}
use Rattle.hip_survival.specs.Survival.{working_region}

-- A round: the base, the numbers and the limit that its run is given, the number of steps before the crash, and the
-- bytes of the region that the crash leaves.
pub record Round : Type 0 where
  pub base : ℕ
  pub numbers : List ℤ
  pub limit : ℕ
  pub steps : ℕ
  pub image : List ℕ

-- The input of a round whose run begins with these bytes in the region.
abbrev pub input_of : List ℕ → Round → Input
input_of bytes r = record { base = r.base; image = bytes; numbers = r.numbers; limit = r.limit }

-- The state of the round in which the crash comes.
abbrev pub state_of : Program → List ℕ → Round → State
state_of P bytes r = run P (input_of bytes r) r.steps

-- The input of the round is valid, and what the crash leaves is a crash image of the state in which it comes.
pub record IsRound (P : Program) (bytes : List ℕ) (r : Round) : Type 0 where
  pub valid : IsValid P (input_of bytes r)
  pub left : IsCrashImage (input_of bytes r) (state_of P bytes r) r.image

-- The rounds are a crash history: the first round begins with these bytes, and each later round begins with the bytes
-- that the crash before it left.
abbrev pub IsHistory : Program → List ℕ → List Round → Type 0
IsHistory P bytes [] = Unit {0}
IsHistory P bytes (r ∷ rs) = IsRound P bytes r × IsHistory P r.image rs

-- The output of a history: what each round has printed at its crash.
abbrev pub outputs : Program → List ℕ → List Round → List (List ℕ)
outputs P bytes [] = []
outputs P bytes (r ∷ rs) = (state_of P bytes r).world.output ∷ outputs P r.image rs

-- How each round has ended at its crash; none for a round that is still running.
abbrev pub endings : Program → List ℕ → List Round → List (Option Ending)
endings P bytes [] = []
endings P bytes (r ∷ rs) = (state_of P bytes r).world.ending ∷ endings P r.image rs

-- The two rounds have the same input and their crashes leave the same bytes. Their numbers of steps may differ.
pub record IsSameRound (r r' : Round) : Type 0 where
  pub base : r'.base ≡ r.base
  pub numbers : r'.numbers ≡ r.numbers
  pub limit : r'.limit ≡ r.limit
  pub image : r'.image ≡ r.image

-- There are as many rounds in both lists, and rounds at the same place are the same.
abbrev pub AreSameRounds : List Round → List Round → Type 0
AreSameRounds [] [] = Unit {0}
AreSameRounds (r ∷ rs) (r' ∷ rs') = IsSameRound r r' × AreSameRounds rs rs'
AreSameRounds [] (r' ∷ rs') = ⊥
AreSameRounds (r ∷ rs) [] = ⊥

-- P has a history from these bytes with the same rounds as this history of Q, and in each round the same output and
-- ending.
pub record HasHistoryOf (P Q : Program) (bytes : List ℕ) (rounds' : List Round) : Type 0 where
  pub rounds : List Round
  pub history : IsHistory P bytes rounds
  pub same : AreSameRounds rounds rounds'
  pub printed : outputs P bytes rounds ≡ outputs Q bytes rounds'
  pub ended : endings P bytes rounds ≡ endings Q bytes rounds'

-- Each crash history of Q, from any bytes, is also one of P, with the same inputs, images, outputs and endings.
abbrev pub AddsNoHistory : Program → Program → Type 0
AddsNoHistory P Q =
    (bytes : List ℕ) (rounds' : List Round) → IsHistory Q bytes rounds' → HasHistoryOf P Q bytes rounds'

-- No crash loses anything: the bytes that each crash leaves are those of working memory.
abbrev pub IsLossless : Program → List ℕ → List Round → Type 0
IsLossless P bytes [] = Unit {0}
IsLossless P bytes (r ∷ rs) = (r.image ≡ working_region P (input_of bytes r) (state_of P bytes r))
    × IsLossless P r.image rs

-- Each crash history of P in which no crash loses anything is also one of Q.
abbrev pub KeepsLosslessHistories : Program → Program → Type 0
KeepsLosslessHistories P Q =
    (bytes : List ℕ) (rounds : List Round) → IsHistory P bytes rounds → IsLossless P bytes rounds →
    HasHistoryOf Q P bytes rounds
