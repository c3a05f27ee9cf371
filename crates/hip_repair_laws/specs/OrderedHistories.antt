-- Crash histories where some flushes are ordered. (This project's own.)
use Rattle.std.specs.Prelude.{◌≡◌, ℕ, Bool, List, [], ◌∷◌}
use Rattle.hip_tree.specs.declared.program.Program.{Program}
use Rattle.hip_tree.specs.declared.site.Site.{Site}
use Rattle.hip_externs.specs.declared.call.ExternCall.{ExternCall}
use Rattle.hip_histories.specs.Histories.{AreSameRounds, Round, endings, input_of, outputs}
use Rattle.hip_repair_laws.specs.FlushOrders.{IsOrderedImage, weak}
use Rattle.hip_repairs.specs.Harmless.{matched}
use Rattle.hip_repairs.specs.Repaired.{repaired}
use Rattle.hip_repairs.specs.declared.plan.Plan.{Plan}
use Rattle.hip_runs.specs.Crash.{IsCrashImage}
use Rattle.hip_runs.specs.Step.{run}
use Rattle.hip_runs.specs.Validity.{IsValid}
use Rattle.hip_runs.specs.declared.input.Input.{Input}

-- The input of the round is valid, and what the crash leaves is a crash image with these flushes ordered.
pub record IsOrderedRound (ordered : ExternCall → Bool) (P : Program) (bytes : List ℕ) (r : Round) : Type 0 where
  pub valid : IsValid P (input_of bytes r)
  pub left : IsOrderedImage ordered P (input_of bytes r) r.steps r.image

-- The rounds are a crash history with these flushes ordered: each later round begins with the bytes that the crash
-- before it left.
abbrev pub IsOrderedHistory : (ExternCall → Bool) → Program → List ℕ → List Round → Type 0
IsOrderedHistory ordered P bytes [] = Unit {0}
IsOrderedHistory ordered P bytes (r ∷ rs) = IsOrderedRound ordered P bytes r × IsOrderedHistory ordered P r.image rs

-- P has such a history from these bytes with the same rounds as this history of Q, and in each round the same output
-- and ending.
pub record HasOrderedHistoryOf (ordered : ExternCall → Bool) (P Q : Program) (bytes : List ℕ) (rounds' : List Round) :
    Type 0
  where
    pub rounds : List Round
    pub history : IsOrderedHistory ordered P bytes rounds
    pub same : AreSameRounds rounds rounds'
    pub printed : outputs P bytes rounds ≡ outputs Q bytes rounds'
    pub ended : endings P bytes rounds ≡ endings Q bytes rounds'

-- Whichever flushes are ordered, the repaired program has no crash image that the program does not have at the
-- corresponding step, and no crash history that it does not have.
pub record AddsNothingOrdered (ordered : ExternCall → Bool) (P : Program) (plan : Plan) (skip : Site → Bool) : Type 0
  where
    pub images : (I : Input) → IsValid P I → (n : ℕ) (content : List ℕ)
        → IsOrderedImage ordered (repaired P plan skip) I n content
        → IsOrderedImage ordered P I (matched P plan skip I n) content
    pub histories : (bytes : List ℕ) (rounds' : List Round)
        → IsOrderedHistory ordered (repaired P plan skip) bytes rounds'
        → HasOrderedHistoryOf ordered P (repaired P plan skip) bytes rounds'

-- If no flush is ordered, the crash images are those of the other crates.
pub record WeakImagesAreAll (P : Program) (I : Input) (n : ℕ) (content : List ℕ) : Type 0 where
  pub there : IsOrderedImage weak P I n content → IsCrashImage I (run P I n) content
  pub back : IsCrashImage I (run P I n) content → IsOrderedImage weak P I n content
