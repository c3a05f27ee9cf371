-- A repaired program takes the steps of the program, and between them only flushes of what was just stored and fences.
use Rattle.std.specs.Prelude.{◌≡◌, ◌⊎◌, ℕ, suc, Bool, true, false, List, [], ◌∷◌, Option, Some, None, slice_get}
use Rattle.hip_types.specs.declared.number.Scalar.{Scalar}
use Rattle.hip_tree.specs.declared.instr.Instr.{Instr}
use Rattle.hip_tree.specs.declared.instr.Instr.TheVariants.{Store}
use Rattle.hip_tree.specs.declared.instr.Operand.{Operand}
use Rattle.hip_tree.specs.declared.program.Program.{Program}
use Rattle.hip_tree.specs.declared.site.Site.{Site}
use Rattle.hip_repairs.specs.Harmless.{matched, stands_inserted}
use Rattle.hip_repairs.specs.Repaired.{Clone, clones_of, flush_of, renamed, repaired, the_fence}
use Rattle.hip_repairs.specs.declared.plan.Plan.{Plan}
use Rattle.hip_runs.specs.Places.{body_at, code_at, end_at}
use Rattle.hip_runs.specs.State.{Frame}
use Rattle.hip_runs.specs.Step.{run}
use Rattle.hip_runs.specs.Validity.{IsValid}
use Rattle.hip_runs.specs.declared.event.Ending.{Ending}
use Rattle.hip_runs.specs.declared.input.Input.{Input}

-- ---- the same instruction

-- Both have the same instruction next, except that a call may name the clone of its callee; or none of them has one.
abbrev pub IsSameNext : List Clone → List Instr → List Instr → Type 0
IsSameNext clones [] [] = Unit {0}
IsSameNext clones (i ∷ is) (i' ∷ is') = (to_clone : Bool) × (i' ≡ renamed clones i to_clone)
IsSameNext clones [] (i' ∷ is') = ⊥
IsSameNext clones (i ∷ is) [] = ⊥

-- Unless the run has ended, the top frames of P and of Q have the same instruction next, or both are at the end of a
-- block, which is the same.
abbrev pub HaveSameNext : Program → Program → List Clone → Option Ending → List Frame → List Frame → Type 0
HaveSameNext P Q clones (Some ending) fs fs' = Unit {0}
HaveSameNext P Q clones None (f ∷ fs) (f' ∷ fs') =
    IsSameNext clones (code_at P f) (code_at Q f') × (end_at Q f' ≡ end_at P f)
HaveSameNext P Q clones None [] fs' = ⊥
HaveSameNext P Q clones None (f ∷ fs) [] = ⊥

-- ---- other instructions

-- At this place of a body is the flush for the store directly before it: of the same address operand.
pub record IsFlushOfStore (body : List Instr) (place : ℕ) : Type 0 where
  pub at : ℕ
  pub after : place ≡ suc at
  pub ty : Scalar
  pub value : Operand
  pub addr : Operand
  pub align : Option ℕ
  pub store : slice_get body at ≡ Some (Store ty value addr align)
  pub flush : slice_get body place ≡ Some (flush_of ty addr align)

-- At this place of a body is such a flush, or a fence.
abbrev pub IsFlushOrFence : List Instr → ℕ → Type 0
IsFlushOrFence body place = IsFlushOfStore body place ⊎ (slice_get body place ≡ Some the_fence)

-- The top frame is at such a flush or at a fence.
abbrev pub StandsAtFlushOrFence : Program → List Frame → Type 0
StandsAtFlushOrFence Q [] = ⊥
StandsAtFlushOrFence Q (f ∷ fs) = IsFlushOrFence (body_at Q f.function f.block) f.place

-- ---- the steps

-- On every valid input, a step of the repaired program that corresponds to a step of the program takes the same
-- instruction or block end, and any other step is a flush of the operand of the store that came directly before it, or
-- a fence.
pub record TakesSameSteps (P : Program) (plan : Plan) (skip : Site → Bool) : Type 0 where
  pub same : (I : Input) → IsValid P I → (n : ℕ)
      → stands_inserted P plan skip (run (repaired P plan skip) I n) ≡ false
      → HaveSameNext P (repaired P plan skip) (clones_of P plan) (run (repaired P plan skip) I n).world.ending
      (run P I (matched P plan skip I n)).frames (run (repaired P plan skip) I n).frames
  pub other : (I : Input) → IsValid P I → (n : ℕ)
      → stands_inserted P plan skip (run (repaired P plan skip) I n) ≡ true
      → StandsAtFlushOrFence (repaired P plan skip) (run (repaired P plan skip) I n).frames
