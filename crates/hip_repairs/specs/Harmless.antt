-- A repair does no harm.
use Rattle.std.specs.Prelude.{◌≡◌, ◌⊎◌, ℕ, zero, suc, ◌+◌, ◌-◌, ◌*◌, ◌≤◌, Bool, true, false, cond, nat_lt, List, [], ◌∷◌, map, length, drop, Option, Some, None, slice_get}
use Rattle.hip_tree.specs.declared.program.Program.{Program}
use Rattle.hip_tree.specs.declared.site.Site.{Site}
use Rattle.hip_lines.specs.Line.{Line}
use Rattle.hip_runs.specs.declared.event.Ending.{Ending}
use Rattle.hip_runs.specs.declared.input.Input.{Input}
use Rattle.hip_runs.specs.Crash.{IsCrashImage}
use Rattle.hip_runs.specs.Places.{body_at}
use Rattle.hip_runs.specs.State.{Slot, Frame, StorePart, State}
use Rattle.hip_runs.specs.Step.{run}
use Rattle.hip_runs.specs.Validity.{IsValid}
use Rattle.hip_repairs.specs.declared.plan.Plan.{Plan}
use Rattle.hip_repairs.specs.Repaired.{Marked, Clone, Wanted, wanted_by, clones_of, cloned, repaired, repaired_body}

-- ---- corresponding steps

-- The marked body of the block of function f, or of its clone.
abbrev pub marked_body : Program → List Clone → Wanted → Bool → ℕ → ℕ → List Marked
marked_body P clones w clone f b = repaired_body clones w clone f b 0 (body_at P f b)

-- The marked body of a block of the clone that was made of this function; no instructions if there is no such clone.
abbrev marked_clone : Program → List Clone → Wanted → Option ℕ → ℕ → List Marked
marked_clone P clones w None b = []
marked_clone P clones w (Some f) b = marked_body P clones w true f b

-- The marked body of a block of the repaired program, whose clones follow all functions.
abbrev pub marked_at : Program → Plan → (Site → Bool) → ℕ → ℕ → List Marked
marked_at P plan skip f b =
    cond (nat_lt f (length P.functions)) (marked_body P (clones_of P plan) (wanted_by plan skip) false f b)
    (marked_clone P (clones_of P plan) (wanted_by plan skip) (slice_get (cloned P plan) (f - length P.functions)) b)

-- Whether the first of these instructions is inserted; false at the end of a block, where no instruction is left.
abbrev pub is_inserted : List Marked → Bool
is_inserted [] = false
is_inserted (m ∷ ms) = m.1

-- Whether the top frame is at an inserted instruction; false once the run has ended, and where there is no frame.
abbrev pub inserted_on : Program → Plan → (Site → Bool) → Option Ending → List Frame → Bool
inserted_on P plan skip (Some e) fs = false
inserted_on P plan skip None [] = false
inserted_on P plan skip None (f ∷ fs) = is_inserted (drop f.place (marked_at P plan skip f.function f.block))

-- Whether a state of the repaired program is at an inserted instruction.
abbrev pub stands_inserted : Program → Plan → (Site → Bool) → State → Bool
stands_inserted P plan skip s = inserted_on P plan skip s.world.ending s.frames

-- How many of the first n steps of the repaired program are not at an inserted instruction: the number of steps of the
-- program to which they correspond. A step after the end counts.
unfoldable pub matched : Program → Plan → (Site → Bool) → Input → ℕ → ℕ
matched P plan skip I zero = 0
matched P plan skip I (suc n) =
    cond (stands_inserted P plan skip (run (repaired P plan skip) I n)) (matched P plan skip I n)
    (suc (matched P plan skip I n))

-- ---- what is the same

-- The offset and the bytes of a part of a store.
pub record Content : Type 0 where
  pub offset : ℕ
  pub bytes : List ℕ

-- The parts of a cache line, with only their offsets in the region and their bytes.
abbrev pub contents : Line StorePart → List Content
contents l = map (λ p. record { offset = p.offset; bytes = p.bytes }) l.parts

-- The address and the size of a block on the stack.
pub record Extent : Type 0 where
  pub addr : ℕ
  pub size : ℕ

-- The blocks on the stack, with only their addresses and sizes: a repair may move the site of an `alloca`.
abbrev pub extents : List Slot → List Extent
extents slots = map (λ s. record { addr = s.addr; size = s.size }) slots

-- The function of the second frame is that of the first or a clone of it; the block, the registers, the stack mark and
-- the blocks on the stack are the same.
pub record SameFrame (functions : ℕ) (copied : List ℕ) (f f' : Frame) : Type 0 where
  pub function : (f'.function ≡ f.function)
      ⊎ ((k : ℕ) × (f'.function ≡ functions + k) × (slice_get copied k ≡ Some f.function))
  pub block : f'.block ≡ f.block
  pub registers : f'.registers ≡ f.registers
  pub mark : f'.mark ≡ f.mark
  pub slots : extents f'.slots ≡ extents f.slots

-- The two lists have the same length, and the frames at the same place are the same.
abbrev pub SameFrames : ℕ → List ℕ → List Frame → List Frame → Type 0
SameFrames functions copied [] [] = Unit {0}
SameFrames functions copied (f ∷ fs) (f' ∷ fs') = SameFrame functions copied f f'
    × SameFrames functions copied fs fs'
SameFrames functions copied [] (f' ∷ fs') = ⊥
SameFrames functions copied (f ∷ fs) [] = ⊥

-- A state of the repaired program matches a state of the program: output, ending, turns, writes, the numbers that are
-- left and the stack's mark are the same, each cache line has the same parts, the frames at the same place are the
-- same, and each crash image of the repaired program's state is one of the program's state.
pub record Matches (functions : ℕ) (copied : List ℕ) (I : Input) (s s' : State) : Type 0 where
  pub world : s'.world ≡ s.world
  pub lines : map contents s'.lines ≡ map contents s.lines
  pub frames : SameFrames functions copied s.frames s'.frames
  pub images : (content : List ℕ) → IsCrashImage I s' content → IsCrashImage I s content

-- On every valid input each state of the repaired program matches the corresponding state of the program, and the first
-- 3n steps of the repaired program correspond to at least n steps of the program.
pub record IsHarmless (P : Program) (plan : Plan) (skip : Site → Bool) : Type 0 where
  pub matches : (I : Input) → IsValid P I → (n : ℕ) →
      Matches (length P.functions) (cloned P plan) I (run P I (matched P plan skip I n))
      (run (repaired P plan skip) I n)
  pub progress : (I : Input) → IsValid P I → (n : ℕ) → n ≤ matched P plan skip I (3 * n)
