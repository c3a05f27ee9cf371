-- A hoisted call goes to a clone of its callee, and each store under it is durable after the fence that follows it.
use Rattle.std.specs.Prelude.{◌≡◌, ◌≢◌, ℕ, suc, ◌+◌, ◌<◌, ◌≤◌, Bool, true, false, List, ◌∷◌, length, take, Option, Some, None, slice_get}
use Rattle.hip_types.specs.declared.number.Scalar.{Scalar}
use Rattle.hip_tree.specs.Sites.{instr_of, has_site}
use Rattle.hip_tree.specs.declared.instr.Arg.{Arg}
use Rattle.hip_tree.specs.declared.instr.Instr.{Instr}
use Rattle.hip_tree.specs.declared.instr.Instr.TheVariants.{Call}
use Rattle.hip_tree.specs.declared.program.Program.{Program}
use Rattle.hip_tree.specs.declared.site.Site.{Site}
use Rattle.hip_lines.specs.Line.{Line}
use Rattle.hip_externs.specs.Externs.{call_of}
use Rattle.hip_sound.specs.NumberedNames.{function_number}
use Rattle.hip_externs.specs.declared.call.ExternCall.{ExternCall}
use Rattle.hip_externs.specs.declared.call.ExternCall.TheVariants as calls
use Rattle.hip_runs.specs.declared.input.Input.{Input}
use Rattle.hip_runs.specs.Places.{body_at}
use Rattle.hip_runs.specs.State.{Frame, StorePart, State}
use Rattle.hip_runs.specs.Step.{run}
use Rattle.hip_runs.specs.Validity.{IsValid}
use Rattle.hip_repairs.specs.declared.plan.Plan.{Plan}
use Rattle.hip_repairs.specs.Clones.{IsClone}
use Rattle.hip_repairs.specs.Repaired.{wanted_by, clones_of, cloned, repaired, repaired_body}

-- One of LLVM's intrinsics for SFENCE and MFENCE (Intel's manual); libpmem's functions that fence are not among them.
abbrev pub is_fence : Option ExternCall → Type 0
is_fence (Some calls.Sfence) = Unit {0}
is_fence (Some calls.Mfence) = Unit {0}
is_fence _ = ⊥

-- The instruction is there, and is a call of one of these two intrinsics.
abbrev pub IsFenceCall : Option Instr → Type 0
IsFenceCall (Some (Call dest ret callee args)) = is_fence (call_of callee)
IsFenceCall _ = ⊥

-- The instruction is there, and is a call of function g of the program.
abbrev pub IsCallOf : Program → ℕ → Option Instr → Type 0
IsCallOf P g (Some (Call dest ret callee args)) = function_number P callee ≡ Some g
IsCallOf P g _ = ⊥

-- The function has this number or a greater one.
abbrev pub is_numbered_from : ℕ → Option ℕ → Type 0
is_numbered_from functions None = ⊥
is_numbered_from functions (Some f) = functions ≤ f

-- The instruction is there, and is a call of a function of Q with this number or a greater one.
abbrev pub IsCallFrom : Program → ℕ → Option Instr → Type 0
IsCallFrom Q functions (Some (Call dest ret callee args)) = is_numbered_from functions (function_number Q callee)
IsCallFrom Q functions _ = ⊥

-- The state is at a call of `sfence` or `mfence` directly after a call of a clone in its block; clones have the numbers
-- from `functions` on.
pub record IsAfterCloneCall (Q : Program) (functions : ℕ) (s : State) : Type 0 where
  pub going : s.world.ending ≡ None
  pub frame : Frame
  pub others : List Frame
  pub frames : s.frames ≡ frame ∷ others
  pub at : ℕ
  pub after : frame.place ≡ suc at
  pub call : IsCallFrom Q functions (slice_get (body_at Q frame.function frame.block) at)
  pub fence : IsFenceCall (slice_get (body_at Q frame.function frame.block) (suc at))

-- j is the last step before n with as many frames as n.
pub record IsLastBefore (Q : Program) (I : Input) (j n : ℕ) : Type 0 where
  pub before : j < n
  pub same : length (run Q I j).frames ≡ length (run Q I n).frames
  pub between : (i : ℕ) → j < i → i < n → length (run Q I i).frames ≢ length (run Q I n).frames

-- The top frame is at this place, in the function and the block of the given frame, with the same frames below.
pub record IsAtCall (frame : Frame) (others : List Frame) (at : ℕ) (s : State) : Type 0 where
  pub top : Frame
  pub frames : s.frames ≡ top ∷ others
  pub function : top.function ≡ frame.function
  pub block : top.block ≡ frame.block
  pub place : top.place ≡ at

-- The run has not ended, and the top frame is at a call of function g.
pub record StandsAtCall (P : Program) (g : ℕ) (s : State) : Type 0 where
  pub going : s.world.ending ≡ None
  pub frame : Frame
  pub others : List Frame
  pub frames : s.frames ≡ frame ∷ others
  pub call : IsCallOf P g (slice_get (body_at P frame.function frame.block) frame.place)

-- The state s of P and the state s' of Q have the same world. P calls a function there, and Q calls a clone of it.
pub record CallsClone (P Q : Program) (s s' : State) : Type 0 where
  pub world : s'.world ≡ s.world
  pub callee : ℕ
  pub called : StandsAtCall P callee s
  pub clone : ℕ
  pub clone_called : StandsAtCall Q clone s'
  pub is_clone : IsClone P Q callee clone

-- Wherever the run of Q is at a fence directly after a call of a clone, there is a last state before it with as many
-- frames, and that state is at this call. The run of P there calls a function, and the clone is a clone of that
-- function. Each part of a store that the cache lines got from the call on is durable after the fence.
pub record IsCovered (P Q : Program) : Type 0 where
  pub call :
      (I : Input) → IsValid P I → (n : ℕ) (after : IsAfterCloneCall Q (length P.functions) (run Q I n)) →
      (j : ℕ) × IsLastBefore Q I j n × IsAtCall after.frame after.others after.at (run Q I j)
  pub clone :
      (I : Input) → IsValid P I → (j n : ℕ) → IsAfterCloneCall Q (length P.functions) (run Q I n)
      → IsLastBefore Q I j n → (i : ℕ) × CallsClone P Q (run P I i) (run Q I j)
  pub durable :
      (I : Input) → IsValid P I → (j n : ℕ) → IsAfterCloneCall Q (length P.functions) (run Q I n)
      → IsLastBefore Q I j n →
      (m : ℕ) (l : Line StorePart) → slice_get (run Q I (suc n)).lines m ≡ Some l →
      (k : ℕ) (p : StorePart) → slice_get l.parts k ≡ Some p → j ≤ p.step → k < l.durable

-- ---- the fence after a hoisted call

-- The place of the instruction at a site of the program in the repaired body of its function, or in that of the
-- function's clone: after the repaired body of the instructions before it.
abbrev pub repaired_place : Program → Plan → (Site → Bool) → Bool → Site → ℕ
repaired_place P plan skip clone s =
    length (repaired_body (clones_of P plan) (wanted_by plan skip) clone s.function s.block 0
    (take s.index (body_at P s.function s.block)))

-- A call of function g is at that place of the block, and a fence directly after it.
pub record IsFenced (Q : Program) (g f b place : ℕ) : Type 0 where
  pub call : IsCallOf Q g (slice_get (body_at Q f b) place)
  pub fence : IsFenceCall (slice_get (body_at Q f b) (suc place))

-- The call of function g at the site has become a call of a clone of g with a fence directly after it, in its function
-- and in the clone of its function.
pub record IsHoisted (P : Program) (plan : Plan) (skip : Site → Bool) (s : Site) (g : ℕ) : Type 0 where
  pub clone : ℕ
  pub is_clone : IsClone P (repaired P plan skip) g clone
  pub plain : IsFenced (repaired P plan skip) clone s.function s.block (repaired_place P plan skip false s)
  pub cloned : (c : ℕ) → slice_get (cloned P plan) c ≡ Some s.function →
      IsFenced (repaired P plan skip) clone (length P.functions + c) s.block (repaired_place P plan skip true s)

-- Each hoisted call of a defined function has become a call of a clone with a fence directly after it.
abbrev pub AreHoistsFenced : Program → Plan → (Site → Bool) → Type 0
AreHoistsFenced P plan skip =
    (s : Site) (dest : Option (List ℕ)) (ret : Option Scalar) (callee : List ℕ) (args : List Arg) (g : ℕ) →
    has_site plan.hoist s ≡ true → instr_of P s ≡ Some (Call dest ret callee args)
    → function_number P callee ≡ Some g → IsHoisted P plan skip s g
