-- Every run ends: each block ends with a turn, and the limit bounds the turns.
use Rattle.std.proofs.Common.{◌≡◌, ℕ, zero, suc, ◌+◌, ◌-◌, ◌*◌, ◌<◌, ◌≤◌, Bool, true, false, cond, not, nat_lt, List, [], ◌∷◌, length, drop, Option, Some, None, slice_get, refl, sym, ap, subst, arith, ltb-true}
use Rattle.std.specs.Prelude.{is_some}
use Rattle.hip_tree.specs.declared.block.Block.{Block}
use Rattle.hip_tree.specs.declared.instr.Instr.{Instr}
use Rattle.hip_tree.specs.declared.instr.Instr.TheVariants.{Binary, Compare, Select, Cast, Alloca, Load, Store, Gep, Call}
use Rattle.hip_tree.specs.declared.program.Function.{Function}
use Rattle.hip_tree.specs.declared.program.Program.{Program}
use Rattle.hip_lines.specs.Line.{Line}
use Rattle.hip_externs.specs.Externs.{call_of, row_of}
use Rattle.hip_externs.specs.declared.call.ExternCall.{ExternCall}
use Rattle.hip_runs.specs.declared.event.Ending.{Ending}
use Rattle.hip_runs.specs.declared.event.Ending.TheVariants.{Cut}
use Rattle.hip_runs.specs.declared.event.TrapKind.{TrapKind}
use Rattle.hip_runs.specs.declared.input.Input.{Input}
use Rattle.hip_runs.specs.Actions.{Action, Traps, Assigns, Allocates, Stores, Flushes, Persists, Fences, Asserts, Prints, Reads, Calls, Jumps, Returns, flushing, call_action, extern_action, instr_action, is_flush_or_fence, is_turn, deed_of, line_action, arg_value, flushed_size}
use Rattle.hip_runs.specs.Ends.{longest_body, longest_in, longest, steps_left, Ends}
use Rattle.hip_runs.specs.Operands.{values_of}
use Rattle.hip_runs.specs.Places.{blocks_in, body_of, body_at, code_at, end_at}
use Rattle.hip_runs.specs.State.{Registers, StorePart, Frame, World, Counts, State}
use Rattle.hip_runs.specs.Step.{stop, with_turn, leave, perform, carry_out, on_frames, on_ending, step, event_at, counted, run, has_ended, start_frame, main_number}
use Rattle.hip_externs.specs.declared.call.ExternCall.TheVariants as calls
use Rattle.hip_externs.specs.declared.call.LineEffect.{LineEffect}
use Rattle.hip_externs.specs.declared.call.LineEffect.TheVariants as effects
use Rattle.hip_runs.specs.declared.event.TrapKind.TheVariants as traps

-- ---- the longest body

block_short : (bs : List Block) (b : ℕ) → length (body_of (slice_get bs b)) ≤ longest_body bs
block_short [] b = omega arith
block_short (x ∷ bs) zero = omega arith
block_short (x ∷ bs) (suc b) = omega (arith, block_short bs b)

body_short : (fs : List Function) (f b : ℕ)
    → length (body_of (slice_get (blocks_in (slice_get fs f)) b)) ≤ longest_in fs
body_short [] f b = omega arith
body_short (x ∷ fs) zero b = omega (arith, block_short x.blocks b)
body_short (x ∷ fs) (suc f) b = omega (arith, body_short fs f b)

drop_short : {A : Type 0} (k : ℕ) (xs : List A) → length (drop k xs) ≤ length xs
drop_short zero xs = omega arith
drop_short (suc k) [] = omega arith
drop_short (suc k) (x ∷ xs) = omega (arith, drop_short k xs)

pub code_short : (P : Program) (f : Frame) → length (code_at P f) ≤ longest P
code_short P f =
    omega (arith, drop_short f.place (body_at P f.function f.block), body_short P.functions f.function f.block)

pub drop_next : {A : Type 0} (xs : List A) (k : ℕ) (x : A) (ys : List A) → drop k xs ≡ x ∷ ys
    → drop (suc k) xs ≡ ys
drop_next [] zero x ys e = cc
drop_next [] (suc k) x ys e = cc
drop_next (y ∷ xs) zero x ys e = cc
drop_next (y ∷ xs) (suc k) x ys e = drop_next xs k x ys e

-- ---- what a step does

-- The run has ended; or one more turn was taken, which the limit allowed; or the top frame has one instruction less
-- left.
pub data Goes (P : Program) (I : Input) (turns left : ℕ) (s : State) : Type 0 where
  ended : has_ended s ≡ true → Goes P I turns left s
  turned : (f : Frame) (fs : List Frame) → s.frames ≡ f ∷ fs → s.world.turns ≡ suc turns → turns < I.limit
      → Goes P I turns left s
  moved : (f : Frame) (fs : List Frame) → s.frames ≡ f ∷ fs → s.world.turns ≡ turns
      → suc (length (code_at P f)) ≡ left
      → Goes P I turns left s

leave_goes : (P : Program) (I : Input) (turns left v : ℕ) (w : World) (f : Frame) (fs : List Frame)
    (ls : List (Line StorePart)) (c : Counts) → w.turns ≡ suc turns → turns < I.limit
    → Goes P I turns left (leave v w f fs ls c)
unfolding leave
leave_goes P I turns left v w f [] ls c e lt = ended refl
leave_goes P I turns left v w f (g ∷ fs) ls c e lt = turned _ _ refl e lt

turn_goes : (P : Program) (I : Input) (turns left : ℕ) (w : World) (f : Frame) (fs : List Frame)
    (ls : List (Line StorePart)) (c d : Counts) (x : Action) → w.turns ≡ suc turns → turns < I.limit
    → Goes P I turns left (perform I w f fs ls c d x)
unfolding perform
turn_goes P I turns left w f fs ls c d (Traps kind) e lt = ended refl
turn_goes P I turns left w f fs ls c d (Assigns to v) e lt = turned _ _ refl e lt
turn_goes P I turns left w f fs ls c d (Allocates to a n) e lt = turned _ _ refl e lt
turn_goes P I turns left w f fs ls c d (Stores a bytes) e lt = turned _ _ refl e lt
turn_goes P I turns left w f fs ls c d (Flushes a n) e lt = turned _ _ refl e lt
turn_goes P I turns left w f fs ls c d (Persists a n) e lt = turned _ _ refl e lt
turn_goes P I turns left w f fs ls c d Fences e lt = turned _ _ refl e lt
turn_goes P I turns left w f fs ls c d (Asserts a n) e lt = turned _ _ refl e lt
turn_goes P I turns left w f fs ls c d (Prints z) e lt = turned _ _ refl e lt
turn_goes P I turns left w f fs ls c d (Reads to z rest) e lt = turned _ _ refl e lt
turn_goes P I turns left w f fs ls c d (Calls g rs to) e lt = turned _ _ refl e lt
turn_goes P I turns left w f fs ls c d (Jumps b rs) e lt = turned _ _ refl e lt
turn_goes P I turns left w f fs ls c d (Returns v) e lt = leave_goes P I turns left v w f fs ls d e lt

-- An action that is not a turn flushes, fences or traps.
abbrev is_still : Action → Type 0
is_still (Traps kind) = Unit {0}
is_still (Flushes a n) = Unit {0}
is_still (Persists a n) = Unit {0}
is_still Fences = Unit {0}
is_still _ = ⊥

-- The action flushes, fences or traps. The action of each instruction that is not a turn does so.
record IsStill (x : Action) : Type 0 where
  is : is_still x

still_cond : (b : Bool) (x y : Action) → IsStill x → IsStill y → IsStill (cond b x y)
still_cond true x y p q = p
still_cond false x y p q = q

still_trap : (kind : TrapKind) → IsStill (Traps kind)
still_trap kind = record { is = tt }

still_flushing : (P : Program) (I : Input) (w : World) (a n : ℕ) (x : Action) → IsStill x
    → IsStill (flushing P I w a n x)
unfolding flushing
still_flushing P I w a n x p = still_cond _ _ _ p (still_cond _ _ _ p (still_trap traps.Address))

still_lines : (P : Program) (I : Input) (w : World) (effect : LineEffect) (a n : ℕ)
    → IsStill (line_action P I w effect a n)
still_lines P I w effects.Nothing a n = still_trap traps.Unreachable
still_lines P I w effects.Flush a n = still_flushing P I w a n _ (record { is = tt })
still_lines P I w effects.Fence a n = record { is = tt }
still_lines P I w effects.FlushAndFence a n = still_flushing P I w a n _ (record { is = tt })

still_extern : (P : Program) (I : Input) (w : World) (call : ExternCall) (values : List ℕ) (dest : Option (List ℕ))
    → not (is_flush_or_fence (Some call)) ≡ false → IsStill (extern_action P I w call values dest)
still_extern P I w calls.ReadI64 values dest e = absurd (let z : ⊥ = cc in z)
still_extern P I w calls.PrintI64 values dest e = absurd (let z : ⊥ = cc in z)
still_extern P I w calls.PmAssert values dest e = absurd (let z : ⊥ = cc in z)
still_extern P I w call values dest e =
    still_lines P I w (row_of call).effect (arg_value values 0) (flushed_size (row_of call).params values)

still_instr : (P : Program) (I : Input) (w : World) (below : ℕ) (regs : Registers) (i : Instr) → is_turn i ≡ false
    → IsStill (instr_action P I w below regs i)
unfolding instr_action
still_instr P I w below regs (Call dest ret callee args) e = go (call_of callee) e
  where
    go : (o : Option ExternCall) → not (is_flush_or_fence o) ≡ false
        → IsStill (call_action P I w below o callee (values_of P.globals I.base regs args) dest)
    go None h = absurd (let z : ⊥ = cc in z)
    go (Some x) h = still_extern P I w x (values_of P.globals I.base regs args) dest h
still_instr P I w below regs (Binary dest op flags width a b) e = absurd (let z : ⊥ = cc in z)
still_instr P I w below regs (Compare dest pred ty a b) e = absurd (let z : ⊥ = cc in z)
still_instr P I w below regs (Select dest test ty a b) e = absurd (let z : ⊥ = cc in z)
still_instr P I w below regs (Cast dest op from a to) e = absurd (let z : ⊥ = cc in z)
still_instr P I w below regs (Alloca dest ty align) e = absurd (let z : ⊥ = cc in z)
still_instr P I w below regs (Load dest ty addr align) e = absurd (let z : ⊥ = cc in z)
still_instr P I w below regs (Store ty value addr align) e = absurd (let z : ⊥ = cc in z)
still_instr P I w below regs (Gep dest inbounds ty base indices) e = absurd (let z : ⊥ = cc in z)

still_goes : (P : Program) (I : Input) (left : ℕ) (w : World) (f : Frame) (fs : List Frame)
    (ls : List (Line StorePart))
    (c d : Counts) (x : Action) → suc (length (drop (suc f.place) (body_at P f.function f.block))) ≡ left
    → is_still x
    → Goes P I w.turns left (perform I w f fs ls c d x)
unfolding perform
still_goes P I left w f fs ls c d (Traps kind) e p = ended refl
still_goes P I left w f fs ls c d (Flushes a n) e p = moved _ _ refl refl e
still_goes P I left w f fs ls c d (Persists a n) e p = moved _ _ refl refl e
still_goes P I left w f fs ls c d Fences e p = moved _ _ refl refl e
still_goes P I left w f fs ls c d (Assigns to v) e p = absurd p
still_goes P I left w f fs ls c d (Allocates to a n) e p = absurd p
still_goes P I left w f fs ls c d (Stores a bytes) e p = absurd p
still_goes P I left w f fs ls c d (Asserts a n) e p = absurd p
still_goes P I left w f fs ls c d (Prints z) e p = absurd p
still_goes P I left w f fs ls c d (Reads to z rest) e p = absurd p
still_goes P I left w f fs ls c d (Calls g rs to) e p = absurd p
still_goes P I left w f fs ls c d (Jumps b rs) e p = absurd p
still_goes P I left w f fs ls c d (Returns v) e p = absurd p

deed_goes : (P : Program) (I : Input) (left : ℕ) (w : World) (f : Frame) (fs : List Frame)
    (ls : List (Line StorePart))
    (c d : Counts) (turn : Bool) (x : Action)
    → (turn ≡ false → is_still x × (suc (length (drop (suc f.place) (body_at P f.function f.block))) ≡ left))
    → Goes P I w.turns left (carry_out I w f fs ls c d (record { turn = turn; action = x }))
unfolding carry_out
deed_goes P I left w f fs ls c d true x still = go (nat_lt w.turns I.limit) refl
  where
    go : (t : Bool) → nat_lt w.turns I.limit ≡ t
        → Goes P I w.turns left (cond (not t) (stop Cut w (f ∷ fs) ls d) (perform I (with_turn w) f fs ls c d x))
    go true e = turn_goes P I w.turns left (with_turn w) f fs ls c d x refl (ltb-true w.turns I.limit e)
    go false e = ended refl
deed_goes P I left w f fs ls c d false x still = still_goes P I left w f fs ls c d x (still refl).1 (still refl).0

step_goes : (P : Program) (I : Input) (s : State) (f : Frame) (fs : List Frame) → s.world.ending ≡ None
    → s.frames ≡ f ∷ fs → Goes P I s.world.turns (length (code_at P f)) (step P I s)
unfolding step on_ending on_frames
step_goes P I s f fs going frames =
    subst (λ o. Goes P I s.world.turns (length (code_at P f)) (on_ending P I s o)) (sym going)
    (subst (λ gs. Goes P I s.world.turns (length (code_at P f)) (on_frames P I s.world s.lines s.counts gs))
    (sym frames) (go (code_at P f) refl))
  where
    go : (code : List Instr) → code_at P f ≡ code
        → Goes P I s.world.turns (length code)
        (carry_out I s.world f fs s.lines s.counts
        (counted (event_at I s.world fs (deed_of P I s.world (length fs) f (end_at P f) code)) s.counts)
        (deed_of P I s.world (length fs) f (end_at P f) code))
    go [] e = deed_goes P I 0 s.world f fs s.lines s.counts _ true _ (λ z. absurd (let n : ⊥ = cc in n))
    go (i ∷ rest) e =
        deed_goes P I (length (i ∷ rest)) s.world f fs s.lines s.counts _ (is_turn i) _
        (λ z. (
          (still_instr P I s.world (length fs) f.registers i z).is,
          ap (λ xs. suc (length xs)) (drop_next (body_at P f.function f.block) f.place i rest e),
        ))

-- ---- the end

pub more_turns : (limit turns b : ℕ) → turns < limit → (limit - suc turns) * suc b + b < (limit - turns) * suc b
more_turns limit turns b h =
    let e : limit - turns ≡ suc (limit - suc turns) = omega arith in
    rw e (omega arith)

less_moved : (x left c m : ℕ) → x + left < suc m → suc c ≡ left → x + c < m
less_moved x left c m lt e = omega (arith, lt, e)

less_turned : (x y left c b m : ℕ) → x + left < suc m → y + b < x → c ≤ b → y + c < m
less_turned x y left c b m lt more le = omega (arith, lt, more, le)

module _ (P : Program) (I : Input) where
  goes_on : (m turns left : ℕ) (s : State) (k : ℕ) → run P I k ≡ s → steps_left P I turns left < suc m
      → ((g : Frame) (gs : List Frame) → s.frames ≡ g ∷ gs
      → steps_left P I s.world.turns (length (code_at P g)) < m
      → Ends P I) → Goes P I turns left s → Ends P I
  goes_on m turns left s k at lt rest (ended h) = (k, subst (λ (x : State). has_ended x ≡ true) (sym at) h)
  goes_on m turns left s k at lt rest (turned g gs frames t below) =
      rest g gs frames (subst (λ (n : ℕ). steps_left P I n (length (code_at P g)) < m) (sym t)
      (less_turned ((I.limit - turns) * suc (longest P)) ((I.limit - suc turns) * suc (longest P)) left
      (length (code_at P g)) (longest P) m lt (more_turns I.limit turns (longest P) below) (code_short P g)))
  goes_on m turns left s k at lt rest (moved g gs frames t l) =
      rest g gs frames (subst (λ (n : ℕ). steps_left P I n (length (code_at P g)) < m) (sym t)
      (less_moved ((I.limit - turns) * suc (longest P)) left (length (code_at P g)) m lt l))

  pub next_goes : (n : ℕ) (f : Frame) (fs : List Frame) → (run P I n).world.ending ≡ None
      → (run P I n).frames ≡ f ∷ fs
      → Goes P I (run P I n).world.turns (length (code_at P f)) (run P I (suc n))
  unfolding run
  next_goes n f fs going frames = step_goes P I (run P I n) f fs going frames

  ends_within : (m n : ℕ) (f : Frame) (fs : List Frame) → (run P I n).frames ≡ f ∷ fs
      → steps_left P I (run P I n).world.turns (length (code_at P f)) < m → Ends P I
  ends_within zero n f fs frames lt = absurd (let z : ⊥ = omega (arith, lt) in z)
  ends_within (suc m) n f fs frames lt = go (run P I n).world.ending refl (λ g gs e l. ends_within m (suc n) g gs e l)
    where
      go : (o : Option Ending) → (run P I n).world.ending ≡ o
          → ((g : Frame) (gs : List Frame) → (run P I (suc n)).frames ≡ g ∷ gs
          → steps_left P I (run P I (suc n)).world.turns (length (code_at P g)) < m → Ends P I) → Ends P I
      go (Some x) e rest = (n, ap is_some e)
      go None e rest =
          goes_on m (run P I n).world.turns (length (code_at P f)) (run P I (suc n)) (suc n) refl lt rest
          (next_goes n f fs e frames)

  -- Every run ends.
  pub runs_end : Ends P I
  unfolding run
  runs_end =
      ends_within (suc (steps_left P I 0 (length (code_at P (start_frame (main_number P)))))) 0
      (start_frame (main_number P)) [] refl (omega arith)
