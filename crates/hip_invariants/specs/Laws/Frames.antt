-- Facts of every frame of every run: a fact of the top frame and a fact of a frame that waits for a call hold
-- throughout if each action keeps them.
use Rattle.std.proofs.Common.{◌≡◌, ℕ, zero, suc, Bool, true, false, cond, List, [], ◌∷◌, Option, Some, None, refl, subst}
use Rattle.hip_types.specs.Numbers.{wrapped}
use Rattle.hip_types.specs.declared.number.Width.TheVariants.{W64}
use Rattle.hip_tree.specs.declared.program.Program.{Program}
use Rattle.hip_lines.specs.Line.{Line}
use Rattle.hip_runs.specs.declared.event.Ending.{Ending}
use Rattle.hip_runs.specs.declared.event.Ending.TheVariants.{Cut}
use Rattle.hip_runs.specs.declared.input.Input.{Input}
use Rattle.hip_runs.specs.Actions.{Action, Traps, Assigns, Allocates, Stores, Flushes, Persists, Fences, Asserts, Prints, Reads, Calls, Jumps, Returns, Deed}
use Rattle.hip_runs.specs.State.{Registers, Level, StorePart, Frame, World, Counts, State}
use Rattle.hip_runs.specs.Step.{stop, with_turn, next, with_register, with_slot, leave, perform, is_cut, carry_out, deed_at, on_frames, on_ending, step, event_at, counted, start_frame, main_number, run}
use Rattle.hip_runs.specs.Laws.StepLaws.{IsTop}
use Rattle.hip_invariants.specs.FrameFacts.{frames_hold}

-- The frame that a call makes.
abbrev pub called_frame : ℕ → Registers → Option (List ℕ) → ℕ → Option Level → Frame
called_frame g registers dest mark level =
    record {
      function = g;
      block = 0;
      place = 0;
      registers = registers;
      mark = mark;
      slots = [];
      dest = dest;
      level =
          level;
    }

-- The frame at the start of block b of its function, with these registers. The rest of the frame stays.
abbrev pub frame_in_block : ℕ → Registers → Frame → Frame
frame_in_block b registers f = record f { block = b; place = 0; registers = registers }

-- The fact `Top` is about the top frame. The fact `Below` is about a frame that waits for the result of a called
-- function, which goes into a register.
module _ (Top : Frame → Type 0) (Below : ℕ → Option (List ℕ) → Frame → Type 0) where
  -- What an action of a frame has to keep.
  abbrev pub keeps : Frame → Action → Type 0
  keeps f (Traps kind) = Unit {0}
  keeps f (Assigns dest v) = Top (with_register dest v (next f))
  keeps f (Allocates dest a n) = Top (with_register (Some dest) a (next (with_slot a n f)))
  keeps f (Stores a bytes) = Top (next f)
  keeps f (Flushes a n) = Top (next f)
  keeps f (Persists a n) = Top (next f)
  keeps f Fences = Top (next f)
  keeps f (Asserts a n) = Top (next f)
  keeps f (Prints z) = Top (next f)
  keeps f (Reads dest z rest) = Top (with_register dest (wrapped W64 z) (next f))
  keeps f (Calls g registers dest) =
      ((mark : ℕ) (level : Option Level) → Top (called_frame g registers dest mark level)) × Below g dest (next f)
  keeps f (Jumps b registers) = Top (frame_in_block b registers f)
  keeps f (Returns v) = (g : Frame) → Below f.function f.dest g → Top (with_register f.dest v g)

  -- An action of the frame keeps what it has to.
  pub record Keeps (f : Frame) (x : Action) : Type 0 where
    pub is : keeps f x

  module _ (P : Program) (I : Input) where
    -- The facts hold for the first frame, and each action of the run keeps them.
    pub record IsInvariant : Type 0 where
      pub first : Top (start_frame (main_number P))
      pub each : (n : ℕ) (f : Frame) (fs : List Frame) → IsTop (run P I n) f fs →
          frames_hold Top Below (main_number P) (f ∷ fs) → Keeps f (deed_at P I (run P I n).world f fs).action

    leave_kept : (v : ℕ) (w : World) (f : Frame) (fs : List Frame) (ls : List (Line StorePart)) (after : Counts)
        → frames_hold Top Below (main_number P) (f ∷ fs)
        → ((g : Frame) → Below f.function f.dest g → Top (with_register f.dest v g))
        → frames_hold Top Below (main_number P) (leave v w f fs ls after).frames
    unfolding leave
    leave_kept v w f [] ls after s go = s
    leave_kept v w f (g ∷ fs) ls after s go = (go g s.1.0, s.1.1)

    perform_kept : (w : World) (f : Frame) (fs : List Frame) (ls : List (Line StorePart)) (before after : Counts)
        → frames_hold Top Below (main_number P) (f ∷ fs) → (x : Action) → keeps f x
        → frames_hold Top Below (main_number P) (perform I w f fs ls before after x).frames
    unfolding perform
    perform_kept w f fs ls before after s (Traps kind) p = s
    perform_kept w f fs ls before after s (Assigns dest v) p = (p, s.1)
    perform_kept w f fs ls before after s (Allocates dest a n) p = (p, s.1)
    perform_kept w f fs ls before after s (Stores a bytes) p = (p, s.1)
    perform_kept w f fs ls before after s (Flushes a n) p = (p, s.1)
    perform_kept w f fs ls before after s (Persists a n) p = (p, s.1)
    perform_kept w f fs ls before after s Fences p = (p, s.1)
    perform_kept w f fs ls before after s (Asserts a n) p = (p, s.1)
    perform_kept w f fs ls before after s (Prints z) p = (p, s.1)
    perform_kept w f fs ls before after s (Reads dest z rest) p = (p, s.1)
    perform_kept w f fs ls before after s (Calls g registers dest) p = (p.0 _ _, (p.1, s.1))
    perform_kept w f fs ls before after s (Jumps b registers) p = (p, s.1)
    perform_kept w f fs ls before after s (Returns v) p = leave_kept v w f fs ls after s p

    carry_out_kept : (w : World) (f : Frame) (fs : List Frame) (ls : List (Line StorePart)) (before after : Counts)
        → frames_hold Top Below (main_number P) (f ∷ fs) → (d : Deed) → Keeps f d.action
        → frames_hold Top Below (main_number P) (carry_out I w f fs ls before after d).frames
    unfolding carry_out
    carry_out_kept w f fs ls before after s d p = go (is_cut I w d)
      where
        go : (b : Bool)
            → frames_hold Top Below (main_number P)
            (cond b (stop Cut w (f ∷ fs) ls after)
            (perform I (cond d.turn (with_turn w) w) f fs ls before after d.action)).frames
        go true = s
        go false = perform_kept (cond d.turn (with_turn w) w) f fs ls before after s d.action p.is

    step_kept : (s : State)
        → ((f : Frame) (fs : List Frame) → IsTop s f fs → frames_hold Top Below (main_number P) (f ∷ fs)
        → Keeps f (deed_at P I s.world f fs).action) → frames_hold Top Below (main_number P) s.frames
        → frames_hold Top
        Below (main_number P) (step P I s).frames
    unfolding step on_ending on_frames
    step_kept s each all = go s.world.ending refl
      where
        on_them : (fs : List Frame) → s.frames ≡ fs → s.world.ending ≡ None
            → frames_hold Top Below (main_number P) (on_frames P I s.world s.lines s.counts fs).frames
        on_them [] q e = tt
        on_them (f ∷ fs) q e =
            let here : frames_hold Top Below (main_number P) (f ∷ fs) =
            subst (frames_hold Top Below (main_number P)) q all in
            carry_out_kept s.world f fs s.lines s.counts
            (counted (event_at I s.world fs (deed_at P I s.world f fs)) s.counts) here (deed_at P I s.world f fs)
            (each f fs (record { going = e; frames = q }) here)

        go : (o : Option Ending) → s.world.ending ≡ o
            → frames_hold Top Below (main_number P) (on_ending P I s o).frames
        go (Some e) q = all
        go None q = on_them s.frames refl q

    -- If the facts are an invariant, they hold at every step.
    pub invariant_holds : IsInvariant → (n : ℕ) → frames_hold Top Below (main_number P) (run P I n).frames
    unfolding run
    invariant_holds k zero = (k.first, refl)
    invariant_holds k (suc n) = step_kept (run P I n) (λ f fs t s. k.each n f fs t s) (invariant_holds k n)
