-- The stack's shape: the blocks and the marks of frames are in order below the mark; there are at most 16,384 frames;
-- and each frame except the bottom one has the call that made it.
use Rattle.std.proofs.Common.{◌≡◌, ℕ, zero, suc, ◌+◌, ◌≤◌, ◌<◌, Bool, true, false, cond, List, [], ◌∷◌, length, Option, Some, None, refl, sym, ap, ◌∙◌, subst, arith}
use Rattle.hip_types.specs.Laws.LayoutLaws.{next-le}
use Rattle.hip_tree.specs.declared.block.End.{End}
use Rattle.hip_tree.specs.declared.block.End.TheVariants as ends
use Rattle.hip_tree.specs.declared.instr.Instr.{Instr}
use Rattle.hip_tree.specs.declared.instr.Instr.TheVariants.{Binary, Compare, Select, Cast, Alloca, Load, Store, Gep, Call}
use Rattle.hip_tree.specs.declared.program.Program.{Program}
use Rattle.hip_lines.specs.Line.{Line}
use Rattle.hip_types.specs.Areas.{stack_end}
use Rattle.hip_runs.specs.declared.event.Ending.{Ending}
use Rattle.hip_runs.specs.declared.event.Ending.TheVariants.{Cut}
use Rattle.hip_runs.specs.declared.input.Input.{Input}
use Rattle.hip_runs.specs.Actions.{Action, Traps, Assigns, Allocates, Stores, Flushes, Persists, Fences, Asserts, Prints, Reads, Calls, Jumps, Returns, Deed, jump_to, jump, end_action, deed_of}
use Rattle.hip_runs.specs.Places.{code_at, end_at}
use Rattle.hip_runs.specs.State.{Registers, Slot, StorePart, Frame, World, Counts, State, levels_of}
use Rattle.hip_runs.specs.Step.{stop, with_turn, next, with_register, with_slot, leave, perform, is_cut, carry_out, deed_at, on_frames, on_ending, step, event_at, counted, run}
use Rattle.hip_runs.specs.Laws.StepLaws.{has_frame, standing-frame}
use Rattle.hip_invariants.specs.Laws.InstrActions.{leaves_registers, instr_cases, of_instr_action}
use Rattle.hip_invariants.specs.StackShape.{lie_between, lie_in_order, have_calls, HasShape, StackIsShaped}

-- A state has the shape.
record KeepsShape (s : State) : Type 0 where
  is : HasShape s.world.mark s.frames

-- ---- actions

-- What an action may take of the stack, with that number of frames below.
abbrev allowed : ℕ → ℕ → Action → Type 0
allowed mark below (Allocates dest a n) = (mark ≤ a) × (a + n ≤ stack_end)
allowed mark below (Calls g registers dest) = below < 16383
allowed mark below _ = Unit {0}

-- The action takes no more of the stack than it may, at this mark and with that number of frames below.
record Allowed (mark below : ℕ) (x : Action) : Type 0 where
  is : allowed mark below x

still_allowed : (mark below : ℕ) (x : Action) → leaves_registers x → Allowed mark below x
still_allowed mark below (Stores a bytes) h = record { is = tt }
still_allowed mark below (Flushes a n) h = record { is = tt }
still_allowed mark below (Persists a n) h = record { is = tt }
still_allowed mark below Fences h = record { is = tt }
still_allowed mark below (Asserts a n) h = record { is = tt }
still_allowed mark below (Prints z) h = record { is = tt }
still_allowed mark below (Traps kind) h = absurd h
still_allowed mark below (Assigns dest v) h = absurd h
still_allowed mark below (Allocates dest a n) h = absurd h
still_allowed mark below (Reads dest z rest) h = absurd h
still_allowed mark below (Calls k registers dest) h = absurd h
still_allowed mark below (Jumps b registers) h = absurd h
still_allowed mark below (Returns v) h = absurd h

pub higher : (low high a : ℕ) (ss : List Slot) → high ≤ a → lie_between low high ss → lie_between low a ss
higher low high a [] h b = omega arith
higher low high a (s ∷ ss) h b = (omega (arith, b.0), b.1)

pub lower : (low high : ℕ) (ss : List Slot) → lie_between low high ss → low ≤ high
lower low high [] b = b
lower low high (s ∷ ss) b = omega (arith, lower low s.addr ss b.1, b.0)

module _ (P : Program) (I : Input) where
  allowed_cases : (w : World) (below : ℕ) (rs : Registers) (i : Instr)
      → instr_cases P I w below rs (Allowed w.mark below) i
  allowed_cases w below rs (Binary dest op flags width x y) = λ r e. record { is = tt }
  allowed_cases w below rs (Compare dest pred ty x y) = record { is = tt }
  allowed_cases w below rs (Select dest test ty x y) = record { is = tt }
  allowed_cases w below rs (Cast dest op from x to) = record { is = tt }
  allowed_cases w below rs (Alloca dest ty align) =
      λ a e within. record { is = (subst (λ n. w.mark ≤ n) (sym e) (next-le w.mark _), within) }
  allowed_cases w below rs (Load dest ty addr align) = record { is = tt }
  allowed_cases w below rs (Store ty value addr align) = record { is = tt }
  allowed_cases w below rs (Gep dest inbounds ty base indices) = record { is = tt }
  allowed_cases w below rs (Call dest ret callee args) = record {
    read = λ e z rest left. record { is = tt };
    extern = λ x e n y still. still_allowed w.mark below y still;
    enter = λ h fn e q r lt. record { is = lt };
    missing = λ e none. record { is = tt };
  }

  jump_allowed : (mark below : ℕ) (f : Frame) (o : Option ℕ) → Allowed mark below (jump_to P I f o)
  jump_allowed mark below f None = record { is = tt }
  jump_allowed mark below f (Some b) = record { is = tt }

  end_allowed : (mark below : ℕ) (f : Frame) (o : Option End) → Allowed mark below (end_action P I f o)
  unfolding end_action jump
  end_allowed mark below f None = record { is = tt }
  end_allowed mark below f (Some (ends.Br label)) = jump_allowed mark below f _
  end_allowed mark below f (Some (ends.CondBr test first second)) = jump_allowed mark below f _
  end_allowed mark below f (Some (ends.Switch width value other cases)) = jump_allowed mark below f _
  end_allowed mark below f (Some (ends.Ret arg)) = record { is = tt }
  end_allowed mark below f (Some ends.Unreachable) = record { is = tt }

  deed_allowed : (w : World) (below : ℕ) (f : Frame) (code : List Instr)
      → Allowed w.mark below (deed_of P I w below f (end_at P f) code).action
  deed_allowed w below f [] = end_allowed w.mark below f (end_at P f)
  deed_allowed w below f (i ∷ rest) = of_instr_action P I w below f.registers (Allowed w.mark below)
      (λ kind n. record { is = tt }) i (allowed_cases w below f.registers i)

  -- ---- a step

  same_level : (f h : Frame) (fs : List Frame) → h.level ≡ f.level → have_calls (f ∷ fs)
      → have_calls (h ∷ fs)
  same_level f h [] e l = e ∙ l
  same_level f h (g ∷ fs) e l = ((l.0.0, e ∙ l.0.1), l.1)

  -- The shape stays if the top frame is replaced by a frame with the same call, whose blocks and marks are in order.
  changed : (mark : ℕ) (f h : Frame) (fs : List Frame) → lie_in_order mark (h ∷ fs) → h.level ≡ f.level
      → HasShape mark (f ∷ fs) → HasShape mark (h ∷ fs)
  changed mark f h fs o e s = record {
    in_order = o;
    within = s.within;
    few = s.few;
    calls =
        same_level f h fs e s.calls;
  }

  leave_shaped : (v : ℕ) (w : World) (f : Frame) (fs : List Frame) (ls : List (Line StorePart)) (after : Counts)
      → HasShape w.mark (f ∷ fs) → KeepsShape (leave v w f fs ls after)
  unfolding leave
  leave_shaped v w f [] ls after s = record { is = s }
  leave_shaped v w f (g ∷ fs) ls after s = record {
    is = record {
      in_order = s.in_order.1;
      within = omega (arith, lower f.mark w.mark f.slots s.in_order.0, s.within);
      few = omega (arith, s.few);
      calls = same_level g (with_register f.dest v g) fs refl s.calls.1;
    };
  }

  perform_shaped : (w : World) (f : Frame) (fs : List Frame) (ls : List (Line StorePart)) (before after : Counts)
      → HasShape w.mark (f ∷ fs) → (x : Action) → allowed w.mark (length fs) x
      → KeepsShape (perform I w f fs ls before after x)
  unfolding perform
  perform_shaped w f fs ls before after s (Traps kind) p = record { is = s }
  perform_shaped w f fs ls before after s (Assigns dest v) p = record { is = changed w.mark f _ fs s.in_order refl s }
  perform_shaped w f fs ls before after s (Allocates dest a n) p = record {
    is = record {
      in_order = ((omega arith, higher f.mark w.mark a f.slots p.0 s.in_order.0), s.in_order.1);
      within = p.1;
      few = s.few;
      calls = same_level f (with_register (Some dest) a (next (with_slot a n f))) fs refl s.calls;
    };
  }
  perform_shaped w f fs ls before after s (Stores a bytes) p = record { is = changed w.mark f _ fs s.in_order refl s }
  perform_shaped w f fs ls before after s (Flushes a n) p = record { is = changed w.mark f _ fs s.in_order refl s }
  perform_shaped w f fs ls before after s (Persists a n) p = record { is = changed w.mark f _ fs s.in_order refl s }
  perform_shaped w f fs ls before after s Fences p = record { is = changed w.mark f _ fs s.in_order refl s }
  perform_shaped w f fs ls before after s (Asserts a n) p = record { is = changed w.mark f _ fs s.in_order refl s }
  perform_shaped w f fs ls before after s (Prints z) p = record { is = changed w.mark f _ fs s.in_order refl s }
  perform_shaped w f fs ls before after s (Reads dest z rest) p = record {
    is =
        changed w.mark f _ fs s.in_order refl s;
  }
  perform_shaped w f fs ls before after s (Calls g registers dest) p = record {
    is = record {
      in_order = (let same : w.mark ≤ w.mark = omega arith in same, s.in_order);
      within = s.within;
      few = omega (arith, p);
      calls = ((_, refl), same_level f (next f) fs refl s.calls);
    };
  }
  perform_shaped w f fs ls before after s (Jumps b registers) p = record {
    is =
        changed w.mark f _ fs s.in_order refl s;
  }
  perform_shaped w f fs ls before after s (Returns v) p = leave_shaped v w f fs ls after s

  carry_out_shaped : (w : World) (f : Frame) (fs : List Frame) (ls : List (Line StorePart)) (before after : Counts)
      → HasShape w.mark (f ∷ fs) → (d : Deed) → Allowed w.mark (length fs) d.action
      → KeepsShape (carry_out I w f fs ls before after d)
  unfolding carry_out
  carry_out_shaped w f fs ls before after s d p = go (is_cut I w d)
    where
      taken : (t : Bool) → KeepsShape (perform I (cond t (with_turn w) w) f fs ls before after d.action)
      taken true = perform_shaped (with_turn w) f fs ls before after s d.action p.is
      taken false = perform_shaped w f fs ls before after s d.action p.is

      go : (b : Bool) → KeepsShape (cond b (stop Cut w (f ∷ fs) ls after)
          (perform I (cond d.turn (with_turn w) w) f fs ls before after d.action))
      go true = record { is = s }
      go false = taken d.turn

  step_shaped : (s : State) → KeepsShape s → KeepsShape (step P I s)
  unfolding step on_ending on_frames
  step_shaped s h = go s.world.ending
    where
      on_them : (fs : List Frame) → HasShape s.world.mark fs
          → KeepsShape (on_frames P I s.world s.lines s.counts fs)
      on_them [] q = record { is = q }
      on_them (f ∷ fs) q = carry_out_shaped s.world f fs s.lines s.counts
          (counted (event_at I s.world fs (deed_at P I s.world f fs)) s.counts) q (deed_at P I s.world f fs)
          (deed_allowed s.world (length fs) f (code_at P f))

      go : (o : Option Ending) → KeepsShape (on_ending P I s o)
      go (Some e) = h
      go None = on_them s.frames h.is

  run_shaped : (n : ℕ) → KeepsShape (run P I n)
  unfolding run
  run_shaped zero = record {
    is = record {
      in_order = (omega arith, omega arith);
      within = omega arith;
      few =
          omega arith;
      calls = refl;
    };
  }
  run_shaped (suc n) = step_shaped (run P I n) (run_shaped n)

-- There is one level fewer than there are frames.
levels_fewer : (f : Frame) (fs : List Frame) → have_calls (f ∷ fs) → length (levels_of (f ∷ fs)) ≡ length fs
levels_fewer f [] l = rw l refl
levels_fewer f (g ∷ fs) l = rw l.0.1 (ap suc (levels_fewer g fs l.1))

levels_counted : (fs : List Frame) → has_frame fs ≡ true → have_calls fs
    → suc (length (levels_of fs)) ≡ length fs
levels_counted [] h l = cc
levels_counted (f ∷ fs) h l = ap suc (levels_fewer f fs l)

-- The stack has the shape in each state of a run.
pub stack_is_shaped : (P : Program) (I : Input) (n : ℕ) → StackIsShaped (run P I n)
stack_is_shaped P I n =
    let shape = (run_shaped P I n).is in
    record { is = shape; levels = levels_counted (run P I n).frames (standing-frame P I n) shape.calls }
