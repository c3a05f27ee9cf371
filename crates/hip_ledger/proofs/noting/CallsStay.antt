-- A step at which the calls are noted leaves them as they are.
use Rattle.std.proofs.Common.{◌≡◌, ℕ, suc, Bool, true, false, cond, List, [], ◌∷◌, Option, Some, None, refl}
use Rattle.hip_tree.specs.declared.program.Program.{Program}
use Rattle.hip_lines.specs.Line.{Line}
use Rattle.hip_runs.specs.Actions.{Action, Traps, Assigns, Allocates, Stores, Flushes, Persists, Fences, Asserts, Prints, Reads, Calls, Jumps, Returns, Deed}
use Rattle.hip_runs.specs.State.{Counts, Frame, State, StorePart, World, levels_of}
use Rattle.hip_runs.specs.Step.{carry_out, counted, deed_at, event, event_at, event_of, event_on_ending, event_on_frames, is_cut, leave, on_ending, on_frames, perform, run, step, stop, with_turn}
use Rattle.hip_runs.specs.declared.event.Ending.{Ending}
use Rattle.hip_runs.specs.declared.event.Ending.TheVariants.{Cut}
use Rattle.hip_runs.specs.declared.event.Event.TheVariants as events
use Rattle.hip_runs.specs.declared.input.Input.{Input}
use Rattle.hip_ledger.specs.Sights.{needs_calls}

module _ (I : Input) (f : Frame) (ls : List (Line StorePart)) (before after : Counts) where
  left : (v : ℕ) (w : World) (fs : List Frame) → needs_calls (event_of I fs (Returns v)) ≡ true → levels_of (leave v w f fs ls after).frames ≡ levels_of (f ∷ fs)
  unfolding leave
  left v w [] e = refl
  left v w (g ∷ fs) e = absurd (let z : ⊥ = cc in z)

  performed : (w : World) (fs : List Frame) (x : Action) → needs_calls (event_of I fs x) ≡ true → levels_of (perform I w f fs ls before after x).frames ≡ levels_of (f ∷ fs)
  unfolding perform
  performed w fs (Traps kind) e = refl
  performed w fs (Assigns dest a) e = refl
  performed w fs (Allocates dest a n) e = refl
  performed w fs (Stores a bytes) e = refl
  performed w fs (Flushes a n) e = refl
  performed w fs (Persists a n) e = refl
  performed w fs Fences e = refl
  performed w fs (Asserts a n) e = refl
  performed w fs (Prints z) e = refl
  performed w fs (Reads dest z rest) e = refl
  performed w fs (Calls g rs dest) e = absurd (let z : ⊥ = cc in z)
  performed w fs (Jumps b rs) e = refl
  performed w fs (Returns v) e = left v w fs e

  carried : (w : World) (fs : List Frame) (d : Deed) → needs_calls (event_at I w fs d) ≡ true → levels_of (carry_out I w f fs ls before after d).frames ≡ levels_of (f ∷ fs)
  unfolding carry_out
  carried w fs d e = by (is_cut I w d) e
    where
      by : (b : Bool) → needs_calls (cond b (events.End Cut) (event_of I fs d.action)) ≡ true
          → levels_of (cond b (stop Cut w (f ∷ fs) ls after) (perform I (cond d.turn (with_turn w) w) f fs ls before after d.action)).frames ≡ levels_of (f ∷ fs)
      by true e = refl
      by false e = performed (cond d.turn (with_turn w) w) fs d.action e

stepped : (P : Program) (I : Input) (s : State) → needs_calls (event P I s) ≡ true → levels_of (step P I s).frames ≡ levels_of s.frames
unfolding step event on_ending on_frames
stepped P I s e = by s.world.ending e
  where
    on_them : (gs : List Frame) → needs_calls (event_on_frames P I s.world gs) ≡ true → levels_of (on_frames P I s.world s.lines s.counts gs).frames ≡ levels_of gs
    on_them [] e = refl
    on_them (f ∷ fs) e =
        carried I f s.lines s.counts (counted (event_at I s.world fs (deed_at P I s.world f fs)) s.counts) s.world fs (deed_at P I s.world f fs) e

    by : (o : Option Ending) → needs_calls (event_on_ending P I s o) ≡ true → levels_of (on_ending P I s o).frames ≡ levels_of s.frames
    by (Some x) e = refl
    by None e = on_them s.frames e

pub calls_stay : (P : Program) (I : Input) (n : ℕ) → needs_calls (event P I (run P I n)) ≡ true → levels_of (run P I (suc n)).frames ≡ levels_of (run P I n).frames
unfolding run
calls_stay P I n e = stepped P I (run P I n) e
