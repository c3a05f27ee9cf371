-- The event of a step gives what the run prints in it, and whether it ends.
use Rattle.std.proofs.Common.{◌≡◌, ℕ, suc, Bool, true, false, cond, List, [], ◌∷◌, ◌++◌, length, Option, Some, None, append-nil, refl, sym, ap, ◌∙◌}
use Rattle.std.specs.Fmt.{signed_decimal}
use Rattle.std.specs.Prelude.{codes}
use Rattle.hip_tree.specs.declared.program.Program.{Program}
use Rattle.hip_lines.specs.Line.{Line}
use Rattle.hip_runs.specs.declared.event.Ending.{Ending}
use Rattle.hip_runs.specs.declared.event.Ending.TheVariants.{Cut}
use Rattle.hip_runs.specs.declared.event.Event.{Event}
use Rattle.hip_runs.specs.declared.input.Input.{Input}
use Rattle.hip_runs.specs.Actions.{Action, Traps, Assigns, Allocates, Stores, Flushes, Persists, Fences, Asserts, Prints, Reads, Calls, Jumps, Returns, Deed, in_region}
use Rattle.hip_runs.specs.Outputs.{ending_by, printed_by}
use Rattle.hip_runs.specs.State.{StorePart, Frame, World, Counts, State}
use Rattle.hip_runs.specs.Step.{event, event_at, event_of, event_on_ending, event_on_frames, carry_out, deed_at, is_cut, leave, on_ending, on_frames, perform, run, step, stop, with_turn}
use Rattle.hip_runs.specs.StoredParts.Persistence.{flushes_lines}
use Rattle.hip_runs.specs.declared.event.Event.TheVariants as events

-- What a step prints comes after what was printed before it, and the event gives the ending of the run.
pub record PrintIsStated (before after : World) (e : Event) : Type 0 where
  pub output : after.output ≡ before.output ++ printed_by e
  pub ending : after.ending ≡ ending_by e

-- The output is the same, and the run goes on.
record OutputIsKept (before after : World) : Type 0 where
  output : after.output ≡ before.output
  going : after.ending ≡ None

-- A step that prints nothing and does not end the run agrees with an event that prints nothing and is not an end.
nothing : {before after : World} → OutputIsKept before after → (e : Event) → printed_by e ≡ []
    → ending_by e ≡ None
    → PrintIsStated before after e
nothing {before} {after} kept e p q = record {
  output = kept.output ∙ sym (append-nil before.output) ∙ ap (λ text. before.output ++ text) (sym p);
  ending = kept.going ∙ sym q;
}

either : (b : Bool) (e f : Event) (B : Type 0) (stated : Event → B) (x : B) → stated e ≡ x → stated f ≡ x
    → stated (cond b e f) ≡ x
either true e f B stated x p q = p
either false e f B stated x p q = q

one_of : {before after : World} → OutputIsKept before after → (b : Bool) (e f : Event) → printed_by e ≡ []
    → ending_by e ≡ None → printed_by f ≡ [] → ending_by f ≡ None → PrintIsStated before after (cond b e f)
one_of kept b e f p q r t =
    nothing kept (cond b e f) (either b e f (List ℕ) printed_by [] p r)
    (either b e f (Option Ending) ending_by None q t)

ended : {before w : World} → OutputIsKept before w → (e : Ending)
    → PrintIsStated before (record w { ending = Some e }) (events.End e)
ended {before} {w} kept e = record { output = kept.output ∙ sym (append-nil before.output); ending = refl }

module _ {before w : World} (kept : OutputIsKept before w) (I : Input) where
  leave_stated : (v : ℕ) (f : Frame) (fs : List Frame) (ls : List (Line StorePart)) (after : Counts)
      → PrintIsStated before (leave v w f fs ls after).world (event_of I fs (Returns v))
  unfolding leave
  leave_stated v f [] ls after = ended kept _
  leave_stated v f (g ∷ fs) ls after =
      nothing (record { output = kept.output; going = kept.going }) events.Quiet refl refl

  perform_stated : (f : Frame) (fs : List Frame) (ls : List (Line StorePart)) (counts after : Counts) (x : Action)
      → PrintIsStated before (perform I w f fs ls counts after x).world (event_of I fs x)
  unfolding perform
  perform_stated f fs ls counts after (Traps kind) = ended kept _
  perform_stated f fs ls counts after (Assigns to v) = nothing kept events.Quiet refl refl
  perform_stated f fs ls counts after (Allocates to a n) =
      nothing (record { output = kept.output; going = kept.going }) events.Quiet refl refl
  perform_stated f fs ls counts after (Stores a bytes) =
      one_of (record { output = kept.output; going = kept.going })
      (in_region I a (length bytes)) _ _ refl refl refl refl
  perform_stated f fs ls counts after (Flushes a n) = one_of kept (flushes_lines I a n) _ _ refl refl refl refl
  perform_stated f fs ls counts after (Persists a n) = one_of kept (flushes_lines I a n) _ _ refl refl refl refl
  perform_stated f fs ls counts after Fences = nothing kept events.Fence refl refl
  perform_stated f fs ls counts after (Asserts a n) = nothing kept (events.Assert a n) refl refl
  perform_stated f fs ls counts after (Prints z) =
      record { output = ap (λ text. text ++ (signed_decimal z ++ codes "\n")) kept.output; ending = kept.going }
  perform_stated f fs ls counts after (Reads to z rest) =
      nothing (record { output = kept.output; going = kept.going }) events.Quiet refl refl
  perform_stated f fs ls counts after (Calls g rs to) = nothing kept events.Quiet refl refl
  perform_stated f fs ls counts after (Jumps b rs) = nothing kept events.Quiet refl refl
  perform_stated f fs ls counts after (Returns v) = leave_stated v f fs ls after

turned : (b : Bool) (w : World) → w.ending ≡ None → OutputIsKept w (cond b (with_turn w) w)
turned true w going = record { output = refl; going = going }
turned false w going = record { output = refl; going = going }

carry_stated : (I : Input) (w : World) → w.ending ≡ None
    → (f : Frame) (fs : List Frame) (ls : List (Line StorePart)) (counts after : Counts) (d : Deed) →
    PrintIsStated w (carry_out I w f fs ls counts after d).world (event_at I w fs d)
unfolding carry_out
carry_stated I w going f fs ls counts after d = go (is_cut I w d)
  where
    go : (b : Bool)
        → PrintIsStated w (cond b (stop Cut w (f ∷ fs) ls after)
        (perform I (cond d.turn (with_turn w) w) f fs ls counts after d.action)).world (cond b (events.End Cut)
        (event_of I fs d.action))
    go true = ended (record { output = refl; going = going }) Cut
    go false = perform_stated (turned d.turn w going) I f fs ls counts after d.action

pub step_stated : (P : Program) (I : Input) (s : State) → PrintIsStated s.world (step P I s).world (event P I s)
unfolding step event on_ending on_frames
step_stated P I s = go s.world.ending refl
  where
    on_them : (fs : List Frame) → s.world.ending ≡ None
        → PrintIsStated s.world (on_frames P I s.world s.lines s.counts fs).world (event_on_frames P I s.world fs)
    on_them [] e = nothing (record { output = refl; going = e }) events.Quiet refl refl
    on_them (f ∷ fs) e = carry_stated I s.world e f fs s.lines s.counts _ (deed_at P I s.world f fs)

    go : (o : Option Ending) → s.world.ending ≡ o
        → PrintIsStated s.world (on_ending P I s o).world (event_on_ending P I s o)
    go (Some e) q = record { output = sym (append-nil s.world.output); ending = q }
    go None q = on_them s.frames q

pub run_stated : (P : Program) (I : Input) (n : ℕ)
    → PrintIsStated (run P I n).world (run P I (suc n)).world (event P I (run P I n))
unfolding run
run_stated P I n = step_stated P I (run P I n)
