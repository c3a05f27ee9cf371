-- What a step does to the frames, and which of a part's calls have not returned in a later state.
use Rattle.std.proofs.Common.{◌≡◌, inl, inr, ℕ, zero, suc, ◌≤◌, Bool, true, false, cond, List, [], ◌∷◌, Option, Some, None, is_some, refl, sym, ap, subst, arith}
use Rattle.hip_tree.specs.Sites.{instr_of}
use Rattle.hip_tree.specs.declared.program.Program.{Program}
use Rattle.hip_lines.specs.Line.{Line}
use Rattle.hip_runs.specs.declared.event.Ending.{Ending}
use Rattle.hip_runs.specs.declared.event.Ending.TheVariants.{Cut}
use Rattle.hip_runs.specs.declared.input.Input.{Input}
use Rattle.hip_runs.specs.Actions.{Action, Traps, Assigns, Allocates, Stores, Flushes, Persists, Fences, Asserts, Prints, Reads, Calls, Jumps, Returns, Deed}
use Rattle.hip_runs.specs.Frames.{IsSameCall, FramesMove, rests, stays, calls, returns}
use Rattle.hip_runs.specs.StoredParts.History.{AreDescending}
use Rattle.hip_runs.specs.Laws.HistoryLaws.{calls_descend}
use Rattle.hip_runs.specs.StoredParts.Order.{HasCalls}
use Rattle.hip_runs.specs.StoredParts.Parts.{In}
use Rattle.hip_runs.specs.Sites.{is_defined_call}
use Rattle.hip_runs.specs.State.{Level, StorePart, Frame, World, Counts, State, level_list, levels_of, site_of}
use Rattle.hip_runs.specs.Step.{stop, with_turn, leave, perform, is_cut, carry_out, deed_at, on_frames, on_ending, step, run}
use Rattle.hip_runs.specs.Laws.StoreLaws.{part-of_store}
use Rattle.hip_runs.specs.Laws.Fits.{ActionFits, deed_fits}

same_call : (f : Frame) → IsSameCall f f
same_call f = record { function = refl; mark = refl; dest = refl; level = refl }

module _ (P : Program) (s : State) where
  -- A return moves the frames.
  leave_moves : (v : ℕ) (w : World) (f : Frame) (fs : List Frame) (ls : List (Line StorePart)) (after : Counts)
      → s.frames ≡ f ∷ fs → after.steps ≡ suc s.counts.steps → FramesMove P s (leave v w f fs ls after)
  unfolding leave
  leave_moves v w f [] ls after q c = stays f f [] q refl (same_call f) c
  leave_moves v w f (g ∷ fs) ls after q c =
      returns f g _ fs q refl (record { function = refl; mark = refl; dest = refl; level = refl }) c

  perform_moves : (I : Input) (w : World) (f : Frame) (fs : List Frame) (ls : List (Line StorePart)) (after : Counts)
      → s.frames ≡ f ∷ fs → after.steps ≡ suc s.counts.steps → (x : Action)
      → ActionFits P x (instr_of P (site_of f))
      → FramesMove P s (perform I w f fs ls s.counts after x)
  unfolding perform
  perform_moves I w f fs ls after q c (Traps kind) h = stays f f fs q refl (same_call f) c
  perform_moves I w f fs ls after q c (Assigns to v) h =
      stays f _ fs q refl (record { function = refl; mark = refl; dest = refl; level = refl }) c
  perform_moves I w f fs ls after q c (Allocates to a n) h =
      stays f _ fs q refl (record { function = refl; mark = refl; dest = refl; level = refl }) c
  perform_moves I w f fs ls after q c (Stores a bytes) h =
      stays f _ fs q refl (record { function = refl; mark = refl; dest = refl; level = refl }) c
  perform_moves I w f fs ls after q c (Flushes a n) h =
      stays f _ fs q refl (record { function = refl; mark = refl; dest = refl; level = refl }) c
  perform_moves I w f fs ls after q c (Persists a n) h =
      stays f _ fs q refl (record { function = refl; mark = refl; dest = refl; level = refl }) c
  perform_moves I w f fs ls after q c Fences h =
      stays f _ fs q refl (record { function = refl; mark = refl; dest = refl; level = refl }) c
  perform_moves I w f fs ls after q c (Asserts a n) h =
      stays f _ fs q refl (record { function = refl; mark = refl; dest = refl; level = refl }) c
  perform_moves I w f fs ls after q c (Prints z) h =
      stays f _ fs q refl (record { function = refl; mark = refl; dest = refl; level = refl }) c
  perform_moves I w f fs ls after q c (Reads to z rest) h =
      stays f _ fs q refl (record { function = refl; mark = refl; dest = refl; level = refl }) c
  perform_moves I w f fs ls after q c (Calls g rs to) h = calls f _ fs q refl h.is refl c
  perform_moves I w f fs ls after q c (Jumps b rs) h =
      stays f _ fs q refl (record { function = refl; mark = refl; dest = refl; level = refl }) c
  perform_moves I w f fs ls after q c (Returns v) h = leave_moves v w f fs ls after q c

  carry_moves : (I : Input) (f : Frame) (fs : List Frame) (after : Counts) → s.frames ≡ f ∷ fs
      → after.steps ≡ suc s.counts.steps → (d : Deed) → ActionFits P d.action (instr_of P (site_of f))
      → FramesMove P s (carry_out I s.world f fs s.lines s.counts after d)
  unfolding carry_out
  carry_moves I f fs after q c d h = go (is_cut I s.world d)
    where
      go : (b : Bool)
          → FramesMove P s (cond b (stop Cut s.world (f ∷ fs) s.lines after)
          (perform I (cond d.turn (with_turn s.world) s.world) f fs s.lines s.counts after d.action))
      go true = stays f f fs q refl (same_call f) c
      go false = perform_moves I _ f fs s.lines after q c d.action h

-- Each step moves the frames or leaves the state as it is, since each state of a run has a frame.
pub step_moves : (P : Program) (I : Input) (s : State) → FramesMove P s (step P I s)
unfolding step on_ending on_frames
step_moves P I s = go s.world.ending
  where
    on_them : (fs : List Frame) → s.frames ≡ fs → FramesMove P s (on_frames P I s.world s.lines s.counts fs)
    on_them [] q =
        rests (ap (λ (fs : List Frame). record { world = s.world; frames = fs; lines = s.lines; counts = s.counts })
        (sym q))
    on_them (f ∷ fs) q = carry_moves P s I f fs _ q refl (deed_at P I s.world f fs) (deed_fits P I s.world f fs)

    go : (o : Option Ending) → FramesMove P s (on_ending P I s o)
    go (Some e) = rests refl
    go None = on_them s.frames refl

pub run_moves : (P : Program) (I : Input) (n : ℕ) → FramesMove P (run P I n) (run P I (suc n))
unfolding run
run_moves P I n = step_moves P I (run P I n)

-- ---- the count of steps

steps_next : (P : Program) (s s' : State) → FramesMove P s s'
    → (s.counts.steps ≤ s'.counts.steps) × (s'.counts.steps ≤ suc s.counts.steps)
steps_next P s s' (rests e) =
    let q : s'.counts.steps ≡ s.counts.steps =
    ap (λ (t : State). t.counts.steps) e in (omega (arith, q), omega (arith, q))
steps_next P s s' (stays f f' fs p q k c) = (omega (arith, c), omega (arith, c))
steps_next P s s' (calls f g fs p q d l c) = (omega (arith, c), omega (arith, c))
steps_next P s s' (returns f g g' fs p q k c) = (omega (arith, c), omega (arith, c))

pub steps_few : (P : Program) (I : Input) (n : ℕ) → (run P I n).counts.steps ≤ n
unfolding run
steps_few P I zero = omega arith
steps_few P I (suc n) =
    omega (arith, steps_few P I n, (steps_next P (run P I n) (step P I (run P I n)) (step_moves P I (run P I n))).1)

-- ---- calls are of defined functions

later : (ls : List Level) (m n : ℕ) → m ≤ n → AreDescending ls m → AreDescending ls n
later [] m n le h = tt
later (l ∷ ls) m n le h = (omega (arith, h.0, le), h.1)

-- Each of the calls is of a function of the program.
abbrev AreDefined : Program → List Level → Type 0
AreDefined P [] = Unit {0}
AreDefined P (l ∷ ls) = (is_defined_call P (instr_of P l.call) ≡ true) × AreDefined P ls

module _ (P : Program) where
  past : (o : Option Level) (ls : List Level) → AreDefined P (level_list o ls) → AreDefined P ls
  past None ls h = h
  past (Some l) ls h = h.1

  with_call : (o : Option Level) (l : Level) (ls : List Level) → o ≡ Some l
      → is_defined_call P (instr_of P l.call) ≡ true → AreDefined P ls → AreDefined P (level_list o ls)
  with_call o l ls e d h = subst (λ (x : Option Level). AreDefined P (level_list x ls)) (sym e) (d, h)

  same_calls : (f f' : Frame) (fs : List Frame) → IsSameCall f f' → AreDefined P (levels_of (f ∷ fs))
      → AreDefined P (levels_of (f' ∷ fs))
  same_calls f f' fs k h = subst (λ (o : Option Level). AreDefined P (level_list o (levels_of fs))) (sym k.level) h

  -- The calls of these frames are of defined functions.
  abbrev Defined : List Frame → Type 0
  Defined fs = AreDefined P (levels_of fs)

  defined_next : (s s' : State) → FramesMove P s s' → Defined s.frames → Defined s'.frames
  defined_next s s' (rests e) h = subst (λ (t : State). Defined t.frames) (sym e) h
  defined_next s s' (stays f f' fs p q k c) h = subst Defined (sym q) (same_calls f f' fs k (subst Defined p h))
  defined_next s s' (calls f g fs p q d l c) h =
      subst Defined (sym q) (with_call g.level _ (levels_of (f ∷ fs)) l (ap is_some d) (subst Defined p h))
  defined_next s s' (returns f g g' fs p q k c) h =
      subst Defined (sym q) (same_calls g g' fs k (past f.level (levels_of (g ∷ fs)) (subst Defined p h)))

  run_defined : (I : Input) (n : ℕ) → Defined (run P I n).frames
  unfolding run
  run_defined I zero = tt
  run_defined I (suc n) = defined_next (run P I n) (step P I (run P I n)) (step_moves P I (run P I n)) (run_defined I n)

  among : (ls : List Level) → AreDefined P ls → (v : Level) → In v ls
      → is_defined_call P (instr_of P v.call) ≡ true
  among [] h v i = absurd i
  among (l ∷ ls) h v (inl e) = subst (λ (x : Level). is_defined_call P (instr_of P x.call) ≡ true) (sym e) h.0
  among (l ∷ ls) h v (inr i) = among ls h.1 v i

  -- The calls that have not returned are calls of functions of the program.
  pub calls_defined : (I : Input) (n : ℕ) (v : Level) → In v (levels_of (run P I n).frames)
      → is_defined_call P (instr_of P v.call) ≡ true
  calls_defined I n v i = among (levels_of (run P I n).frames) (run_defined I n) v i

pub has_calls : (P : Program) (I : Input) (n : ℕ) → HasCalls (run P I n)
has_calls P I n = record {
  born = calls_descend P I n;
  births = λ x i.
      let o = (part-of_store P I n x i).levels in
      subst (λ ls. AreDescending ls x.step) (sym o)
      (later (levels_of (run P I x.step).frames) (run P I x.step).counts.steps x.step (steps_few P I x.step)
      (calls_descend P I x.step));
}
