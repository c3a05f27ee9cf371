-- What one step of a run does to the cache lines, and which event it has.
use Rattle.std.proofs.Common.{◌≡◌, ℕ, zero, suc, ◌-◌, ◌/◌, Bool, true, false, cond, List, [], ◌∷◌, length, Option, Some, None, refl, sym, ap, ◌∙◌}
use Rattle.std.proofs.lemmas.List.{length-map, length-replicate}
use Rattle.hip_tree.specs.Sites.{instr_of}
use Rattle.hip_tree.specs.declared.program.Program.{Program}
use Rattle.hip_types.specs.Bytes.{little_endian, bytes_of}
use Rattle.hip_lines.specs.Line.{Line, AreOrdered, map_line, stored, fresh_lines}
use Rattle.hip_lines.specs.Laws.LineLaws.{length-change_from, ordered-change_from, ordered-flushed_line, ordered-map_line}
use Rattle.hip_runs.specs.declared.event.Ending.{Ending}
use Rattle.hip_runs.specs.declared.event.Ending.TheVariants.{Cut}
use Rattle.hip_runs.specs.declared.event.Event.{Event}
use Rattle.hip_runs.specs.declared.input.Input.{Input}
use Rattle.hip_runs.specs.Actions.{Action, Traps, Assigns, Allocates, Stores, Flushes, Persists, Fences, Asserts, Prints, Reads, Calls, Jumps, Returns, Deed, in_region}
use Rattle.hip_runs.specs.StoredParts.After.{flush_at, flushed_by}
use Rattle.hip_runs.specs.StoredParts.Persistence.{part_of_store, noted_flush, flush_line, flushes_lines, fenced_lines}
use Rattle.hip_runs.specs.State.{Flush, StorePart, Frame, World, Counts, State, levels_of, site_of}
use Rattle.hip_runs.specs.Step.{first_line, lines_size, event_of, stop, with_turn, leave, perform, is_cut, event_at, carry_out, deed_at, on_frames, on_ending, step, event_on_frames, event_on_ending, event, run}
use Rattle.hip_runs.specs.Laws.Fits.{ActionFits, deed_fits}
use Rattle.hip_runs.specs.declared.event.Event.TheVariants as events

-- An event that leaves the lines as they are.
abbrev pub is_plain : Event → Bool
is_plain (events.Store addr value size) = false
is_plain (events.Flush line size) = false
is_plain (events.Persist line size) = false
is_plain events.Fence = false
is_plain _ = true

-- The run goes on, and these are its frames.
pub record IsTop (s : State) (f : Frame) (fs : List Frame) : Type 0 where
  pub going : s.world.ending ≡ None
  pub frames : s.frames ≡ f ∷ fs

-- The statement Q on an event and the lines after it holds for each kind of step.
pub record Cases (I : Input) (s : State) (Q : Event → List (Line StorePart) → Type 0) : Type 0 where
  pub plain : (e : Event) → is_plain e ≡ true → Q e s.lines
  pub store : (f : Frame) (fs : List Frame) → IsTop s f fs → (a : ℕ) (bytes : List ℕ)
      → in_region I a (length bytes) ≡ true →
      bytes_of (length bytes) (little_endian bytes) ≡ bytes →
      Q (events.Store a (little_endian bytes) (length bytes))
      (stored (part_of_store s.counts (site_of f) (levels_of (f ∷ fs)) (a - I.base) bytes) (a - I.base)
      (length bytes) s.lines)
  pub flush : (f : Frame) (fs : List Frame) → IsTop s f fs → (a n : ℕ) → flushes_lines I a n ≡ true →
      Q (events.Flush (first_line I a) (lines_size I a n))
      (flushed_by I (flush_at s.counts (site_of f)) a n s.lines)
  pub persist : (f : Frame) (fs : List Frame) → IsTop s f fs → (a n : ℕ) → flushes_lines I a n ≡ true →
      Q (events.Persist (first_line I a) (lines_size I a n))
      (fenced_lines (flushed_by I (flush_at s.counts (site_of f)) a n s.lines))
  pub fence : Q events.Fence (fenced_lines s.lines)

module _ (P : Program) (I : Input) (s : State) (Q : Event → List (Line StorePart) → Type 0) (c : Cases I s Q) where
  leave_case : (v : ℕ) (w : World) (f : Frame) (fs : List Frame) (after : Counts)
      → Q (event_of I fs (Returns v)) (leave v w f fs s.lines after).lines
  unfolding leave
  leave_case v w f [] after = c.plain _ refl
  leave_case v w f (g ∷ fs) after = c.plain _ refl

  perform_case : (w : World) (f : Frame) (fs : List Frame) → IsTop s f fs → (after : Counts) (x : Action)
      → ActionFits P x (instr_of P (site_of f)) → Q (event_of I fs x) (perform I w f fs s.lines s.counts after x).lines
  unfolding perform
  perform_case w f fs t after (Traps kind) h = c.plain _ refl
  perform_case w f fs t after (Assigns to v) h = c.plain _ refl
  perform_case w f fs t after (Allocates to a n) h = c.plain _ refl
  perform_case w f fs t after (Stores a bytes) h = go (in_region I a (length bytes)) refl
    where
      go : (b : Bool) → in_region I a (length bytes) ≡ b
          → Q (cond b (events.Store a (little_endian bytes) (length bytes)) events.Quiet)
          (cond b (stored (part_of_store s.counts (site_of f) (levels_of (f ∷ fs)) (a - I.base) bytes) (a - I.base)
          (length bytes) s.lines) s.lines)
      go true e = c.store f fs t a bytes e h.is.1
      go false e = c.plain _ refl
  perform_case w f fs t after (Flushes a n) h = go (flushes_lines I a n) refl
    where
      go : (b : Bool) → flushes_lines I a n ≡ b
          → Q (cond b (events.Flush (first_line I a) (lines_size I a n)) events.Quiet)
          (cond b (flushed_by I (flush_at s.counts (site_of f)) a n s.lines) s.lines)
      go true e = c.flush f fs t a n e
      go false e = c.plain _ refl
  perform_case w f fs t after (Persists a n) h = go (flushes_lines I a n) refl
    where
      go : (b : Bool) → flushes_lines I a n ≡ b
          → Q (cond b (events.Persist (first_line I a) (lines_size I a n)) events.Fence)
          (fenced_lines (cond b (flushed_by I (flush_at s.counts (site_of f)) a n s.lines) s.lines))
      go true e = c.persist f fs t a n e
      go false e = c.fence
  perform_case w f fs t after Fences h = c.fence
  perform_case w f fs t after (Asserts a n) h = c.plain _ refl
  perform_case w f fs t after (Prints z) h = c.plain _ refl
  perform_case w f fs t after (Reads to z rest) h = c.plain _ refl
  perform_case w f fs t after (Calls g rs to) h = c.plain _ refl
  perform_case w f fs t after (Jumps b rs) h = c.plain _ refl
  perform_case w f fs t after (Returns v) h = leave_case v w f fs after

  carry_case : (f : Frame) (fs : List Frame) → IsTop s f fs → (after : Counts) (d : Deed)
      → ActionFits P d.action (instr_of P (site_of f))
      → Q (event_at I s.world fs d) (carry_out I s.world f fs s.lines s.counts after d).lines
  unfolding carry_out
  carry_case f fs t after d h = go (is_cut I s.world d)
    where
      go : (b : Bool)
          → Q (cond b (events.End Cut) (event_of I fs d.action))
          (cond b (stop Cut s.world (f ∷ fs) s.lines after)
          (perform I (cond d.turn (with_turn s.world) s.world) f fs s.lines s.counts after d.action)).lines
      go true = c.plain _ refl
      go false = perform_case _ f fs t after d.action h

  -- If Q holds for each kind of step, it holds for the next step.
  pub step-cases : Q (event P I s) (step P I s).lines
  unfolding step event on_ending on_frames
  step-cases = go s.world.ending refl
    where
      on_them : (fs : List Frame) → s.frames ≡ fs → s.world.ending ≡ None
          → Q (event_on_frames P I s.world fs) (on_frames P I s.world s.lines s.counts fs).lines
      on_them [] q e = c.plain _ refl
      on_them (f ∷ fs) q e =
          carry_case f fs (record { going = e; frames = q }) _ (deed_at P I s.world f fs) (deed_fits P I s.world f fs)

      go : (o : Option Ending) → s.world.ending ≡ o → Q (event_on_ending P I s o) (on_ending P I s o).lines
      go (Some e) q = c.plain _ refl
      go None q = on_them s.frames refl q

pub ordered-flushed_by : (I : Input) (flush : Flush) (a n : ℕ) (ls : List (Line StorePart)) → AreOrdered ls
    → AreOrdered (flushed_by I flush a n ls)
ordered-flushed_by I flush a n ls o =
    ordered-change_from (λ _ l. flush_line flush l) (a - I.base) n
    (λ _ l h. ordered-flushed_line (map_line (noted_flush flush) l) (ordered-map_line (noted_flush flush) l h)) 0 ls o

-- ---- how many lines there are

same_length : (I : Input) (s : State) → Cases I s (λ e ls. length ls ≡ length s.lines)
same_length I s = record {
  plain = λ e p. refl;
  store = λ f fs t a bytes e w. length-change_from _ (a - I.base) (length bytes) 0 s.lines;
  flush = λ f fs t a n e. length-change_from _ (a - I.base) n 0 s.lines;
  persist = λ f fs t a n e. length-map _ _ ∙ length-change_from _ (a - I.base) n 0 s.lines;
  fence = length-map s.lines _;
}

-- A run has as many lines as the initial region has whole ones.
pub length-lines : (P : Program) (I : Input) (n : ℕ) → length (run P I n).lines ≡ length I.image / 64
unfolding run fresh_lines
length-lines P I zero = length-replicate _ _
length-lines P I (suc n) =
    step-cases P I (run P I n) (λ e ls. length ls ≡ length (run P I n).lines) (same_length I (run P I n))
    ∙ length-lines P I n

-- ---- how many steps were counted

-- Whether there is a frame.
abbrev pub has_frame : List Frame → Bool
has_frame [] = false
has_frame (f ∷ fs) = true

-- There is a frame, and while the run goes on, n steps were counted.
record IsCounted (s : State) (n : ℕ) : Type 0 where
  stands : has_frame s.frames ≡ true
  steps : s.world.ending ≡ None → s.counts.steps ≡ n

leave_counted : (v : ℕ) (w : World) (f : Frame) (fs : List Frame) (ls : List (Line StorePart)) (after : Counts)
    (n : ℕ)
    → after.steps ≡ n → IsCounted (leave v w f fs ls after) n
unfolding leave
leave_counted v w f [] ls after n q = record { stands = refl; steps = λ g. q }
leave_counted v w f (g ∷ fs) ls after n q = record { stands = refl; steps = λ g. q }

perform_counted : (I : Input) (w : World) (f : Frame) (fs : List Frame) (ls : List (Line StorePart))
    (before after : Counts) (n : ℕ) → after.steps ≡ n → (x : Action)
    → IsCounted (perform I w f fs ls before after x) n
unfolding perform
perform_counted I w f fs ls before after n q (Traps kind) = record { stands = refl; steps = λ g. q }
perform_counted I w f fs ls before after n q (Assigns to v) = record { stands = refl; steps = λ g. q }
perform_counted I w f fs ls before after n q (Allocates to a size) = record { stands = refl; steps = λ g. q }
perform_counted I w f fs ls before after n q (Stores a bytes) = record { stands = refl; steps = λ g. q }
perform_counted I w f fs ls before after n q (Flushes a size) = record { stands = refl; steps = λ g. q }
perform_counted I w f fs ls before after n q (Persists a size) = record { stands = refl; steps = λ g. q }
perform_counted I w f fs ls before after n q Fences = record { stands = refl; steps = λ g. q }
perform_counted I w f fs ls before after n q (Asserts a size) = record { stands = refl; steps = λ g. q }
perform_counted I w f fs ls before after n q (Prints z) = record { stands = refl; steps = λ g. q }
perform_counted I w f fs ls before after n q (Reads to z rest) = record { stands = refl; steps = λ g. q }
perform_counted I w f fs ls before after n q (Calls g rs to) = record { stands = refl; steps = λ g. q }
perform_counted I w f fs ls before after n q (Jumps b rs) = record { stands = refl; steps = λ g. q }
perform_counted I w f fs ls before after n q (Returns v) = leave_counted v w f fs ls after n q

carry_counted : (I : Input) (w : World) (f : Frame) (fs : List Frame) (ls : List (Line StorePart))
    (before after : Counts) (n : ℕ) → after.steps ≡ n → (d : Deed)
    → IsCounted (carry_out I w f fs ls before after d) n
unfolding carry_out
carry_counted I w f fs ls before after n q d = go (is_cut I w d)
  where
    go : (b : Bool)
        → IsCounted (cond b (stop Cut w (f ∷ fs) ls after)
        (perform I (cond d.turn (with_turn w) w) f fs ls before after d.action)) n
    go true = record { stands = refl; steps = λ g. q }
    go false = perform_counted I _ f fs ls before after n q d.action

step_counted : (P : Program) (I : Input) (s : State) (n : ℕ) → IsCounted s n → IsCounted (step P I s) (suc n)
unfolding step on_ending on_frames
step_counted P I s n c = go s.world.ending refl
  where
    on_them : (fs : List Frame) → s.frames ≡ fs → s.world.ending ≡ None
        → IsCounted (on_frames P I s.world s.lines s.counts fs) (suc n)
    on_them [] q e = absurd (let h : false ≡ true = sym (ap has_frame q) ∙ c.stands in let z : ⊥ = cc in z)
    on_them (f ∷ fs) q e =
        carry_counted I s.world f fs s.lines s.counts _ (suc n) (ap suc (c.steps e)) (deed_at P I s.world f fs)

    go : (o : Option Ending) → s.world.ending ≡ o → IsCounted (on_ending P I s o) (suc n)
    go (Some e) q =
        record {
          stands = c.stands;
          steps = λ g.
              absurd (let h : Some e ≡ None = sym q ∙ g in let z : ⊥ = cc in z);
        }
    go None q = on_them s.frames refl q

run_counted : (P : Program) (I : Input) (n : ℕ) → IsCounted (run P I n) n
unfolding run
run_counted P I zero = record { stands = refl; steps = λ g. refl }
run_counted P I (suc n) = step_counted P I (run P I n) n (run_counted P I n)

-- While a run goes on, it counts its steps.
pub counted-steps : (P : Program) (I : Input) (n : ℕ) → (run P I n).world.ending ≡ None
    → (run P I n).counts.steps ≡ n
counted-steps P I n g = (run_counted P I n).steps g

-- Each state of a run has a frame.
pub standing-frame : (P : Program) (I : Input) (n : ℕ) → has_frame (run P I n).frames ≡ true
standing-frame P I n = (run_counted P I n).stands
