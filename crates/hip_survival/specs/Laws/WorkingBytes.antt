-- In each state of a run, each byte of the region in working memory is the initial byte, changed by all parts of its
-- line in order.
use Rattle.std.proofs.Common.{◌≡◌, ◌⊎◌, inl, inr, ℕ, zero, suc, ◌+◌, ◌-◌, ◌*◌, ◌/◌, ◌<◌, ◌≤◌, Bool, true, false, cond, ◌||◌, nat_le, List, [], ◌∷◌, ◌++◌, length, Option, Some, None, slice_get, slice_index, refl, sym, ap, ◌∙◌, arith}
use Rattle.hip_types.specs.Laws.DistinctLaws.{either}
use Rattle.hip_tree.specs.declared.program.Program.{Program}
use Rattle.hip_tree.specs.declared.site.Site.{Site}
use Rattle.hip_globals.specs.Addresses.{volatile_end}
use Rattle.hip_globals.specs.Initial.{volatile_bytes}
use Rattle.hip_globals.proofs.InitialLemmas.{length-volatile}
use Rattle.hip_lines.specs.Image.{byte_after, parts_of}
use Rattle.hip_lines.specs.Line.{Line, fresh_lines, stored}
use Rattle.hip_types.specs.Bytes.{zeros}
use Rattle.hip_mem.specs.Laws.AreasLaws.{in_area, not_in_area, byte_from-append, not_written}
use Rattle.hip_mem.specs.Laws.BytesLaws.{length-zeros}
use Rattle.hip_mem.specs.Memory.{Write, byte_written, byte_from}
use Rattle.hip_types.specs.Areas.{volatile_start, stack_start, stack_end}
use Rattle.hip_sound.specs.Sound.{IsSound}
use Rattle.hip_runs.specs.Actions.{Action, Traps, Assigns, Allocates, Stores, Flushes, Persists, Fences, Asserts, Prints, Reads, Calls, Jumps, Returns, Deed, is_within, in_region}
use Rattle.hip_runs.specs.Crash.{covers, byte_of}
use Rattle.hip_runs.specs.Laws.CrashLaws.{same_size}
use Rattle.hip_runs.specs.Laws.HistoryLaws.{line_of_fresh}
use Rattle.hip_runs.specs.Laws.Members.{both_true, le_true}
use Rattle.hip_runs.specs.State.{Level, StorePart, Frame, World, Counts, State, levels_of, site_of}
use Rattle.hip_runs.specs.Step.{stop, with_turn, leave, perform, is_cut, carry_out, event_at, counted, deed_at, on_frames, on_ending, step, run}
use Rattle.hip_runs.specs.StoredParts.Persistence.{part_of_store, stored_lines, flushed_lines}
use Rattle.hip_runs.specs.Validity.{IsValid}
use Rattle.hip_runs.specs.declared.event.Ending.{Ending}
use Rattle.hip_runs.specs.declared.event.Ending.TheVariants.{Cut}
use Rattle.hip_runs.specs.declared.input.Input.{Input}
use Rattle.hip_invariants.specs.Laws.StackShape.{stack_is_shaped}
use Rattle.hip_survival.specs.Survival.{HasAllParts}
use Rattle.hip_survival.specs.Laws.Bounded.{touches, Bounded, deed_bounded}
use Rattle.hip_survival.specs.Laws.StoreBytes.{line_byte, line_byte-flushed, line_byte-fenced, line_byte-stored}

-- Byte b of the region after writes.
abbrev region_byte : Input → List Write → ℕ → ℕ
region_byte I ws b = byte_from ws (I.base + b) (slice_index I.image b)

-- Each byte of the region is the same after the writes as after the parts of the lines.
record Agrees (I : Input) (ws : List Write) (ls : List (Line StorePart)) : Type 0 where
  is : (b : ℕ) → b < length I.image → region_byte I ws b ≡ line_byte I ls b

record StateAgrees (I : Input) (s : State) : Type 0 where
  is : Agrees I s.world.writes s.lines

pub line_there : (ls : List (Line StorePart)) (j : ℕ) → j < length ls
    → (l : Line StorePart) × (slice_get ls j ≡ Some l)
line_there [] j h = absurd (omega arith)
line_there (x ∷ ls) zero h = (x, refl)
line_there (x ∷ ls) (suc j) h = line_there ls j (omega arith)

module _ (P : Program) (I : Input) (low : volatile_end P ≤ I.base) (above : stack_end ≤ I.base) where
  -- A write that does not touch the region keeps the region and the lines in agreement.
  beside : (ws : List Write) (ls : List (Line StorePart)) (w : Write)
      → ((b : ℕ) → (I.base + b < w.addr) ⊎ (w.addr + length w.bytes ≤ I.base + b)) → Agrees I ws ls
      → Agrees I (ws ++ w ∷ []) ls
  beside ws ls w out h = record {
    is = λ b lt. byte_from-append ws w (I.base + b) (slice_index I.image b)
        ∙ not_written w (I.base + b) (region_byte I ws b) (out b) ∙ h.is b lt;
  }

  -- Bytes in an area before the region end before the region.
  before_region : (mark a n : ℕ) → mark ≤ stack_end
      → is_within volatile_start (volatile_end P) a n || (is_within stack_start mark a n || in_region I a n) ≡ true
      → in_region I a n ≡ false → a + n ≤ I.base
  before_region mark a n m t f = go (either (is_within volatile_start (volatile_end P) a n) _ t)
    where
      go : (is_within volatile_start (volatile_end P) a n ≡ true)
          ⊎ (is_within stack_start mark a n || in_region I a n ≡ true) → a + n ≤ I.base
      go (inl e) =
          let both = both_true (nat_le volatile_start a) (nat_le (a + n) (volatile_end P)) e in
          let h : a + n ≤ volatile_end P = le_true (a + n) (volatile_end P) both.1 in
          omega (arith, h, low)
      go (inr e) = next (either (is_within stack_start mark a n) _ e)
        where
          next : (is_within stack_start mark a n ≡ true) ⊎ (in_region I a n ≡ true) → a + n ≤ I.base
          next (inl g) =
              let h : a + n ≤ mark =
              le_true (a + n) mark (both_true (nat_le stack_start a) (nat_le (a + n) mark) g).1 in
              omega (arith, h, m, above)
          next (inr g) = absurd (let z : false ≡ true = sym f ∙ g in let u : ⊥ = cc in u)

  store_agrees : (mark : ℕ) (ws : List Write) (ls : List (Line StorePart)) (counts : Counts) (site : Site)
      (levels : List Level) (a : ℕ) (bytes : List ℕ) → mark ≤ stack_end → length I.image ≡ 64 * length ls
      → is_within volatile_start (volatile_end P) a (length bytes)
      || (is_within stack_start mark a (length bytes) || in_region I a (length bytes)) ≡ true
      → Agrees I ws ls
      → Agrees I (ws ++ record { addr = a; bytes = bytes } ∷ []) (stored_lines I counts site levels a bytes ls)
  store_agrees mark ws ls counts site levels a bytes m size t h = go (in_region I a (length bytes)) refl
    where
      go : (b : Bool) → in_region I a (length bytes) ≡ b
          → Agrees I (ws ++ record { addr = a; bytes = bytes } ∷ [])
          (cond b (stored (part_of_store counts site levels (a - I.base) bytes) (a - I.base) (length bytes) ls) ls)
      go true e = record {
        is = λ b lt. let l = line_there ls (b / 64) (omega (arith, lt, size)) in
            byte_from-append ws (record { addr = a; bytes = bytes }) (I.base + b) (slice_index I.image b)
            ∙ ap (byte_written (record { addr = a; bytes = bytes }) (I.base + b)) (h.is b lt)
            ∙ sym (line_byte-stored I counts site levels a bytes b e ls l.0 l.1);
      }
      go false e =
          let end = before_region mark a (length bytes) m t e in
          beside ws ls (record { addr = a; bytes = bytes }) (λ b. inr (omega (arith, end))) h

  -- A new block writes only zeros on the stack, if it writes at all.
  block_beside : (mark a n len b : ℕ) → a + n ≤ stack_end → len ≡ (a + n) - mark
      → (I.base + b < mark) ⊎ (mark + len ≤ I.base + b)
  block_beside mark a n len b h e = go (split mark (a + n))
    where
      split : (x y : ℕ) → (x ≤ y) ⊎ (y < x)
      split x y = grind arith

      order : (x y : ℕ) → (x < y) ⊎ (y ≤ x)
      order x y = grind arith

      go : (mark ≤ a + n) ⊎ (a + n < mark) → (I.base + b < mark) ⊎ (mark + len ≤ I.base + b)
      go (inl le) = inr (omega (arith, le, e, h, above))
      go (inr lt) = next (order (I.base + b) mark)
        where
          next : (I.base + b < mark) ⊎ (mark ≤ I.base + b) → (I.base + b < mark) ⊎ (mark + len ≤ I.base + b)
          next (inl g) = inl g
          next (inr g) = inr (omega (arith, lt, e, g))

  flushed_agrees : (ws : List Write) (ls ls' : List (Line StorePart))
      → ((b : ℕ) → line_byte I ls' b ≡ line_byte I ls b)
      → Agrees I ws ls → Agrees I ws ls'
  flushed_agrees ws ls ls' same h = record { is = λ b lt. h.is b lt ∙ sym (same b) }

  leave_agrees : (v : ℕ) (w : World) (f : Frame) (fs : List Frame) (ls : List (Line StorePart)) (after : Counts)
      → Agrees I w.writes ls → StateAgrees I (leave v w f fs ls after)
  unfolding leave
  leave_agrees v w f [] ls after h = record { is = h }
  leave_agrees v w f (g ∷ fs) ls after h = record { is = h }

  perform_agrees : (w : World) (f : Frame) (fs : List Frame) (ls : List (Line StorePart)) (before after : Counts)
      → w.mark ≤ stack_end → length I.image ≡ 64 * length ls → Agrees I w.writes ls
      → (x : Action) → touches P I w.mark x → StateAgrees I (perform I w f fs ls before after x)
  unfolding perform
  perform_agrees w f fs ls before after m size h (Traps kind) t = record { is = h }
  perform_agrees w f fs ls before after m size h (Assigns dest v) t = record { is = h }
  perform_agrees w f fs ls before after m size h (Allocates dest a n) t = record {
    is = beside w.writes ls (record { addr = w.mark; bytes = zeros ((a + n) - w.mark) })
        (λ b. block_beside w.mark a n (length (zeros ((a + n) - w.mark))) b t (length-zeros ((a + n) - w.mark))) h;
  }
  perform_agrees w f fs ls before after m size h (Stores a bytes) t = record {
    is = store_agrees w.mark w.writes ls before (site_of f) (levels_of (f ∷ fs)) a bytes m size t h;
  }
  perform_agrees w f fs ls before after m size h (Flushes a n) t = record {
    is = flushed_agrees w.writes ls (flushed_lines I (record { step = before.steps; site = site_of f }) a n ls)
        (line_byte-flushed I (record { step = before.steps; site = site_of f }) a n ls) h;
  }
  perform_agrees w f fs ls before after m size h (Persists a n) t =
      record {
        is = flushed_agrees w.writes ls _
            (λ b. line_byte-fenced I (flushed_lines I (record { step = before.steps; site = site_of f }) a n ls) b
            ∙ line_byte-flushed I (record { step = before.steps; site = site_of f }) a n ls b) h;
      }
  perform_agrees w f fs ls before after m size h Fences t = record {
    is = flushed_agrees w.writes ls _ (line_byte-fenced I ls) h;
  }
  perform_agrees w f fs ls before after m size h (Asserts a n) t = record { is = h }
  perform_agrees w f fs ls before after m size h (Prints z) t = record { is = h }
  perform_agrees w f fs ls before after m size h (Reads dest z rest) t = record { is = h }
  perform_agrees w f fs ls before after m size h (Calls g registers dest) t = record { is = h }
  perform_agrees w f fs ls before after m size h (Jumps b registers) t = record { is = h }
  perform_agrees w f fs ls before after m size h (Returns v) t = leave_agrees v w f fs ls after h

  carry_agrees : (w : World) (f : Frame) (fs : List Frame) (ls : List (Line StorePart)) (before after : Counts)
      → w.mark ≤ stack_end → length I.image ≡ 64 * length ls → Agrees I w.writes ls
      → (d : Deed) → Bounded P I w.mark d.action → StateAgrees I (carry_out I w f fs ls before after d)
  unfolding carry_out
  carry_agrees w f fs ls before after m size h d t = go (is_cut I w d)
    where
      taken : (turn : Bool) → StateAgrees I (perform I (cond turn (with_turn w) w) f fs ls before after d.action)
      taken true = perform_agrees (with_turn w) f fs ls before after m size h d.action t.is
      taken false = perform_agrees w f fs ls before after m size h d.action t.is

      go : (b : Bool) → StateAgrees I (cond b (stop Cut w (f ∷ fs) ls after)
          (perform I (cond d.turn (with_turn w) w) f fs ls before after d.action))
      go true = record { is = h }
      go false = taken d.turn

  step_agrees : (s : State) → s.world.mark ≤ stack_end → length I.image ≡ 64 * length s.lines
      → StateAgrees I s
      → StateAgrees I (step P I s)
  unfolding step on_ending on_frames
  step_agrees s m size h = go s.world.ending
    where
      on_them : (fs : List Frame) → StateAgrees I (on_frames P I s.world s.lines s.counts fs)
      on_them [] = record { is = h.is }
      on_them (f ∷ fs) =
          carry_agrees s.world f fs s.lines s.counts
          (counted (event_at I s.world fs (deed_at P I s.world f fs)) s.counts) m size h.is (deed_at P I s.world f fs)
          (deed_bounded P I s.world f fs)

      go : (o : Option Ending) → StateAgrees I (on_ending P I s o)
      go (Some e) = h
      go None = on_them s.frames

  no_parts : (o : Option (Line StorePart)) → ((l : Line StorePart) → o ≡ Some l → l.parts ≡ [])
      → (b first : ℕ)
      → first ≡ byte_after covers byte_of (parts_of covers byte_of o) b first
  no_parts None h b first = refl
  no_parts (Some l) h b first = sym (ap (λ ps. byte_after covers byte_of ps b first) (h l refl))

  run_agrees : IsValid P I → (n : ℕ) → StateAgrees I (run P I n)
  unfolding run
  run_agrees v zero = record {
    is = record {
      is = λ b lt. no_parts (slice_get (fresh_lines (length I.image / 64)) (b / 64))
          (λ l e. line_of_fresh P (length I.image / 64) (b / 64) l e) b (slice_index I.image b);
    };
  }
  run_agrees v (suc n) =
      step_agrees (run P I n) (stack_is_shaped P I n).is.within (same_size P I n v) (run_agrees v n)

-- In working memory, each byte of the region is the initial byte, changed by all parts of its line in order.
pub has_all_parts : (P : Program) → IsSound P → (I : Input) → IsValid P I → (n b : ℕ) → b < length I.image
    → HasAllParts P I (run P I n) b
has_all_parts P s I v n b lt =
    let low : volatile_end P ≤ I.base = omega (arith, s.sizes.volatile, v.base.low) in
    let above : stack_end ≤ I.base = omega (arith, v.base.low) in
    let len : volatile_start + length (volatile_bytes P I.base) ≡ volatile_end P = length-volatile P I.base in
    let outside = not_in_area volatile_start (volatile_bytes P I.base) (I.base + b) (inr (omega (arith, len, low))) in
    let inside = in_area I.base I.image (I.base + b) (omega arith) (omega (arith, lt)) in
    let at : (I.base + b) - I.base ≡ b = omega arith in
    ap (byte_from (run P I n).world.writes (I.base + b)) (rw (outside, inside) (ap (slice_index I.image) at))
    ∙ (run_agrees P I low above v n).is.is b lt
