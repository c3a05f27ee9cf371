-- A cache line has at most as many parts as turns were taken, since each store is a turn.
use Rattle.std.proofs.Common.{◌≡◌, ℕ, zero, suc, ◌+◌, ◌-◌, ◌/◌, ◌≤◌, ◌<◌, Bool, true, false, cond, ◌&&◌, not, nat_lt, List, [], ◌∷◌, length, map, Option, Some, None, option_map, slice_get, refl, sym, ap, ◌∙◌, subst, arith, length-append}
use Rattle.std.proofs.lemmas.Bool.Decides.{nat_tests}
use Rattle.std.proofs.lemmas.List.{length-map}
use Rattle.hip_tree.specs.declared.instr.Instr.{Instr}
use Rattle.hip_tree.specs.declared.instr.Instr.TheVariants.{Store, Call}
use Rattle.hip_tree.specs.Sites.{instr_of}
use Rattle.hip_tree.specs.declared.program.Program.{Program}
use Rattle.hip_lines.specs.Line.{Line, has_bytes, change_range, stored, with_part, fresh_lines}
use Rattle.hip_lines.specs.Laws.LineLaws.{slice_get-change_range}
use Rattle.hip_runs.specs.Actions.{Action, Traps, Assigns, Allocates, Stores, Flushes, Persists, Fences, Asserts, Prints, Reads, Calls, Jumps, Returns, Deed, is_turn, in_region, deed_of}
use Rattle.hip_runs.specs.Laws.Fits.{ActionFits, deed_fits}
use Rattle.hip_runs.specs.Laws.HistoryLaws.{instr_at_place, line_of_fresh}
use Rattle.hip_runs.specs.Laws.Members.{get_drop}
use Rattle.hip_runs.specs.Places.{body_at, code_at, end_at}
use Rattle.hip_runs.specs.Sites.{is_store}
use Rattle.hip_runs.specs.State.{StorePart, Frame, World, Counts, State, levels_of, site_of}
use Rattle.hip_runs.specs.Step.{stop, with_turn, leave, perform, is_cut, carry_out, event_at, counted, deed_at, on_frames, on_ending, step, run}
use Rattle.hip_runs.specs.StoredParts.Persistence.{part_of_store, flush_line, fence_line, stored_lines, flushed_lines, fenced_lines, flushes_lines, noted_flush, noted_fence}
use Rattle.hip_runs.specs.declared.event.Ending.{Ending}
use Rattle.hip_runs.specs.declared.event.Ending.TheVariants.{Cut}
use Rattle.hip_runs.specs.declared.input.Input.{Input}

-- Each line has this many parts at most.
pub record AreShort (most : ℕ) (ls : List (Line StorePart)) : Type 0 where
  pub are : (j : ℕ) (l : Line StorePart) → slice_get ls j ≡ Some l → length l.parts ≤ most

some_before : {A B : Type 0} (g : A → B) (o : Option A) (y : B) → option_map g o ≡ Some y → (x : A) × (o ≡ Some x) × (g x ≡ y)
some_before g None y e = absurd (let z : ⊥ = cc in z)
some_before g (Some x) y e = (x, refl, cc)

get_mapped : {A B : Type 0} (g : A → B) (xs : List A) (k : ℕ) → slice_get (map g xs) k ≡ option_map g (slice_get xs k)
get_mapped g [] k = refl
get_mapped g (x ∷ xs) zero = refl
get_mapped g (x ∷ xs) (suc k) = get_mapped g xs k

short_more : (m n : ℕ) (ls : List (Line StorePart)) → m ≤ n → AreShort m ls → AreShort n ls
short_more m n ls h a = record { are = λ j l e. omega (arith, h, a.are j l e) }

-- If a change adds few parts to each line of a range, the lines have at most that many more.
short_changed : (f : ℕ → Line StorePart → Line StorePart) (o n m more : ℕ) (ls : List (Line StorePart)) → ((j : ℕ) (l : Line StorePart) → length (f j l).parts ≤ length l.parts + more) → AreShort m ls → AreShort (m + more) (change_range f o n ls)
short_changed f o n m more ls h a = record {
  are = λ j l e.
      let b = some_before _ (slice_get ls j) l (sym (slice_get-change_range f o n ls j) ∙ e) in
      subst (λ (x : Line StorePart). length x.parts ≤ m + more) b.2 (go j b.0 (has_bytes j o n) (a.are j b.0 b.1));
}
  where
    go : (j : ℕ) (x : Line StorePart) (b : Bool) → length x.parts ≤ m → length (cond b (f j x) x).parts ≤ m + more
    go j x true k = omega (arith, h j x, k)
    go j x false k = omega (arith, k)

short_fenced : (m : ℕ) (ls : List (Line StorePart)) → AreShort m ls → AreShort m (fenced_lines ls)
short_fenced m ls a = record {
  are = λ j l e.
      let b = some_before fence_line (slice_get ls j) l (sym (get_mapped fence_line ls j) ∙ e) in
      subst (λ (x : Line StorePart). length x.parts ≤ m) b.2 (omega (arith, length-map b.0.parts noted_fence, a.are j b.0 b.1));
}

short_flushed : (I : Input) (f : _) (a n m : ℕ) (ls : List (Line StorePart)) → AreShort m ls → AreShort m (flushed_lines I f a n ls)
short_flushed I f a n m ls h = go (flushes_lines I a n)
  where
    same : m + 0 ≡ m
    same = omega arith

    go : (b : Bool) → AreShort m (cond b (change_range (λ _ l. flush_line f l) (a - I.base) n ls) ls)
    go true = subst (λ k. AreShort k (change_range (λ _ l. flush_line f l) (a - I.base) n ls)) same (short_changed (λ _ l. flush_line f l) (a - I.base) n m 0 ls (λ j l. omega (arith, length-map l.parts (noted_flush f))) h)
    go false = h

short_stored : (I : Input) (counts : Counts) (f : Frame) (fs : List Frame) (a : ℕ) (bytes : List ℕ) (m : ℕ) (ls : List (Line StorePart)) → AreShort m ls → AreShort (m + 1) (stored_lines I counts (site_of f) (levels_of (f ∷ fs)) a bytes ls)
short_stored I counts f fs a bytes m ls h = go (in_region I a (length bytes))
  where
    part : ℕ → StorePart
    part = part_of_store counts (site_of f) (levels_of (f ∷ fs)) (a - I.base) bytes

    go : (b : Bool) → AreShort (m + 1) (cond b (stored part (a - I.base) (length bytes) ls) ls)
    go true = short_changed (λ j l. with_part (part j) l) (a - I.base) (length bytes) m 1 ls (λ j l. omega (arith, length-append l.parts (part j ∷ []))) h
    go false = short_more m (m + 1) ls (omega arith) h

-- ---- one step

record IsFew (I : Input) (s : State) : Type 0 where
  parts : AreShort s.world.turns s.lines
  turns : s.world.turns ≤ I.limit

abbrev stores : Action → Bool
stores (Stores a bytes) = true
stores _ = false

few_left : (I : Input) (v : ℕ) (w : World) (f : Frame) (fs : List Frame) (ls : List (Line StorePart)) (after : Counts) → AreShort w.turns ls → w.turns ≤ I.limit → IsFew I (leave v w f fs ls after)
unfolding leave
few_left I v w f [] ls after h k = record { parts = h; turns = k }
few_left I v w f (g ∷ fs) ls after h k = record { parts = h; turns = k }

-- After an action each line has at most as many parts as turns were taken, if a store takes one turn more than the
-- lines have parts.
few_performed : (I : Input) (w : World) (f : Frame) (fs : List Frame) (ls : List (Line StorePart)) (before after : Counts) (x : Action) (m : ℕ) → AreShort m ls → m ≤ w.turns → (stores x ≡ true → m + 1 ≤ w.turns) → w.turns ≤ I.limit
    → IsFew I (perform I w f fs ls before after x)
unfolding perform
few_performed I w f fs ls before after (Traps kind) m h k s l = record { parts = short_more m w.turns ls k h; turns = l }
few_performed I w f fs ls before after (Assigns dest v) m h k s l = record { parts = short_more m w.turns ls k h; turns = l }
few_performed I w f fs ls before after (Allocates dest a n) m h k s l = record { parts = short_more m w.turns ls k h; turns = l }
few_performed I w f fs ls before after (Stores a bytes) m h k s l = record { parts = short_more (m + 1) w.turns _ (s refl) (short_stored I before f fs a bytes m ls h); turns = l }
few_performed I w f fs ls before after (Flushes a n) m h k s l = record { parts = short_more m w.turns _ k (short_flushed I _ a n m ls h); turns = l }
few_performed I w f fs ls before after (Persists a n) m h k s l = record { parts = short_more m w.turns _ k (short_fenced m _ (short_flushed I _ a n m ls h)); turns = l }
few_performed I w f fs ls before after Fences m h k s l = record { parts = short_more m w.turns _ k (short_fenced m ls h); turns = l }
few_performed I w f fs ls before after (Asserts a n) m h k s l = record { parts = short_more m w.turns ls k h; turns = l }
few_performed I w f fs ls before after (Prints z) m h k s l = record { parts = short_more m w.turns ls k h; turns = l }
few_performed I w f fs ls before after (Reads dest z rest) m h k s l = record { parts = short_more m w.turns ls k h; turns = l }
few_performed I w f fs ls before after (Calls g rs dest) m h k s l = record { parts = short_more m w.turns ls k h; turns = l }
few_performed I w f fs ls before after (Jumps b rs) m h k s l = record { parts = short_more m w.turns ls k h; turns = l }
few_performed I w f fs ls before after (Returns v) m h k s l = few_left I v w f fs ls after (short_more m w.turns ls k h) l

few_carried : (I : Input) (w : World) (f : Frame) (fs : List Frame) (ls : List (Line StorePart)) (before after : Counts) (d : Deed) → (stores d.action ≡ true → d.turn ≡ true) → AreShort w.turns ls → w.turns ≤ I.limit → IsFew I (carry_out I w f fs ls before after d)
unfolding carry_out
few_carried I w f fs ls before after d turn h k = go (is_cut I w d) refl d.turn refl
  where
    room : (n m : ℕ) → not (nat_lt n m) ≡ false → n < m
    room n m e = grind (arith, nat_tests)

    go : (b : Bool) → is_cut I w d ≡ b → (t : Bool) → d.turn ≡ t → IsFew I (cond b (stop Cut w (f ∷ fs) ls after) (perform I (cond d.turn (with_turn w) w) f fs ls before after d.action))
    go true e t q = record { parts = h; turns = k }
    go false e true q =
        let left : not (nat_lt w.turns I.limit) ≡ false = sym (ap (λ b. b && not (nat_lt w.turns I.limit)) q) ∙ e in
        subst (λ b. IsFew I (perform I (cond b (with_turn w) w) f fs ls before after d.action)) (sym q)
        (few_performed I (with_turn w) f fs ls before after d.action w.turns h (omega arith) (λ s. omega arith) (omega (arith, room w.turns I.limit left)))
    go false e false q =
        subst (λ b. IsFew I (perform I (cond b (with_turn w) w) f fs ls before after d.action)) (sym q)
        (few_performed I w f fs ls before after d.action w.turns h (omega arith) (λ s. absurd (let e = sym (turn s) ∙ q in let z : ⊥ = cc in z)) k)

-- A store is a turn.
store_turns : (P : Program) (I : Input) (w : World) (f : Frame) (fs : List Frame) → stores (deed_at P I w f fs).action ≡ true → (deed_at P I w f fs).turn ≡ true
store_turns P I w f fs = by_code (code_at P f) refl
  where
    is_one : (x : Action) (o : Option Instr) → ActionFits P x o → stores x ≡ true → is_store o ≡ true
    is_one (Stores a bytes) o h s = h.is.0
    is_one (Traps kind) o h s = absurd (let z : ⊥ = cc in z)
    is_one (Assigns dest v) o h s = absurd (let z : ⊥ = cc in z)
    is_one (Allocates dest a n) o h s = absurd (let z : ⊥ = cc in z)
    is_one (Flushes a n) o h s = absurd (let z : ⊥ = cc in z)
    is_one (Persists a n) o h s = absurd (let z : ⊥ = cc in z)
    is_one Fences o h s = absurd (let z : ⊥ = cc in z)
    is_one (Asserts a n) o h s = absurd (let z : ⊥ = cc in z)
    is_one (Prints z) o h s = absurd (let y : ⊥ = cc in y)
    is_one (Reads dest z rest) o h s = absurd (let y : ⊥ = cc in y)
    is_one (Calls g rs dest) o h s = absurd (let z : ⊥ = cc in z)
    is_one (Jumps b rs) o h s = absurd (let z : ⊥ = cc in z)
    is_one (Returns v) o h s = absurd (let z : ⊥ = cc in z)

    turns : (i : Instr) → is_store (Some i) ≡ true → is_turn i ≡ true
    turns (Store ty value addr align) e = refl
    turns (Call dest ret callee args) e = absurd (let z : ⊥ = cc in z)
    turns _ e = refl

    by_code : (code : List Instr) → code_at P f ≡ code → stores (deed_of P I w (length fs) f (end_at P f) code).action ≡ true → (deed_of P I w (length fs) f (end_at P f) code).turn ≡ true
    by_code [] q s = refl
    by_code (i ∷ rest) q s =
        let at : instr_of P (site_of f) ≡ Some i = instr_at_place P f.function f.block f.place ∙ get_drop (body_at P f.function f.block) f.place i rest q in
        let fit : ActionFits P (deed_of P I w (length fs) f (end_at P f) (i ∷ rest)).action (instr_of P (site_of f)) = subst (λ code. ActionFits P (deed_of P I w (length fs) f (end_at P f) code).action (instr_of P (site_of f))) q (deed_fits P I w f fs) in
        turns i (is_one _ (Some i) (subst (ActionFits P _) at fit) s)

few_step : (P : Program) (I : Input) (s : State) → IsFew I s → IsFew I (step P I s)
unfolding step on_ending on_frames
few_step P I s h = go s.world.ending
  where
    on_them : (fs : List Frame) → IsFew I (on_frames P I s.world s.lines s.counts fs)
    on_them [] = record { parts = h.parts; turns = h.turns }
    on_them (f ∷ fs) = few_carried I s.world f fs s.lines s.counts (counted (event_at I s.world fs (deed_at P I s.world f fs)) s.counts) (deed_at P I s.world f fs) (store_turns P I s.world f fs) h.parts h.turns

    go : (o : Option Ending) → IsFew I (on_ending P I s o)
    go (Some e) = h
    go None = on_them s.frames

few_run : (P : Program) (I : Input) (n : ℕ) → IsFew I (run P I n)
unfolding run
few_run P I zero = record { parts = record { are = λ j l e. fresh (length I.image / 64) j l e }; turns = omega arith }
  where
    fresh : (k j : ℕ) (l : Line StorePart) → slice_get (fresh_lines {P = StorePart} k) j ≡ Some l → length l.parts ≤ 0
    fresh k j l e = let none : length l.parts ≡ 0 = ap length (line_of_fresh P k j l e) in omega (arith, none)
few_run P I (suc n) = few_step P I (run P I n) (few_run P I n)

-- A cache line has at most as many parts as the limit has turns.
pub few_parts : (P : Program) (I : Input) (n j : ℕ) (l : Line StorePart) → slice_get (run P I n).lines j ≡ Some l → length l.parts ≤ I.limit
few_parts P I n j l e = let few = few_run P I n in omega (arith, few.turns, few.parts.are j l e)
