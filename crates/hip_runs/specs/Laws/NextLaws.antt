-- What a step does to the cache lines and to the count of entries, by its event and the state before it.
use Rattle.std.proofs.Common.{◌≡◌, ◌⊎◌, inl, inr, ℕ, zero, suc, ◌+◌, ◌-◌, ◌*◌, ◌/◌, ◌<◌, ◌≤◌, Bool, true, false, cond, ◌&&◌, nat_lt, List, [], ◌∷◌, length, Option, Some, None, refl, sym, ap, ap₂, ◌∙◌, subst, arith}
use Rattle.std.proofs.lemmas.Bool.Decides.{nat_tests}
use Rattle.std.specs.Prelude.{is_some}
use Rattle.hip_tree.specs.declared.program.Program.{Program}
use Rattle.hip_lines.specs.Line.{Line, has_bytes, change_from, stored}
use Rattle.hip_types.specs.Bytes.{little_endian}
use Rattle.hip_runs.specs.declared.event.Ending.{Ending}
use Rattle.hip_runs.specs.declared.event.Ending.TheVariants.{Cut}
use Rattle.hip_runs.specs.declared.event.Event.{Event}
use Rattle.hip_runs.specs.declared.input.Input.{Input}
use Rattle.hip_runs.specs.Actions.{Action, Traps, Assigns, Allocates, Stores, Flushes, Persists, Fences, Asserts, Prints, Reads, Calls, Jumps, Returns, Deed, in_region}
use Rattle.hip_runs.specs.StoredParts.After.{flush_at, flushed_by, lines_after}
use Rattle.hip_runs.specs.Entry.{IsAtEntry}
use Rattle.hip_runs.specs.StoredParts.Persistence.{part_of_store, flush_line, flushes_lines, fenced_lines}
use Rattle.hip_runs.specs.StoredParts.Since.{top_site}
use Rattle.hip_runs.specs.State.{Flush, StorePart, Frame, World, Counts, State, levels_of, site_of}
use Rattle.hip_runs.specs.Step.{first_line, lines_size, stop, with_turn, leave, perform, is_cut, has_entry, counted, header_entries, carry_out, deed_at, on_frames, on_ending, step, event_on_frames, event_on_ending, event, run, has_ended}
use Rattle.hip_runs.specs.Laws.StepLaws.{Cases, IsTop, is_plain, step-cases, has_frame, standing-frame}
use Rattle.std.specs.Cmp.{both_ways}
use Rattle.hip_runs.specs.declared.event.Event.TheVariants as events

-- ---- the lines that an event names are those that a range meets

lines_there : (o n j : ℕ) → 0 < n → has_bytes j (64 * (o / 64)) (64 * ((o + n - 1) / 64 + 1) - 64 * (o / 64))
    ≡ true
    → has_bytes j o n ≡ true
lines_there o n j lt h = grind (arith, nat_tests)

there_lines : (o n j : ℕ) → 0 < n → has_bytes j o n ≡ true
    → has_bytes j (64 * (o / 64)) (64 * ((o + n - 1) / 64 + 1) - 64 * (o / 64)) ≡ true
there_lines o n j lt h = grind (arith, nat_tests)

some_bytes : (n : ℕ) (b : Bool) → nat_lt 0 n && b ≡ true → 0 < n
some_bytes n b h = grind (arith, nat_tests)

same_lines : (base o n j : ℕ) → 0 < n
    → has_bytes j (base + 64 * (o / 64) - base) (64 * ((o + n - 1) / 64 + 1) - 64 * (o / 64)) ≡ has_bytes j o n
same_lines base o n j lt =
    ap (λ k. has_bytes j k (64 * ((o + n - 1) / 64 + 1) - 64 * (o / 64)))
    (let e : base + 64 * (o / 64) - base ≡ 64 * (o / 64) = omega arith in e)
    ∙ both_ways _ _ (lines_there o n j lt) (there_lines o n j lt)

same_changes : {L : Type 0} (f : ℕ → L → L) (o n o' n' : ℕ)
    → ((j : ℕ) → has_bytes j o n ≡ has_bytes j o' n')
    → (j : ℕ) (ls : List L) → change_from f o n j ls ≡ change_from f o' n' j ls
same_changes f o n o' n' h j [] = refl
same_changes f o n o' n' h j (l ∷ ls) =
    ap₂ (λ b rest. cond b (f j l) l ∷ rest) (h j) (same_changes f o n o' n' h (suc j) ls)

flushed_alike : (I : Input) (flush : Flush) (a n : ℕ) (ls : List (Line StorePart)) → flushes_lines I a n ≡ true
    → flushed_by I flush a n ls ≡ flushed_by I flush (first_line I a) (lines_size I a n) ls
flushed_alike I flush a n ls h =
    sym (same_changes (λ _ l. flush_line flush l) (first_line I a - I.base) (lines_size I a n) (a - I.base) n
    (λ j. same_lines I.base (a - I.base) n j (some_bytes n (in_region I a n) h)) 0 ls)

-- ---- the next lines

-- The lines after a step of a state with an event.
abbrev Next : Input → State → Event → List (Line StorePart) → Type 0
Next I s e ls = ls ≡ lines_after I e s.counts (top_site s.frames) (levels_of s.frames) s.lines

plain_next : (I : Input) (s : State) (e : Event) → is_plain e ≡ true → Next I s e s.lines
plain_next I s events.Quiet p = refl
plain_next I s (events.Print z) p = refl
plain_next I s (events.Store a v n) p = absurd (let z : ⊥ = cc in z)
plain_next I s (events.Flush line size) p = absurd (let z : ⊥ = cc in z)
plain_next I s (events.Persist line size) p = absurd (let z : ⊥ = cc in z)
plain_next I s events.Fence p = absurd (let z : ⊥ = cc in z)
plain_next I s (events.Assert a n) p = refl
plain_next I s (events.End e) p = refl

module _ (I : Input) (s : State) (f : Frame) (fs : List Frame) (t : IsTop s f fs) where
  at_top : (e : Event) (ls : List (Line StorePart))
      → ls ≡ lines_after I e s.counts (Some (site_of f)) (levels_of (f ∷ fs)) s.lines → Next I s e ls
  at_top e ls h =
      subst (λ (gs : List Frame). ls ≡ lines_after I e s.counts (top_site gs) (levels_of gs) s.lines)
      (sym t.frames) h

next_cases : (I : Input) (s : State) → Cases I s (Next I s)
next_cases I s = record {
  plain = λ e p. plain_next I s e p;
  store =
      λ f fs t a bytes e w. at_top I s f fs t (events.Store a (little_endian bytes) (length bytes)) _
      (ap (λ bs. stored (part_of_store s.counts (site_of f) (levels_of (f ∷ fs)) (a - I.base) bs) (a - I.base)
      (length bytes) s.lines) (sym w));
  flush =
      λ f fs t a n e. at_top I s f fs t (events.Flush (first_line I a) (lines_size I a n)) _
      (flushed_alike I (flush_at s.counts (site_of f)) a n s.lines e);
  persist =
      λ f fs t a n e. at_top I s f fs t (events.Persist (first_line I a) (lines_size I a n)) _
      (ap fenced_lines (flushed_alike I (flush_at s.counts (site_of f)) a n s.lines e));
  fence = refl;
}

-- The lines after a step, by its event, the site and the calls of the top frame, and the counts.
pub next_lines : (P : Program) (I : Input) (n : ℕ)
    → (run P I (suc n)).lines ≡ lines_after I (event P I (run P I n)) (run P I n).counts
    (top_site (run P I n).frames)
    (levels_of (run P I n).frames) (run P I n).lines
unfolding run
next_lines P I n = step-cases P I (run P I n) (Next I (run P I n)) (next_cases I (run P I n))

-- ---- the count of entries

leave_counts : (v : ℕ) (w : World) (f : Frame) (fs : List Frame) (ls : List (Line StorePart)) (after : Counts)
    → (leave v w f fs ls after).counts ≡ after
unfolding leave
leave_counts v w f [] ls after = refl
leave_counts v w f (g ∷ fs) ls after = refl

perform_counts : (I : Input) (w : World) (f : Frame) (fs : List Frame) (ls : List (Line StorePart))
    (before after : Counts) (x : Action) → (perform I w f fs ls before after x).counts ≡ after
unfolding perform
perform_counts I w f fs ls before after (Traps kind) = refl
perform_counts I w f fs ls before after (Assigns to v) = refl
perform_counts I w f fs ls before after (Allocates to a n) = refl
perform_counts I w f fs ls before after (Stores a bytes) = refl
perform_counts I w f fs ls before after (Flushes a n) = refl
perform_counts I w f fs ls before after (Persists a n) = refl
perform_counts I w f fs ls before after Fences = refl
perform_counts I w f fs ls before after (Asserts a n) = refl
perform_counts I w f fs ls before after (Prints z) = refl
perform_counts I w f fs ls before after (Reads to z rest) = refl
perform_counts I w f fs ls before after (Calls g rs to) = refl
perform_counts I w f fs ls before after (Jumps b rs) = refl
perform_counts I w f fs ls before after (Returns v) = leave_counts v w f fs ls after

-- The counts after a deed are those that it is given for the state after it.
pub carry_counts : (I : Input) (w : World) (f : Frame) (fs : List Frame) (ls : List (Line StorePart))
    (before after : Counts) (d : Deed) → (carry_out I w f fs ls before after d).counts ≡ after
unfolding carry_out
carry_counts I w f fs ls before after d = go (is_cut I w d)
  where
    go : (b : Bool)
        → (cond b (stop Cut w (f ∷ fs) ls after)
        (perform I (cond d.turn (with_turn w) w) f fs ls before after d.action)).counts ≡ after
    go true = refl
    go false = perform_counts I _ f fs ls before after d.action

-- A step counts itself and its entry, unless the run has ended.
step_counts : (P : Program) (I : Input) (s : State)
    → ((step P I s).counts ≡ s.counts) ⊎ ((step P I s).counts ≡ counted (event P I s) s.counts)
unfolding step event on_ending on_frames
step_counts P I s = go s.world.ending
  where
    on_them : (fs : List Frame)
        → ((on_frames P I s.world s.lines s.counts fs).counts ≡ s.counts)
        ⊎ ((on_frames P I s.world s.lines s.counts fs).counts ≡ counted (event_on_frames P I s.world fs) s.counts)
    on_them [] = inl refl
    on_them (f ∷ fs) = inr (carry_counts I s.world f fs s.lines s.counts _ (deed_at P I s.world f fs))

    go : (o : Option Ending)
        → ((on_ending P I s o).counts ≡ s.counts)
        ⊎ ((on_ending P I s o).counts ≡ counted (event_on_ending P I s o) s.counts)
    go (Some e) = inl refl
    go None = on_them s.frames

-- A run that has ended stays as it is.
pub rests-ended : (P : Program) (I : Input) (n : ℕ) → has_ended (run P I n) ≡ true
    → run P I (suc n) ≡ run P I n
unfolding run step on_ending
rests-ended P I n h = go (run P I n).world.ending refl h
  where
    go : (o : Option Ending) → (run P I n).world.ending ≡ o → is_some o ≡ true
        → step P I (run P I n) ≡ run P I n
    go None q e = absurd (let z : ⊥ = cc in z)
    go (Some x) q e = ap (on_ending P I (run P I n)) q

-- While the run goes on, a step counts itself, and its entry if it has one.
pub counts-next : (P : Program) (I : Input) (n : ℕ) → has_ended (run P I n) ≡ false
    → (run P I (suc n)).counts ≡ counted (event P I (run P I n)) (run P I n).counts
unfolding run step event on_ending on_frames
counts-next P I n h = go (run P I n).world.ending h
  where
    on_them : (s : State) (fs : List Frame) → has_frame fs ≡ true
        → (on_frames P I s.world s.lines s.counts fs).counts ≡ counted (event_on_frames P I s.world fs) s.counts
    on_them s [] e = absurd (let z : ⊥ = cc in z)
    on_them s (f ∷ fs) e = carry_counts I s.world f fs s.lines s.counts _ (deed_at P I s.world f fs)

    go : (o : Option Ending) → is_some o ≡ false
        → (on_ending P I (run P I n) o).counts ≡ counted (event_on_ending P I (run P I n) o) (run P I n).counts
    go None e = on_them (run P I n) (run P I n).frames (standing-frame P I n)
    go (Some x) e = absurd (let z : ⊥ = cc in z)

-- A step has at most one entry.
pub record IsRise (P : Program) (I : Input) (n : ℕ) : Type 0 where
  pub least : (run P I n).counts.entries ≤ (run P I (suc n)).counts.entries
  pub most : (run P I (suc n)).counts.entries ≤ suc (run P I n).counts.entries

entries_rise : (P : Program) (I : Input) (n : ℕ) → IsRise P I n
unfolding run
entries_rise P I n = go (step_counts P I (run P I n))
  where
    by_entry : (b : Bool) (m c : ℕ) → m ≡ cond b (suc c) c → (c ≤ m) × (m ≤ suc c)
    by_entry true m c e = (omega (arith, e), omega (arith, e))
    by_entry false m c e = (omega (arith, e), omega (arith, e))

    go : ((step P I (run P I n)).counts ≡ (run P I n).counts)
        ⊎ ((step P I (run P I n)).counts ≡ counted (event P I (run P I n)) (run P I n).counts) → IsRise P I n
    go (inl e) =
        let q : (step P I (run P I n)).counts.entries ≡ (run P I n).counts.entries =
        ap (λ (c : Counts). c.entries) e in record { least = omega (arith, q); most = omega (arith, q) }
    go (inr e) =
        let r = by_entry (has_entry (event P I (run P I n))) _ (run P I n).counts.entries
        (ap (λ (c : Counts). c.entries) e) in record { least = r.0; most = r.1 }

module _ (P : Program) (I : Input) (entry : ℕ) where
  -- How many entries are counted after n steps.
  abbrev entries : ℕ → ℕ
  entries n = (run P I n).counts.entries

  -- For each number of steps, a state before it is the first with that number of entries, or all states before it have
  -- fewer.
  search_below : (n : ℕ) → ((k : ℕ) × (k < n) × IsAtEntry P I entry k)
      ⊎ ((k : ℕ) → k < n → entries k < entry)
  search_below zero = inr (λ k lt. absurd (omega (arith, lt)))
  search_below (suc n) = go (search_below n) (split entry (entries n))
    where
      split : (a b : ℕ) → (a ≤ b) ⊎ (b < a)
      split a b = grind arith

      last : (k : ℕ) → k < suc n → (k < n) ⊎ (k ≡ n)
      last k h = grind arith

      go : ((k : ℕ) × (k < n) × IsAtEntry P I entry k) ⊎ ((k : ℕ) → k < n → entries k < entry)
          → (entry ≤ entries n) ⊎ (entries n < entry)
          → ((k : ℕ) × (k < suc n) × IsAtEntry P I entry k) ⊎ ((k : ℕ) → k < suc n → entries k < entry)
      go (inl h) o = inl (h.0, omega (arith, h.1), h.2)
      go (inr h) (inl le) = inl (n, omega arith, record { enough = le; least = h })
      go (inr h) (inr lt) = inr (λ k less. by k (last k less))
        where
          by : (k : ℕ) → (k < n) ⊎ (k ≡ n) → entries k < entry
          by k (inl less) = h k less
          by k (inr same) = subst (λ j. entries j < entry) (sym same) lt

  pub entry_there : (m : ℕ) → entry ≤ entries m → (n : ℕ) × (n ≤ m) × IsAtEntry P I entry n
  entry_there m le = go (search_below (suc m))
    where
      go : ((k : ℕ) × (k < suc m) × IsAtEntry P I entry k) ⊎ ((k : ℕ) → k < suc m → entries k < entry)
          → (n : ℕ) × (n ≤ m) × IsAtEntry P I entry n
      go (inl h) = (h.0, omega (arith, h.1), h.2)
      go (inr h) = absurd (let lt = h m (omega arith) in omega (arith, lt, le))

  pub entry_is_one : (m n : ℕ) → IsAtEntry P I entry m → IsAtEntry P I entry n → m ≡ n
  entry_is_one m n f g = go (three m n)
    where
      three : (a b : ℕ) → (a < b) ⊎ ((a ≡ b) ⊎ (b < a))
      three a b = grind arith

      go : (m < n) ⊎ ((m ≡ n) ⊎ (n < m)) → m ≡ n
      go (inl lt) = absurd (let h = g.least m lt in omega (arith, h, f.enough))
      go (inr (inl e)) = e
      go (inr (inr lt)) = absurd (let h = f.least n lt in omega (arith, h, g.enough))

  -- A step that reaches an entry after those of the header has exactly that number of entries.
  pub entry_exact : (n : ℕ) → header_entries I < entry → IsAtEntry P I entry n → entries n ≡ entry
  unfolding run
  entry_exact zero h a = absurd (let le = a.enough in omega (arith, le, h))
  entry_exact (suc n) h a =
      let lt = a.least n (omega arith) in let r = entries_rise P I n in omega (arith, lt, r.most, a.enough)
