-- The trace of a run has as many entries as the run counts. After more steps it begins with the trace after fewer
-- steps. The run has exactly one whole trace.
use Rattle.std.proofs.Common.{◌≡◌, ◌⊎◌, inl, inr, ℕ, ℤ, zero, suc, ◌+◌, ◌/◌, Bool, true, false, cond, List, [], ◌∷◌, ◌++◌, map, length, take, drop, refl, sym, ap, ◌∙◌, subst, arith, append_assoc, length-append}
use Rattle.std.specs.Prelude.{if◌then◌else◌}
use Rattle.std.proofs.lemmas.List.{append-nil, length-map}
use Rattle.hip_tree.specs.declared.program.Program.{Program}
use Rattle.hip_runs.specs.Laws.EndLaws.{runs_end}
use Rattle.hip_runs.specs.Laws.NextLaws.{counts-next, rests-ended}
use Rattle.hip_runs.specs.State.{Counts, State}
use Rattle.hip_runs.specs.Step.{event, has_ended, has_entry, header_entries, image_lines, run, some_byte}
use Rattle.hip_runs.specs.declared.event.Event.{Event}
use Rattle.hip_runs.specs.declared.event.Event.TheVariants as events
use Rattle.hip_runs.specs.declared.input.Input.{Input}
use Rattle.hip_run_traces.specs.Traces.{entry_of_event, entry_list, header_of, image_entries, next_entries, trace, IsTrace}
use Rattle.hip_trace.specs.declared.entry.Entry.{Entry}
use Rattle.hip_trace.specs.declared.entry.Entry.TheVariants as entries

-- ---- the length

one_line : (b : Bool) (e : Entry) (es : List Entry) (m : ℕ) → length es ≡ m
    → length ((if b then e ∷ [] else []) ++ es) ≡ cond b 1 0 + m
one_line true e es m h = omega (arith, h)
one_line false e es m h = omega (arith, h)

pub length-image_entries : (n addr : ℕ) (bytes : List ℕ)
    → length (image_entries n addr bytes) ≡ image_lines n bytes
length-image_entries zero addr bytes = refl
length-image_entries (suc n) addr bytes =
    one_line (some_byte (take 64 bytes)) (entries.Image addr (take 64 bytes))
    (image_entries n (addr + 64) (drop 64 bytes)) (image_lines n (drop 64 bytes))
    (length-image_entries n (addr + 64) (drop 64 bytes))

pub length-header_of : (I : Input) → length (header_of I) ≡ header_entries I
unfolding header_of
length-header_of I =
    let lines = length-image_entries (length I.image / 64) I.base I.image in
    let both =
    length-append (map (λ (z : ℤ). entries.Input z) I.numbers) (image_entries (length I.image / 64) I.base I.image)
    in
    let numbers = length-map I.numbers (λ (z : ℤ). entries.Input z) in
    omega (arith, lines, both, numbers)

length-entry : (e : Event) (n : ℕ) → n + length (entry_list (entry_of_event e)) ≡ cond (has_entry e) (suc n) n
length-entry events.Quiet n = omega arith
length-entry (events.Print z) n = omega arith
length-entry (events.Store a v s) n = omega arith
length-entry (events.Flush l s) n = omega arith
length-entry (events.Persist l s) n = omega arith
length-entry events.Fence n = omega arith
length-entry (events.Assert a s) n = omega arith
length-entry (events.End x) n = omega arith

-- ---- one step more

pub next-trace : (P : Program) (I : Input) (n : ℕ)
    → trace P I (suc n) ≡ trace P I n ++ next_entries P I (run P I n)
unfolding trace
next-trace P I n = refl

-- A run that has ended has no more entries.
pub rests-trace : (P : Program) (I : Input) (n : ℕ) → has_ended (run P I n) ≡ true
    → trace P I (suc n) ≡ trace P I n
rests-trace P I n h =
    next-trace P I n ∙ ap (λ (b : Bool). trace P I n
    ++ (if b then [] else entry_list (entry_of_event (event P I (run P I n))))) h
    ∙ append-nil (trace P I n)

module _ (P : Program) (I : Input) where
  pub length-trace : (n : ℕ) → length (trace P I n) ≡ (run P I n).counts.entries
  unfolding trace run
  length-trace zero = length-header_of I
  length-trace (suc n) = go (has_ended (run P I n)) refl (length-trace n)
    where
      go : (b : Bool) → has_ended (run P I n) ≡ b → length (trace P I n) ≡ (run P I n).counts.entries
          → length (trace P I n ++ (if b then [] else entry_list (entry_of_event (event P I (run P I n)))))
          ≡ (run P I (suc n)).counts.entries
      go true q h =
          ap length (append-nil (trace P I n)) ∙ h
          ∙ sym (ap (λ (s : State). s.counts.entries) (rests-ended P I n q))
      go false q h =
          length-append (trace P I n) (entry_list (entry_of_event (event P I (run P I n))))
          ∙ ap (λ (m : ℕ). m + length (entry_list (entry_of_event (event P I (run P I n))))) h
          ∙ length-entry (event P I (run P I n)) (run P I n).counts.entries
          ∙ sym (ap (λ (c : Counts). c.entries) (counts-next P I n q))

  -- ---- the front

  pub front-trace : (n d : ℕ) → (more : List Entry) × (trace P I (n + d) ≡ trace P I n ++ more)
  front-trace n zero = ([], ap (trace P I) (let e : n + 0 ≡ n = omega arith in e) ∙ sym (append-nil (trace P I n)))
  front-trace n (suc d) = longer (front-trace n d)
    where
      longer : (more : List Entry) × (trace P I (n + d) ≡ trace P I n ++ more) → (more : List Entry)
          × (trace P I (n + suc d) ≡ trace P I n ++ more)
      longer h = (
        h.0 ++ next_entries P I (run P I (n + d)),
        ap (trace P I) (let e : n + suc d ≡ suc (n + d) = omega arith in e) ∙ next-trace P I (n + d)
            ∙ ap (λ (es : List Entry). es ++ next_entries P I (run P I (n + d))) h.1
            ∙ append_assoc (trace P I n) h.0 (next_entries P I (run P I (n + d))),
      )

  -- ---- the whole

  -- A run that has ended stays ended.
  rests : (n d : ℕ) → has_ended (run P I n) ≡ true → (has_ended (run P I (n + d)) ≡ true)
      × (trace P I (n + d) ≡ trace P I n)
  rests n zero h =
      let e : n + 0 ≡ n = omega arith in (subst (λ m. has_ended (run P I m) ≡ true) (sym e) h, ap (trace P I) e)
  rests n (suc d) h = more (rests n d h)
    where
      more : (has_ended (run P I (n + d)) ≡ true) × (trace P I (n + d) ≡ trace P I n)
          → (has_ended (run P I (n + suc d)) ≡ true) × (trace P I (n + suc d) ≡ trace P I n)
      more k =
          let e : n + suc d ≡ suc (n + d) = omega arith in (
            subst (λ m. has_ended (run P I m) ≡ true) (sym e)
                (subst (λ (s : State). has_ended s ≡ true) (sym (rests-ended P I (n + d) k.0)) k.0),
            ap (trace P I) e ∙ rests-trace P I (n + d) k.0 ∙ k.1,
          )

  pub whole-trace : (es : List Entry) × IsTrace P I es
  whole-trace = let end = runs_end P I in (trace P I end.0, record { steps = end.0; ended = end.1; are = refl })

  -- The traces after two numbers of steps are equal if the run has ended after both.
  ended_alike : (m n : ℕ) → has_ended (run P I m) ≡ true → has_ended (run P I n) ≡ true
      → trace P I m ≡ trace P I n
  ended_alike m n h k = go (order m n)
    where
      order : (a b : ℕ) → ((d : ℕ) × (b ≡ a + d)) ⊎ ((d : ℕ) × (a ≡ b + d))
      order zero b = inl (b, omega arith)
      order (suc a) zero = inr (suc a, omega arith)
      order (suc a) (suc b) = later (order a b)
        where
          later : ((d : ℕ) × (b ≡ a + d)) ⊎ ((d : ℕ) × (a ≡ b + d)) → ((d : ℕ) × (suc b ≡ suc a + d))
              ⊎ ((d : ℕ) × (suc a ≡ suc b + d))
          later (inl x) = let e = x.1 in inl (x.0, omega (arith, e))
          later (inr x) = let e = x.1 in inr (x.0, omega (arith, e))

      go : ((d : ℕ) × (n ≡ m + d)) ⊎ ((d : ℕ) × (m ≡ n + d)) → trace P I m ≡ trace P I n
      go (inl x) = sym (ap (trace P I) x.1 ∙ (rests m x.0 h).1)
      go (inr x) = ap (trace P I) x.1 ∙ (rests n x.0 k).1

  pub one-trace : (es fs : List Entry) → IsTrace P I es → IsTrace P I fs → es ≡ fs
  one-trace es fs h k = h.are ∙ ended_alike h.steps k.steps h.ended k.ended ∙ sym k.are

  -- The whole trace begins with the trace of any number of steps.
  pub whole-front : (n : ℕ) (es : List Entry) → IsTrace P I es → (more : List Entry)
      × (es ≡ trace P I n ++ more)
  whole-front n es h = go (front-trace n h.steps) (ended_later h.steps n h.ended)
    where
      ended_later : (m d : ℕ) → has_ended (run P I m) ≡ true → trace P I (d + m) ≡ trace P I m
      ended_later m d k = let e : d + m ≡ m + d = omega arith in ap (trace P I) e ∙ (rests m d k).1

      go : (more : List Entry) × (trace P I (n + h.steps) ≡ trace P I n ++ more)
          → trace P I (n + h.steps) ≡ trace P I h.steps → (more : List Entry) × (es ≡ trace P I n ++ more)
      go f e = (f.0, h.are ∙ sym e ∙ f.1)
