-- If nothing fails, a call has an answer of its table and writes both texts, or it ends out of memory.
use Rattle.std.proofs.Common.{◌≡◌, ◌⊎◌, inl, inr, ℕ, ◌-◌, ◌^◌, ◌<◌, ◌≤◌, Bool, true, false, List, [], ◌++◌, Option, Some, None, refl, sym, ap, ◌∙◌, arith}
use Rattle.std.specs.Prelude.{option_map}
use Rattle.std.proofs.lemmas.List.{append-nil}
use Rattle.hip_answers.specs.Answers.{Answer, CarriedOut, CutShort, CutsNotes, CutsOut, HasAnswered, HasBeenCut, Outcome, PutsLine, RanOut, Refused, Sinks, WritesBoth, WritesLine, answered, outcome_of, refusal}
use Rattle.hip_answers.specs.Lines.{line_of}
use Rattle.hip_answers.specs.declared.status.Status.{Status}
use Rattle.hip_answers.specs.declared.status.Status.TheVariants as statuses
use Rattle.hip_io.specs.Cabinets.{CabinetState}
use Rattle.hip_io.specs.Counts.{Rose}
use Rattle.hip_io.specs.Sinks.{AppendsAll, AppendsPrefix, SinkState}
use Rattle.hip_program_files.specs.Outside.{CountsUp, HasMet}
use Rattle.hip_tool.specs.Headline.{Gives, NothingFails, Stays}

-- ---- counts

rose_above : (a b : ℕ) → a < 2 ^ 64 - 1 → Rose a b → a < b
rose_above a b room rose = grind arith

pub not_risen : (a b : ℕ) → Stays a b → a ≤ b → Rose a b → ⊥
not_risen a b s le rose = let lt = rose_above a b s.room rose in omega (arith, lt, s.same)

pub not_counted : (b : Bool) (old new : ℕ) → Stays old new → CountsUp b old new → b ≡ false
not_counted false old new s h = refl
not_counted true old new s h = absurd (not_risen old new s h.0 h.1)

-- ---- what is written

not_cut : (old new : SinkState) (text : List ℕ) → Stays old.faults new.faults → AppendsPrefix old new text → ⊥
not_cut old new text s p = not_risen old.faults new.faults s p.later p.rose

-- If the count of faults stays the same, no text was cut short before a line that may have been written.
not_cut_then : (old mid new : SinkState) (text : List ℕ) (status : Status) → Stays old.faults new.faults
    → AppendsPrefix old mid text → PutsLine status mid new → ⊥
not_cut_then old mid new text status s p (inl whole) =
    let lt = rose_above old.faults mid.faults s.room p.rose in omega (arith, lt, whole.faults, s.same)
not_cut_then old mid new text status s p (inr part) =
    let lt = rose_above old.faults mid.faults s.room p.rose in omega (arith, lt, part.later, s.same)

nothing_put : (old new : SinkState) → new ≡ old → AppendsAll old new []
nothing_put old new same = record {
  bytes = ap (λ (s : SinkState). s.bytes) same ∙ go old.bytes;
  faults = ap (λ (s : SinkState). s.faults) same;
}
  where
    go : (o : Option (List ℕ)) → o ≡ option_map (λ b. b ++ []) o
    go None = refl
    go (Some b) = ap Some (sym (append-nil b))

module _ (old new : CabinetState) (s : Sinks) (nothing : NothingFails old new s) where
  line : (status : Status) → PutsLine status s.notes s.notes_new → AppendsAll s.notes s.notes_new (line_of status)
  line status (inl whole) = whole
  line status (inr part) = absurd (not_cut s.notes s.notes_new (line_of status) nothing.notes part)

  refused : (status : Status) → WritesLine s status → WritesBoth s (refusal status)
  refused status w = record { out = nothing_put s.out s.out_new w.out; notes = line status w.notes }

  never_cut : (table : Answer → Type 0) → HasBeenCut table s → ⊥
  never_cut table h = go h.answer h.written
    where
      go : (a : Answer) → CutsOut s a ⊎ CutsNotes s a → ⊥
      go a (inl c) = not_cut s.out s.out_new a.out nothing.out c.out
      go a (inr c) = not_cut_then s.notes c.cut s.notes_new a.notes statuses.WriteFault nothing.notes c.notes c.line

  ran_out : (status : Status) → outcome_of status ≡ RanOut → status ≡ statuses.NoMemory
  ran_out statuses.NoMemory e = refl
  ran_out statuses.Done e = absurd (let z : ⊥ = cc in z)
  ran_out statuses.Usage e = absurd (let z : ⊥ = cc in z)
  ran_out (statuses.Missing file) e = absurd (let z : ⊥ = cc in z)
  ran_out statuses.ReadFault e = absurd (let z : ⊥ = cc in z)
  ran_out statuses.WriteFault e = absurd (let z : ⊥ = cc in z)
  ran_out (statuses.BadProgram why) e = absurd (let z : ⊥ = cc in z)
  ran_out (statuses.Misfit entry kind) e = absurd (let z : ⊥ = cc in z)
  ran_out statuses.TooLarge e = absurd (let z : ⊥ = cc in z)
  ran_out (statuses.Trapped kind) e = absurd (let z : ⊥ = cc in z)
  ran_out statuses.Cut e = absurd (let z : ⊥ = cc in z)
  ran_out (statuses.MisfitIn trace entry kind) e = absurd (let z : ⊥ = cc in z)
  ran_out (statuses.NoEntry entries) e = absurd (let z : ⊥ = cc in z)
  ran_out (statuses.BadPick why) e = absurd (let z : ⊥ = cc in z)

  -- The call has an answer of its table.
  pub has_answer : (table : Answer → Type 0) (begins : Bool) (status : Status)
      → HasAnswered table begins old new s status → Gives table s status
  has_answer table begins status h = go (outcome_of status) refl h.how
    where
      go : (o : Outcome) → outcome_of status ≡ o → answered o table begins old new s status → Gives table s status
      go CarriedOut e a = inr a
      go Refused e a = inr (record {
        answer = refusal status;
        is = a.0;
        status_is = refl;
        written = refused status a.1;
      })
      go CutShort e a = absurd (never_cut table a)
      go RanOut e a = inl (ran_out status e)

  -- If all answers of the table are of one kind, the call has an answer of that kind.
  pub gives : (table Is : Answer → Type 0) (begins : Bool) (status : Status) → ((a : Answer) → table a → Is a)
      → HasAnswered table begins old new s status → Gives Is s status
  gives table Is begins status only h = go (has_answer table begins status h)
    where
      go : Gives table s status → Gives Is s status
      go (inl e) = inl e
      go (inr a) = inr (record {
        answer = a.answer;
        is = only a.answer a.is;
        status_is = a.status_is;
        written = a.written;
      })

  pub no_miss : (missed failed : Bool) → HasMet missed failed old new → missed ≡ false
  no_miss missed failed met = not_counted missed old.misses new.misses nothing.misses met.misses

  pub no_fault : (missed failed : Bool) → HasMet missed failed old new → failed ≡ false
  no_fault missed failed met = not_counted failed old.faults new.faults nothing.reads met.faults
