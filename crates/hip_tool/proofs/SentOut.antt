-- What a call has answered, it has answered after its notes are sent out.
use Rattle.std.proofs.Common.{◌≡◌, ◌⊎◌, inl, inr, ℕ, ◌≤◌, Bool, true, false, List, [], ◌∷◌, ◌++◌, Option, Some, None, refl, sym, ap, ◌∙◌, subst, arith, append-nil}
use Rattle.std.specs.Prelude.{IfSome, option_map}
use Rattle.hip_answers.specs.Answers.{Answer, CarriedOut, CutShort, CutsNotes, CutsOut, HasAnswer, HasAnswered, HasBeenCut, HasBegun, IsDelivered, Outcome, PutsLine, RanOut, Refused, Sinks, WritesBoth, answered, outcome_of, sinks}
use Rattle.hip_answers.specs.Fetches.{FetchesFiles, fetches_by}
use Rattle.hip_answers.specs.Lines.{line_of}
use Rattle.hip_answers.specs.declared.status.Status.{Status}
use Rattle.hip_answers.specs.declared.status.Status.TheVariants as statuses
use Rattle.hip_io.specs.Cabinets.{CabinetState}
use Rattle.hip_io.specs.Counts.{Rose}
use Rattle.hip_io.specs.Sinks.{AppendsAll, AppendsPrefix, HasPut, SinkState}
use Rattle.hip_io.specs.declared.sink.Put.{Put}
use Rattle.hip_io.specs.declared.sink.Put.TheVariants.{Done, Failed}
use Rattle.hip_tool.specs.CallEnd.{Closes, EndsBy, IsSentOut, is_carried, is_carried_out}

-- ---- texts before a delivery

nothing_more : (old mid new : Option (List ℕ)) (text : List ℕ) → mid ≡ option_map (λ b. b ++ text) old
    → new ≡ option_map (λ b. b ++ []) mid → new ≡ option_map (λ b. b ++ text) old
nothing_more old None new text first second = second ∙ first
nothing_more old (Some m) new text first second = second ∙ ap (λ b. Some b) (append-nil m) ∙ first

no_bytes : (a b : List ℕ) → [] ≡ a ++ b → a ≡ []
no_bytes [] b e = refl
no_bytes (x ∷ a) b e = absurd (let z : ⊥ = cc in z)

all_then_all : (old mid new : SinkState) (text : List ℕ) → AppendsAll old mid text → AppendsAll mid new []
    → AppendsAll old new text
all_then_all old mid new text p q = record {
  bytes = nothing_more old.bytes mid.bytes new.bytes text p.bytes q.bytes;
  faults = q.faults ∙ p.faults;
}

prefix_then_all : (old mid new : SinkState) (text : List ℕ) → AppendsPrefix old mid text → AppendsAll mid new []
    → AppendsPrefix old new text
prefix_then_all old mid new text p q = record {
  written = p.written;
  missing = p.missing;
  parts = p.parts;
  bytes = nothing_more old.bytes mid.bytes new.bytes p.written p.bytes q.bytes;
  later = omega (arith, p.later, q.faults);
  rose = subst (λ n. Rose old.faults n) (sym q.faults) p.rose;
}

-- A delivery that fails appends nothing.
failed_bytes : (mid new : SinkState) → AppendsPrefix mid new [] → new.bytes ≡ option_map (λ b. b ++ []) mid.bytes
failed_bytes mid new q =
    subst (λ w. new.bytes ≡ option_map (λ b. b ++ w) mid.bytes) (no_bytes q.written q.missing q.parts) q.bytes

all_then_fault : (old mid new : SinkState) (text : List ℕ) → AppendsAll old mid text → AppendsPrefix mid new []
    → AppendsPrefix old new text
all_then_fault old mid new text p q = record {
  written = text;
  missing = [];
  parts = sym (append-nil text);
  bytes = nothing_more old.bytes mid.bytes new.bytes text p.bytes (failed_bytes mid new q);
  later = omega (arith, p.faults, q.later);
  rose = subst (λ n. Rose n new.faults) p.faults q.rose;
}

rose_more : (a b c : ℕ) → a ≤ b → Rose b c → Rose a c
rose_more a b c le rose = grind arith

prefix_then_fault : (old mid new : SinkState) (text : List ℕ) → AppendsPrefix old mid text → AppendsPrefix mid new []
    → AppendsPrefix old new text
prefix_then_fault old mid new text p q = record {
  written = p.written;
  missing = p.missing;
  parts = p.parts;
  bytes = nothing_more old.bytes mid.bytes new.bytes p.written p.bytes (failed_bytes mid new q);
  later = omega (arith, p.later, q.later);
  rose = rose_more old.faults mid.faults new.faults p.later q.rose;
}

-- A line that was tried before a delivery.
line_then : (put : Put) (status : Status) (old mid new : SinkState) → PutsLine status old mid → HasPut mid new [] put
    → PutsLine status old new
line_then Done status old mid new (inl p) q = inl (all_then_all old mid new (line_of status) p q)
line_then Done status old mid new (inr p) q = inr (prefix_then_all old mid new (line_of status) p q)
line_then Failed status old mid new (inl p) q = inr (all_then_fault old mid new (line_of status) p q)
line_then Failed status old mid new (inr p) q = inr (prefix_then_fault old mid new (line_of status) p q)

-- ---- the answer

module _ (table : Answer → Type 0) (begins : Bool) (old new : CabinetState) (a b c mid : SinkState) where
  abbrev before : Sinks
  before = sinks a b c mid

  abbrev after : SinkState → Sinks
  after last = sinks a b c last

  begun : (x : Bool) (last : SinkState) → HasBegun x table before → HasBegun x table (after last)
  begun true last h = (h.0, h.1, record { front = h.2.front; missing = h.2.missing; parts = h.2.parts; written = h.2.written })
  begun false last h = absurd h

  -- The answer stays if only the notes were sent out.
  sent_out : (put : Put) (sent : SinkState) → HasPut mid sent [] put → (o : Outcome) (status : Status)
      → (o ≡ CarriedOut → put ≡ Done) → answered o table begins old new before status
      → answered o table begins old new (after sent) status
  sent_out Done sent tried CarriedOut status only h = record {
    answer = h.answer;
    is = h.is;
    status_is = h.status_is;
    written = record {
      out = h.written.out;
      notes = all_then_all c mid sent h.answer.notes h.written.notes tried;
    };
  }
  sent_out Failed sent tried CarriedOut status only h = absurd (let z : Failed ≡ Done = only refl in let no : ⊥ = cc in no)
  sent_out put sent tried Refused status only h =
      (h.0, record { out = h.1.out; notes = line_then put status c mid sent h.1.notes tried })
  sent_out put sent tried CutShort status only h = record {
    answer = h.answer;
    is = h.is;
    carried_out = h.carried_out;
    written = go h.written;
  }
    where
      go : CutsOut before h.answer ⊎ CutsNotes before h.answer
          → CutsOut (after sent) h.answer ⊎ CutsNotes (after sent) h.answer
      go (inl w) = inl (record { out = w.out; notes = line_then put statuses.WriteFault c mid sent w.notes tried })
      go (inr w) = inr (record {
        out = w.out;
        cut = w.cut;
        notes = w.notes;
        line = line_then put statuses.WriteFault w.cut mid sent w.line tried;
      })
  sent_out put sent tried RanOut status only h = record {
    met = h.met;
    out = go h.out;
    line = line_then put statuses.NoMemory c mid sent h.line tried;
  }
    where
      go : (b ≡ a) ⊎ HasBegun begins table before → (b ≡ a) ⊎ HasBegun begins table (after sent)
      go (inl same) = inl same
      go (inr h) = inr (begun begins sent h)

  -- A command that was carried out is cut short if its notes cannot be sent out.
  cut_short : (sent last : SinkState) → AppendsPrefix mid sent [] → (status : Status) → outcome_of status ≡ CarriedOut
      → HasAnswer table status (WritesBoth before) → PutsLine statuses.WriteFault sent last
      → HasBeenCut table (after last)
  cut_short sent last tried status carried h line = record {
    answer = h.answer;
    is = h.is;
    carried_out = ap outcome_of h.status_is ∙ carried;
    written = inr (record {
      out = h.written.out;
      cut = sent;
      notes = all_then_fault c mid sent h.answer.notes h.written.notes tried;
      line = line;
    });
  }

  pub closed : (status : Status) (last : SinkState) (result : Status) → HasAnswered table begins old new before status
      → Closes status mid last result → HasAnswered table begins old new (after last) result
  closed status last result h e = by e.put e.tried (outcome_of status) refl h.how e.ends
    where
      stays : (put : Put) → HasPut mid e.sent [] put → (outcome_of status ≡ CarriedOut → put ≡ Done)
          → (result ≡ status) × (last ≡ e.sent) → HasAnswered table begins old new (after last) result
      stays put tried only same =
          subst (λ r. HasAnswered table begins old new (after last) r) (sym same.0)
          (subst (λ x. HasAnswered table begins old new (after x) status) (sym same.1)
          (record { how = sent_out put e.sent tried (outcome_of status) status only h.how }))

      not_carried : (o : Outcome) → is_carried o ≡ false → o ≡ CarriedOut → (p : Put) → p ≡ Done
      not_carried o unlike is p = absurd (let z : true ≡ false = sym (ap is_carried is) ∙ unlike in let none : ⊥ = cc in none)

      by : (put : Put) → HasPut mid e.sent [] put → (o : Outcome) → outcome_of status ≡ o
          → answered o table begins old new before status → EndsBy put (is_carried o) status e.sent last result
          → HasAnswered table begins old new (after last) result
      by Done tried o is how ends = stays Done tried (λ _. refl) ends
      by Failed tried CarriedOut is how ends =
          subst (λ r. HasAnswered table begins old new (after last) r) (sym ends.0)
          (record { how = cut_short e.sent last tried status is how ends.1 })
      by Failed tried Refused is how ends =
          stays Failed tried (λ c. not_carried (outcome_of status) (ap is_carried is) c Failed) ends
      by Failed tried CutShort is how ends =
          stays Failed tried (λ c. not_carried (outcome_of status) (ap is_carried is) c Failed) ends
      by Failed tried RanOut is how ends =
          stays Failed tried (λ c. not_carried (outcome_of status) (ap is_carried is) c Failed) ends

-- ---- what is held back

-- The status stays, or it becomes a write fault.
pub stays_or_faults : (status : Status) (mid last : SinkState) (result : Status) → Closes status mid last result
    → (result ≡ status) ⊎ (result ≡ statuses.WriteFault)
stays_or_faults status mid last result e = go e.put (is_carried_out status) e.ends
  where
    go : (put : Put) (carried : Bool) → EndsBy put carried status e.sent last result
        → (result ≡ status) ⊎ (result ≡ statuses.WriteFault)
    go Done carried h = inl h.0
    go Failed true h = inr h.0
    go Failed false h = inl h.0

pub still_delivered : (status : Status) (mid last : SinkState) (result : Status) (held : ℕ) → IsDelivered status held
    → Closes status mid last result → IsDelivered result held
still_delivered status mid last result held delivered e fault = go (stays_or_faults status mid last result e)
  where
    go : (result ≡ status) ⊎ (result ≡ statuses.WriteFault) → held ≡ 0
    go (inl same) = delivered (λ is. fault (same ∙ is))
    go (inr is) = absurd (fault is)

module _ (table : Answer → Type 0) (begins : Bool) (old new : CabinetState) (s : Sinks) (status : Status) where
  line_counts : (st : Status) (x y : SinkState) → PutsLine st x y → x.faults ≤ y.faults
  line_counts st x y (inl p) = omega (arith, p.faults)
  line_counts st x y (inr p) = p.later

  -- No write to the notes is taken back.
  pub counts_on : HasAnswered table begins old new s status → s.notes.faults ≤ s.notes_new.faults
  counts_on h = by (outcome_of status) h.how
    where
      cut : (x : Answer) → CutsOut s x ⊎ CutsNotes s x → s.notes.faults ≤ s.notes_new.faults
      cut x (inl w) = line_counts statuses.WriteFault s.notes s.notes_new w.notes
      cut x (inr w) =
          let first = w.notes.later in
          let then = line_counts statuses.WriteFault w.cut s.notes_new w.line in omega (arith, first, then)

      by : (o : Outcome) → answered o table begins old new s status → s.notes.faults ≤ s.notes_new.faults
      by CarriedOut h = let e = h.written.notes.faults in omega (arith, e)
      by Refused h = line_counts status s.notes s.notes_new h.1.notes
      by CutShort h = cut h.answer h.written
      by RanOut h = line_counts statuses.NoMemory s.notes s.notes_new h.line

-- What is sent out at the end of a call is sent out in the call.
pub sent_in_call : (first mid last : SinkState) (held : ℕ) → first.faults ≤ mid.faults → IsSentOut mid last held
    → IsSentOut first last held
sent_in_call first mid last held le (inl none) = inl none
sent_in_call first mid last held le (inr h) =
    inr (omega (arith, le, h.0), rose_more first.faults mid.faults last.faults le h.1)

-- ---- fetches

carried_has_all : (all count : ℕ) (status : Status) → is_carried_out status ≡ true
    → IfSome (fetches_by all status) (λ n. count ≡ n) → count ≡ all
carried_has_all all count statuses.Done e h = h
carried_has_all all count (statuses.Trapped kind) e h = h
carried_has_all all count statuses.Cut e h = h
carried_has_all all count statuses.Usage e h = absurd (let z : ⊥ = cc in z)
carried_has_all all count (statuses.Missing file) e h = absurd (let z : ⊥ = cc in z)
carried_has_all all count statuses.ReadFault e h = absurd (let z : ⊥ = cc in z)
carried_has_all all count statuses.WriteFault e h = absurd (let z : ⊥ = cc in z)
carried_has_all all count (statuses.BadProgram why) e h = absurd (let z : ⊥ = cc in z)
carried_has_all all count (statuses.Misfit entry kind) e h = absurd (let z : ⊥ = cc in z)
carried_has_all all count statuses.NoMemory e h = absurd (let z : ⊥ = cc in z)
carried_has_all all count statuses.TooLarge e h = absurd (let z : ⊥ = cc in z)
carried_has_all all count (statuses.MisfitIn trace entry kind) e h = absurd (let z : ⊥ = cc in z)
carried_has_all all count (statuses.NoEntry entries) e h = absurd (let z : ⊥ = cc in z)
carried_has_all all count (statuses.BadPick why) e h = absurd (let z : ⊥ = cc in z)

-- The files that a call has fetched are those that its status tells, also where its notes could not be sent out.
pub still_fetched : (all : ℕ) (old new : CabinetState) (status : Status) (mid last : SinkState) (result : Status)
    → FetchesFiles all status old new → Closes status mid last result → FetchesFiles all result old new
still_fetched all old new status mid last result f e = go e.put (is_carried_out status) refl e.ends
  where
    stays : result ≡ status → FetchesFiles all result old new
    stays same = subst (λ x. FetchesFiles all x old new) (sym same) f

    go : (put : Put) (carried : Bool) → is_carried_out status ≡ carried
        → EndsBy put carried status e.sent last result → FetchesFiles all result old new
    go Done carried is h = stays h.0
    go Failed true is h = subst (λ x. FetchesFiles all x old new) (sym h.0) (record {
      count = f.count;
      made = f.made;
      few = f.few;
      exact = carried_has_all all f.count status is f.exact;
    })
    go Failed false is h = stays h.0

-- Nothing is fetched where the words are no order, and where memory ran out before a file was named.
pub none_fetched : (all : ℕ) (s : CabinetState) → FetchesFiles all statuses.NoMemory s s
none_fetched all s = record { count = 0; made = inl (refl, refl); few = omega arith; exact = tt {0} }

pub misused : (s : CabinetState) → FetchesFiles 0 statuses.Usage s s
misused s = record { count = 0; made = inl (refl, refl); few = omega arith; exact = refl }
