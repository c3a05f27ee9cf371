-- The entries that were read, compared with those of a run's steps.
use Rattle.std.proofs.Common.{◌≡◌, ℕ, zero, suc, ◌+◌, ◌^◌, ◌<◌, ◌≤◌, true, false, List, [], ◌∷◌, ◌++◌, length, slice_get, Option, Some, None, IfSome, is_some, Err, refl, sym, ap, ◌∙◌, subst, arith, append-nil, append_assoc}
use Rattle.std.specs.Prelude.{if◌then◌else◌, option_map}
use Rattle.hip_io.specs.Cabinets.{CabinetState}
use Rattle.hip_io.specs.Counts.{Rose}
use Rattle.hip_tree.specs.declared.program.Program.{Program}
use Rattle.hip_run_traces.specs.Headers.{Header, Gives, header}
use Rattle.hip_run_traces.specs.Laws.MisfitLaws.{differs-past, run-front}
use Rattle.hip_runs.specs.Laws.NextLaws.{rests-ended}
use Rattle.hip_run_traces.specs.Laws.TraceLaws.{next-trace, whole-front, whole-trace}
use Rattle.hip_run_traces.specs.Misfits.{DiffersAt, FirstDiffers, MisfitPast, IsMisfit}
use Rattle.hip_run_traces.specs.Traces.{IsTrace, entry_list, entry_of_ending, entry_of_event, trace, stated}
use Rattle.hip_run_traces.specs.declared.misfit.MisfitKind.{MisfitKind}
use Rattle.hip_run_traces.specs.declared.misfit.MisfitKind.TheVariants.{Malformed, Differs, Early, Extra}
use Rattle.hip_runs.specs.Laws.OutputLaws.{run_stated}
use Rattle.hip_runs.specs.Outputs.{ending_by}
use Rattle.hip_runs.specs.State.{State}
use Rattle.hip_runs.specs.Step.{event, has_ended, header_entries, run}
use Rattle.hip_runs.specs.Validity.{IsValid}
use Rattle.hip_runs.specs.declared.event.Ending.{Ending}
use Rattle.hip_runs.specs.declared.event.Event.{Event}
use Rattle.hip_runs.specs.declared.event.Event.TheVariants as events
use Rattle.hip_runs.specs.declared.input.Input.{Input}
use Rattle.hip_trace.specs.Pieces.{spelled}
use Rattle.hip_trace.specs.Reads.{ReaderState, IsReading, ReadHasFailed, ahead, entries_left, one_more}
use Rattle.hip_trace.specs.declared.entry.Entry.{Entry}
use Rattle.hip_lockstep.specs.Laws.Readings.{read_front, read_whole, reads_more, stays_more, stated_append, stated_at, stated_map}
use Rattle.hip_lockstep.specs.Nexts.{ReadsEntry}
use Rattle.hip_lockstep.specs.ReadEntries.{HasReadEntries, EntriesAreRead}
use Rattle.hip_lockstep.specs.Refusals.{HasMisfit, HasReadFault, IsTaken, ShowsNone, Refuses, begun_at}
use Rattle.hip_lockstep.specs.declared.refusal.ReplayRefusal.{ReplayRefusal}
use Rattle.hip_lockstep.specs.declared.refusal.ReplayRefusal.TheVariants as refusals

-- ---- the run goes on

no_ending : (o : Option Ending) → o ≡ None → is_some o ≡ true → ⊥
no_ending o q h = let z : is_some o ≡ false = ap (λ (x : Option Ending). is_some x) q in let y : ⊥ = cc in y

pub ending_after : (P : Program) (I : Input) (n : ℕ) (e : Event) → event P I (run P I n) ≡ e
    → (run P I (suc n)).world.ending ≡ ending_by e
ending_after P I n e at = (run_stated P I n).ending ∙ ap ending_by at

pub trace_after : (P : Program) (I : Input) (n : ℕ) (e : Event) → (run P I n).world.ending ≡ None
    → event P I (run P I n) ≡ e → trace P I (suc n) ≡ trace P I n ++ entry_list (entry_of_event e)
trace_after P I n e going at =
    next-trace P I n
    ∙ ap (λ (o : Option Ending). trace P I n
    ++ (if is_some o then [] else entry_list (entry_of_event (event P I (run P I n))))) going
    ∙ ap (λ x. trace P I n ++ entry_list (entry_of_event x)) at

-- A step that ends a run has an entry.
end_has_entry : (e : Event) (x : Ending) → ending_by e ≡ Some x → entry_of_event e ≡ Some (entry_of_ending x)
end_has_entry (events.End y) x h = let same : y ≡ x = cc in ap (λ z. Some (entry_of_ending z)) same
end_has_entry events.Quiet x h = absurd (let z : ⊥ = cc in z)
end_has_entry (events.Print v) x h = absurd (let z : ⊥ = cc in z)
end_has_entry (events.Store a v s) x h = absurd (let z : ⊥ = cc in z)
end_has_entry (events.Flush a s) x h = absurd (let z : ⊥ = cc in z)
end_has_entry (events.Persist a s) x h = absurd (let z : ⊥ = cc in z)
end_has_entry events.Fence x h = absurd (let z : ⊥ = cc in z)
end_has_entry (events.Assert a s) x h = absurd (let z : ⊥ = cc in z)

pub no_entry_goes_on : (e : Event) → entry_of_event e ≡ None → ending_by e ≡ None
no_entry_goes_on e q = go (ending_by e) refl
  where
    go : (o : Option Ending) → ending_by e ≡ o → ending_by e ≡ None
    go None h = h
    go (Some x) h = absurd (let there = end_has_entry e x h in let z : ⊥ = cc in z)

-- The run's trace has more entries than those of the first n steps.
pub record HasMoreEntries (P : Program) (I : Input) (n : ℕ) : Type 0 where
  pub next : Entry
  pub more : List Entry
  pub whole : List Entry
  pub is_trace : IsTrace P I whole
  pub split : whole ≡ trace P I n ++ next ∷ more

goes_on_to : (P : Program) (I : Input) (n d : ℕ) → (run P I n).world.ending ≡ None
    → has_ended (run P I (n + d)) ≡ true → HasMoreEntries P I n
goes_on_to P I n zero going ended =
    absurd (no_ending (run P I n).world.ending going
    (let e : n + 0 ≡ n = omega arith in subst (λ k. has_ended (run P I k) ≡ true) e ended))
goes_on_to P I n (suc d) going ended = by (entry_of_event (event P I (run P I n))) refl
    (λ still. goes_on_to P I (suc n) d still
    (let e : n + suc d ≡ suc n + d = omega arith in subst (λ k. has_ended (run P I k) ≡ true) e ended))
  where
    same_trace : entry_of_event (event P I (run P I n)) ≡ None → trace P I (suc n) ≡ trace P I n
    same_trace q = trace_after P I n (event P I (run P I n)) going refl ∙ ap (λ o. trace P I n ++ entry_list o) q
        ∙ append-nil (trace P I n)

    by : (o : Option Entry) → entry_of_event (event P I (run P I n)) ≡ o
        → ((run P I (suc n)).world.ending ≡ None → HasMoreEntries P I (suc n)) → HasMoreEntries P I n
    by None q later =
        let h = later (ending_after P I n (event P I (run P I n)) refl
        ∙ no_entry_goes_on (event P I (run P I n)) q) in
        record {
          next = h.next;
          more = h.more;
          whole = h.whole;
          is_trace = h.is_trace;
          split = h.split
              ∙ ap (λ es. es ++ h.next ∷ h.more) (same_trace q);
        }
    by (Some x) q later =
        let w = whole-trace P I in
        let f = whole-front P I (suc n) w.0 w.1 in
        let step : trace P I (suc n) ≡ trace P I n ++ x ∷ [] = trace_after P I n (event P I (run P I n)) going refl
        ∙ ap (λ o. trace P I n ++ entry_list o) q in
        record {
          next = x;
          more = f.0;
          whole = w.0;
          is_trace = w.1;
          split = f.1 ∙ ap (λ es. es ++ f.0) step
              ∙ append_assoc (trace P I n) (x ∷ []) f.0;
        }

pub more_entries : (P : Program) (I : Input) (n : ℕ) → (run P I n).world.ending ≡ None → HasMoreEntries P I n
more_entries P I n going =
    let w = whole-trace P I in
    goes_on_to P I n w.1.steps going (ended_later n w.1.steps w.1.ended)
  where
    ended_later : (n k : ℕ) → has_ended (run P I k) ≡ true → has_ended (run P I (n + k)) ≡ true
    ended_later n k h = let e : n + k ≡ k + n = omega arith in
        subst (λ m. has_ended (run P I m) ≡ true) (sym e) (stays k n h)
      where
        stays : (k d : ℕ) → has_ended (run P I k) ≡ true → has_ended (run P I (k + d)) ≡ true
        stays k zero h = let e : k + 0 ≡ k = omega arith in subst (λ m. has_ended (run P I m) ≡ true) (sym e) h
        stays k (suc d) h =
            let e : k + suc d ≡ suc (k + d) = omega arith in
            let before = stays k d h in
            subst (λ m. has_ended (run P I m) ≡ true) (sym e)
            (subst (λ (s : State). has_ended s ≡ true) (sym (rests-ended P I (k + d) before)) before)

-- ---- what a file spells

-- The list does not begin with an entry: it is empty, or its first piece spells none.
abbrev pub IsUnspelled : List (Option Entry) → Type 0
IsUnspelled [] = Unit {0}
IsUnspelled (None ∷ rest) = Unit {0}
IsUnspelled (Some e ∷ rest) = ⊥

pub spelled_none : (bytes : List ℕ) (es : List Entry) (r : ReaderState) (s : CabinetState)
    → EntriesAreRead bytes es (ahead r s) → IfSome (ahead r s) (λ left. left ≡ [])
    → spelled true bytes ≡ stated es ++ []
spelled_none bytes es r s h ended =
    let none : h.left ≡ [] = stated_at (λ left. left ≡ []) (ahead r s) h.left h.ahead_is ended in
    read_whole bytes es (ahead r s) h ∙ ap (λ (xs : List ℕ). stated es ++ spelled true xs) none

first_none : (xs : List (Option Entry)) → slice_get xs 0 ≡ Some None → (rest : List (Option Entry))
    × (xs ≡ None ∷ rest)
first_none [] h = absurd (let z : ⊥ = cc in z)
first_none (x ∷ xs) h = let same : x ≡ None = cc in (xs, ap (λ o. o ∷ xs) same)

pub spelled_malformed : (bytes : List ℕ) (es : List Entry) (r : ReaderState) (s : CabinetState)
    → EntriesAreRead bytes es (ahead r s) → IfSome (entries_left r s) (λ xs. slice_get xs 0 ≡ Some None)
    → (rest : List (Option Entry)) × (spelled true bytes ≡ stated es ++ None ∷ rest)
spelled_malformed bytes es r s h bad =
    let left : entries_left r s ≡ Some (spelled true h.left) = ap (option_map (spelled true)) h.ahead_is in
    let first = first_none (spelled true h.left)
    (stated_at (λ xs. slice_get xs 0 ≡ Some None) (entries_left r s) (spelled true h.left) left bad) in
    (first.0, read_whole bytes es (ahead r s) h ∙ ap (λ xs. stated es ++ xs) first.1)

pub spelled_next : (bytes : List ℕ) (es : List Entry) (e : Entry) (o : Option (List ℕ))
    → EntriesAreRead bytes (es ++ e ∷ []) o → (rest : List (Option Entry))
    × (spelled true bytes ≡ stated es ++ Some e ∷ rest)
spelled_next bytes es e o h = (
  spelled true h.left,
  read_whole bytes (es ++ e ∷ []) o h
      ∙ ap (λ xs. xs ++ spelled true h.left) (stated_append es (e ∷ []))
      ∙ append_assoc (stated es) (Some e ∷ []) (spelled true h.left),
)

-- The bytes that were taken before a read failed.
pub record HasFront (es : List Entry) (bytes : List ℕ) (rest : Option (List ℕ)) : Type 0 where
  pub front : List ℕ
  pub taken : IsTaken front bytes rest
  pub last : List (Option Entry)
  pub spells : stated es ≡ spelled false front ++ last

pub front_taken : (bytes : List ℕ) (es : List Entry) (r r' : ReaderState) (s s' : CabinetState)
    → EntriesAreRead bytes es (ahead r s) → ReadHasFailed r r' s s' → HasFront es bytes s'.rest
front_taken bytes es r r' s s' h f = go s'.rest (f.ahead ∙ h.ahead_is)
  where
    go : (o : Option (List ℕ)) → option_map (λ rest. r'.held ++ rest) o ≡ Some h.left → HasFront es bytes o
    go None q = absurd (let z : ⊥ = cc in z)
    go (Some rest) q =
        let split : h.left ≡ r'.held ++ rest = cc in
        let back = read_front bytes es (ahead r s) h r'.held rest split f.held in
        record {
          front = h.text ++ r'.held;
          taken = record {
            left = rest;
            rest_is = refl;
            bytes_are = h.bytes_are
                ∙ ap (λ (xs : List ℕ). h.text ++ xs) split ∙ sym (append_assoc h.text r'.held rest);
          };
          last = back.0;
          spells = back.1;
        }

-- ---- refusals

pub fits_more : (n : ℕ) → n + 1 < 2 ^ 128 → one_more n ≡ n + 1
fits_more n lt = omega arith

pub later_faults : (start s s' : CabinetState) → IsReading start s → s.faults ≤ s'.faults
    → start.faults ≤ s'.faults
later_faults start s s' p q = let e = p.faults in omega (arith, e, q)

module _ (P : Program) (I : Input) (start : CabinetState) (valid : IsValid P I) where
  -- The file and the run's trace differ after the entries of some steps.
  pub differs_run : (n : ℕ) (bytes : List ℕ) (rest : List (Option Entry)) (whole more : List Entry)
      (kind : MisfitKind) → header P (spelled true bytes) ≡ Gives (header_entries I) I
      → spelled true bytes ≡ stated (trace P I n) ++ rest → IsTrace P I whole → whole ≡ trace P I n ++ more
      → DiffersAt true (slice_get rest 0) (slice_get more 0) kind
      → IsMisfit P bytes true (length (trace P I n) + 1) kind
  differs_run n bytes rest whole more kind head spells t split d = record {
    here = subst (λ (x : Header). MisfitPast x P true (spelled true bytes) (length (trace P I n) + 1) kind)
        (sym head) (record {
          trace = whole;
          is_trace = t;
          count = length (trace P I n);
          number = refl;
          differs = subst (λ ps. FirstDiffers true ps whole (length (trace P I n)) kind) (sym spells)
              (subst
              (λ es. FirstDiffers true (stated (trace P I n) ++ rest) es (length (trace P I n)) kind) (sym split)
              (differs-past true (trace P I n) rest more kind d));
        });
  }

  pub read_fault : (n : ℕ) (r r' : ReaderState) (s s' : CabinetState) → HasReadEntries start r s (trace P I n)
      → ReadHasFailed r r' s s' → HasReadFault P start s'
  read_fault n r r' s s' read f = record {
    stays = stays_more start s s' read.reading.stays f.stays;
    later = later_faults start s s' read.reading f.later;
    rose = subst (λ k. Rose k s'.faults) read.reading.faults f.rose;
    stated = stated_map (λ bytes. EntriesAreRead bytes (trace P I n) (ahead r s))
        (λ bytes. ShowsNone P bytes s'.rest) start.rest read.stated
        (λ bytes at h.
        let t = front_taken bytes (trace P I n) r r' s s' h f in
        record {
          front = t.front;
          taken = t.taken;
          none =
              λ entry kind m. run-front P I n t.front t.last entry kind valid t.spells m;
        });
  }

  -- No entry could be read after those of some steps, where the run goes on.
  module _ (n : ℕ) (r : ReaderState) (s : CabinetState) (going : (run P I n).world.ending ≡ None)
      (few : length (trace P I n) + 1 < 2 ^ 128) (read : HasReadEntries start r s (trace P I n))
      (head : (bytes : List ℕ) → start.rest ≡ Some bytes → (rest : List (Option Entry))
      → spelled true bytes ≡ stated (trace P I n) ++ rest → IsUnspelled rest
      → header P (spelled true bytes) ≡ Gives (header_entries I) I) where
    pub no_entry : (r' : ReaderState) (s' : CabinetState) (refusal : ReplayRefusal)
        → ReadsEntry (length (trace P I n)) r r' s s' (Err refusal) → Refuses P r' start s' refusal
    no_entry r' s' (refusals.Misfit entry Early) (number, none) =
        subst (λ k. HasMisfit P r' start s' k Early) (sym number) (record {
          reading = reads_more start s s' read.reading none.reading;
          stated = stated_map (λ bytes. EntriesAreRead bytes (trace P I n) (ahead r s))
              (λ bytes. IsMisfit P bytes true (length (trace P I n) + 1) Early) start.rest read.stated
              (λ bytes at h.
              let more = more_entries P I n going in
              let spells = spelled_none bytes (trace P I n) r s h none.ended in
              differs_run n bytes [] more.whole (more.next ∷ more.more) Early
              (head bytes at [] spells tt) spells more.is_trace more.split (refl, refl));
          count = none.count ∙ read.count ∙ (let e : length (trace P I n)
              ≡ begun_at Early (length (trace P I n) + 1) = omega arith in e);
        })
    no_entry r' s' (refusals.Misfit entry Malformed) (number, bad) =
        subst (λ k. HasMisfit P r' start s' k Malformed) (sym number) (record {
          reading = reads_more start s s' read.reading bad.reading;
          stated = stated_map (λ bytes. EntriesAreRead bytes (trace P I n) (ahead r s))
              (λ bytes. IsMisfit P bytes true (length (trace P I n) + 1) Malformed) start.rest read.stated
              (λ bytes at h.
              let more = more_entries P I n going in
              let spells = spelled_malformed bytes (trace P I n) r s h bad.entries in
              differs_run n bytes (None ∷ spells.0) more.whole (more.next ∷ more.more) Malformed
              (head bytes at (None ∷ spells.0) spells.1 tt) spells.1 more.is_trace more.split
              ((λ q. let z : ⊥ = cc in z), refl));
          count = bad.count ∙ ap one_more read.count ∙ fits_more (length (trace P I n)) few;
        })
    no_entry r' s' (refusals.Misfit entry Differs) h = absurd h
    no_entry r' s' (refusals.Misfit entry Extra) h = absurd h
    no_entry r' s' refusals.ReadFault f = read_fault n r r' s s' read f
    no_entry r' s' refusals.NoMemory h = absurd h
