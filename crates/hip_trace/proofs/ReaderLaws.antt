-- How the front of the held bytes decides what `next` answers.
use Rattle.std.proofs.Common.{◌≡◌, ℕ, ◌+◌, ◌<◌, ◌≤◌, true, false, List, [], ◌∷◌, ◌++◌, length, take, drop, get_or, slice_get, Option, Some, None, IfSome, Result, Ok, Err, inl, inr, refl, sym, ap, subst, ◌∙◌, arith, append_assoc, length-append}
use Rattle.std.specs.Prelude.{option_map, position, if◌then◌else◌}
use Rattle.std.proofs.lemmas.List.{append-nil, take_all, drop_all}
use Rattle.std.specs.List.{list_any}
use Rattle.hip_io.specs.Cabinets.{CabinetState, StaysOpen}
use Rattle.hip_io.specs.Counts.{Rose}
use Rattle.hip_num.specs.Texts.{is_nonempty}
use Rattle.hip_trace.specs.Entries.{entry_of}
use Rattle.hip_trace.specs.Fronts.{FindsFront, HasRestFirst, HasFailedFirst, HoldsMore, HasTakenSome, HasTakenNothing, HasFailedMore, AnswersFront, answers_piece, answers_rest, IsFrontOf}
use Rattle.hip_trace.specs.Pieces.{is_separator, spelled}
use Rattle.hip_trace.specs.Reads.{ReaderState, after_held, ahead, entries_left, IsReading, MayGoOn, TakesAtNeed, TakesPiece, ReadsOn, one_more}
use Rattle.hip_trace.specs.declared.entry.Entry.{Entry}
use Rattle.hip_trace.specs.declared.front.Front.{Front}
use Rattle.hip_trace.specs.declared.front.Front.TheVariants as fronts
use Rattle.hip_trace.specs.declared.refusal.TraceRefusal.{TraceRefusal}
use Rattle.hip_trace.specs.declared.refusal.TraceRefusal.TheVariants.{Malformed, ReadFault}
use Rattle.hip_trace.specs.Laws.PieceLaws.{cut_at, none_found, spelled_at, spelled_last, spelled_long, no_piece}

-- ---- under the option of what is known

split_ahead : (held front back : List ℕ) (sep : ℕ) (rest : Option (List ℕ)) → held ≡ front ++ sep ∷ back → option_map (λ r. held ++ r) rest ≡ option_map (λ r. front ++ sep ∷ r) (option_map (λ r. back ++ r) rest)
split_ahead held front back sep None e = refl
split_ahead held front back sep (Some r) e = ap (λ (x : List ℕ). Some x) (ap (λ (x : List ℕ). x ++ r) e ∙ append_assoc front (sep ∷ back) r)

-- The first piece is taken off what is ahead.
pub entries_at : (piece : List ℕ) (old new : Option (List ℕ)) → TakesPiece piece old new → option_map (spelled true) old ≡ option_map (λ es. entry_of piece ∷ es) (option_map (spelled true) new)
entries_at piece old new (inl h) = at_separator new h.bytes
  where
    at_separator : (n : Option (List ℕ)) → old ≡ option_map (λ rest. piece ++ h.separator ∷ rest) n → option_map (spelled true) old ≡ option_map (λ es. entry_of piece ∷ es) (option_map (spelled true) n)
    at_separator None e = rw e refl
    at_separator (Some r) e = rw e (ap (λ (x : List (Option Entry)). Some x) (spelled_at piece h.separator r h.whole h.separates))
entries_at piece old new (inr h) = at_end new h.bytes h.left
  where
    at_end : (n : Option (List ℕ)) → old ≡ option_map (λ rest. piece ++ rest) n → IfSome n (λ rest. rest ≡ []) → option_map (spelled true) old ≡ option_map (λ es. entry_of piece ∷ es) (option_map (spelled true) n)
    at_end None e left = rw e refl
    at_end (Some rest) e left =
        let whole : piece ++ rest ≡ piece = ap (λ (x : List ℕ). piece ++ x) left ∙ append-nil piece in
        let first : spelled true (piece ++ rest) ≡ entry_of piece ∷ [] = ap (spelled true) whole ∙ spelled_last piece h.whole h.some in
        let last : spelled true rest ≡ [] = ap (spelled true) left in
        rw e (ap (λ (x : List (Option Entry)). Some x) (first ∙ ap (λ (x : List (Option Entry)). entry_of piece ∷ x) (sym last)))

first_is_none : (a b : Option (List (Option Entry))) (o : Option Entry) → a ≡ option_map (λ es. o ∷ es) b → o ≡ None → IfSome a (λ es. slice_get es 0 ≡ Some None)
first_is_none a None o e n = rw e tt
first_is_none a (Some es) o e n = rw (e, n) refl

long_first : (held : List ℕ) (o rest : Option (List ℕ)) → o ≡ option_map (λ r. held ++ r) rest → list_any is_separator held ≡ false → 256 < length held → IfSome (option_map (spelled true) o) (λ es. slice_get es 0 ≡ Some None)
long_first held o None e none long = rw e tt
long_first held o (Some r) e none long = rw e (spelled_long held r none long)

nothing_left : (held : List ℕ) (o rest : Option (List ℕ)) → held ≡ [] → o ≡ option_map (λ r. held ++ r) rest → IfSome rest (λ r. r ≡ []) → IfSome o (λ bytes. bytes ≡ [])
nothing_left held o None n e left = rw e tt
nothing_left held o (Some r) n e left = rw (e, n) left

rest_taken : (held piece back : List ℕ) (o rest : Option (List ℕ)) → piece ≡ held → back ≡ [] → o ≡ option_map (λ r. held ++ r) rest → o ≡ option_map (λ r. piece ++ r) (option_map (λ r. back ++ r) rest)
rest_taken held piece back o None p b e = e
rest_taken held piece back o (Some r) p b e = rw (p, b) e

left_of_rest : (back : List ℕ) (rest : Option (List ℕ)) → back ≡ [] → IfSome rest (λ r. r ≡ []) → IfSome (option_map (λ r. back ++ r) rest) (λ r. r ≡ [])
left_of_rest back None b left = tt
left_of_rest back (Some r) b left = rw b left

-- ---- the answers

answered : (r mid r' : ReaderState) (s s' : CabinetState) (piece : List ℕ) (taken : ℕ) (result : Result (Option Entry) TraceRefusal) (o : Option Entry) → entry_of piece ≡ o → mid.count ≡ r.count → IsReading s s' → TakesPiece piece (ahead r s) (after_held (drop taken mid.held) s') → answers_piece o mid r' taken result → ReadsOn r r' s s' result
answered r mid r' s s' piece taken result None spells count reading takes a =
    subst (λ (x : Result (Option Entry) TraceRefusal). ReadsOn r r' s s' x) (sym a.0) (subst (λ (x : ReaderState). ReadsOn r x s s' (Err Malformed)) (sym a.1) (record {
      reading = reading;
      entries = first_is_none (entries_left r s) _ (entry_of piece) (entries_at piece (ahead r s) _ takes) spells;
      count = ap one_more count;
      progress = refl;
    }))
answered r mid r' s s' piece taken result (Some e) spells count reading takes a =
    subst (λ (x : Result (Option Entry) TraceRefusal). ReadsOn r r' s s' x) (sym a.0) (subst (λ (x : ReaderState). ReadsOn r x s s' (Ok (Some e))) (sym a.1) (record {
      reading = reading;
      piece = piece;
      spells = spells;
      taken = takes;
      entries = entries_at piece (ahead r s) _ takes ∙ ap (λ (x : Option Entry). option_map (λ es. x ∷ es) (option_map (spelled true) (after_held (drop taken mid.held) s'))) spells;
      count = ap one_more count;
      progress = refl;
    }))

rest_answered : (r mid r' : ReaderState) (s s' : CabinetState) (h : List ℕ) (result : Result (Option Entry) TraceRefusal) → mid.held ≡ h → mid.count ≡ r.count → HasRestFirst r.held mid.held s s' → answers_rest h mid r' result → ReadsOn r r' s s' result
rest_answered r mid r' s s' [] result same count f a =
    subst (λ (x : Result (Option Entry) TraceRefusal). ReadsOn r r' s s' x) (sym a.0) (subst (λ (x : ReaderState). ReadsOn r x s s' (Ok None)) (sym a.1) (record {
      reading = f.more.reading;
      ended = nothing_left mid.held (ahead r s) s'.rest same (sym f.more.ahead) f.ended;
      left = f.ended;
      held = refl;
      count = count;
      progress = refl;
    }))
rest_answered r mid r' s s' (b ∷ bs) result same count f a =
    let n : ℕ = length (b ∷ bs) in
    let len : length mid.held ≡ n = ap (λ (x : List ℕ). length x) same in
    let whole : take n mid.held ≡ mid.held = take_all n mid.held (omega (arith, len)) in
    let none : drop n mid.held ≡ [] = drop_all n mid.held (omega (arith, len)) in
    let takes : TakesPiece (take n mid.held) (ahead r s) (after_held (drop n mid.held) s') = inr (record {
      some = ap is_nonempty (whole ∙ same);
      whole = ap (list_any is_separator) whole ∙ none_found mid.held f.none;
      bytes = rest_taken mid.held (take n mid.held) (drop n mid.held) (ahead r s) s'.rest whole none (sym f.more.ahead);
      left = left_of_rest (drop n mid.held) s'.rest none f.ended;
    }) in
    answered r mid r' s s' (take n mid.held) n result (entry_of (take n mid.held)) refl count f.more.reading takes a

-- To find the front and to answer it is what `next` does.
pub reads_on : (r mid r' : ReaderState) (s s' : CabinetState) (front : Front) (result : Result (Option Entry) TraceRefusal) → mid.count ≡ r.count → FindsFront r.held mid.held s s' front → AnswersFront mid r' front result → ReadsOn r r' s s' result
reads_on r mid r' s s' (fronts.Piece n) result count f a =
    let cut = cut_at mid.held n f.here in
    let takes : TakesPiece (take n mid.held) (ahead r s) (after_held (drop (n + 1) mid.held) s') = inl (record {
      separator = get_or mid.held n 0;
      separates = cut.separates;
      whole = cut.whole;
      bytes = sym f.more.ahead ∙ split_ahead mid.held (take n mid.held) (drop (n + 1) mid.held) (get_or mid.held n 0) s'.rest cut.bytes;
    }) in
    answered r mid r' s s' (take n mid.held) (n + 1) result (entry_of (take n mid.held)) refl count f.more.reading takes a
reads_on r mid r' s s' fronts.Rest result count f a = rest_answered r mid r' s s' mid.held result refl count f a
reads_on r mid r' s s' fronts.TooLong result count f a =
    subst (λ (x : Result (Option Entry) TraceRefusal). ReadsOn r r' s s' x) (sym a.0) (subst (λ (x : ReaderState). ReadsOn r x s s' (Err Malformed)) (sym a.1) (record {
      reading = f.more.reading;
      entries = long_first mid.held (ahead r s) s'.rest (sym f.more.ahead) (none_found mid.held f.none) f.long;
      count = ap one_more count;
      progress = refl;
    }))
reads_on r mid r' s s' fronts.Failed result count f a =
    subst (λ (x : Result (Option Entry) TraceRefusal). ReadsOn r r' s s' x) (sym a.0) (subst (λ (x : ReaderState). ReadsOn r x s s' (Err ReadFault)) (sym a.1) (record {
      stays = f.stays;
      later = f.later;
      rose = f.rose;
      ahead = f.ahead;
      held = no_piece mid.held (none_found mid.held f.none) f.few;
      count = ap (λ (x : ℕ). if is_nonempty mid.held then one_more x else x) count;
      progress = refl;
    }))

pub front_within : (held held' : List ℕ) (s s' : CabinetState) (front : Front) → FindsFront held held' s s' front → IsFrontOf held' front
front_within held held' s s' (fronts.Piece n) f = (cut_at held' n f.here).within
front_within held held' s s' fronts.Rest f = tt
front_within held held' s s' fronts.TooLong f = tt
front_within held held' s s' fronts.Failed f = tt

pub takes_for : (held held' : List ℕ) (s s' : CabinetState) (front : Front) → FindsFront held held' s s' front → TakesAtNeed held s s'
takes_for held held' s s' (fronts.Piece n) f = f.more.takes
takes_for held held' s s' fronts.Rest f = f.more.takes
takes_for held held' s s' fronts.TooLong f = f.more.takes
takes_for held held' s s' fronts.Failed f = f.takes

pub stays_current : (held held' : List ℕ) (s s' : CabinetState) (front : Front) → FindsFront held held' s s' front → s'.is_current ≡ true
stays_current held held' s s' (fronts.Piece n) f = f.more.reading.stays.current
stays_current held held' s s' fronts.Rest f = f.more.reading.stays.current
stays_current held held' s s' fronts.TooLong f = f.more.reading.stays.current
stays_current held held' s s' fronts.Failed f = f.stays.current

-- ---- bytes are taken until what stands first is known

pub same_rest : (rest : Option (List ℕ)) → rest ≡ option_map (λ r. [] ++ r) rest
same_rest None = refl
same_rest (Some r) = refl

-- If the cabinet is not called, nothing is taken.
abbrev pub takes_nothing : (held : List ℕ) (s : CabinetState) → TakesAtNeed held s s
takes_nothing held s = record { taken = []; bytes = same_rest s.rest; needed = inl refl }

pub holds_still : (held : List ℕ) (s : CabinetState) → s.is_current ≡ true → HoldsMore held held s s
holds_still held s e = record {
  reading = record {
    stays = record { files = refl; fetches = refl; misses = refl; current = e; named = refl };
    faults = refl;
  };
  takes = takes_nothing held s;
  held_is = sym (append-nil held);
  ahead = refl;
}

pub then_current : (s mid s' : CabinetState) → StaysOpen s mid → StaysOpen mid s' → StaysOpen s s'
then_current s mid s' p q = record { files = q.files ∙ p.files; fetches = q.fetches ∙ p.fetches; misses = q.misses ∙ p.misses; current = q.current; named = q.named ∙ p.named }

then_reading : (s mid s' : CabinetState) → IsReading s mid → IsReading mid s' → IsReading s s'
then_reading s mid s' p q = record { stays = then_current s mid s' p.stays q.stays; faults = q.faults ∙ p.faults }

-- The bytes ahead stay the same when bytes of the file become held bytes.
moved : (held t : List ℕ) (old new : Option (List ℕ)) → old ≡ option_map (λ rest. t ++ rest) new → option_map (λ rest. (held ++ t) ++ rest) new ≡ option_map (λ rest. held ++ rest) old
moved held t old None e = rw e refl
moved held t old (Some r) e = rw e (ap (λ (x : List ℕ). Some x) (append_assoc held t r))

-- Two pieces were taken.
taken_both : (t u : List ℕ) (old mid new : Option (List ℕ)) → old ≡ option_map (λ rest. t ++ rest) mid → mid ≡ option_map (λ rest. u ++ rest) new → old ≡ option_map (λ rest. (t ++ u) ++ rest) new
taken_both t u old mid None p q = p ∙ ap (option_map (λ rest. t ++ rest)) q
taken_both t u old mid (Some r) p q = p ∙ ap (option_map (λ rest. t ++ rest)) q ∙ ap (λ (x : List ℕ). Some x) (sym (append_assoc t u r))

pub may_go_on : (held : List ℕ) (len : ℕ) → None ≡ position is_separator held → len ≡ length held → len ≤ 256 → MayGoOn held
may_go_on held len none is few = record { whole = none_found held (sym none); few = subst (λ (n : ℕ). n ≤ 256) is few }

-- One more read is needed, since the held bytes have no separator and are at most 256.
pub holds_on : (held mid held' : List ℕ) (s t s' : CabinetState) → HoldsMore held mid s t → MayGoOn mid → HasTakenSome mid held' t s' → HoldsMore held held' s s'
holds_on held mid held' s t s' p m q =
    let first = p.takes.taken in
    let parts : held ++ (first ++ q.taken) ≡ mid ++ q.taken = sym (append_assoc held first q.taken) ∙ ap (λ (x : List ℕ). x ++ q.taken) (sym p.held_is) in
    let len : length mid ≡ length held + length first = ap (λ (x : List ℕ). length x) p.held_is ∙ length-append held first in
    record {
      reading = then_reading s t s' p.reading q.reading;
      takes = record {
        taken = first ++ q.taken;
        bytes = taken_both first q.taken s.rest t.rest s'.rest p.takes.bytes q.bytes;
        needed = inr (record { before = mid; last = q.taken; parts = parts; longer = omega (arith, len); goes_on = m });
      };
      held_is = q.held_is ∙ sym parts;
      ahead = ap (λ (h : List ℕ). after_held h s') q.held_is ∙ moved mid q.taken t.rest s'.rest q.bytes ∙ p.ahead;
    }

same_ahead : (held held' : List ℕ) (s s' : CabinetState) → held' ≡ held → s'.rest ≡ s.rest → after_held held' s' ≡ after_held held s
same_ahead held held' s s' e r = ap (λ (o : Option (List ℕ)). option_map (λ rest. held' ++ rest) o) r ∙ ap (λ (h : List ℕ). after_held h s) e

abbrev takes_no_more : (held : List ℕ) (s t s' : CabinetState) → (p : TakesAtNeed held s t) → s'.rest ≡ t.rest → TakesAtNeed held s s'
takes_no_more held s t s' p e = record {
  taken = p.taken;
  bytes = p.bytes ∙ ap (option_map (λ rest. p.taken ++ rest)) (sym e);
  needed = p.needed;
}

pub rest_first : (held mid held' : List ℕ) (s t s' : CabinetState) → HoldsMore held mid s t → HasTakenNothing mid held' t s' → position is_separator mid ≡ None → HasRestFirst held held' s s'
rest_first held mid held' s t s' p q none = record {
  more = record {
    reading = then_reading s t s' p.reading q.reading;
    takes = takes_no_more held s t s' p.takes q.rest;
    held_is = q.same ∙ p.held_is;
    ahead = same_ahead mid held' t s' q.same q.rest ∙ p.ahead;
  };
  none = ap (position is_separator) q.same ∙ none;
  ended = subst (λ (o : Option (List ℕ)). IfSome o (λ rest. rest ≡ [])) (sym q.rest) q.ended;
}

pub failed_first : (held mid held' : List ℕ) (s t s' : CabinetState) → HoldsMore held mid s t → HasFailedMore mid held' t s' → position is_separator mid ≡ None → length mid ≤ 256 → HasFailedFirst held held' s s'
failed_first held mid held' s t s' p q none few = record {
  none = ap (position is_separator) q.same ∙ none;
  few = subst (λ (h : List ℕ). length h ≤ 256) (sym q.same) few;
  stays = then_current s t s' p.reading.stays q.stays;
  later = omega (arith, q.later, p.reading.faults);
  rose = subst (λ (n : ℕ). Rose n s'.faults) p.reading.faults q.rose;
  takes = takes_no_more held s t s' p.takes q.rest;
  ahead = same_ahead mid held' t s' q.same q.rest ∙ p.ahead;
}
