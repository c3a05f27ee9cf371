-- What follows from the entries of a trace's header.
use Rattle.std.proofs.Common.{◌≡◌, ℕ, ℤ, suc, ◌+◌, ◌-◌, ◌^◌, ◌<◌, ◌≤◌, Bool, true, false, ◌&&◌, List, [], ◌∷◌, ◌++◌, length, slice_get, Option, Some, None, Err, nat_le, nat_lt, refl, sym, ap, ◌∙◌, subst, arith, append-nil, append_assoc, length-append}
use Rattle.std.specs.Prelude.{if◌then◌else◌}
use Rattle.std.proofs.lemmas.Bool.{and_parts}
use Rattle.hip_globals.specs.Addresses.{region_size}
use Rattle.hip_io.specs.Cabinets.{CabinetState}
use Rattle.hip_io.specs.Counts.{Rose}
use Rattle.hip_tree.specs.declared.program.Program.{Program}
use Rattle.hip_types.specs.Bytes.{zeros}
use Rattle.hip_mem.specs.Laws.BytesLaws.{length-zeros}
use Rattle.hip_run_traces.specs.Headers.{Stops, Gives, past_register, past_start, filled, go_on, header, header_from, is_empty, is_next_line, valid_base, valid_limit, with_entry, with_line, with_number}
use Rattle.hip_run_traces.specs.Laws.GivenLaws.{FitAll, header-given}
use Rattle.hip_run_traces.specs.Laws.MisfitLaws.{front-stops}
use Rattle.hip_run_traces.specs.Laws.TraceLaws.{length-header_of}
use Rattle.hip_run_traces.specs.Misfits.{MisfitPast, IsMisfit, StopsAt}
use Rattle.hip_run_traces.specs.Traces.{header_of, trace, stated}
use Rattle.hip_run_traces.specs.declared.misfit.MisfitKind.{MisfitKind}
use Rattle.hip_run_traces.specs.declared.misfit.MisfitKind.TheVariants.{Malformed, Differs, Early, Extra}
use Rattle.hip_runs.specs.Laws.Members.{le_true, lt_true}
use Rattle.hip_runs.specs.Step.{header_entries, run, some_byte}
use Rattle.hip_runs.specs.Validity.{IsValid}
use Rattle.hip_runs.specs.declared.input.Input.{Input}
use Rattle.hip_trace.specs.Laws.FitLaws.{spelled_fits}
use Rattle.hip_trace.specs.Fits.{ValuesFit}
use Rattle.hip_trace.specs.Pieces.{spelled}
use Rattle.hip_trace.specs.Reads.{ReaderState, HasNext, ahead, one_more}
use Rattle.hip_trace.specs.declared.entry.Entry.{Entry}
use Rattle.hip_trace.specs.declared.entry.Entry.TheVariants.{Start, Register, Input as Number, Image, Store, Flush, Fence, Persist, Assert, Stop, Trap, Cut}
use Rattle.hip_trace.specs.declared.refusal.Progress.TheVariants.{Reading}
use Rattle.hip_lockstep.specs.Laws.Readings.{next_read, reads_more, stays_more, stated_append, stated_map}
use Rattle.hip_lockstep.specs.Laws.RunSteps.{IsUnspelled, fits_more, front_taken, later_faults, no_entry, spelled_malformed, spelled_next, spelled_none}
use Rattle.hip_lockstep.specs.Nexts.{ReadsEntry}
use Rattle.hip_lockstep.specs.HeaderInput.{HasBase, HasGiven, HasAllGiven, HasHeader}
use Rattle.hip_lockstep.specs.ReadEntries.{HasReadEntries, EntriesAreRead}
use Rattle.hip_lockstep.specs.Refusals.{HasMisfit, HasStoppedReplay, ShowsNone, Refuses, begun_at}
use Rattle.hip_lockstep.specs.declared.refusal.ReplayRefusal.{ReplayRefusal}
use Rattle.hip_lockstep.specs.declared.refusal.ReplayRefusal.TheVariants as refusals
use Rattle.hip_lockstep.specs.declared.steps.Lockstep.{Lockstep}

-- ---- a header of fewer than two entries

no_start : (P : Program) (es : List (Option Entry)) → past_start P es None ≡ Stops 0
no_start P [] = refl
no_start P (e ∷ es) = refl

pub none_starts : (P : Program) → header P [] ≡ Stops 0
unfolding header
none_starts P = refl

pub bad_start : (P : Program) (e : Option Entry) (es : List (Option Entry)) → valid_limit e ≡ None
    → header P (e ∷ es) ≡ Stops 0
unfolding header
bad_start P e es q = ap (past_start P es) q ∙ no_start P es

pub start_alone : (P : Program) (e : Option Entry) (limit : ℕ) → valid_limit e ≡ Some limit
    → header P (e ∷ []) ≡ Stops 1
unfolding header
start_alone P e limit q = ap (past_start P []) q

pub bad_register : (P : Program) (e : Option Entry) (limit : ℕ) (x : Option Entry) (es : List (Option Entry))
    → valid_limit e ≡ Some limit → valid_base P x ≡ None → header P (e ∷ x ∷ es) ≡ Stops 1
unfolding header
bad_register P e limit x es q b = ap (past_start P (x ∷ es)) q ∙ ap (past_register P limit es) b

pub both_valid : (P : Program) (e : Option Entry) (limit : ℕ) (x : Option Entry) (base : ℕ)
    (es : List (Option Entry)) → valid_limit e ≡ Some limit → valid_base P x ≡ Some base
    → header P (e ∷ x ∷ es) ≡ header_from P
    (record { base = base; image = []; numbers = []; limit = limit }) 2 es
unfolding header
both_valid P e limit x base es q b = ap (past_start P (x ∷ es)) q ∙ ap (past_register P limit es) b

after_stated : (es : List Entry) (rest : List (Option Entry))
    → slice_get (stated es ++ rest) (length es) ≡ slice_get rest 0
after_stated [] rest = refl
after_stated (e ∷ es) rest = after_stated es rest

stops_here : (P : Program) (bytes : List ℕ) (es : List Entry) (rest : List (Option Entry)) (kind : MisfitKind)
    → spelled true bytes ≡ stated es ++ rest → header P (stated es ++ rest) ≡ Stops (length es)
    → StopsAt true (slice_get rest 0) kind → IsMisfit P bytes true (length es + 1) kind
stops_here P bytes es rest kind spells head s = record {
  here = subst (λ ps. MisfitPast (header P ps) P true ps (length es + 1) kind) (sym spells)
      (subst (λ h. MisfitPast h P true (stated es ++ rest) (length es + 1) kind) (sym head)
      (refl, subst (λ p. StopsAt true p kind) (sym (after_stated es rest)) s));
}

-- All pieces of a front are valid in the header, which stops after them.
all_of_header : (P : Program) (es : List Entry) (xs last : List (Option Entry))
    → ((ys zs : List (Option Entry)) → stated es ≡ ys ++ zs → header P ys ≡ Stops (length ys))
    → stated es ≡ xs ++ last → header P xs ≡ Stops (length xs)
all_of_header P es xs last heads split = heads xs last split

module _ (P : Program) (start : CabinetState) (es : List Entry) (r : ReaderState) (s : CabinetState)
    (few : length es + 1 < 2 ^ 128) (read : HasReadEntries start r s es)
    (stops : (rest : List (Option Entry)) → IsUnspelled rest → header P (stated es ++ rest) ≡ Stops (length es))
    (fronts : (ys zs : List (Option Entry)) → stated es ≡ ys ++ zs → header P ys ≡ Stops (length ys)) where
  pub start_missing : (r' : ReaderState) (s' : CabinetState) (refusal : ReplayRefusal)
      → ReadsEntry (length es) r r' s s' (Err refusal) → Refuses P r' start s' refusal
  start_missing r' s' (refusals.Misfit entry Early) (number, none) =
      subst (λ k. HasMisfit P r' start s' k Early) (sym number) (record {
        reading = reads_more start s s' read.reading none.reading;
        stated = stated_map (λ bytes. EntriesAreRead bytes es (ahead r s))
            (λ bytes. IsMisfit P bytes true (length es + 1) Early) start.rest read.stated
            (λ bytes at h. stops_here P bytes es [] Early (spelled_none bytes es r s h none.ended) (stops [] tt)
            (refl, refl));
        count = none.count ∙ read.count ∙ (let e : length es ≡ begun_at Early (length es + 1) = omega arith in e);
      })
  start_missing r' s' (refusals.Misfit entry Malformed) (number, bad) =
      subst (λ k. HasMisfit P r' start s' k Malformed) (sym number) (record {
        reading = reads_more start s s' read.reading bad.reading;
        stated = stated_map (λ bytes. EntriesAreRead bytes es (ahead r s))
            (λ bytes. IsMisfit P bytes true (length es + 1) Malformed) start.rest read.stated
            (λ bytes at h.
            let spells = spelled_malformed bytes es r s h bad.entries in
            stops_here P bytes es (None ∷ spells.0) Malformed spells.1 (stops (None ∷ spells.0) tt) refl);
        count = bad.count ∙ ap one_more read.count ∙ fits_more (length es) few;
      })
  start_missing r' s' (refusals.Misfit entry Differs) h = absurd h
  start_missing r' s' (refusals.Misfit entry Extra) h = absurd h
  start_missing r' s' refusals.ReadFault f = record {
    stays = stays_more start s s' read.reading.stays f.stays;
    later = later_faults start s s' read.reading f.later;
    rose = subst (λ k. Rose k s'.faults) read.reading.faults f.rose;
    stated =
        stated_map (λ bytes. EntriesAreRead bytes es (ahead r s)) (λ bytes. ShowsNone P bytes s'.rest) start.rest read.stated
        (λ bytes at h.
        let t = front_taken bytes es r r' s s' h f in
        record {
          front = t.front;
          taken = t.taken;
          none = λ entry kind m. front-stops P t.front (length (spelled false t.front)) entry kind
              (fronts (spelled false t.front) t.last t.spells)
              (let e : length (spelled false t.front) ≤ length (spelled false t.front) = omega arith in e) m;
        });
  }
  start_missing r' s' refusals.NoMemory h = absurd h

-- If the header stops at the last entry that was read, the entry differs.
pub start_differs : (P : Program) (start : CabinetState) (es : List Entry) (e : Entry) (r : ReaderState)
    (s : CabinetState) → HasReadEntries start r s (es ++ e ∷ [])
    → ((rest : List (Option Entry)) → header P (stated es ++ Some e ∷ rest) ≡ Stops (length es))
    → HasMisfit P r start s (length es + 1) Differs
start_differs P start es e r s read stops = record {
  reading = read.reading;
  stated = stated_map (λ bytes. EntriesAreRead bytes (es ++ e ∷ []) (ahead r s))
      (λ bytes. IsMisfit P bytes true (length es + 1) Differs) start.rest read.stated
      (λ bytes at h.
      let spells = spelled_next bytes es e (ahead r s) h in
      stops_here P bytes es (Some e ∷ spells.0) Differs spells.1 (stops spells.0) refl);
  count = read.count ∙ length-append es (e ∷ []);
}

-- ---- START

empty_front : (ys zs : List (Option Entry)) → [] ≡ ys ++ zs → ys ≡ []
empty_front [] zs q = refl
empty_front (y ∷ ys) zs q = absurd (let z : ⊥ = cc in z)

pub none_fronts : (P : Program) (ys zs : List (Option Entry)) → stated [] ≡ ys ++ zs
    → header P ys ≡ Stops (length ys)
none_fronts P [] zs q = none_starts P
none_fronts P (y ∷ ys) zs q = absurd (let z : ⊥ = cc in z)

pub none_stops : (P : Program) (rest : List (Option Entry)) → IsUnspelled rest
    → header P (stated [] ++ rest) ≡ Stops 0
none_stops P [] h = none_starts P
none_stops P (None ∷ rest) h = bad_start P None rest refl
none_stops P (Some e ∷ rest) h = absurd h

pub one_fronts : (P : Program) (e : Entry) (limit : ℕ) → valid_limit (Some e) ≡ Some limit
    → (ys zs : List (Option Entry)) → stated (e ∷ []) ≡ ys ++ zs → header P ys ≡ Stops (length ys)
one_fronts P e limit v [] zs q = none_starts P
one_fronts P e limit v (y ∷ []) zs q = let same : Some e ≡ y = cc in
    start_alone P y limit (ap valid_limit (sym same) ∙ v)
one_fronts P e limit v (y ∷ w ∷ ys) zs q = absurd (let z : ⊥ = cc in z)

pub one_stops : (P : Program) (e : Entry) (limit : ℕ) → valid_limit (Some e) ≡ Some limit
    → (rest : List (Option Entry)) → IsUnspelled rest → header P (stated (e ∷ []) ++ rest) ≡ Stops 1
one_stops P e limit v [] h = start_alone P (Some e) limit v
one_stops P e limit v (None ∷ rest) h = bad_register P (Some e) limit None rest v refl
one_stops P e limit v (Some x ∷ rest) h = absurd h

-- ---- out of memory

pub stopped_after : (start : CabinetState) (r : ReaderState) (s : CabinetState) (es : List Entry)
    → HasReadEntries start r s es → HasStoppedReplay start s
stopped_after start r s es read = record { reading = read.reading }

-- ---- what INPUT and IMAGE entries give

stated_alike : (es fs : List Entry) → stated es ≡ stated fs → es ≡ fs
stated_alike [] [] q = refl
stated_alike [] (f ∷ fs) q = absurd (let z : ⊥ = cc in z)
stated_alike (e ∷ es) [] q = absurd (let z : ⊥ = cc in z)
stated_alike (e ∷ es) (f ∷ fs) q =
    let first : e ≡ f = cc in
    let rest : stated es ≡ stated fs = cc in
    ap (λ x. x ∷ es) first ∙ ap (λ xs. f ∷ xs) (stated_alike es fs rest)

stated_long : (es : List Entry) → length (stated es) ≡ length es
stated_long [] = refl
stated_long (e ∷ es) = ap suc (stated_long es)

-- What was given, with bytes of 0 after it, is a valid input, whose header the entries are.
pub record IsHeaderOf (P : Program) (given : Input) (entries : List Entry) (count : ℕ) : Type 0 where
  pub valid : IsValid P (filled P given)
  pub are : entries ≡ header_of (filled P given)
  pub number : count ≡ header_entries (filled P given)

pub header_given_so : (P : Program) (given : Input) (es : List Entry) (count : ℕ) → FitAll (stated es)
    → count ≡ length es → ((more : List (Option Entry))
    → header P (stated es ++ more) ≡ header_from P given count more) → IsHeaderOf P given es count
header_given_so P given es count fit counted head =
    let whole : header P (stated es) ≡ Gives count (filled P given) = ap (header P) (sym (append-nil (stated es)))
    ∙ head [] in
    let h = header-given P (stated es) count (filled P given) fit whole in
    let long = stated_long es in
    let longer = stated_long (header_of (filled P given)) in
    let both = ap length h.split ∙ length-append (stated (header_of (filled P given))) h.rest in
    let same = length-header_of (filled P given) in
    let number = h.count in
    let none : h.rest ≡ [] = nothing h.rest (omega (arith, long, longer, both, same, number, counted)) in
    record {
      valid = h.valid;
      are = stated_alike es (header_of (filled P given))
          (h.split ∙ ap (λ ps. stated (header_of (filled P given)) ++ ps) none
          ∙ append-nil (stated (header_of (filled P given))));
      number = h.count;
    }
  where
    nothing : (ps : List (Option Entry)) → length ps ≡ 0 → ps ≡ []
    nothing [] z = refl
    nothing (p ∷ ps) z = absurd (omega (arith, z))

trace_zero : (P : Program) (I : Input) → trace P I 0 ≡ header_of I
unfolding trace
trace_zero P I = refl

starts_going : (P : Program) (I : Input) → (run P I 0).world.ending ≡ None
unfolding run
starts_going P I = refl

unspelled_gives : (P : Program) (given : Input) (count : ℕ) (rest : List (Option Entry)) → IsUnspelled rest
    → header_from P given count rest ≡ Gives count (filled P given)
unspelled_gives P given count [] h = refl
unspelled_gives P given count (None ∷ rest) h = refl
unspelled_gives P given count (Some e ∷ rest) h = absurd h

module _ {P : Program} {start : CabinetState} {r : ReaderState} {s : CabinetState} {given : Input}
    {count : ℕ} (is : HasGiven P start r s given count) (few : count + 1 < 2 ^ 128) where
  so : IsHeaderOf P given is.entries count
  so = header_given_so P given is.entries count is.read.fit is.counted is.header

  entries_are : is.entries ≡ trace P (filled P given) 0
  entries_are = so.are ∙ sym (trace_zero P (filled P given))

  counts : count ≡ length (trace P (filled P given) 0)
  counts = is.counted ∙ ap (λ es. length es) entries_are

  -- No entry could be read after those of the header.
  pub value_missing : (r' : ReaderState) (s' : CabinetState) (refusal : ReplayRefusal)
      → ReadsEntry count r r' s s' (Err refusal) → Refuses P r' start s' refusal
  value_missing r' s' refusal h =
      no_entry P (filled P given) start so.valid 0 r s (starts_going P (filled P given))
      (subst (λ n. n + 1 < 2 ^ 128) counts few)
      (subst (λ es. HasReadEntries start r s es) entries_are is.read)
      (λ bytes at rest spells bad.
      ap (header P) (spells ∙ ap (λ es. stated es ++ rest) (sym entries_are)) ∙ is.header rest
      ∙ unspelled_gives P given count rest bad
      ∙ ap (λ n. Gives n (filled P given)) so.number)
      r' s' refusal (subst (λ n. ReadsEntry n r r' s s' (Err refusal)) counts h)

  room : length is.entries + 1 < 2 ^ 128
  room = subst (λ n. n + 1 < 2 ^ 128) is.counted few

  header_after : (e : Entry) (more : List (Option Entry))
      → header P (stated (is.entries ++ e ∷ []) ++ more) ≡ header_from P given count (Some e ∷ more)
  header_after e more =
      ap (λ ps. header P (ps ++ more)) (stated_append is.entries (e ∷ []))
      ∙ ap (header P) (append_assoc (stated is.entries) (Some e ∷ []) more)
      ∙ is.header (Some e ∷ more)

  -- One more entry of the header.
  pub value_taken : (r' : ReaderState) (s' : CabinetState) (e : Entry) (next : Input) → HasNext r r' s s' e
      → with_entry P given (Some e) ≡ Some next → HasGiven P start r' s' next (count + 1)
  value_taken r' s' e next h q = record {
    entries = is.entries ++ e ∷ [];
    read = next_read start s s' r r' is.entries e room is.read h;
    counted = ap (λ n. n + 1) is.counted ∙ sym (length-append is.entries (e ∷ []));
    header = λ more.
        header_after e more ∙ ap (go_on P given count (λ given'. header_from P given' (suc count) more)) q
        ∙ ap (λ n. header_from P next n more) (let one : suc count ≡ count + 1 = omega arith in one);
  }

  -- There is no memory for what the entry gives.
  pub value_dropped : (r' : ReaderState) (s' : CabinetState) (e : Entry) → HasNext r r' s s' e
      → HasStoppedReplay start s'
  value_dropped r' s' e h = stopped_after start r' s' (is.entries ++ e ∷ [])
      (next_read start s s' r r' is.entries e room is.read h)

  -- The first entry after the header.
  pub value_refused : (r' : ReaderState) (s' : CabinetState) (e : Entry) → HasNext r r' s s' e
      → with_entry P given (Some e) ≡ None
      → HasAllGiven P start r' s' given (record { next = e; entries = count })
  value_refused r' s' e h q = record {
    entries = is.entries;
    read = next_read start s s' r r' is.entries e room is.read h;
    counted = is.counted;
    header = is.header;
    ends = q;
  }

pub first_given : (P : Program) (start : CabinetState) (r : ReaderState) (s : CabinetState) (limit base : ℕ)
    → HasBase P start r s limit base → HasGiven P start r s
    (record { base = base; image = []; numbers = []; limit = limit }) 2
first_given P start r s limit base h = record {
  entries = h.first ∷ h.second ∷ [];
  read = h.read;
  counted = refl;
  header = λ more. both_valid P (Some h.first) limit (Some h.second) base more h.starts h.registers;
}

-- All entries of the header were read, so its input is known.
pub header_read : (P : Program) (start : CabinetState) (r : ReaderState) (s : CabinetState) (given : Input)
    (lockstep : Lockstep) → HasAllGiven P start r s given lockstep
    → HasHeader P start r s (record { input = filled P given; lockstep = lockstep })
header_read P start r s given lockstep h =
    let so = header_given_so P given h.entries lockstep.entries
    (fit_front (stated h.entries) (Some lockstep.next ∷ [])
    (subst FitAll (stated_append h.entries (lockstep.next ∷ [])) h.read.fit)) h.counted h.header in
    record {
      valid = so.valid;
      read = subst (λ es. HasReadEntries start r s (es ++ lockstep.next ∷ [])) so.are h.read;
      counted = h.counted ∙ ap (λ es. length es) so.are;
      header = stated_map (λ bytes. EntriesAreRead bytes (h.entries ++ lockstep.next ∷ []) (ahead r s))
          (λ bytes. header P (spelled true bytes)
          ≡ Gives (header_entries (filled P given)) (filled P given)) start.rest h.read.stated
          (λ bytes at k.
          let spells = spelled_next bytes h.entries lockstep.next (ahead r s) k in
          ap (header P) spells.1 ∙ h.header (Some lockstep.next ∷ spells.0)
          ∙ ap (go_on P given lockstep.entries
          (λ given'. header_from P given' (suc lockstep.entries) spells.0)) h.ends
          ∙ ap (λ n. Gives n (filled P given)) so.number);
    }
  where
    fit_front : (xs ys : List (Option Entry)) → FitAll (xs ++ ys) → FitAll xs
    fit_front [] ys f = tt
    fit_front (x ∷ xs) ys f = (f.0, fit_front xs ys f.1)

-- ---- how much was given

-- K has more numbers and bytes than J, and no more than a valid input has.
pub record GivesMore (P : Program) (J K : Input) : Type 0 where
  pub numbers : length J.numbers ≤ length K.numbers
  pub image : length J.image ≤ length K.image
  pub more : length J.numbers + length J.image + 1 ≤ length K.numbers + length K.image
  pub few : length K.numbers ≤ 1048576
  pub within : length K.image ≤ region_size P

by_test : (P : Program) (J K : Input) (test : Bool) (there : Input) → (if test then Some there else None) ≡ Some K
    → (test ≡ true → GivesMore P J there) → GivesMore P J K
by_test P J K true there q h = let same : there ≡ K = cc in subst (λ (X : Input). GivesMore P J X) same (h refl)
by_test P J K false there q h = absurd (let z : ⊥ = cc in z)

number_gives : (P : Program) (J K : Input) (z : ℤ) → length J.numbers ≤ 1048576
    → length J.image ≤ region_size P → with_number J z ≡ Some K → GivesMore P J K
number_gives P J K z few within q = by_test P J K (is_empty J.image && nat_lt (length J.numbers) 1048576)
    (record J { numbers = J.numbers ++ z ∷ [] }) q make
  where
    make : is_empty J.image && nat_lt (length J.numbers) 1048576 ≡ true
        → GivesMore P J (record J { numbers = J.numbers ++ z ∷ [] })
    make t =
        let room = lt_true (length J.numbers) 1048576
        (and_parts (is_empty J.image) (nat_lt (length J.numbers) 1048576) t).1 in
        let long = length-append J.numbers (z ∷ []) in
        record {
          numbers = omega (arith, long);
          image = omega arith;
          more = omega (arith, long);
          few =
              omega (arith, long, room);
          within = within;
        }

line_gives : (P : Program) (J K : Input) (addr : ℕ) (line : List ℕ) → length line ≡ 64
    → length J.numbers ≤ 1048576 → length J.image ≤ region_size P → with_line P J addr line ≡ Some K
    → GivesMore P J K
line_gives P J K addr line one few within q =
    by_test P J K (is_next_line P J addr line)
    (record J { image = J.image ++ (zeros (addr - (J.base + length J.image)) ++ line) }) q make
  where
    make : is_next_line P J addr line ≡ true
        → GivesMore P J (record J { image = J.image ++ (zeros (addr - (J.base + length J.image)) ++ line) })
    make t =
        let a = and_parts (nat_le (J.base + length J.image) addr)
        (nat_le (addr + 64) (J.base + region_size P) && some_byte line) t in
        let b = and_parts (nat_le (addr + 64) (J.base + region_size P)) (some_byte line) a.1 in
        let from : J.base + length J.image ≤ addr = le_true (J.base + length J.image) addr a.0 in
        let to : addr + 64 ≤ J.base + region_size P = le_true (addr + 64) (J.base + region_size P) b.0 in
        let gap = length-zeros (addr - (J.base + length J.image)) in
        let long = length-append J.image (zeros (addr - (J.base + length J.image)) ++ line) in
        let longer = length-append (zeros (addr - (J.base + length J.image))) line in
        record {
          numbers = omega arith;
          image = omega (arith, long);
          more = omega (arith, long, longer, one);
          few = few;
          within = omega (arith, long, longer, one, gap, from, to);
        }

entry_gives : (P : Program) (J K : Input) (e : Entry) → ValuesFit e → length J.numbers ≤ 1048576
    → length J.image ≤ region_size P → with_entry P J (Some e) ≡ Some K → GivesMore P J K
entry_gives P J K (Number z) fits few within q = number_gives P J K z few within q
entry_gives P J K (Image addr line) fits few within q = line_gives P J K addr line fits.whole few within q
entry_gives P J K (Start limit) fits few within q = absurd (let z : ⊥ = cc in z)
entry_gives P J K (Register base size) fits few within q = absurd (let z : ⊥ = cc in z)
entry_gives P J K (Store addr value size) fits few within q = absurd (let z : ⊥ = cc in z)
entry_gives P J K (Flush addr size) fits few within q = absurd (let z : ⊥ = cc in z)
entry_gives P J K Fence fits few within q = absurd (let z : ⊥ = cc in z)
entry_gives P J K (Persist addr size) fits few within q = absurd (let z : ⊥ = cc in z)
entry_gives P J K (Assert addr size) fits few within q = absurd (let z : ⊥ = cc in z)
entry_gives P J K (Stop code) fits few within q = absurd (let z : ⊥ = cc in z)
entry_gives P J K (Trap kind) fits few within q = absurd (let z : ⊥ = cc in z)
entry_gives P J K Cut fits few within q = absurd (let z : ⊥ = cc in z)

-- ---- the loop over INPUT and IMAGE entries

-- What was read and given since the first reader, cabinet and input.
pub record IsGiving (P : Program) (r0 : ReaderState) (s0 : CabinetState) (given0 : Input) (r : ReaderState)
    (s : CabinetState) (given : Input) (count : ℕ) : Type 0 where
  pub progress : r.progress ≡ Reading
  pub current : s.is_current ≡ true
  pub numbers : length given.numbers ≤ 1048576
  pub image : length given.image ≤ region_size P
  pub few : count ≤ 2 + length given.numbers + length given.image
  pub so_far : (start : CabinetState) → HasGiven P start r0 s0 given0 2 → HasGiven P start r s given count

pub begins_giving : (P : Program) (r : ReaderState) (s : CabinetState) (given : Input) → r.progress ≡ Reading
    → s.is_current ≡ true → given.numbers ≡ [] → given.image ≡ [] → IsGiving P r s given r s given 2
begins_giving P r s given reading current numbers image =
    let none = ap (λ zs. length zs) numbers in
    let empty = ap (λ bs. length bs) image in
    record {
      progress = reading;
      current = current;
      numbers = omega (arith, none);
      image = omega (arith, empty);
      few =
          omega (arith, none, empty);
      so_far = λ start h. h;
    }

module _ {P : Program} {r0 : ReaderState} {s0 : CabinetState} {given0 : Input} {r : ReaderState} {s : CabinetState}
    {given : Input} {count : ℕ} (is : IsGiving P r0 s0 given0 r s given count) (size : region_size P < 2 ^ 64) where
  pub count_room : count + 1 < 2 ^ 128
  count_room = let few = is.few in let numbers = is.numbers in let image = is.image in
      omega (arith, few, numbers, image, size)

  more_given : (r' : ReaderState) (s' : CabinetState) (e : Entry) (next : Input) → HasNext r r' s s' e
      → with_entry P given (Some e) ≡ Some next → GivesMore P given next
  more_given r' s' e next h q = entry_gives P given next e (spelled_fits h.piece e h.spells) is.numbers is.image q

  pub goes_on_giving : (r' : ReaderState) (s' : CabinetState) (e : Entry) (next : Input) → HasNext r r' s s' e
      → with_entry P given (Some e) ≡ Some next → IsGiving P r0 s0 given0 r' s' next (count + 1)
  goes_on_giving r' s' e next h q =
      let more = more_given r' s' e next h q in
      let few = is.few in
      let longer = more.more in
      record {
        progress = h.progress;
        current = h.reading.stays.current;
        numbers = more.few;
        image = more.within;
        few = omega (arith, few, longer);
        so_far = λ start k. value_taken (is.so_far start k) count_room r' s' e next h q;
      }

  pub less_left : (r' : ReaderState) (s' : CabinetState) (e : Entry) (next : Input) → HasNext r r' s s' e
      → with_entry P given (Some e) ≡ Some next
      → 1048576 - length next.numbers + (region_size P - length next.image) < 1048576 - length given.numbers
      + (region_size P - length given.image)
  less_left r' s' e next h q =
      let more = more_given r' s' e next h q in
      let a = more.numbers in
      let b = more.image in
      let c = more.more in
      let d = more.few in
      let e = more.within in
      omega (arith, a, b, c, d, e)

-- ---- the whole header

pub first_given_at : (P : Program) (start : CabinetState) (r : ReaderState) (s : CabinetState) (limit base : ℕ)
    (numbers : List ℤ) (image : List ℕ) → HasBase P start r s limit base → numbers ≡ [] → image ≡ []
    → HasGiven P start r s (record { base = base; image = image; numbers = numbers; limit = limit }) 2
first_given_at P start r s limit base numbers image h n i =
    subst (λ zs. HasGiven P start r s (record { base = base; image = image; numbers = zs; limit = limit }) 2) (sym n)
    (subst (λ bs. HasGiven P start r s (record { base = base; image = bs; numbers = []; limit = limit }) 2) (sym i)
    (first_given P start r s limit base h))

-- The given bytes go no further than the region.
pub image_within : {P : Program} {start : CabinetState} {r : ReaderState} {s : CabinetState} {given : Input}
    {lockstep : Lockstep} → HasAllGiven P start r s given lockstep → length given.image ≤ region_size P
image_within {P} {start} {r} {s} {given} {lockstep} h =
    let valid = (header_read P start r s given lockstep h).valid in
    let whole = valid.image in
    let long = length-append given.image (zeros (region_size P - length given.image)) in
    let gap = length-zeros (region_size P - length given.image) in
    omega (arith, whole, long, gap)

pub stopped_after_header : {P : Program} {start : CabinetState} {r : ReaderState} {s : CabinetState} {given : Input}
    {lockstep : Lockstep} → HasAllGiven P start r s given lockstep → HasStoppedReplay start s
stopped_after_header {P} {start} {r} {s} {given} {lockstep} h =
    stopped_after start r s (h.entries ++ lockstep.next ∷ []) h.read
