-- Pieces that are put into a sink in memory, and taken from a cabinet in memory.
use Rattle.std.proofs.Common.{ℕ, ◌+◌, ◌≡◌, ◌<◌, ◌≤◌, true, List, ◌++◌, ◌∷◌, length, get_or, Option, Some, None, option_map, take, drop, is_some, refl, sym, subst, ap, ◌∙◌, arith}
use Rattle.std.proofs.lemmas.List.{take-append-drop, at_drop_more, drop-drop}
use Rattle.std.specs.Str.{bytes_eq}
use Rattle.hip_io.specs.declared.cabinet.NamedFile.{NamedFile}
use Rattle.hip_io.specs.Cabinets.{file_of, HasGot, HasFailedTake}
use Rattle.hip_io.specs.Counts.{Rose, counted}
use Rattle.hip_io.specs.Sinks.{AppendsPrefix}
use Rattle.hip_io.specs.Fakes.{MemBytes, OpenFile, FailingFiles, failing_cabinet_state, mem_cabinet_state, mem_sink_state}

pub keeps_prefix : (old new : MemBytes) (piece : List ℕ) → new.bytes ≡ old.bytes ++ take old.room piece → old.faults ≤ new.faults → Rose old.faults new.faults → AppendsPrefix (mem_sink_state old) (mem_sink_state new) piece
keeps_prefix old new piece bytes later rose = record {
  written = take old.room piece;
  missing = drop old.room piece;
  parts = sym (take-append-drop old.room piece);
  bytes = ap (λ (b : List ℕ). Some b) bytes;
  later = later;
  rose = rose;
}

-- The file at a place is the first of its name among those from there on.
pub first_here : (files : List NamedFile) (at : ℕ) (f : NamedFile) (name : List ℕ) → at < length files → f ≡ get_or files at f → bytes_eq f.name name ≡ true → file_of (drop at files) name ≡ Some f.bytes
first_here files at f name within is same =
    let here : file_of (get_or files at f ∷ drop (at + 1) files) name ≡ Some f.bytes = rw (← is, same) refl in
    at_drop_more (λ fs. file_of fs name) files at f within ∙ here

abbrev opened : Option NamedFile → ℕ → Option OpenFile
opened file taken = option_map (λ f. record { name = f.name; rest = drop taken f.bytes }) file

taken_rest : (bytes buffer : List ℕ) (taken n : ℕ) → take n buffer ≡ take n (drop taken bytes) → drop taken bytes ≡ take n buffer ++ drop (taken + n) bytes
taken_rest bytes buffer taken n same = rw (same, ← drop-drop n taken bytes) (sym (take-append-drop n (drop taken bytes)))

pub gives_next : (files : List NamedFile) (chunk fetches misses : ℕ) (file : Option NamedFile) (taken n : ℕ) (rest buffer : List ℕ) → option_map (λ o. o.rest) (opened file taken) ≡ Some rest → 1 ≤ n → n ≤ length buffer → take n buffer ≡ take n rest →
    HasGot (mem_cabinet_state (record { files = files; chunk = chunk; current = opened file taken; fetches = fetches; misses = misses })) (mem_cabinet_state (record { files = files; chunk = chunk; current = opened file (taken + n); fetches = fetches; misses = misses })) buffer n
gives_next files chunk fetches misses None taken n rest buffer is some fits same = cc
gives_next files chunk fetches misses (Some f) taken n rest buffer is some fits same =
    let left : drop taken f.bytes ≡ rest = cc in
    record {
      stays = record { files = refl; fetches = refl; misses = refl; current = refl; named = refl };
      faults = refl;
      some = some;
      fits = fits;
      bytes = ap (λ (b : List ℕ). Some b) (taken_rest f.bytes buffer taken n (rw left same));
    }

pub fails_take : (old new : FailingFiles) → new ≡ record old { faults = counted old.faults } → old.faults ≤ new.faults → is_some old.inner.current ≡ true → HasFailedTake (failing_cabinet_state old) (failing_cabinet_state new)
fails_take old new is later current =
    let P : FailingFiles → Type 0 = λ f. HasFailedTake (failing_cabinet_state old) (failing_cabinet_state f) in
    let after : old.faults ≤ counted old.faults = subst (λ (f : FailingFiles). old.faults ≤ f.faults) is later in
    subst P (sym is) (record {
      stays = record { files = refl; fetches = refl; misses = refl; current = current; named = refl };
      later = after;
      rose = omega arith;
      rest = refl;
    })
