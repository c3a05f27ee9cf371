-- What contracts see of a reader, and what reading the next entry does to it and to a cabinet.
use Rattle.std.specs.Prelude.{ℕ, ◌+◌, ◌-◌, ◌^◌, ◌≡◌, ◌≤◌, ◌⊎◌, min, if◌then◌else◌, true, false, List, [], ◌∷◌, ◌++◌, length, slice_get, Option, Some, None, IfSome, option_map, Result, Ok, Err}
use Rattle.std.specs.List.{list_any}
use Rattle.hip_io.specs.Counts.{Rose}
use Rattle.hip_io.specs.Cabinets.{CabinetState, StaysOpen}
use Rattle.hip_num.specs.Texts.{is_nonempty}
use Rattle.hip_trace.specs.Entries.{entry_of}
use Rattle.hip_trace.specs.Pieces.{is_separator, pieces, spelled}
use Rattle.hip_trace.specs.declared.entry.Entry.{Entry}
use Rattle.hip_trace.specs.declared.refusal.TraceRefusal.{TraceRefusal}
use Rattle.hip_trace.specs.declared.refusal.TraceRefusal.TheVariants.{Malformed, ReadFault}
use Rattle.hip_trace.specs.declared.refusal.Progress.{Progress}
use Rattle.hip_trace.specs.declared.refusal.Progress.TheVariants.{Reading, Ended, Refused}

-- The bytes that a reader holds, how many texts of entries it has begun, and whether it has come to an end.
pub record ReaderState : Type 0 where
  pub held : List ℕ
  pub count : ℕ
  pub progress : Progress

-- The bytes ahead of a reader: those that it holds, and then the rest of the current file.
abbrev pub after_held : List ℕ → CabinetState → Option (List ℕ)
after_held held s = option_map (λ rest. held ++ rest) s.rest

-- The bytes ahead of a reader, if those of its file are known.
abbrev pub ahead : ReaderState → CabinetState → Option (List ℕ)
ahead r s = after_held r.held s

-- What the pieces ahead spell, if the bytes of the file are known.
abbrev pub entries_left : ReaderState → CabinetState → Option (List (Option Entry))
entries_left r s = option_map (spelled true) (ahead r s)

-- A count plus one, or the greatest number of 128 bits if the sum is greater.
abbrev pub one_more : ℕ → ℕ
one_more count = min (count + 1) (2 ^ 128 - 1)

-- ---- what is taken of the file

-- More bytes of the same piece may follow these bytes: they have no separator, and there are at most 256 of them.
pub record MayGoOn (bytes : List ℕ) : Type 0 where
  pub whole : list_any is_separator bytes ≡ false
  pub few : length bytes ≤ 256

-- The last read, which gave `last`, was needed: the bytes that were held before it have no separator and are at most
-- 256. They begin with the bytes that were held at first.
pub record WasNeeded (held taken : List ℕ) : Type 0 where
  pub before : List ℕ
  pub last : List ℕ
  pub parts : held ++ taken ≡ before ++ last
  pub longer : length held ≤ length before
  pub goes_on : MayGoOn before

-- A reader that holds some bytes takes more of the file, in one read after another, only while it holds at most 256
-- bytes and no separator. So it takes nothing if it holds the end of a text, or 257 bytes of one.
pub record TakesAtNeed (held : List ℕ) (old new : CabinetState) : Type 0 where
  pub taken : List ℕ
  pub bytes : old.rest ≡ option_map (λ rest. taken ++ rest) new.rest
  pub needed : (taken ≡ []) ⊎ WasNeeded held taken

-- The file stays open, and nothing failed.
pub record IsReading (old new : CabinetState) : Type 0 where
  pub stays : StaysOpen old new
  pub faults : new.faults ≡ old.faults

-- ---- the piece that comes first

-- The piece ended at a separator, which was taken too.
pub record EndsAtSeparator (piece : List ℕ) (old new : Option (List ℕ)) : Type 0 where
  pub separator : ℕ
  pub separates : is_separator separator ≡ true
  pub whole : list_any is_separator piece ≡ false
  pub bytes : old ≡ option_map (λ rest. piece ++ separator ∷ rest) new

-- The piece ended with the file.
pub record EndsWithFile (piece : List ℕ) (old new : Option (List ℕ)) : Type 0 where
  pub some : is_nonempty piece ≡ true
  pub whole : list_any is_separator piece ≡ false
  pub bytes : old ≡ option_map (λ rest. piece ++ rest) new
  pub left : IfSome new (λ rest. rest ≡ [])

-- The piece was taken from the bytes ahead, with its separator, or up to the end of the file.
abbrev pub TakesPiece : List ℕ → Option (List ℕ) → Option (List ℕ) → Type 0
TakesPiece piece old new = EndsAtSeparator piece old new ⊎ EndsWithFile piece old new

-- ---- the answers of `next`

-- The first piece ahead spells the entry; it was taken, with its separator.
pub record HasNext (r r' : ReaderState) (s s' : CabinetState) (e : Entry) : Type 0 where
  pub reading : IsReading s s'
  pub piece : List ℕ
  pub spells : entry_of piece ≡ Some e
  pub taken : TakesPiece piece (ahead r s) (ahead r' s')
  pub entries : entries_left r s ≡ option_map (λ es. Some e ∷ es) (entries_left r' s')
  pub count : r'.count ≡ one_more r.count
  pub progress : r'.progress ≡ Reading

-- The first piece ahead, which was held with its separator, spells the entry; no cabinet was called.
abbrev pub HasNextHeld : ReaderState → ReaderState → Entry → Type 0
HasNextHeld r r' e = (s : CabinetState) → s.is_current ≡ true → HasNext r r' s s e

-- Nothing was ahead, and the current file is read to its end.
pub record HasNone (r r' : ReaderState) (s s' : CabinetState) : Type 0 where
  pub reading : IsReading s s'
  pub ended : IfSome (ahead r s) (λ bytes. bytes ≡ [])
  pub left : IfSome s'.rest (λ rest. rest ≡ [])
  pub held : r'.held ≡ []
  pub count : r'.count ≡ r.count
  pub progress : r'.progress ≡ Ended

-- The first piece ahead spells no entry, or has more than 256 bytes.
pub record HasMalformed (r r' : ReaderState) (s s' : CabinetState) : Type 0 where
  pub reading : IsReading s s'
  pub entries : IfSome (entries_left r s) (λ es. slice_get es 0 ≡ Some None)
  pub count : r'.count ≡ one_more r.count
  pub progress : r'.progress ≡ Refused Malformed

-- A read failed. The reader holds the bytes that were taken before, which contain no whole piece. It has begun a text
-- if it holds a byte of one.
pub record ReadHasFailed (r r' : ReaderState) (s s' : CabinetState) : Type 0 where
  pub stays : StaysOpen s s'
  pub later : s.faults ≤ s'.faults
  pub rose : Rose s.faults s'.faults
  pub ahead : ahead r' s' ≡ ahead r s
  pub held : pieces false r'.held ≡ []
  pub count : r'.count ≡ (if is_nonempty r'.held then one_more r.count else r.count)
  pub progress : r'.progress ≡ Refused ReadFault

-- What `next` does if it has given neither the end nor a refusal before, by its answer.
abbrev pub ReadsOn : ReaderState → ReaderState → CabinetState → CabinetState
    → Result (Option Entry) TraceRefusal
    → Type 0
ReadsOn r r' s s' (Ok None) = HasNone r r' s s'
ReadsOn r r' s s' (Ok (Some e)) = HasNext r r' s s' e
ReadsOn r r' s s' (Err Malformed) = HasMalformed r r' s s'
ReadsOn r r' s s' (Err ReadFault) = ReadHasFailed r r' s s'

-- The reader repeats an answer, and does not call the cabinet.
pub record Repeats (r r' : ReaderState) (s s' : CabinetState)
    (before now : Result (Option Entry) TraceRefusal) : Type 0 where
  pub answer : now ≡ before
  pub reader : r' ≡ r
  pub cabinet : s' ≡ s

-- What `next` does, by the progress of the reader: it reads on, or repeats the end, or repeats its refusal.
abbrev pub reads_from : Progress → ReaderState → ReaderState → CabinetState → CabinetState
    → Result (Option Entry) TraceRefusal → Type 0
reads_from Reading r r' s s' result = ReadsOn r r' s s' result
reads_from Ended r r' s s' result = Repeats r r' s s' (Ok None) result
reads_from (Refused refusal) r r' s s' result = Repeats r r' s s' (Err refusal) result

-- What `next` does. It repeats None and refusals.
abbrev pub ReadsNext : ReaderState → ReaderState → CabinetState → CabinetState
    → Result (Option Entry) TraceRefusal
    → Type 0
ReadsNext r r' s s' result = reads_from r.progress r r' s s' result
