-- What comes first in the bytes that a reader holds, once it has taken enough of them.
use Rattle.std.specs.Prelude.{ℕ, ◌+◌, ◌≡◌, ◌≤◌, ◌<◌, if◌then◌else◌, List, [], ◌∷◌, ◌++◌, length, take, drop, position, Option, Some, None, IfSome, option_map, Result, Ok, Err}
use Rattle.hip_io.specs.Counts.{Rose}
use Rattle.hip_io.specs.Cabinets.{CabinetState, StaysOpen}
use Rattle.hip_io.specs.declared.cabinet.Taken.{Taken}
use Rattle.hip_io.specs.declared.cabinet.Taken.TheVariants as taken
use Rattle.hip_num.specs.Texts.{is_nonempty}
use Rattle.hip_trace.specs.Entries.{entry_of}
use Rattle.hip_trace.specs.Pieces.{is_separator}
use Rattle.hip_trace.specs.Reads.{ReaderState, IsReading, TakesAtNeed, after_held, one_more}
use Rattle.hip_trace.specs.declared.entry.Entry.{Entry}
use Rattle.hip_trace.specs.declared.front.Front.{Front}
use Rattle.hip_trace.specs.declared.front.Front.TheVariants as fronts
use Rattle.hip_trace.specs.declared.refusal.TraceRefusal.{TraceRefusal}
use Rattle.hip_trace.specs.declared.refusal.TraceRefusal.TheVariants.{Malformed, ReadFault}
use Rattle.hip_trace.specs.declared.refusal.Progress.TheVariants.{Reading, Ended, Refused}

-- ---- more bytes are taken

-- At least one byte was taken; the reader holds it after those from before.
pub record HasTakenSome (held held' : List ℕ) (s s' : CabinetState) : Type 0 where
  pub reading : IsReading s s'
  pub taken : List ℕ
  pub bytes : s.rest ≡ option_map (λ rest. taken ++ rest) s'.rest
  pub held_is : held' ≡ held ++ taken
  pub longer : length held + 1 ≤ length held'

-- The file has ended: the reader holds the bytes from before, and nothing failed.
pub record HasTakenNothing (held held' : List ℕ) (s s' : CabinetState) : Type 0 where
  pub same : held' ≡ held
  pub reading : IsReading s s'
  pub rest : s'.rest ≡ s.rest
  pub ended : IfSome s.rest (λ rest. rest ≡ [])

-- A read failed: the reader holds the bytes from before, and the count of faults rose.
pub record HasFailedMore (held held' : List ℕ) (s s' : CabinetState) : Type 0 where
  pub same : held' ≡ held
  pub stays : StaysOpen s s'
  pub later : s.faults ≤ s'.faults
  pub rose : Rose s.faults s'.faults
  pub rest : s'.rest ≡ s.rest

-- What an attempt to take more bytes did, by its answer.
abbrev pub HasTakenMore : List ℕ → List ℕ → CabinetState → CabinetState → Taken → Type 0
HasTakenMore held held' s s' (taken.Got n) = HasTakenSome held held' s s'
HasTakenMore held held' s s' taken.End = HasTakenNothing held held' s s'
HasTakenMore held held' s s' taken.Failed = HasFailedMore held held' s s'

-- ---- what comes first

-- Bytes were taken as long as they were needed, and the reader holds them after those from before. The bytes ahead are
-- the same.
pub record HoldsMore (held held' : List ℕ) (s s' : CabinetState) : Type 0 where
  pub reading : IsReading s s'
  pub takes : TakesAtNeed held s s'
  pub held_is : held' ≡ held ++ takes.taken
  pub ahead : after_held held' s' ≡ after_held held s

-- A piece of n bytes, followed by a separator.
pub record HasPieceFirst (held held' : List ℕ) (s s' : CabinetState) (n : ℕ) : Type 0 where
  pub more : HoldsMore held held' s s'
  pub here : position is_separator held' ≡ Some n

-- The rest of the file, which has no separator.
pub record HasRestFirst (held held' : List ℕ) (s s' : CabinetState) : Type 0 where
  pub more : HoldsMore held held' s s'
  pub none : position is_separator held' ≡ None
  pub ended : IfSome s'.rest (λ rest. rest ≡ [])

-- More than 256 bytes with no separator.
pub record PieceIsTooLong (held held' : List ℕ) (s s' : CabinetState) : Type 0 where
  pub more : HoldsMore held held' s s'
  pub none : position is_separator held' ≡ None
  pub long : 256 < length held'

-- At most 256 bytes with no separator, after which a read failed.
pub record HasFailedFirst (held held' : List ℕ) (s s' : CabinetState) : Type 0 where
  pub none : position is_separator held' ≡ None
  pub few : length held' ≤ 256
  pub stays : StaysOpen s s'
  pub later : s.faults ≤ s'.faults
  pub rose : Rose s.faults s'.faults
  pub takes : TakesAtNeed held s s'
  pub ahead : after_held held' s' ≡ after_held held s

-- What the reader holds and what comes first in it, by the answer.
abbrev pub FindsFront : List ℕ → List ℕ → CabinetState → CabinetState → Front → Type 0
FindsFront held held' s s' (fronts.Piece n) = HasPieceFirst held held' s s' n
FindsFront held held' s s' fronts.Rest = HasRestFirst held held' s s'
FindsFront held held' s s' fronts.TooLong = PieceIsTooLong held held' s s'
FindsFront held held' s s' fronts.Failed = HasFailedFirst held held' s s'

-- ---- the answer to what comes first

-- The answer to a piece that spells an entry or none, and the reader after it: `taken` bytes are dropped with an entry.
abbrev pub answers_piece : Option Entry → ReaderState → ReaderState → ℕ → Result (Option Entry) TraceRefusal
    → Type 0
answers_piece None r r' taken result =
    (result ≡ Err Malformed) × (r' ≡ record {
      held = r.held;
      count = one_more r.count;
      progress =
          Refused Malformed;
    })
answers_piece (Some e) r r' taken result =
    (result ≡ Ok (Some e)) × (r' ≡ record {
      held = drop taken r.held;
      count = one_more r.count;
      progress =
          Reading;
    })

-- The answer to a piece, which is the first n bytes that are held: the entry that it spells, or the refusal as
-- malformed. `taken` bytes are dropped only with an entry.
abbrev pub AnswersPiece : ReaderState → ReaderState → ℕ → ℕ → Result (Option Entry) TraceRefusal → Type 0
AnswersPiece r r' n taken result = answers_piece (entry_of (take n r.held)) r r' taken result

-- The file has ended: the bytes that are held are the last piece. If none are held, there are no more entries.
abbrev pub answers_rest : List ℕ → ReaderState → ReaderState → Result (Option Entry) TraceRefusal → Type 0
answers_rest [] r r' result = (result ≡ Ok None) × (r' ≡ record { held = []; count = r.count; progress = Ended })
answers_rest (b ∷ bs) r r' result = AnswersPiece r r' (length (b ∷ bs)) (length (b ∷ bs)) result

-- The reader after a read that failed, which refuses from then on. It has begun a text if it holds a byte.
abbrev pub failed : ReaderState → ReaderState
failed r =
    record {
      held = r.held;
      count = if is_nonempty r.held then one_more r.count else r.count;
      progress = Refused ReadFault;
    }

-- The answer and the reader after it, by what comes first in the bytes that it held.
abbrev pub AnswersFront : ReaderState → ReaderState → Front → Result (Option Entry) TraceRefusal → Type 0
AnswersFront r r' (fronts.Piece n) result = AnswersPiece r r' n (n + 1) result
AnswersFront r r' fronts.Rest result = answers_rest r.held r r' result
AnswersFront r r' fronts.TooLong result =
    (result ≡ Err Malformed) × (r' ≡ record {
      held = r.held;
      count = one_more r.count;
      progress =
          Refused Malformed;
    })
AnswersFront r r' fronts.Failed result = (result ≡ Err ReadFault) × (r' ≡ failed r)

-- If the front is a piece, the piece and its separator are in the bytes that are held.
abbrev pub IsFrontOf : List ℕ → Front → Type 0
IsFrontOf held (fronts.Piece n) = n < length held
IsFrontOf held fronts.Rest = Unit {0}
IsFrontOf held fronts.TooLong = Unit {0}
IsFrontOf held fronts.Failed = Unit {0}
