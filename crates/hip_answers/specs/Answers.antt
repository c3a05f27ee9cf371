-- What a call answers and writes, once for all commands.
use Rattle.std.specs.Prelude.{ℕ, ◌≡◌, ◌≢◌, Bool, true, false, List, [], ◌++◌, ◌⊎◌}
use Rattle.hip_answers.specs.Lines.{line_of}
use Rattle.hip_answers.specs.declared.status.Status.{Status}
use Rattle.hip_answers.specs.declared.status.Status.TheVariants.{Done, WriteFault, NoMemory, Trapped, Cut}
use Rattle.hip_io.specs.Cabinets.{CabinetState}
use Rattle.hip_io.specs.Sinks.{SinkState, AppendsAll, AppendsPrefix}
use Rattle.hip_io.specs.declared.sink.Put.{Put}
use Rattle.hip_io.specs.declared.sink.Put.TheVariants as puts
use Rattle.hip_program_files.specs.Outside.{HasMet}

-- A status, the text for out and the text for notes. Each command defines by a table which answers it may give.
pub record Answer : Type 0 where
  pub status : Status
  pub out : List ℕ
  pub notes : List ℕ

-- A refusal has its line for notes, and nothing for out.
abbrev pub refusal : Status → Answer
refusal status = record { status = status; out = []; notes = line_of status }

-- How a call may end: the command was carried out; it was refused; a text could not be written whole; or memory ran
-- out.
pub data Outcome : Type 0 where
  CarriedOut : Outcome
  Refused : Outcome
  CutShort : Outcome
  RanOut : Outcome

-- A command is carried out also where its run trapped or was cut. Each other status is a refusal, except a write fault
-- and out of memory.
abbrev pub outcome_of : Status → Outcome
outcome_of Done = CarriedOut
outcome_of (Trapped kind) = CarriedOut
outcome_of Cut = CarriedOut
outcome_of WriteFault = CutShort
outcome_of NoMemory = RanOut
outcome_of _ = Refused

-- ---- what is written

-- What the sinks held before a call, and hold after it.
pub record Sinks : Type 0 where
  pub out : SinkState
  pub out_new : SinkState
  pub notes : SinkState
  pub notes_new : SinkState

-- The sinks of a call: that of out before and after it, then that of notes before and after it.
abbrev pub sinks : SinkState → SinkState → SinkState → SinkState → Sinks
sinks out out_new notes notes_new =
    record { out = out; out_new = out_new; notes = notes; notes_new = notes_new }

-- The line of a status, or a prefix of it where the write failed.
abbrev pub PutsLine : Status → SinkState → SinkState → Type 0
PutsLine status old new = AppendsAll old new (line_of status) ⊎ AppendsPrefix old new (line_of status)

-- Both texts are written whole.
pub record WritesBoth (s : Sinks) (answer : Answer) : Type 0 where
  pub out : AppendsAll s.out s.out_new answer.out
  pub notes : AppendsAll s.notes s.notes_new answer.notes

-- Nothing is written on out, and the line of the status on notes.
pub record WritesLine (s : Sinks) (status : Status) : Type 0 where
  pub out : s.out_new ≡ s.out
  pub notes : PutsLine status s.notes s.notes_new

-- The text for out was cut short, and nothing of that for notes was written; then the line of the write fault was
-- tried.
pub record CutsOut (s : Sinks) (answer : Answer) : Type 0 where
  pub out : AppendsPrefix s.out s.out_new answer.out
  pub notes : PutsLine WriteFault s.notes s.notes_new

-- The text for out was written whole, and that for notes was cut short; then the line of the write fault was tried.
pub record CutsNotes (s : Sinks) (answer : Answer) : Type 0 where
  pub out : AppendsAll s.out s.out_new answer.out
  pub cut : SinkState
  pub notes : AppendsPrefix s.notes cut answer.notes
  pub line : PutsLine WriteFault cut s.notes_new

-- A front of the text for out is written, and no write has failed.
pub record WritesFront (s : Sinks) (answer : Answer) : Type 0 where
  pub front : List ℕ
  pub missing : List ℕ
  pub parts : answer.out ≡ front ++ missing
  pub written : AppendsAll s.out s.out_new front

-- ---- the answers, by their outcome

-- The command has an answer with this status, of which P holds.
pub record HasAnswer (table : Answer → Type 0) (status : Status) (P : Answer → Type 0) : Type 0 where
  pub answer : Answer
  pub is : table answer
  pub status_is : answer.status ≡ status
  pub written : P answer

-- A command that was to be carried out was cut short.
pub record HasBeenCut (table : Answer → Type 0) (s : Sinks) : Type 0 where
  pub answer : Answer
  pub is : table answer
  pub carried_out : outcome_of answer.status ≡ CarriedOut
  pub written : CutsOut s answer ⊎ CutsNotes s answer

-- A command that writes its text for out before the whole text is made has written a front of the text.
abbrev pub HasBegun : Bool → (Answer → Type 0) → Sinks → Type 0
HasBegun true table s = (answer : Answer) × table answer × WritesFront s answer
HasBegun false table s = ⊥

-- Memory ran out. No file was missing and no read failed; and either nothing is on out, or the command had begun to
-- write.
pub record HasRunOut (table : Answer → Type 0) (begins : Bool) (old new : CabinetState) (s : Sinks) : Type 0 where
  pub met : HasMet false false old new
  pub out : (s.out_new ≡ s.out) ⊎ HasBegun begins table s
  pub line : PutsLine NoMemory s.notes s.notes_new

-- What a call does, by the outcome of its status: it writes both texts, writes the line of a refusal alone, is cut
-- short, or runs out of memory.
abbrev pub answered : Outcome → (Answer → Type 0) → Bool → CabinetState → CabinetState → Sinks → Status
    → Type 0
answered CarriedOut table begins old new s status = HasAnswer table status (WritesBoth s)
answered Refused table begins old new s status = table (refusal status) × WritesLine s status
answered CutShort table begins old new s status = HasBeenCut table s
answered RanOut table begins old new s status = HasRunOut table begins old new s

-- What a call does that ends with this status. `table` has the command's answers, and `begins` says whether the command
-- writes its text for out before the whole text is made.
pub record HasAnswered (table : Answer → Type 0) (begins : Bool) (old new : CabinetState) (s : Sinks)
    (status : Status) : Type 0 where
  pub how : answered (outcome_of status) table begins old new s status

-- What a command does on a run, once it has read its files: it gives an answer of the table and reads no more.
abbrev pub AnswersOnRun : (Answer → Type 0) → Bool → Sinks → Status → Type 0
AnswersOnRun table begins s status =
    (old new : CabinetState) → HasMet false false old new → HasAnswered table begins old new s status

-- ---- what is held back

-- Out holds nothing back, unless the call ended in a write fault. `held` is how many bytes it holds back.
abbrev pub IsDelivered : Status → ℕ → Type 0
IsDelivered status held = status ≢ WriteFault → held ≡ 0

-- ---- the end of a call

-- The call has tried to write the text for notes: it ends with the status, or with a write fault and its line.
abbrev pub Finishes : Put → Status → SinkState → SinkState → Status → Type 0
Finishes puts.Done status old new result = (result ≡ status) × (new ≡ old)
Finishes puts.Failed status old new result = (result ≡ WriteFault) × PutsLine WriteFault old new
