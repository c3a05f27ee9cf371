-- What a write does to a sink.
use Rattle.std.specs.Prelude.{ℕ, ◌≤◌, ◌≡◌, List, ◌++◌, Option, option_map, Result, Ok, Err}
use Rattle.hip_io.specs.Counts.{Rose}
use Rattle.hip_io.specs.declared.sink.Put.{Put}
use Rattle.hip_io.specs.declared.sink.Put.TheVariants.{Done, Failed}

-- What contracts see of a sink: the bytes that it was given, if they are known, and how often it has failed.
pub record SinkState : Type 0 where
  pub bytes : Option (List ℕ)
  pub faults : ℕ

-- The whole text was appended, and nothing failed.
pub record AppendsAll (old new : SinkState) (text : List ℕ) : Type 0 where
  pub bytes : new.bytes ≡ option_map (λ b. b ++ text) old.bytes
  pub faults : new.faults ≡ old.faults

-- A write failed, and a prefix of the text was appended.
pub record AppendsPrefix (old new : SinkState) (text : List ℕ) : Type 0 where
  pub written : List ℕ
  pub missing : List ℕ
  pub parts : text ≡ written ++ missing
  pub bytes : new.bytes ≡ option_map (λ b. b ++ written) old.bytes
  pub later : old.faults ≤ new.faults
  pub rose : Rose old.faults new.faults

-- What a `put` of the text does, by its answer.
abbrev pub HasPut : SinkState → SinkState → List ℕ → Put → Type 0
HasPut old new text Done = AppendsAll old new text
HasPut old new text Failed = AppendsPrefix old new text

-- What a writer of the text does, by its answer.
abbrev pub Wrote : {T E : Type 0} → SinkState → SinkState → List ℕ → Result T E → Type 0
Wrote old new text (Ok _) = AppendsAll old new text
Wrote old new text (Err _) = AppendsPrefix old new text

-- Nothing more is written once a piece has failed.
pub record StaysFailed (after : Put) (old new : SinkState) : Type 0 where
  pub answer : after ≡ Failed
  pub state : new ≡ old

-- What a stage does, by the outcome of those before it: a `put` of the text if none has failed, else nothing.
abbrev pub writes_from : Put → Put → SinkState → SinkState → List ℕ → Type 0
writes_from Done after old new text = HasPut old new text after
writes_from Failed after old new text = StaysFailed after old new

-- One stage of a writer. It takes the outcome of the stages before it, and answers that outcome or its own failure.
-- It is a record, so that a law can infer its arguments.
pub record Writes (before after : Put) (old new : SinkState) (text : List ℕ) : Type 0 where
  pub how : writes_from before after old new text

-- The last stage of a text: what it does, and that the sink then holds nothing back, unless a write has failed. `held`
-- is how many bytes the sink holds back after it.
pub record Delivers (before after : Put) (old new : SinkState) (held : ℕ) (text : List ℕ) : Type 0 where
  pub how : writes_from before after old new text
  pub out : after ≡ Done → held ≡ 0
