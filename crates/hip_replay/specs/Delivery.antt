-- The end of a text: the sink delivers what it holds back.
use Rattle.std.specs.Prelude.{ℕ, ◌≡◌, [], Result, Ok, Err}
use Rattle.hip_io.specs.Sinks.{SinkState, AppendsAll, AppendsPrefix}
use Rattle.hip_replay.specs.declared.refusal.RecordRefusal.{RecordRefusal}
use Rattle.hip_replay.specs.declared.refusal.RecordRefusal.TheVariants as refusals

-- Out holds nothing back after a refusal, unless a write failed. `held` is how many bytes it holds back.
abbrev pub HoldsNothingAfter : RecordRefusal → ℕ → Type 0
HoldsNothingAfter refusals.NoMemory held = held ≡ 0
HoldsNothingAfter refusals.WriteFault held = Unit {0}

-- Out holds nothing back at the end, unless a write failed.
abbrev pub HoldsNothing : {T : Type 0} → Result T RecordRefusal → ℕ → Type 0
HoldsNothing (Ok value) held = held ≡ 0
HoldsNothing (Err refusal) held = HoldsNothingAfter refusal held

-- Memory ran out, and nothing more is given to the sink. The refusal is a write fault if the delivery failed.
abbrev pub EndsOutOfMemory : SinkState → SinkState → RecordRefusal → Type 0
EndsOutOfMemory old new refusals.NoMemory = AppendsAll old new []
EndsOutOfMemory old new refusals.WriteFault = AppendsPrefix old new []
