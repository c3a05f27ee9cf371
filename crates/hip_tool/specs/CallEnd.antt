-- The end of a call: what the notes hold back is sent out.
use Rattle.std.specs.Prelude.{ℕ, ◌≡◌, ◌⊎◌, ◌≤◌, Bool, true, false, []}
use Rattle.hip_answers.specs.Answers.{CarriedOut, Outcome, PutsLine, outcome_of}
use Rattle.hip_answers.specs.declared.status.Status.{Status}
use Rattle.hip_answers.specs.declared.status.Status.TheVariants.{WriteFault}
use Rattle.hip_io.specs.Counts.{Rose}
use Rattle.hip_io.specs.Sinks.{HasPut, SinkState}
use Rattle.hip_io.specs.declared.sink.Put.{Put}
use Rattle.hip_io.specs.declared.sink.Put.TheVariants as puts

-- Whether the outcome is that the command was carried out.
abbrev pub is_carried : Outcome → Bool
is_carried CarriedOut = true
is_carried _ = false

-- Whether a call that ends with this status has carried out its command.
abbrev pub is_carried_out : Status → Bool
is_carried_out status = is_carried (outcome_of status)

-- How a call ends that has tried to send out its notes, by the outcome: with its status; but if a write failed and the
-- command was carried out, with a write fault and its line.
abbrev pub EndsBy : Put → Bool → Status → SinkState → SinkState → Status → Type 0
EndsBy puts.Failed true status sent new result = (result ≡ WriteFault) × PutsLine WriteFault sent new
EndsBy puts.Failed false status sent new result = (result ≡ status) × (new ≡ sent)
EndsBy puts.Done carried status sent new result = (result ≡ status) × (new ≡ sent)

-- The call has tried to send out what the notes hold back, and then it ended.
pub record Closes (status : Status) (old new : SinkState) (result : Status) : Type 0 where
  pub put : Put
  pub sent : SinkState
  pub tried : HasPut old sent [] put
  pub ends : EndsBy put (is_carried_out status) status sent new result

-- The sink holds nothing back, unless a write to it failed in the call. `held` is how many bytes it holds back.
abbrev pub IsSentOut : SinkState → SinkState → ℕ → Type 0
IsSentOut old new held = (held ≡ 0) ⊎ ((old.faults ≤ new.faults) × Rose old.faults new.faults)
