-- What a function of the verifier answers for a requirement.
use Rattle.std.specs.Prelude.{◌≡◌, Bool, Option, Some, None, Result, Ok, Err, if◌then◌else◌}
use Rattle.hip_sound.specs.declared.fault.Fault.{Fault}
use Rattle.hip_sound.specs.declared.fault.Finding.{Finding}
use Rattle.hip_sound.specs.declared.fault.Place.{Place}
use Rattle.hip_typing.specs.declared.refused.Refused.{Refused}
use Rattle.hip_typing.specs.declared.refused.Refused.TheVariants as refused

-- The answer is the first finding, if there is one. Out of memory says nothing about the findings.
abbrev pub Answers : {T : Type 0} → Result T Refused → Option Finding → Type 0
Answers (Ok _) found = found ≡ None
Answers (Err (refused.Found f)) found = found ≡ Some f
Answers (Err refused.NoMemory) found = Unit {0}

-- What a rule with this test finds at the place: nothing if the test passes, else the fault.
abbrev pub asked : Bool → Fault → Place → Option Finding
asked test fault place = if test then None else Some (record { fault = fault; place = place })
