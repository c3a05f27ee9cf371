-- What one more entry of a header gives.
use Rattle.std.specs.Prelude.{◌≡◌, ℕ, ℤ, Bool, true, false, List, [], Option, Some, None, Result, Ok, Err}
use Rattle.hip_tree.specs.declared.program.Program.{Program}
use Rattle.hip_run_traces.specs.Headers.{with_entry, with_line, with_number}
use Rattle.hip_runs.specs.declared.input.Input.{Input}
use Rattle.hip_trace.specs.declared.entry.Entry.{Entry}
use Rattle.hip_types.specs.declared.memory.NoMemory.{NoMemory}
use Rattle.hip_lockstep.specs.declared.given.Given.{Given}

-- No INPUT or IMAGE entry has given anything.
abbrev pub IsEmpty : Given → Type 0
IsEmpty g = (g.numbers ≡ []) × (g.image ≡ [])

-- The input that a header has given so far; its initial bytes go up to the end of the cache line of the last IMAGE.
abbrev pub input_of : Given → Input
input_of g = record { base = g.base; image = g.image; numbers = g.numbers; limit = g.limit }

-- Whether there is a next input and it was taken; nothing is known after out of memory.
abbrev pub Takes : Option Input → Input → Input → Result Bool NoMemory → Type 0
Takes next old new (Ok true) = next ≡ Some new
Takes next old new (Ok false) = (next ≡ None) × (new ≡ old)
Takes next old new (Err e) = Unit {0}

-- An INPUT with this number is taken exactly if it is valid after what was given.
abbrev pub TakesNumber : ℤ → Input → Input → Result Bool NoMemory → Type 0
TakesNumber number old new result = Takes (with_number old number) old new result

-- An IMAGE of these bytes at an address is taken exactly if it is valid after what was given.
abbrev pub TakesLine : Program → ℕ → List ℕ → Input → Input → Result Bool NoMemory → Type 0
TakesLine P addr bytes old new result = Takes (with_line P old addr bytes) old new result

-- An entry is taken exactly if it is an INPUT or IMAGE that is valid after what was given.
abbrev pub TakesEntry : Program → Entry → Input → Input → Result Bool NoMemory → Type 0
TakesEntry P e old new result = Takes (with_entry P old (Some e)) old new result
