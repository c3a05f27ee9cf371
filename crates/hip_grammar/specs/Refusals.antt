-- Why a text is refused, and what the answers of the reader say of it.
use Rattle.std.specs.Prelude.{◌≡◌, ℕ, List, Result, Ok, Err}
use Rattle.hip_grammar.specs.declared.fault.TextFault.{TextFault}
use Rattle.hip_grammar.specs.declared.fault.TextFault.TheVariants as faults
use Rattle.hip_tree.specs.declared.program.Program.{Program}
use Rattle.hip_grammar.specs.ReadTexts.{IsRefusal}
use Rattle.hip_grammar.specs.declared.refusal.ParseRefusal.{ParseRefusal}
use Rattle.hip_grammar.specs.declared.refusal.ParseRefusal.TheVariants as refusals

-- The text is refused for the fault and on the line that the refusal states. `NoMemory` states nothing of the text.
abbrev pub IsCause : List ℕ → ParseRefusal → Type 0
IsCause text (refusals.Syntax line) = IsRefusal text faults.Syntax line
IsCause text (refusals.Unsupported line) = IsRefusal text faults.Unsupported line
IsCause text (refusals.Range line) = IsRefusal text faults.Range line
IsCause text (refusals.TooDeep line) = IsRefusal text faults.TooDeep line
IsCause text refusals.NoMemory = Unit {0}

-- The answer is this program, or out of memory.
abbrev pub GivesProgram : Result Program ParseRefusal → Program → Type 0
GivesProgram (Ok found) program = found ≡ program
GivesProgram (Err refusals.NoMemory) program = Unit {0}
GivesProgram (Err (refusals.Syntax line)) program = ⊥
GivesProgram (Err (refusals.Unsupported line)) program = ⊥
GivesProgram (Err (refusals.Range line)) program = ⊥
GivesProgram (Err (refusals.TooDeep line)) program = ⊥

-- The refusal for a fault on that line.
abbrev pub refusal_of : TextFault → ℕ → ParseRefusal
refusal_of faults.Syntax line = refusals.Syntax line
refusal_of faults.Unsupported line = refusals.Unsupported line
refusal_of faults.Range line = refusals.Range line
refusal_of faults.TooDeep line = refusals.TooDeep line
