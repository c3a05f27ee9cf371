use Rattle.hip_lines.specs.Uses.{NumbersAreNoted}
use Rattle.hip_lines.proofs.numbers.note_bytes.Given as goal

abbrev pub invariant-loop-i : goal.invariant-loop-i
invariant-loop-i l = NumbersAreNoted l.numbers l.i l.initial.uses l.uses
