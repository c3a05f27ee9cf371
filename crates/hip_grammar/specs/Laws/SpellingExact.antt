-- The rules on the tree are exactly what lets a program be read back.
use Rattle.std.specs.Prelude.{◌≡◌, ◌↔◌, ℕ, true, List}
use Rattle.hip_tree.specs.declared.program.Program.{Program}
use Rattle.hip_grammar.specs.ReadTexts.{Reads, IsSpelled}
use Rattle.hip_grammar.specs.Show.{show}
use Rattle.hip_grammar.specs.Spelling.{spelled_program}
use Rattle.hip_grammar.specs.Laws.TextSpelling.{reads_spelled}
use Rattle.hip_grammar.specs.Laws.WrittenText.{spelled_is_read}

-- A program meets the rules exactly if its canonical text reads as it.
pub spelled_exact : (program : Program) → (spelled_program program ≡ true) ↔ IsSpelled program
spelled_exact program = (spelled_is_read program, reads_spelled (show program) program)

-- A program that some text reads as is the one that its own canonical text reads as.
pub read_is_spelled : (bytes : List ℕ) (program : Program) → Reads bytes program → IsSpelled program
read_is_spelled bytes program r = spelled_is_read program (reads_spelled bytes program r)
