use Rattle.std.proofs.Common.{◌∙◌}
use Rattle.hip_grammar.specs.Laws.SpellingExact.{spelled_exact}
use Rattle.hip_grammar.specs.Laws.TextSpelling.{reads_spelled}
use Rattle.hip_ir.proofs.spelling.spelled.Goals as goal

pub returns-clause-read_back : goal.returns-clause-read_back
returns-clause-read_back c = rw c.program_keeps_rules.ensures (spelled_exact c.args.program.now)

pub returns-clause-only : goal.returns-clause-only
returns-clause-only c = λ text r. c.program_keeps_rules.ensures ∙ reads_spelled text c.args.program.now r
