use Rattle.std.proofs.Common.{length, ◌∙◌}
use Rattle.hip_lines.proofs.Shows.{cleared-numbers}
use Rattle.hip_lines.proofs.numbers.let_go.Goals as goal

pub returns-then-count-len-clause-numbers : goal.returns-then-count-len-clause-numbers
returns-then-count-len-clause-numbers c = cleared-numbers c.args.numbers.now 64 (length c.args.tags.now.items) c.args.count (c.if-count-len.true ∙ c.len.ensures ∙ c.args.tags.now.ok.0) c.requires.numbered
