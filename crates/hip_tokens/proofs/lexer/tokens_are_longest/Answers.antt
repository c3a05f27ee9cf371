use Rattle.hip_tokens.proofs.Longest.{is_longest}
use Rattle.hip_tokens.proofs.lexer.tokens_are_longest.Goals as goal

pub returns : goal.returns
returns c = is_longest
