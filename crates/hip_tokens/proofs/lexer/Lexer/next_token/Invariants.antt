use Rattle.std.proofs.Common.{◌≡◌, length}
use Rattle.hip_tokens.specs.Tokens.{cut}
use Rattle.hip_tokens.proofs.lexer.Lexer.next_token.Given as goal

abbrev pub invariant-loop-b : goal.invariant-loop-b
invariant-loop-b l = cut l.self.line 0 l.self.rest.now ≡ cut l.initial.self.line 0 l.initial.self.rest.now

abbrev pub decreases-loop-b : goal.decreases-loop-b
decreases-loop-b l = length l.self.rest.now
