use Rattle.std.proofs.Common.{◌≡◌, false, eqb, sym, ◌∙◌, rules, tests}
use Rattle.hip_tokens.specs.Cuts.{after_comment, at_token}
use Rattle.hip_tokens.proofs.lexer.Lexer.next_token.Goals as goal

pub loop-b-preserved : goal.loop-b-preserved
loop-b-preserved c = after_comment _ _ _ _ _ _ c.in-Some.ensures.cases.0 c.if-b-eq59.true c.comment_len.ensures.value c.split_at.ensures.back ∙ c.loop-b.invariant

pub returns-else-b-eq59 : goal.returns-else-b-eq59
returns-else-b-eq59 c =
    let semi : eqb c.in-Some.b.now 59 ≡ false = search (rules, tests) in
    sym c.loop-b.invariant ∙ at_token _ _ _ _ _ _ _ c.in-Some.ensures.cases.0 (sym c.is_blank.ensures ∙ c.if-is_blank.false) semi c.token_at-more.ensures.value c.split_at-else-b-eq59.ensures.back
