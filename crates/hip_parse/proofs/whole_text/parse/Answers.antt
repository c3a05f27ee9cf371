use Rattle.std.proofs.Common.{sym, ap, ◌∙◌}
use Rattle.hip_grammar.specs.Laws.SpellingExact.{read_is_spelled}
use Rattle.hip_grammar.specs.Laws.TextExact.{whole_text, fault_at, read_is, refused_is, only_is, never_derived}
use Rattle.hip_parse.specs.Left.{left}
use Rattle.hip_parse.proofs.Causes.{cause_of}
use Rattle.hip_parse.proofs.whole_text.parse.Goals as goal

pub returns-in-Ok-clause-read : goal.returns-in-Ok-clause-read
returns-in-Ok-clause-read c = read_is _ _ (left c.whole.new.self) (ap whole_text (sym c.new-parser.ensures) ∙ c.in-Ok.ensures)

pub returns-in-Ok-clause-spelled : goal.returns-in-Ok-clause-spelled
returns-in-Ok-clause-spelled c = read_is_spelled _ _ (read_is _ _ (left c.whole.new.self) (ap whole_text (sym c.new-parser.ensures) ∙ c.in-Ok.ensures))

pub returns-in-Ok-clause-only : goal.returns-in-Ok-clause-only
returns-in-Ok-clause-only c = λ program t. only_is _ _ program (left c.whole.new.self) (ap whole_text (sym c.new-parser.ensures) ∙ c.in-Ok.ensures) t

pub returns-in-Err-Refused-clause-only : goal.returns-in-Err-Refused-clause-only
returns-in-Err-Refused-clause-only c = λ program t. absurd (never_derived _ c.in-Err-Refused.why (left c.whole.new.self) program (ap whole_text (sym c.new-parser.ensures) ∙ (rw c.in-Err-Refused.field-0-is at c.in-Err-Refused.ensures)) t)

pub returns-in-Err-Refused-clause-refused : goal.returns-in-Err-Refused-clause-refused
returns-in-Err-Refused-clause-refused c =
    rw (c.refusal.ensures, c.fault.ensures) (cause_of _ (fault_at c.in-Err-Refused.why (left c.whole.new.self)) _ (left c.whole.new.self, refused_is _ c.in-Err-Refused.why _ (ap whole_text (sym c.new-parser.ensures) ∙ (rw c.in-Err-Refused.field-0-is at c.in-Err-Refused.ensures)), c.line.ensures))
