use Rattle.std.proofs.Common.{refl}
use Rattle.std.specs.Prelude.{◌==◌}
use Rattle.hip_tokens.specs.Bytes.{byte}
use Rattle.hip_trace.specs.Laws.FieldLaws.{first_part, only_part}
use Rattle.hip_trace.proofs.fields.first_field.Goals as goal

pub returns-then-n-text : goal.returns-then-n-text
returns-then-n-text c =
    rw (c.split_at.ensures.front, c.split_at-then-n-text.ensures.back) (first_part (λ b. b == byte ";") c.args.text.now c.field_len-n.result _ c.field_len-n.ensures.value c.if-n-text.true refl)

pub returns-else-n-text : goal.returns-else-n-text
returns-else-n-text c = only_part (λ b. b == byte ";") c.args.text.now c.field_len-n.result c.field_len-n.ensures.value c.if-n-text.false
