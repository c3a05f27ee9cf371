use Rattle.hip_trace.specs.Laws.FieldLaws.{not_one}
use Rattle.hip_trace.proofs.fields.one_field.Goals as goal

pub returns-in-Some-rest : goal.returns-in-Some-rest
returns-in-Some-rest c = rw (c.in-Some.is, c.first_field.ensures, c.in-Some-rest.is) (not_one c.first_field.result.0.now c.in-Some-rest.field-0.now)
