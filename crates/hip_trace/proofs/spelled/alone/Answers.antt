use Rattle.hip_trace.specs.Laws.FieldLaws.{not_alone}
use Rattle.hip_trace.proofs.spelled.alone.Goals as goal

pub returns-in-Some : goal.returns-in-Some
returns-in-Some c = rw c.in-Some.is (not_alone c.args.entry c.in-Some.field-0.now)
