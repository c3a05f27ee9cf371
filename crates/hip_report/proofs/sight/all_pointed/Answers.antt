use Rattle.std.proofs.Common.{◌∙◌, ℕ, List, ap, slice_get}
use Rattle.hip_report.proofs.sight.all_pointed.Goals as goal

pub pointed_among-requires-clause-values : goal.pointed_among-requires-clause-values
pointed_among-requires-clause-values c operand = ap (λ (values : List ℕ). slice_get values operand) c.as_slice.ensures ∙ c.in_ok-values.ensures operand
