use Rattle.hip_runs.proofs.findings.same_marks_are_equal.Goals as goal
use Rattle.hip_runs.specs.Laws.Found.FoundLaws.{same_mark_equal, mark_same}

pub returns : goal.returns
returns c = record { same = λ a b h. same_mark_equal a b h; equal = λ a b e. mark_same a b e }
