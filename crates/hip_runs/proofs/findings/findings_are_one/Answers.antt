use Rattle.hip_runs.proofs.findings.findings_are_one.Goals as goal
use Rattle.hip_runs.specs.Laws.Found.FoundLaws.{found_exists, found_is_one}

pub returns : goal.returns
returns c = record { there = λ P I. found_exists P I; one = λ P I a b f g. found_is_one P I a b f g }
