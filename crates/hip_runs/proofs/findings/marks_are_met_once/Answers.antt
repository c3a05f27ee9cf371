use Rattle.hip_runs.proofs.findings.marks_are_met_once.Goals as goal
use Rattle.hip_runs.specs.Laws.Found.FoundLaws.{pointed-distinct, hit-distinct, met-append}

pub returns : goal.returns
returns c = record { pointed = λ P I n. pointed-distinct P I n; hit = λ P I n. hit-distinct P I n; marks = λ xs ys zs. met-append _ xs ys zs }
