use Rattle.hip_invariants.specs.Laws.Bounds.{run_bounded, counts_fit}
use Rattle.hip_invariants.proofs.laws.runs_are_bounded.Goals as goal

pub returns : goal.returns
returns c = record { bounded = λ P I n. run_bounded P I n; fit = λ P I s v l n. counts_fit P I s v l n }
