use Rattle.hip_runs.specs.Laws.CrashLaws.{choice-image}
use Rattle.hip_runs.specs.Laws.HistoryLaws.{lines_ordered}
use Rattle.hip_runs.specs.Step.{run}
use Rattle.hip_crash.proofs.PickLaws.{fit-pick}
use Rattle.hip_crash.specs.Picks.{picked}
use Rattle.hip_crash.proofs.laws.fitting_picks_give_images.Goals as goal

pub returns : goal.returns
returns c = λ P I n picks valid fit.
    choice-image P I n (picked (run P I n) picks) valid (fit-pick (run P I n) picks (lines_ordered P I n) fit)
