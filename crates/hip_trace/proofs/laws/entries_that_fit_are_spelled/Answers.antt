use Rattle.hip_trace.specs.Laws.FitLaws as laws
use Rattle.hip_trace.proofs.laws.entries_that_fit_are_spelled.Goals as goal

pub returns-clause-spelled : goal.returns-clause-spelled
returns-clause-spelled c = laws.fits_spelled

pub returns-clause-fits : goal.returns-clause-fits
returns-clause-fits c = laws.spelled_fits
