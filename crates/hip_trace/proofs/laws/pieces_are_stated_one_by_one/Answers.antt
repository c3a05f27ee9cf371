use Rattle.hip_trace.specs.Laws.PieceLaws as laws
use Rattle.hip_trace.proofs.laws.pieces_are_stated_one_by_one.Goals as goal

pub returns : goal.returns
returns c = laws.spelled_first
