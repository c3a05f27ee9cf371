use Rattle.hip_runs.specs.Laws.SinceLaws.{flush_stated, one_first}
use Rattle.hip_runs.proofs.history.first_flushes_are_stated.Goals as goal

pub returns : goal.returns
returns c = record { stated = flush_stated; one = one_first }
