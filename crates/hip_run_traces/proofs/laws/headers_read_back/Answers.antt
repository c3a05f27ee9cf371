use Rattle.hip_run_traces.specs.Laws.HeaderLaws.{header-trace}
use Rattle.hip_run_traces.proofs.laws.headers_read_back.Goals as goal

pub returns : goal.returns
returns c = λ P I n valid. header-trace P I valid n
