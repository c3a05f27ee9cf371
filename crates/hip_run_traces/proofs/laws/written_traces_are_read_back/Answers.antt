use Rattle.hip_run_traces.specs.Laws.WrittenLaws.{written-trace}
use Rattle.hip_run_traces.proofs.laws.written_traces_are_read_back.Goals as goal

pub returns : goal.returns
returns c = written-trace
