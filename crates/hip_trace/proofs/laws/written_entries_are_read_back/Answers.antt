use Rattle.hip_trace.specs.Laws.WrittenLaws as laws
use Rattle.hip_trace.proofs.laws.written_entries_are_read_back.Goals as goal

pub returns : goal.returns
returns c = laws.read_back
