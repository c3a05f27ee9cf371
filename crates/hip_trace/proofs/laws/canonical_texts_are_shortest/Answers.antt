use Rattle.hip_trace.specs.Laws.TextLaws as laws
use Rattle.hip_trace.proofs.laws.canonical_texts_are_shortest.Goals as goal

pub returns : goal.returns
returns c = laws.shortest
