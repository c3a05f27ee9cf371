use Rattle.hip_run_traces.specs.Laws.DecidedLaws.{front-decided, whole-decided}
use Rattle.hip_run_traces.proofs.laws.misfits_are_decided.Goals as goal

pub returns-clause-whole : goal.returns-clause-whole
returns-clause-whole c = whole-decided

pub returns-clause-front : goal.returns-clause-front
returns-clause-front c = front-decided
