use Rattle.hip_command_io.proofs.Traces.{fetched_once, loaded, replay_stays}
use Rattle.hip_command_io.proofs.trace.load_trace.Goals as goal

pub returns-in-Ok-clause-loads : goal.returns-in-Ok-clause-loads
returns-in-Ok-clause-loads g c = (
  loaded c.args.checked.now c.in-Ok.ensures.0 c.in-Ready.ensures c.args.sought c.in-Ok.replayed c.in-Ok.ensures.1,
  fetched_once c.in-Ready.ensures c.in-Ok.ensures.1.reading.stays,
)

pub returns-in-Ok-clause-fetches : goal.returns-in-Ok-clause-fetches
returns-in-Ok-clause-fetches g c = fetched_once c.in-Ready.ensures c.in-Ok.ensures.1.reading.stays

pub returns-in-Err-clause-fetches : goal.returns-in-Err-clause-fetches
returns-in-Err-clause-fetches g c =
    fetched_once c.in-Ready.ensures (replay_stays _ _ _ _ c.in-Err.refusal c.in-Err.ensures.1)
