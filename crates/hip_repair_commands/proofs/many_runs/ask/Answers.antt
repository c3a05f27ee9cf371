use Rattle.std.proofs.Common.{length, refl, ap, ◌∙◌}
use Rattle.hip_repair_commands.proofs.many_runs.ask.Goals as goal

pub returns-clause-asks : goal.returns-clause-asks
returns-clause-asks g c = record {
  run = record {
    name = c.args.name.now;
    input = c.in_ok-replayed.replayed.input;
    found = c.in_ok-replayed.replayed.findings;
  };
  named = refl;
  is = record {
    traced = c.in_ok-replayed.ensures.loads.0.traced;
    valid = c.in_ok-replayed.ensures.loads.0.valid;
    found_is = c.in_ok-replayed.ensures.loads.0.found;
  };
  met = c.in_ok-replayed.ensures.loads.0.met;
  fetches = c.in_ok-replayed.ensures.fetches;
  plan_is = c.in_ok-plan.ensures.is;
  reports_are = c.len.ensures ∙ ap length c.reports.ensures;
}
