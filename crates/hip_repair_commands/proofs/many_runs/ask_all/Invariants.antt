use Rattle.std.proofs.Common.{◌≤◌, ◌*◌, ◌^◌}
use Rattle.hip_repair_commands.proofs.Loads.{HasAskedSome}
use Rattle.hip_repair_commands.proofs.many_runs.ask_all.Given as goal

abbrev pub invariant-traces : goal.invariant-traces
invariant-traces g l = record {
  asked : HasAskedSome l.checked l.traces (g.C.Cabinet.state l.fn.cabinet) l.index l.plans l.reports (g.C.Cabinet.state l.cabinet);
  few : l.reports ≤ l.index * 2 ^ 64;
}
