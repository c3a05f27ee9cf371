use Rattle.std.proofs.Common.{◌≡◌, ◌<◌, ◌≤◌, ◌-◌, ◌^◌, drop}
use Rattle.hip_globals.specs.Addresses.{start_of, end_of}
use Rattle.hip_globals.proofs.addresses.start_of.Given as goal

abbrev pub invariant-each : goal.invariant-each
invariant-each l =
    record {
      within : l.index ≤ l.number;
      fits : l.at < 2 ^ 64;
      start : start_of l.persistent l.at (drop l.index l.globals) (l.number - l.index) ≡ start_of l.persistent l.initial.at l.globals l.number;
      end : end_of l.persistent l.at (drop l.index l.globals) ≡ end_of l.persistent l.initial.at l.globals;
    }
