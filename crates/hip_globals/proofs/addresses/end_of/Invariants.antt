use Rattle.std.proofs.Common.{◌≡◌, ◌<◌, ◌^◌, drop}
use Rattle.hip_globals.specs.Addresses.{end_of}
use Rattle.hip_globals.proofs.addresses.end_of.Given as goal

abbrev pub invariant-globals : goal.invariant-globals
invariant-globals l =
    record {
      fits : l.at < 2 ^ 64;
      end : end_of l.persistent l.at (drop l.global-index l.globals) ≡ end_of l.persistent l.initial.at l.globals;
    }
