use Rattle.std.proofs.Common.{◌≡◌, drop}
use Rattle.hip_repairs.specs.Repaired.{repaired_body}
use Rattle.hip_fix.specs.Walk.{grown, wanted_in}
use Rattle.hip_fix.proofs.repair.RepairSites.add_body.Given as goal

abbrev pub invariant-each : goal.invariant-each
invariant-each l =
    grown l.out (repaired_body l.self.clones (wanted_in l.self) l.place.is_clone l.place.function l.block l.index (drop l.index l.body))
    ≡ grown l.initial.out (repaired_body l.self.clones (wanted_in l.self) l.place.is_clone l.place.function l.block 0 l.body)
