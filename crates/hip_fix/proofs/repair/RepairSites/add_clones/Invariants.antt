use Rattle.std.proofs.Common.{◌≡◌, drop}
use Rattle.hip_repairs.specs.Repaired.{clone_functions}
use Rattle.hip_fix.specs.Walk.{marked_clones, wanted_in, with_functions}
use Rattle.hip_fix.proofs.repair.RepairSites.add_clones.Given as goal

abbrev pub invariant-each : goal.invariant-each
invariant-each l =
    with_functions l.made (clone_functions l.program l.self.clones (wanted_in l.self) (drop l.place l.originals) (drop l.place l.names)) (marked_clones l.program l.self.clones (wanted_in l.self) (drop l.place l.originals))
    ≡ with_functions l.initial.made (clone_functions l.program l.self.clones (wanted_in l.self) l.originals l.names) (marked_clones l.program l.self.clones (wanted_in l.self) l.originals)
