use Rattle.std.proofs.Common.{◌≡◌, drop}
use Rattle.hip_repairs.specs.Repaired.{repaired_functions}
use Rattle.hip_fix.specs.Walk.{marked_functions, wanted_in, with_functions}
use Rattle.hip_fix.proofs.repair.RepairSites.add_functions.Given as goal

abbrev pub invariant-each : goal.invariant-each
invariant-each l =
    with_functions l.made (repaired_functions l.self.clones (wanted_in l.self) l.number (drop l.number l.functions)) (marked_functions l.self.clones (wanted_in l.self) l.number (drop l.number l.functions))
    ≡ with_functions l.initial.made (repaired_functions l.self.clones (wanted_in l.self) 0 l.functions) (marked_functions l.self.clones (wanted_in l.self) 0 l.functions)
