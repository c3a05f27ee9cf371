use Rattle.std.proofs.Common.{◌≡◌, ◌++◌, drop}
use Rattle.hip_repairs.specs.Repaired.{repaired_blocks}
use Rattle.hip_fix.specs.Walk.{marked_blocks, noted, wanted_in}
use Rattle.hip_fix.proofs.repair.RepairSites.blocks.Given as goal

abbrev pub invariant-each : goal.invariant-each
invariant-each l = record {
  blocks : l.repaired ++ repaired_blocks l.self.clones (wanted_in l.self) l.place.is_clone l.place.function l.number (drop l.number l.blocks)
      ≡ repaired_blocks l.self.clones (wanted_in l.self) l.place.is_clone l.place.function 0 l.blocks;
  needed : noted l.needed (marked_blocks l.self.clones (wanted_in l.self) l.place.is_clone l.place.function l.number (drop l.number l.blocks))
      ≡ noted l.initial.needed (marked_blocks l.self.clones (wanted_in l.self) l.place.is_clone l.place.function 0 l.blocks);
}
