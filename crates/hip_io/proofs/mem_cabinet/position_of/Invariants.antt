use Rattle.std.proofs.Common.{◌≡◌, drop}
use Rattle.hip_io.specs.Cabinets.{file_of}
use Rattle.hip_io.proofs.mem_cabinet.position_of.Given as goal

abbrev pub invariant-loop-at : goal.invariant-loop-at
invariant-loop-at l = file_of (drop l.at l.files) l.name ≡ file_of l.files l.name
