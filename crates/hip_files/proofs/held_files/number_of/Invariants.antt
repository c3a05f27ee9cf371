use Rattle.std.proofs.Common.{◌≡◌, drop}
use Rattle.hip_io.specs.Cabinets.{file_of}
use Rattle.hip_files.proofs.held_files.number_of.Given as goal

abbrev pub invariant-each : goal.invariant-each
invariant-each l = file_of (drop l.at l.files) l.name ≡ file_of l.files l.name
