use Rattle.std.proofs.Common.{◌≤◌, length, take}
use Rattle.std.specs.Io.KnownBytes.{Appends}
use Rattle.hip_files.proofs.stream.write_front.Given as goal

abbrev pub invariant-sending : goal.invariant-sending
invariant-sending g l = (l.written ≤ length l.bytes)
    × Appends (g.W.Write.contents l.initial.out) (g.W.Write.contents l.out) (take l.written l.bytes)
