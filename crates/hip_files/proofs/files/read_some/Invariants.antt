use Rattle.std.proofs.Common.{◌<◌, length}
use Rattle.std.specs.Io.KnownBytes.{Keeps}
use Rattle.hip_files.proofs.files.read_some.Given as goal

abbrev pub invariant-tries : goal.invariant-tries
invariant-tries g l = (0 < length l.buf) × Keeps (g.F.Read.remaining l.initial.file) (g.F.Read.remaining l.file)
