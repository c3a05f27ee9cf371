use Rattle.std.proofs.Common.{◌+◌, ◌-◌, ◌≤◌, ◌<◌, vec_len, length}
use Rattle.hip_io.specs.Reads.{HasTakenAll}
use Rattle.hip_io.proofs.read.read_rest.Given as goal

abbrev pub decreases-more : goal.decreases-more
decreases-more g l = l.limit + 1 - vec_len l.bytes

abbrev pub invariant-more : goal.invariant-more
invariant-more g l = record {
  taken : HasTakenAll (g.C.Cabinet.state l.initial.cabinet) (g.C.Cabinet.state l.cabinet) l.bytes.items;
  few : length l.bytes.items ≤ l.limit + 1;
  room : 0 < length l.buf;
}
