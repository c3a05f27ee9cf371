use Rattle.std.proofs.KnownBytes.{Appends-kept}
use Rattle.hip_files.proofs.Pieces.{written_more}
use Rattle.hip_files.proofs.stream.write_front.Goals as goal
use Rattle.hip_files.proofs.stream.write_front.Goals.{in-Ok+else-count-eq0, in-Err}

pub returns-after-sending-clause-bytes : goal.returns-after-sending-clause-bytes
returns-after-sending-clause-bytes g c = c.sending.invariant.1

pub returns-then-written-bytes-clause-bytes : goal.returns-then-written-bytes-clause-bytes
returns-then-written-bytes-clause-bytes g c = c.sending.invariant.1

pub returns-in-Err-2-clause-bytes : goal.returns-in-Err-2-clause-bytes
returns-in-Err-2-clause-bytes g c =
    Appends-kept _ _ _ _ c.sending.invariant.1 c.in-Err.ensures.bytes

pub sending-preserved : goal.sending-preserved
sending-preserved g c = elim c.match-write.branch [
  | in-Ok+else-count-eq0 w ↦ rw w.written-is (
      written_more _ _ _ c.args.bytes.now c.sending.written w.in-Ok.count c.sending.invariant.0
      w.in-Ok.ensures.bound c.sending.invariant.1 w.in-Ok.ensures.bytes)
  | in-Err w ↦ rw w.written-is (
      (c.sending.invariant.0, Appends-kept _ _ _ _ c.sending.invariant.1 w.in-Err.ensures.bytes))
]
