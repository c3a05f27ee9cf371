use Rattle.hip_files.proofs.Pieces.{has_put}
use Rattle.hip_files.proofs.stream.StreamSink.put.Goals as goal

pub returns : goal.returns
returns g c =
    has_put g.W.Device.reveals _ _ _ _ c.args.bytes.now _ _ c.take_piece.result
    (g.met.W.Device.revealed c.args.self.now.out) c.take_piece.ensures.bytes c.take_piece.ensures.counts
