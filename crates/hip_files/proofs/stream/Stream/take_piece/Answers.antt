use Rattle.std.specs.Io.KnownBytes.{append_known}
use Rattle.hip_files.proofs.Pieces.{took_then_kept}
use Rattle.hip_files.proofs.stream.Stream.take_piece.Goals as goal

pub returns-in-Done-clause-bytes : goal.returns-in-Done-clause-bytes
returns-in-Done-clause-bytes g c =
    took_then_kept
    (append_known (g.W.Write.contents c.args.self.now.out) c.args.self.now.held)
    (append_known (g.W.Write.contents c.hold.new.self.out) c.hold.new.self.held)
    (append_known (g.W.Write.contents c.send_line.new.self.out) c.send_line.new.self.held)
    c.args.piece.now c.send_line.result c.in-Done.ensures.bytes c.send_line.ensures.bytes
