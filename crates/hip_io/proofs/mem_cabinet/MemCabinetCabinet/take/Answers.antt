use Rattle.std.proofs.Common.{slice_get, arith}
use Rattle.std.proofs.lemmas.Grind.{common_steps}
use Rattle.hip_io.proofs.Pieces.{gives_next}
use Rattle.hip_io.proofs.mem_cabinet.MemCabinetCabinet.take.Goals as goal

pub returns-clause-take : goal.returns-clause-take
returns-clause-take c =
    let count = c.copy_some-count.ensures.count in
    rw (← c.self.view_is, c.in-Some.is) (gives_next c.self.inside.files c.self.inside.chunk c.self.inside.fetches c.self.inside.misses (slice_get c.self.inside.files c.in-Some.place.file) c.in-Some.place.taken c.copy_some-count.result c.rest_of-rest.result.now c.copy_some-count.new.buf
    c.rest_of-rest.ensures.rest (grind (arith, common_steps, count, c.self.invariant, c.requires.room, c.if-is_empty.ensures)) (grind (arith, common_steps, count, c.copy_some-count.ensures.length)) c.copy_some-count.ensures.bytes)
