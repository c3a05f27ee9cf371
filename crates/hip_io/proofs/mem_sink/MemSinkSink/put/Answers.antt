use Rattle.std.proofs.Common.{arith}
use Rattle.std.proofs.lemmas.Grind.{common_steps}
use Rattle.hip_io.proofs.Pieces.{keeps_prefix}
use Rattle.hip_io.proofs.mem_sink.MemSinkSink.put.Goals as goal

pub returns-clause-put : goal.returns-clause-put
returns-clause-put c =
    keeps_prefix c.args.self.now (record { bytes = c.self-2.inside.bytes.items; room = c.self-2.inside.room; faults = c.saturating_add-self-inside.result }) c.args.bytes.now
    (grind (arith, common_steps, c.append-2.ensures.bytes, c.self-2.view_is, c.self.view_is))
    (grind (arith, common_steps, c.append-2.ensures.faults, c.self-2.view_is, c.self.view_is))
    (grind (arith, common_steps, c.append-2.ensures.faults, c.self-2.view_is, c.self.view_is))
