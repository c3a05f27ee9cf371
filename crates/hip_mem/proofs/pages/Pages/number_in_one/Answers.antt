use Rattle.std.proofs.Common.{◌∙◌, arith}
use Rattle.hip_mem.specs.Laws.BytesLaws.{from_le_bytes-little_endian}
use Rattle.hip_mem.proofs.RamCalls.{number-of, zero_index}
use Rattle.hip_mem.proofs.pages.Pages.number_in_one.Goals as goal

pub returns : goal.returns
returns c =
    c.from_le_bytes.ensures
    ∙ from_le_bytes-little_endian c.read_one.new.into c.read_one.ensures.len
    ∙ number-of c.args.self.now c.args.addr c.args.size c.read_one.new.into (omega (arith, c.read_one.ensures.len, c.requires.few)) c.read_one.ensures.low (λ i h. c.read_one.ensures.high i h ∙ zero_index 8 i)
