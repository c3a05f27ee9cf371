use Rattle.std.proofs.Common.{arith, ap, ◌∙◌, sym, slice_index}
use Rattle.hip_mem.specs.Laws.BytesLaws.{to_le_bytes-bytes_of}
use Rattle.hip_crash.proofs.Bytes.{byte-any, byte-past}
use Rattle.hip_crash.proofs.values.byte_at.Goals as goal

pub returns-then-place-ge8 : goal.returns-then-place-ge8
returns-then-place-ge8 c = λ n lt. sym (byte-past n 8 c.args.value c.args.place (omega (arith, c.ranges.value)) c.if-place-ge8.true)

pub returns : goal.returns
returns c = λ n lt. ap (λ bs. slice_index bs c.args.place) (c.to_le_bytes-bytes.ensures ∙ to_le_bytes-bytes_of c.args.value) ∙ byte-any 8 n c.args.value c.args.place c.if-place-ge8.false lt
