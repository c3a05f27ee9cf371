use Rattle.hip_image.proofs.Zeros.{index-front}
use Rattle.hip_image.proofs.image.bytes_from.Goals as goal

pub returns : goal.returns
returns c i h =
    index-front c.args.stored.now c.copy_front.new.into c.args.start c.min-from.result c.min-to.result i c.min-from.ensures c.min-to.ensures c.copy_front.ensures.low c.copy_front.ensures.high h
