use Rattle.std.proofs.Common.{arith, refl}
use Rattle.hip_mem.proofs.RamCalls.{areas-new}
use Rattle.hip_mem.proofs.ram.Ram.new.Goals as goal

pub returns : goal.returns
returns c = areas-new c.args.base c.args.volatile.now c.args.region.now _ _ c.put_image.new.pages (omega (arith, c.requires.low)) (omega (arith, c.requires.volatile)) refl c.len.ensures c.len-2.ensures refl c.in_ok-put_image.ensures c.in_ok-put_image-2.ensures
