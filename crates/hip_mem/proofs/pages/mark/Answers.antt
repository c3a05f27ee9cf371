use Rattle.std.proofs.Common.{arith}
use Rattle.hip_mem.proofs.PageKeys.{marked}
use Rattle.hip_mem.proofs.pages.mark.Goals as goal

pub returns : goal.returns
returns c = marked c.args.dirty.now c.args.place c.args.is_dirty (omega arith)
