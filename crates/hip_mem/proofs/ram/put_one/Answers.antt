use Rattle.std.proofs.Common.{◌∙◌}
use Rattle.hip_mem.specs.Pages.{page_byte}
use Rattle.hip_mem.proofs.RamCalls.{low-written}
use Rattle.hip_mem.proofs.ram.put_one.Goals as goal

pub returns : goal.returns
returns c =
    λ a.
    c.write_one.ensures a ∙ low-written c.args.addr c.args.size c.args.value a (page_byte c.args.pages.now a) c.to_le_bytes-bytes.result c.requires.few c.to_le_bytes-bytes.ensures
