use Rattle.std.proofs.Common.{◌∙◌}
use Rattle.hip_mem.specs.Pages.{page_byte}
use Rattle.hip_mem.proofs.RamCalls.{low-written}
use Rattle.hip_mem.proofs.ram.put_anywhere.Goals as goal

pub returns-in-Ok-clause-ok : goal.returns-in-Ok-clause-ok
returns-in-Ok-clause-ok c =
    λ a.
    c.in-Ok.ensures.ok a ∙ low-written c.args.addr c.args.size c.args.value a (page_byte c.args.pages.now a) c.to_le_bytes-bytes.result c.requires.few c.to_le_bytes-bytes.ensures
