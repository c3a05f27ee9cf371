use Rattle.std.proofs.Common.{length, ap, ◌∙◌}
use Rattle.hip_mem.specs.Areas.{Areas}
use Rattle.hip_mem.specs.Laws.AreasLaws.{length-area_written}
use Rattle.hip_storage.proofs.region.put.Goals as goal

pub returns-in-Ok-clause-region : goal.returns-in-Ok-clause-region
returns-in-Ok-clause-region c = ap (λ (r : Areas). length r.region) c.in-Ok.ensures.ok.1 ∙ length-area_written _ c.args.ram.now.base c.args.ram.now.region
