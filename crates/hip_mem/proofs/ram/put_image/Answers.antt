use Rattle.hip_mem.proofs.Fills.{fill-image}
use Rattle.hip_mem.proofs.RamCalls.{on_ok_map}
use Rattle.hip_mem.proofs.ram.put_image.Goals as goal

pub returns : goal.returns
returns c = on_ok_map c.fill.result (λ f. fill-image c.args.start c.stored.result.now c.args.image.now c.args.pages.now c.fill.new.self c.stored.ensures.few c.stored.ensures.bytes c.requires.zeros f) c.fill.ensures
