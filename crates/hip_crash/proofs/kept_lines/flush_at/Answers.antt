use Rattle.hip_crash.specs.Kept.{with_flush}
use Rattle.hip_lines.specs.Laws.ItemLaws.{get-read}
use Rattle.hip_crash.proofs.Placed.{changes-set}
use Rattle.hip_crash.proofs.kept_lines.flush_at.Goals as goal

pub returns : goal.returns
returns c = changes-set with_flush c.args.lines.now.items c.args.place c.index_mut-line.result.now c.flush.new.self c.requires (get-read c.args.lines.now.items c.args.place c.index_mut-line.result.now c.requires c.index_mut-line.ensures.value) c.flush.ensures.line c.flush.ensures.kept
