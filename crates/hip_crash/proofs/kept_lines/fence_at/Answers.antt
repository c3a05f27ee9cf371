use Rattle.std.proofs.Common.{ap, ◌∙◌}
use Rattle.hip_crash.specs.Kept.{kept_in, with_fence}
use Rattle.hip_lines.specs.Laws.ItemLaws.{get-read}
use Rattle.hip_crash.proofs.Placed.{changes-set}
use Rattle.hip_crash.proofs.kept_lines.fence_at.Goals as goal

pub returns : goal.returns
returns c =
    let read = get-read c.args.lines.now.items c.args.place c.index_mut-line.result.now c.requires.within c.index_mut-line.ensures.value in
    changes-set (with_fence c.args.number) c.args.lines.now.items c.args.place c.index_mut-line.result.now c.fence.new.self c.requires.within read c.fence.ensures.line
    (c.fence.ensures.kept ∙ ap (λ j. with_fence j (kept_in c.index_mut-line.result.now)) (c.requires.line c.index_mut-line.result.now read))
