use Rattle.std.proofs.Common.{◌∙◌}
use Rattle.std.proofs.lemmas.Result.{on_ok_weaker}
use Rattle.hip_objects.specs.Blocks.{slot_of}
use Rattle.hip_objects.proofs.Stacks.{kept, not_kept}
use Rattle.hip_objects.proofs.blocks.StackBlocks.push.Goals as goal

pub returns-then-block-eq0-clause-ok : goal.returns-then-block-eq0-clause-ok
returns-then-block-eq0-clause-ok c = not_kept c.args.self.now (slot_of c.args.block) c.if-block-eq0.true

pub returns-clause-ok : goal.returns-clause-ok
returns-clause-ok c = on_ok_weaker c.keep.result (λ e. e ∙ kept c.args.self.now (slot_of c.args.block) c.if-block-eq0.false) c.keep.ensures.ok
