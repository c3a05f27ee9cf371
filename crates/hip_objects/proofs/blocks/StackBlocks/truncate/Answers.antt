use Rattle.std.proofs.Common.{take, sym, ap, ◌∙◌}
use Rattle.std.proofs.lemmas.List.{take-map}
use Rattle.hip_objects.specs.Blocks.{slot_of, slots_of}
use Rattle.hip_objects.proofs.blocks.StackBlocks.truncate.Goals as goal

pub returns : goal.returns
returns c = ap slots_of c.truncate.ensures.items ∙ sym (take-map slot_of c.args.count c.self.inside.blocks.items) ∙ ap (λ xs. take c.args.count xs) c.self.view_is
