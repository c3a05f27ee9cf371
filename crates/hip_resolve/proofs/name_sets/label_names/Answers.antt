use Rattle.std.proofs.Common.{map}
use Rattle.hip_resolve.proofs.Scoped.{all_met}
use Rattle.hip_resolve.proofs.name_sets.label_names.Goals as goal

pub returns : goal.returns
returns c = rw (c.in_ok-add_labels.ensures, c.as_slice.ensures, c.new-names.ensures) (all_met (map (λ b. b.label) c.args.function.now.blocks) c.requires.differ)
