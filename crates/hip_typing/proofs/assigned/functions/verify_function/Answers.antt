use Rattle.std.proofs.Common.{◌≡◌, map, ◌∙◌}
use Rattle.hip_typing.specs.Seen.Inner.{label_numbers}
use Rattle.hip_sound.specs.Registers.{end_labels}
use Rattle.hip_typing.proofs.DifferLemmas.{describes}
use Rattle.hip_typing.proofs.assigned.functions.verify_function.Goals as goal

pub verify_on_graph-requires : goal.verify_on_graph-requires
verify_on_graph-requires c =
    let names = c.in_ok-names.names in
    let graph : c.as_slice-2.result.now ≡ map (λ block. label_numbers names.names names.values (end_labels block.end)) c.args.function.now.blocks =
    c.as_slice-2.ensures ∙ rw c.as_slice.ensures at c.in_ok-graph.ensures in
    describes c.args.function.now names.names names.values c.as_slice-2.result.now c.requires c.in_ok-names.ensures graph
