use Rattle.std.proofs.Common.{◌≡◌, drop}
use Rattle.hip_sound.specs.Places.{are_among, edge_labels}
use Rattle.hip_typing.proofs.places.edges.edge_labels_known.Given as goal

abbrev pub invariant-each : goal.invariant-each
invariant-each l = are_among l.known (edge_labels (drop l.edge-index l.edges)) ≡ are_among l.known (edge_labels l.edges)
