use Rattle.std.proofs.Common.{◌≡◌, drop}
use Rattle.hip_sound.specs.Places.{are_among}
use Rattle.hip_typing.specs.Seen.TargetsSeen.{case_labels}
use Rattle.hip_typing.proofs.places.targets.cases_known.Given as goal

abbrev pub invariant-each : goal.invariant-each
invariant-each l = are_among l.labels (case_labels (drop l.case-index l.cases)) ≡ are_among l.labels (case_labels l.cases)
