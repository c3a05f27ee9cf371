use Rattle.std.proofs.Common.{◌≡◌, drop}
use Rattle.std.specs.List.{list_any}
use Rattle.hip_sound.specs.Places.{is_entry}
use Rattle.hip_typing.specs.Seen.TargetsSeen.{case_labels}
use Rattle.hip_typing.proofs.places.targets.cases_name_entry.Given as goal

abbrev pub invariant-each : goal.invariant-each
invariant-each l = list_any (is_entry l.blocks) (case_labels (drop l.case-index l.cases)) ≡ list_any (is_entry l.blocks) (case_labels l.cases)
