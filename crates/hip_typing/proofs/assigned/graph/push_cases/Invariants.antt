use Rattle.std.proofs.Common.{◌≡◌, ◌++◌, map, take}
use Rattle.hip_typing.specs.Seen.Inner.{label_numbers}
use Rattle.hip_typing.proofs.assigned.graph.push_cases.Given as goal

abbrev pub invariant-cases : goal.invariant-cases
invariant-cases l = l.numbers ≡ l.initial.numbers ++ label_numbers l.names.names l.names.values (map (λ c. c.label) (take l.case-index l.cases))
