use Rattle.std.proofs.Common.{◌≡◌, nat_eq, drop}
use Rattle.std.specs.List.{flat_map}
use Rattle.hip_types.specs.Distinct.{met}
use Rattle.hip_tree.specs.Sites.{instr_of}
use Rattle.hip_calls.specs.Reach.{called_at, first_callees}
use Rattle.hip_calls.proofs.reach.first_callees.Given as goal

abbrev pub invariant-calls : goal.invariant-calls
invariant-calls l =
    met nat_eq l.seen.keys (flat_map (λ s. called_at l.functions (instr_of l.functions s)) (drop l.site-index l.calls)) ≡ first_callees l.functions l.calls
