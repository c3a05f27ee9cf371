use Rattle.std.proofs.Common.{◌≡◌}
use Rattle.std.specs.Option.{option_copied}
use Rattle.hip_lines.specs.Rest.{rest_of, IsStanding}
use Rattle.hip_lines.specs.Next.{lines_to}
use Rattle.hip_lines.proofs.LooseRest.{lines_left}
use Rattle.hip_lines.proofs.loose.NotDurableIterator.next.Given as goal

abbrev pub invariant-loop-self : goal.invariant-loop-self
invariant-loop-self l = IsStanding l.self-inside × (rest_of l.self-inside ≡ rest_of l.initial.self-inside)

abbrev pub decreases-loop-self : goal.decreases-loop-self
decreases-loop-self l = lines_left (lines_to l.self-inside.end) (option_copied l.self-inside.queue)
