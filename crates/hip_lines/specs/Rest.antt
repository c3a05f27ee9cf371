-- What is left of an iterator over loose bytes.
use Rattle.std.specs.Prelude.{◌-◌, ◌≤◌, ◌^◌, List}
use Rattle.std.specs.Option.{option_copied}
use Rattle.hip_lines.specs.declared.part.LooseByte.{LooseByte}
use Rattle.hip_lines.specs.declared.loose.NotDurable.TheInside.{Inside}
use Rattle.hip_lines.specs.Next.{loose_of, lines_to, IsNextQueue}

-- The loose bytes that the iterator has not given yet: those from its place up to its end, ascending.
abbrev pub rest_of : Inside → List LooseByte
rest_of n = loose_of n.queues.now n.at (n.end - n.at)

-- The end is at most 2 ^ 26, the size of the largest region. The queue, if there is one, is the next one to be
-- searched.
pub record IsStanding (n : Inside) : Type 0 where
  pub end : n.end ≤ 2 ^ 26
  pub queue : IsNextQueue n.queues.now n.at (lines_to n.end) (option_copied n.queue)
