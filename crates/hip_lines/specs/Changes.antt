-- How a store, a flush or a fence changes the pending parts of a line.
use Rattle.hip_lines.specs.declared.part.Part.{Part}
use Rattle.hip_lines.specs.declared.history.Change.{Change}
use Rattle.hip_lines.specs.declared.history.Change.TheVariants.{Store, Flush, Fence}
use Rattle.hip_lines.specs.Pending.{Pending, pending_with, pending_flushed, pending_fenced}

abbrev pub changed : Pending Part → Change → Pending Part
changed w (Store part) = pending_with part w
changed w Flush = pending_flushed w
changed w Fence = pending_fenced w
