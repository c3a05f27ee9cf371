-- The lines of a run as the code's lines show them.
use Rattle.std.specs.Prelude.{List, map, length}
use Rattle.hip_lines.specs.Line.{Line, map_line}
use Rattle.hip_lines.specs.Pending.{Pending, pending_of}
use Rattle.hip_lines.specs.declared.part.Part.{Part}
use Rattle.hip_runs.specs.State.{StorePart}

-- A part of a store, as the lines of the code have it.
abbrev pub shown_part : StorePart → Part
shown_part p = record { offset = p.offset; size = length p.bytes; tag = p.step }

-- The parts of a line that are not durable, in order, and how many of them are flushed.
abbrev pub shown_line : Line StorePart → Pending Part
shown_line l = pending_of (map_line shown_part l)

-- The same for each line of the region, in order.
abbrev pub shown : List (Line StorePart) → List (Pending Part)
shown ls = map shown_line ls
