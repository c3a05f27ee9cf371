-- The usual entries of a trace.
use Rattle.std.specs.Prelude.{Option, Some, None}
use Rattle.hip_trace.specs.declared.entry.Entry.{Entry}
use Rattle.hip_trace.specs.declared.entry.Entry.TheVariants.{Store, Flush, Fence, Persist, Assert}
use Rattle.hip_trace.specs.declared.usual.Usual.{Usual}
use Rattle.hip_trace.specs.declared.usual.Usual.TheVariants as usuals

-- The entry of a usual entry.
abbrev pub usual_entry : Usual → Entry
usual_entry (usuals.Store addr value size) = Store addr value size
usual_entry (usuals.Flush addr size) = Flush addr size
usual_entry usuals.Fence = Fence
usual_entry (usuals.Persist addr size) = Persist addr size
usual_entry (usuals.Assert addr size) = Assert addr size

-- The entry that is kept: the usual one if there is one, else the other.
abbrev pub kept : Option Usual → Entry → Entry
kept (Some usual) other = usual_entry usual
kept None other = other
