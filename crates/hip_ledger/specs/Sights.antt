-- What is seen of a machine before a step.
use Rattle.std.specs.Prelude.{◌≡◌, ℕ, zero, suc, Bool, true, false, cond, List, [], ◌++◌, Option, Some, None}
use Rattle.hip_types.specs.Distinct.{met}
use Rattle.hip_tree.specs.declared.program.Program.{Program}
use Rattle.hip_tree.specs.declared.site.Site.{Site}
use Rattle.hip_runs.specs.Found.Marks.{frame_marks, mark_of, same_mark, unless_ended}
use Rattle.hip_runs.specs.Found.Objects.{object_at}
use Rattle.hip_runs.specs.State.{State}
use Rattle.hip_runs.specs.Step.{has_ended}
use Rattle.hip_runs.specs.declared.event.Event.{Event}
use Rattle.hip_runs.specs.declared.event.Event.TheVariants as events
use Rattle.hip_runs.specs.declared.input.Input.{Input}
use Rattle.hip_runs.specs.declared.report.Mark.{Mark}
use Rattle.hip_runs.specs.Seen.{pointer_of}

-- The marks of the next step, if it is taken.
abbrev pub marks_ahead : Program → Input → State → List Mark
marks_ahead P I s = cond (has_ended s) [] (frame_marks P I s.frames)

-- The mark of one pointer operand of the next instruction.
abbrev pub mark_by : Program → Input → State → Site → ℕ → Option ℕ → List Mark
mark_by P I s site k None = []
mark_by P I s site k (Some a) = mark_of site k (object_at P I.base s.frames a)

-- The mark of pointer operand k of the next instruction; none if there is no such operand, or if it points into no
-- object.
abbrev pub mark_at : Program → Input → State → Site → ℕ → List Mark
mark_at P I s site k = mark_by P I s site k (pointer_of P I s k)

-- The marks of the first k operands.
abbrev pub marks_to : Program → Input → State → Site → ℕ → List Mark
marks_to P I s site zero = []
marks_to P I s site (suc k) = marks_to P I s site k ++ mark_at P I s site k

-- After these marks were met, the two lists add the same marks.
abbrev pub AddAlike : List Mark → List Mark → List Mark → Type 0
AddAlike met_before these those = met same_mark met_before these ≡ met same_mark met_before those

-- The same, unless a step with this event ends the run.
abbrev pub AddUnlessEnded : Event → List Mark → List Mark → List Mark → Type 0
AddUnlessEnded e met_before these those = AddAlike met_before (unless_ended e these) (unless_ended e those)

-- Whether a step with this event has nothing to note: it is quiet or prints.
abbrev pub is_still : Event → Bool
is_still events.Quiet = true
is_still (events.Print z) = true
is_still _ = false

-- Whether the standing calls are noted at a step with this event: it stores, checks a range or ends the run.
abbrev pub needs_calls : Event → Bool
needs_calls (events.Store a v m) = true
needs_calls (events.Assert a n) = true
needs_calls (events.End x) = true
needs_calls _ = false
