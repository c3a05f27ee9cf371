-- What the event of a step says about the output and the end of the run.
use Rattle.std.specs.Prelude.{ℕ, List, [], ◌++◌, Option, Some, None, codes}
use Rattle.std.specs.Fmt.{signed_decimal}
use Rattle.hip_runs.specs.declared.event.Ending.{Ending}
use Rattle.hip_runs.specs.declared.event.Event.{Event}
use Rattle.hip_runs.specs.declared.event.Event.TheVariants as events

-- What a step with this event prints: the number of a print in signed decimal, with a line feed.
abbrev pub printed_by : Event → List ℕ
printed_by (events.Print z) = signed_decimal z ++ codes "\n"
printed_by _ = []

-- How the run ended, if the event is its end.
abbrev pub ending_by : Event → Option Ending
ending_by (events.End e) = Some e
ending_by _ = None
