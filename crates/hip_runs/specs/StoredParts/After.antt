-- The cache lines after a step, by its event and the state before it.
use Rattle.std.specs.Prelude.{ℕ, ◌-◌, List, Option, Some}
use Rattle.hip_tree.specs.declared.site.Site.{Site}
use Rattle.hip_lines.specs.Line.{Line, change_range, stored}
use Rattle.hip_types.specs.Bytes.{bytes_of}
use Rattle.hip_runs.specs.declared.event.Event.{Event}
use Rattle.hip_runs.specs.declared.input.Input.{Input}
use Rattle.hip_runs.specs.StoredParts.Persistence.{part_of_store, flush_line, fenced_lines}
use Rattle.hip_runs.specs.State.{Level, Flush, StorePart, Counts}
use Rattle.hip_runs.specs.declared.event.Event.TheVariants as events

-- The flush of a step, by the counts before it and its site.
abbrev pub flush_at : Counts → Site → Flush
flush_at counts site = record { step = counts.steps; site = site }

-- The lines after a flush of n bytes from an address on: each that has one of these bytes is flushed.
abbrev pub flushed_by : Input → Flush → ℕ → ℕ → List (Line StorePart) → List (Line StorePart)
flushed_by I flush a n ls = change_range (λ _ l. flush_line flush l) (a - I.base) n ls

-- The lines after a step with this event. Before the step, the top frame was at the site, these calls had not returned,
-- and the counts were these.
abbrev pub lines_after :
    Input → Event → Counts → Option Site → List Level → List (Line StorePart) → List (Line StorePart)
lines_after I (events.Store a v n) counts (Some site) levels ls =
    stored (part_of_store counts site levels (a - I.base) (bytes_of n v)) (a - I.base) n ls
lines_after I (events.Flush line size) counts (Some site) levels ls = flushed_by I (flush_at counts site) line size ls
lines_after I (events.Persist line size) counts (Some site) levels ls =
    fenced_lines (flushed_by I (flush_at counts site) line size ls)
lines_after I events.Fence counts site levels ls = fenced_lines ls
lines_after I _ counts site levels ls = ls
