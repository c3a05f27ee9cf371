-- Reports: at each check, the stores that are not durable. After pmemcheck's report at exit and the kinds of the
-- Hippocrates paper; that a store whose bytes were all overwritten is not reported is this project's own.
use Rattle.std.specs.Prelude.{ℕ, zero, suc, ◌+◌, ◌-◌, Bool, true, false, cond, not, ◌&&◌, ◌||◌, nat_le, nat_lt, nat_eq, List, [], ◌∷◌, ◌++◌, map, length, Option, Some, None, option_map}
use Rattle.std.specs.List.{flat_map, list_all, list_any, range_with_len}
use Rattle.hip_tree.specs.declared.program.Program.{Program}
use Rattle.hip_tree.specs.declared.site.Site.{Site}
use Rattle.hip_lines.specs.Line.{Line}
use Rattle.hip_runs.specs.declared.event.Ending.TheVariants.{Stop}
use Rattle.hip_runs.specs.declared.event.Event.{Event}
use Rattle.hip_runs.specs.declared.input.Input.{Input}
use Rattle.hip_runs.specs.declared.report.Kind.{Kind}
use Rattle.hip_runs.specs.declared.report.Kind.TheVariants.{MissingFlush, MissingFence, MissingBoth}
use Rattle.hip_runs.specs.declared.report.Report.{Report}
use Rattle.hip_runs.specs.State.{Level, Flush, StorePart, State, levels_of}
use Rattle.hip_runs.specs.Crash.{covers}
use Rattle.hip_runs.specs.Step.{event, run, has_ended}
use Rattle.hip_runs.specs.declared.event.Event.TheVariants as events

-- ---- loose parts

-- Whether a range of n bytes from o has one of the `count` bytes from b on that no later part covers.
abbrev pub shows : ℕ → ℕ → ℕ → ℕ → List StorePart → Bool
shows o n zero b later = false
shows o n (suc count) b later =
    (nat_le o b && (nat_lt b (o + n) && not (list_any (λ q. covers q b) later))) || shows o n count (suc b) later

-- Whether a part is the last one over a byte of a range; these parts follow it in its line.
abbrev pub is_last : ℕ → ℕ → StorePart → List StorePart → Bool
is_last o n p later = shows o n (length p.bytes) p.offset later

-- A part that is not durable, and whether it is flushed.
pub record LoosePart : Type 0 where
  pub part : StorePart
  pub flushed : Bool

-- The loose parts of a step's store in a line, in a range: the parts that are not durable and are the last ones over a
-- byte of the range. The list has the line's parts from place k on; `durable` and `flushed` count the line's parts.
abbrev pub loose_from : ℕ → ℕ → ℕ → ℕ → ℕ → ℕ → List StorePart → List LoosePart
loose_from o n made durable flushed k [] = []
loose_from o n made durable flushed k (p ∷ later) =
    cond (nat_eq p.step made && (nat_le durable k && is_last o n p later))
    (record { part = p; flushed = nat_lt k flushed } ∷ loose_from o n made durable flushed (suc k) later)
    (loose_from o n made durable flushed (suc k) later)

-- The loose parts of a step's store in a cache line, in a range of n bytes from o.
abbrev pub loose_in : ℕ → ℕ → ℕ → Line StorePart → List LoosePart
loose_in o n made l = loose_from o n made l.durable l.flushed 0 l.parts

-- The loose parts of a step's store in these cache lines, line by line, in a range of n bytes from o.
abbrev pub loose_parts : ℕ → ℕ → List (Line StorePart) → ℕ → List LoosePart
loose_parts o n ls made = flat_map (loose_in o n made) ls

-- ---- one report

-- The later of two flushes.
abbrev pub later_flush : Option Flush → Option Flush → Option Flush
later_flush None b = b
later_flush (Some a) None = Some a
later_flush (Some a) (Some b) = cond (nat_lt a.step b.step) (Some b) (Some a)

-- The latest among the first flushes of the parts' lines.
abbrev pub latest_flush : List LoosePart → Option Flush
latest_flush [] = None
latest_flush (p ∷ ps) = later_flush p.part.first_flush (latest_flush ps)

-- A store lacks only a fence if all its loose parts are flushed. Otherwise it lacks a flush if a fence came after it,
-- and both if no fence came.
abbrev pub kind_of : Bool → Bool → Kind
kind_of true fenced = MissingFence
kind_of false true = MissingFlush
kind_of false false = MissingBoth

-- Whether each of these loose parts is flushed; true if there is none.
abbrev pub all_flushed : List LoosePart → Bool
all_flushed ps = list_all (λ p. p.flushed) ps

-- The site of the flush that lacks a fence.
abbrev pub flush_site_of : Bool → List LoosePart → Option Site
flush_site_of true ps = option_map (λ f. f.site) (latest_flush ps)
flush_site_of false ps = None

-- Whether one of these frames was made by the call.
abbrev pub is_open : List Level → Level → Bool
is_open standing l = list_any (λ s. nat_eq s.birth l.birth) standing

-- How many of the calls have returned.
abbrev pub closed_count : List Level → List Level → ℕ
closed_count standing [] = 0
closed_count standing (l ∷ ls) = cond (is_open standing l) (closed_count standing ls) (suc (closed_count standing ls))

-- The report of a store from its loose parts, of which p is one, at the check with this entry. The calls `standing`
-- have not returned.
abbrev pub report_by : List Level → ℕ → StorePart → List LoosePart → Report
report_by standing check p ps =
    record {
      entry = p.entry;
      check_entry = check;
      kind = kind_of (all_flushed ps) p.fenced;
      flush_site = flush_site_of (all_flushed ps) ps;
      path = p.site ∷ map (λ l. l.call) p.levels;
      closed = closed_count standing p.levels;
    }

-- One report for a store that has loose parts.
abbrev pub report_of : List Level → ℕ → List LoosePart → List Report
report_of standing check [] = []
report_of standing check (p ∷ ps) = report_by standing check p.part (p ∷ ps) ∷ []

-- ---- checks

-- A range of the region, by its offset and its size.
pub record Range : Type 0 where
  pub offset : ℕ
  pub size : ℕ

-- What a step with this event checks in a region with that base and size: a `pm_assert` checks its range, and the
-- return of the bottom frame the whole region. A trap or a cut checks nothing.
abbrev pub checked_range : ℕ → ℕ → Event → Option Range
checked_range base region (events.Assert a n) = Some (record { offset = a - base; size = n })
checked_range base region (events.End (Stop code)) = Some (record { offset = 0; size = region })
checked_range base region _ = None

-- What a step with this event checks in a run on an input.
abbrev pub checked_by : Input → Event → Option Range
checked_by I e = checked_range I.base (length I.image) e

-- The range that the next step checks, if the run has not ended.
abbrev pub next_check : Program → Input → State → Option Range
next_check P I s = cond (has_ended s) None (checked_by I (event P I s))

-- The reports of a step's store at a check of a range: one if it has loose parts in the range.
abbrev pub reports_for : State → Range → ℕ → List Report
reports_for s range made =
    report_of (levels_of s.frames) (suc s.counts.entries) (loose_parts range.offset range.size s.lines made)

-- The reports of a check, in the order of the stores' steps.
abbrev pub check_reports : State → Option Range → List Report
check_reports s None = []
check_reports s (Some range) = flat_map (reports_for s range) (range_with_len 0 s.counts.steps)

-- The reports of the first n steps, in the order of their checks.
unfoldable pub reports : Program → Input → ℕ → List Report
reports P I zero = []
reports P I (suc n) = reports P I n ++ check_reports (run P I n) (next_check P I (run P I n))
