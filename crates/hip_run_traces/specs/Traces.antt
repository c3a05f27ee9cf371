-- The trace of a run.
use Rattle.std.specs.Prelude.{◌≡◌, ℕ, zero, suc, ◌+◌, ◌/◌, true, List, [], ◌∷◌, ◌++◌, map, length, take, drop, Option, Some, None, if◌then◌else◌}
use Rattle.hip_tree.specs.declared.program.Program.{Program}
use Rattle.hip_types.specs.declared.areas.TheConstants.{LINE_SIZE}
use Rattle.hip_runs.specs.State.{State}
use Rattle.hip_runs.specs.Step.{event, has_ended, run, some_byte}
use Rattle.hip_runs.specs.declared.event.Ending.{Ending}
use Rattle.hip_runs.specs.declared.event.Ending.TheVariants as endings
use Rattle.hip_runs.specs.declared.event.Event.{Event}
use Rattle.hip_runs.specs.declared.event.Event.TheVariants as events
use Rattle.hip_runs.specs.declared.event.TrapKind.{TrapKind}
use Rattle.hip_runs.specs.declared.event.TrapKind.TheVariants as traps
use Rattle.hip_runs.specs.declared.input.Input.{Input}
use Rattle.hip_trace.specs.declared.entry.Entry.{Entry}
use Rattle.hip_trace.specs.declared.entry.Entry.TheVariants as entries
use Rattle.hip_trace.specs.declared.entry.TrapWord.{TrapWord}
use Rattle.hip_trace.specs.declared.entry.TrapWord.TheVariants as words

-- ---- events

-- The word of a TRAP entry for each kind of trap.
abbrev pub trap_word : TrapKind → TrapWord
trap_word traps.DivZero = words.DivZero
trap_word traps.DivOverflow = words.DivOverflow
trap_word traps.ShiftRange = words.ShiftRange
trap_word traps.Address = words.Address
trap_word traps.Misaligned = words.Misaligned
trap_word traps.Stack = words.Stack
trap_word traps.Depth = words.Depth
trap_word traps.InputEnd = words.InputEnd
trap_word traps.Unreachable = words.Unreachable

-- The entry of a run's ending: STOP with the number that `main` returned, TRAP with its word, or CUT.
abbrev pub entry_of_ending : Ending → Entry
entry_of_ending (endings.Stop code) = entries.Stop code
entry_of_ending (endings.Trap kind) = entries.Trap (trap_word kind)
entry_of_ending endings.Cut = entries.Cut

-- The entry of a step, if it has one. Stores into the region, flushes of the region's cache lines, fences, asserts and
-- the ending have an entry; prints have none. (After pmemcheck's log of stores, flushes and fences.)
abbrev pub entry_of_event : Event → Option Entry
entry_of_event events.Quiet = None
entry_of_event (events.Print number) = None
entry_of_event (events.Store addr value size) = Some (entries.Store addr value size)
entry_of_event (events.Flush line size) = Some (entries.Flush line size)
entry_of_event (events.Persist line size) = Some (entries.Persist line size)
entry_of_event events.Fence = Some entries.Fence
entry_of_event (events.Assert addr size) = Some (entries.Assert addr size)
entry_of_event (events.End ending) = Some (entry_of_ending ending)

-- ---- before the first step

-- The IMAGE entries of n cache lines, one for each line that has a byte other than 0. The first line begins at an
-- address.
abbrev pub image_entries : ℕ → ℕ → List ℕ → List Entry
image_entries zero addr bytes = []
image_entries (suc n) addr bytes =
    (if some_byte (take LINE_SIZE bytes) then entries.Image addr (take LINE_SIZE bytes) ∷ [] else [])
    ++ image_entries n (addr + LINE_SIZE) (drop LINE_SIZE bytes)

-- START, REGISTER, an INPUT for each number in order, and an IMAGE for each cache line of the initial region that has a
-- byte other than 0, in ascending order.
unfoldable pub header_of : Input → List Entry
header_of I =
    entries.Start I.limit ∷ entries.Register I.base (length I.image)
    ∷ (map (λ number. entries.Input number) I.numbers
    ++ image_entries (length I.image / LINE_SIZE) I.base I.image)

-- ---- the trace

-- An entry, as a list; empty if there is no entry.
abbrev pub entry_list : Option Entry → List Entry
entry_list None = []
entry_list (Some e) = e ∷ []

-- The entry of the next step, as a list; empty if the run has ended, since it takes no more steps.
abbrev pub next_entries : Program → Input → State → List Entry
next_entries P I s = if has_ended s then [] else entry_list (entry_of_event (event P I s))

-- The trace of a run's first n steps: the entries before the first step, and the entries of the steps in order.
unfoldable pub trace : Program → Input → ℕ → List Entry
trace P I zero = header_of I
trace P I (suc n) = trace P I n ++ next_entries P I (run P I n)

-- Each entry as a piece that spells it.
abbrev pub stated : List Entry → List (Option Entry)
stated es = map (λ e. Some e) es

-- The trace of a run is the trace of its first n steps, after which the run has ended.
pub record IsTrace (P : Program) (I : Input) (es : List Entry) : Type 0 where
  pub steps : ℕ
  pub ended : has_ended (run P I steps) ≡ true
  pub are : es ≡ trace P I steps
