-- One step of a machine, its event, and a run.
use Rattle.std.specs.Prelude.{ℕ, zero, suc, ◌+◌, ◌-◌, ◌*◌, ◌/◌, Bool, true, false, cond, not, ◌&&◌, nat_lt, List, [], ◌∷◌, ◌++◌, length, take, drop, Option, Some, None, is_some, ℤ, codes}
use Rattle.std.specs.Fmt.{signed_decimal}
use Rattle.hip_types.specs.Numbers.{bits, signed, wrapped}
use Rattle.hip_types.specs.declared.number.Width.TheVariants.{W32, W64}
use Rattle.hip_tree.specs.declared.program.Program.{Program}
use Rattle.hip_lines.specs.Line.{Line, fresh_lines}
use Rattle.hip_types.specs.Bytes.{little_endian, zeros}
use Rattle.hip_types.specs.Areas.{stack_start}
use Rattle.hip_sound.specs.NumberedNames.{function_number}
use Rattle.hip_runs.specs.declared.event.Ending.{Ending}
use Rattle.hip_runs.specs.declared.event.Ending.TheVariants.{Stop, Trap, Cut}
use Rattle.hip_runs.specs.declared.event.Event.{Event}
use Rattle.hip_runs.specs.declared.input.Input.{Input}
use Rattle.hip_runs.specs.State.{Frame, StorePart, World, Counts, State, levels_of, site_of}
use Rattle.hip_runs.specs.Operands.{assigned}
use Rattle.hip_runs.specs.Places.{code_at, end_at}
use Rattle.hip_runs.specs.Actions.{Action, Traps, Assigns, Allocates, Stores, Flushes, Persists, Fences, Asserts, Prints, Reads, Calls, Jumps, Returns, Deed, in_region, deed_of}
use Rattle.hip_runs.specs.StoredParts.Persistence.{stored_lines, flushes_lines, flushed_lines, fenced_lines}
use Rattle.hip_runs.specs.declared.event.Event.TheVariants as events
use Rattle.hip_types.specs.declared.areas.TheConstants.{LINE_SIZE}

-- The state of a world, frames from the top one down, cache lines and counts.
abbrev pub state : World → List Frame → List (Line StorePart) → Counts → State
state w fs ls counts = record { world = w; frames = fs; lines = ls; counts = counts }

-- ---- events

-- The address of the cache line that contains address a of the region.
abbrev pub first_line : Input → ℕ → ℕ
first_line I a = I.base + LINE_SIZE * ((a - I.base) / LINE_SIZE)

-- The number of bytes of the region's cache lines that have one of the n bytes from a on; n is at least 1.
abbrev pub lines_size : Input → ℕ → ℕ → ℕ
lines_size I a n = LINE_SIZE * (((a - I.base) + n - 1) / LINE_SIZE + 1) - LINE_SIZE * ((a - I.base) / LINE_SIZE)

-- Whether the frame above these frames is the bottom one.
abbrev pub is_bottom : List Frame → Bool
is_bottom [] = true
is_bottom (f ∷ fs) = false

-- What an action shows from outside. A store or flush outside the region shows nothing, and a persist that flushes no
-- line is a fence. Each assert shows its range, which is in the region, since an assert of another range traps.
abbrev pub event_of : Input → List Frame → Action → Event
event_of I fs (Traps kind) = events.End (Trap kind)
event_of I fs (Stores a bytes) =
    cond (in_region I a (length bytes)) (events.Store a (little_endian bytes) (length bytes)) events.Quiet
event_of I fs (Flushes a n) = cond (flushes_lines I a n) (events.Flush (first_line I a) (lines_size I a n)) events.Quiet
event_of I fs (Persists a n) =
    cond (flushes_lines I a n) (events.Persist (first_line I a) (lines_size I a n)) events.Fence
event_of I fs Fences = events.Fence
event_of I fs (Asserts a n) = events.Assert a n
event_of I fs (Prints z) = events.Print z
event_of I fs (Returns v) = cond (is_bottom fs) (events.End (Stop (signed W32 (bits W32 v).value))) events.Quiet
event_of I fs _ = events.Quiet

-- Whether a step has an entry in the trace: it does, unless it is quiet or only prints.
abbrev pub has_entry : Event → Bool
has_entry events.Quiet = false
has_entry (events.Print z) = false
has_entry _ = true

-- The counts after a step with this event: one step more, and one entry more if the event has one.
abbrev pub counted : Event → Counts → Counts
counted e c = record { steps = suc c.steps; entries = cond (has_entry e) (suc c.entries) c.entries }

-- ---- effects

-- The world after one more turn.
abbrev pub with_turn : World → World
with_turn w = record w { turns = suc w.turns }

-- The run ends here.
abbrev pub stop : Ending → World → List Frame → List (Line StorePart) → Counts → State
stop e w fs ls after = state (record w { ending = Some e }) fs ls after

-- The frame after its instruction.
abbrev pub next : Frame → Frame
next f = record f { place = suc f.place }

-- A register of the frame takes a value. The frame stays as it is if no register is given.
abbrev pub with_register : Option (List ℕ) → ℕ → Frame → Frame
with_register dest value f = record f { registers = assigned dest value f.registers }

-- The world after a new block on the stack. All bytes from the old mark up to the new one become zeros.
abbrev pub with_block : ℕ → ℕ → World → World
with_block a n w =
    record w { writes = w.writes ++ record { addr = w.mark; bytes = zeros ((a + n) - w.mark) } ∷ []; mark = a + n }

-- The frame with one more block on the stack, of n bytes from address a, made by the `alloca` at its place.
abbrev pub with_slot : ℕ → ℕ → Frame → Frame
with_slot a n f = record f { slots = record { addr = a; size = n; site = site_of f } ∷ f.slots }

-- The world after a write of bytes from an address on, which follows all earlier writes.
abbrev pub with_bytes : ℕ → List ℕ → World → World
with_bytes a bytes w = record w { writes = w.writes ++ record { addr = a; bytes = bytes } ∷ [] }

-- A number is printed in signed decimal, with a line feed.
abbrev pub with_output : ℤ → World → World
with_output z w = record w { output = w.output ++ (signed_decimal z ++ codes "\n") }

-- The world with these input numbers left.
abbrev pub with_left : List ℤ → World → World
with_left rest w = record w { left = rest }

-- The return of a value: the frame is removed, and the stack's mark is what it was at the call. The run ends if this is
-- the bottom frame.
unfoldable pub leave : ℕ → World → Frame → List Frame → List (Line StorePart) → Counts → State
leave v w f [] ls after = stop (Stop (signed W32 (bits W32 v).value)) w (f ∷ []) ls after
leave v w f (g ∷ fs) ls after = state (record w { mark = f.mark }) (with_register f.dest v g ∷ fs) ls after

-- What an action does to a state. A trap changes only the ending. The counts are those before the step and those after
-- it.
unfoldable pub perform : Input → World → Frame → List Frame → List (Line StorePart) → Counts → Counts
    → Action → State
perform I w f fs ls before after (Traps kind) = stop (Trap kind) w (f ∷ fs) ls after
perform I w f fs ls before after (Assigns dest v) = state w (with_register dest v (next f) ∷ fs) ls after
perform I w f fs ls before after (Allocates dest a n) =
    state (with_block a n w) (with_register (Some dest) a (next (with_slot a n f)) ∷ fs) ls after
perform I w f fs ls before after (Stores a bytes) =
    state (with_bytes a bytes w) (next f ∷ fs)
    (stored_lines I before (site_of f) (levels_of (f ∷ fs)) a bytes ls) after
perform I w f fs ls before after (Flushes a n) =
    state w (next f ∷ fs) (flushed_lines I (record { step = before.steps; site = site_of f }) a n ls) after
perform I w f fs ls before after (Persists a n) =
    state w (next f ∷ fs) (fenced_lines (flushed_lines I (record { step = before.steps; site = site_of f }) a n ls))
    after
perform I w f fs ls before after Fences = state w (next f ∷ fs) (fenced_lines ls) after
perform I w f fs ls before after (Asserts a n) = state w (next f ∷ fs) ls after
perform I w f fs ls before after (Prints z) = state (with_output z w) (next f ∷ fs) ls after
perform I w f fs ls before after (Reads dest z rest) =
    state (with_left rest w) (with_register dest (wrapped W64 z) (next f) ∷ fs) ls after
perform I w f fs ls before after (Calls g registers dest) =
    state w (record {
      function = g;
      block = 0;
      place = 0;
      registers = registers;
      mark = w.mark;
      slots = [];
      dest = dest;
      level = Some (record { call = site_of f; birth = before.steps });
    } ∷ next f ∷ fs) ls after
perform I w f fs ls before after (Jumps b registers) =
    state w (record f { block = b; place = 0; registers = registers } ∷ fs) ls after
perform I w f fs ls before after (Returns v) = leave v w f fs ls after

-- ---- steps

-- Whether the run is cut: the turns have reached the limit, and the next step is a turn.
abbrev pub is_cut : Input → World → Deed → Bool
is_cut I w d = d.turn && not (nat_lt w.turns I.limit)

-- The event of a deed above these frames: `Cut` if the run is cut, else the event of the action.
abbrev pub event_at : Input → World → List Frame → Deed → Event
event_at I w fs d = cond (is_cut I w d) (events.End Cut) (event_of I fs d.action)

-- The state after the top frame's deed. If the run is cut, only its ending and the counts change. Otherwise the action
-- is done, after one more turn if the deed is a turn.
unfoldable pub carry_out : Input → World → Frame → List Frame → List (Line StorePart) → Counts → Counts
    → Deed → State
carry_out I w f fs ls before after d =
    cond (is_cut I w d) (stop Cut w (f ∷ fs) ls after)
    (perform I (cond d.turn (with_turn w) w) f fs ls before after d.action)

-- What the top frame does next.
abbrev pub deed_at : Program → Input → World → Frame → List Frame → Deed
deed_at P I w f fs = deed_of P I w (length fs) f (end_at P f) (code_at P f)

-- The state after the top frame's next deed. If there is no frame, nothing changes, not even the counts.
unfoldable pub on_frames : Program → Input → World → List (Line StorePart) → Counts → List Frame → State
on_frames P I w ls counts [] = state w [] ls counts
on_frames P I w ls counts (f ∷ fs) =
    carry_out I w f fs ls counts (counted (event_at I w fs (deed_at P I w f fs)) counts) (deed_at P I w f fs)

-- A run that has ended stays as it is.
unfoldable pub on_ending : Program → Input → State → Option Ending → State
on_ending P I s (Some e) = s
on_ending P I s None = on_frames P I s.world s.lines s.counts s.frames

-- The state after one more step of a run on an input; the same state if the run has ended.
unfoldable pub step : Program → Input → State → State
step P I s = on_ending P I s s.world.ending

-- The event of the top frame's next deed; quiet if there is no frame.
abbrev pub event_on_frames : Program → Input → World → List Frame → Event
event_on_frames P I w [] = events.Quiet
event_on_frames P I w (f ∷ fs) = event_at I w fs (deed_at P I w f fs)

-- If the run has ended, its ending; otherwise the event of the top frame's next deed.
abbrev pub event_on_ending : Program → Input → State → Option Ending → Event
event_on_ending P I s (Some e) = events.End e
event_on_ending P I s None = event_on_frames P I s.world s.frames

-- The event of the next step. After the end of the run it is the ending.
unfoldable pub event : Program → Input → State → Event
event P I s = event_on_ending P I s s.world.ending

-- ---- runs

-- The number of `main`; 0 if there is none, which does not occur in a sound program.
abbrev pub numbered_main : Option ℕ → ℕ
numbered_main None = 0
numbered_main (Some f) = f

-- The number of the first function with the name `main`; 0 if there is none, which does not occur in a sound program.
abbrev pub main_number : Program → ℕ
main_number P = numbered_main (function_number P (codes "main"))

-- Whether one of the bytes is other than 0.
abbrev pub some_byte : List ℕ → Bool
some_byte [] = false
some_byte (zero ∷ bs) = some_byte bs
some_byte (suc b ∷ bs) = true

-- How many of the first n cache lines have an initial byte other than 0.
abbrev pub image_lines : ℕ → List ℕ → ℕ
image_lines zero bytes = 0
image_lines (suc n) bytes = cond (some_byte (take LINE_SIZE bytes)) 1 0 + image_lines n (drop LINE_SIZE bytes)

-- How many entries come before a run's first step: START, REGISTER, an INPUT for each number, and an IMAGE for each
-- cache line of the initial region that has a byte other than 0.
abbrev pub header_entries : Input → ℕ
header_entries I = 2 + length I.numbers + image_lines (length I.image / LINE_SIZE) I.image

-- The world before the first step: nothing was printed or written, no turn was taken, all input numbers are left, and
-- the stack is empty.
abbrev pub start_world : Input → World
start_world I = record { output = []; writes = []; turns = 0; left = I.numbers; mark = stack_start; ending = None }

-- The bottom frame before the first step: at the start of the entry block of `main`, which has this number, with no
-- value in a register.
abbrev pub start_frame : ℕ → Frame
start_frame main =
    record {
      function = main;
      block = 0;
      place = 0;
      registers = [];
      mark = stack_start;
      slots = [];
      dest = None;
      level = None;
    }

-- The state before the first step: `main` is at its first instruction.
abbrev pub start : Program → Input → State
start P I =
    state (start_world I) (start_frame (main_number P) ∷ []) (fresh_lines (length I.image / LINE_SIZE))
    (record { steps = 0; entries = header_entries I })

-- The state after n steps.
unfoldable pub run : Program → Input → ℕ → State
run P I zero = start P I
run P I (suc n) = step P I (run P I n)

-- Whether a run has ended: it stopped, trapped or was cut.
abbrev pub has_ended : State → Bool
has_ended s = is_some s.world.ending
