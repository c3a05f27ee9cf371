-- Crashes where some flushes are ordered. Such a flush makes what its lines hold durable, and needs no fence. Intel's
-- manual orders CLFLUSH so; for a pick of external functions the definitions here say what a crash may leave then. The
-- weakest pick, that no flush is ordered, is the one of the other crates. (This project's own; Intel's manual, CLFLUSH.)
use Rattle.std.specs.Prelude.{◌≡◌, ◌≤◌, ℕ, zero, suc, ◌+◌, ◌*◌, max, nat_le, nat_lt, Bool, true, false, cond, ◌&&◌, List, [], ◌∷◌, length, Option, Some, None, slice_get}
use Rattle.hip_types.specs.declared.areas.TheConstants.{LINE_SIZE}
use Rattle.hip_tree.specs.declared.instr.Instr.{Instr}
use Rattle.hip_tree.specs.declared.instr.Instr.TheVariants.{Call}
use Rattle.hip_tree.specs.declared.program.Program.{Program}
use Rattle.hip_externs.specs.Externs.{call_of}
use Rattle.hip_externs.specs.declared.call.ExternCall.{ExternCall}
use Rattle.hip_externs.specs.declared.call.ExternCall.TheVariants.{Clflush}
use Rattle.hip_lines.specs.Image.{IsLineImageAt}
use Rattle.hip_lines.specs.Line.{Line}
use Rattle.hip_runs.specs.Crash.{byte_of, covers}
use Rattle.hip_runs.specs.Places.{code_at}
use Rattle.hip_runs.specs.State.{Frame, StorePart}
use Rattle.hip_runs.specs.Step.{event, run}
use Rattle.hip_runs.specs.declared.event.Event.{Event}
use Rattle.hip_runs.specs.declared.event.Event.TheVariants as events
use Rattle.hip_runs.specs.declared.input.Input.{Input}

-- ---- which flushes are ordered

-- No flush is ordered: the answer of the other crates.
abbrev pub weak : ExternCall → Bool
weak call = false

-- CLFLUSH is ordered, as Intel's manual says.
abbrev pub intel : ExternCall → Bool
intel Clflush = true
intel call = false

-- Whether an external function, if there is one, flushes in order.
abbrev pub is_ordered : (ExternCall → Bool) → Option ExternCall → Bool
is_ordered ordered None = false
is_ordered ordered (Some call) = ordered call

-- Whether the first of these instructions calls a function that flushes in order.
abbrev pub begins_ordered : (ExternCall → Bool) → List Instr → Bool
begins_ordered ordered (Call dest ret callee args ∷ is) = is_ordered ordered (call_of callee)
begins_ordered ordered is = false

-- Whether the top frame is at such a call.
abbrev pub stands_ordered : (ExternCall → Bool) → Program → List Frame → Bool
stands_ordered ordered P [] = false
stands_ordered ordered P (f ∷ fs) = begins_ordered ordered (code_at P f)

-- ---- what they make durable

-- Whether an event flushes cache line j of the region.
abbrev pub flushes_line : Input → ℕ → Event → Bool
flushes_line I j (events.Flush line size) =
    nat_le line (I.base + LINE_SIZE * j) && nat_lt (I.base + LINE_SIZE * j) (line + size)
flushes_line I j e = false

-- How many parts a line has; 0 if it does not exist.
abbrev pub parts_in : Option (Line StorePart) → ℕ
parts_in None = 0
parts_in (Some l) = length l.parts

-- How many parts of line j the ordered flushes among the first n steps have made durable: all that the line had at the
-- last of them.
abbrev pub ordered_parts : (ExternCall → Bool) → Program → Input → ℕ → ℕ → ℕ
ordered_parts ordered P I zero j = 0
ordered_parts ordered P I (suc n) j =
    max (ordered_parts ordered P I n j)
    (cond (flushes_line I j (event P I (run P I n)) && stands_ordered ordered P (run P I n).frames)
    (parts_in (slice_get (run P I n).lines j)) 0)

-- ---- crash images

-- In line j, a crash may leave this content: the initial bytes, changed by the line's first parts, which include all
-- durable ones and all that an ordered flush has made durable.
pub record IsOrderedLine (ordered : ExternCall → Bool) (P : Program) (I : Input) (n : ℕ) (content : List ℕ) (j : ℕ)
    (l : Line StorePart) : Type 0
  where
    pub first : ℕ
    pub at : IsLineImageAt covers byte_of I.image content j l first
    pub ordered_too : ordered_parts ordered P I n j ≤ first

-- A crash may leave this content after n steps: so much in each line, independently of the others.
pub record IsOrderedImage (ordered : ExternCall → Bool) (P : Program) (I : Input) (n : ℕ) (content : List ℕ) : Type 0
  where
    pub whole : length content ≡ length I.image
    pub lines : (j : ℕ) (l : Line StorePart) → slice_get (run P I n).lines j ≡ Some l
        → IsOrderedLine ordered P I n content j l
