-- The states of a machine that runs a program.
use Rattle.std.specs.Prelude.{ℕ, Bool, List, [], ◌∷◌, Option, Some, None, ℤ}
use Rattle.hip_tree.specs.declared.site.Site.{Site}
use Rattle.hip_lines.specs.Line.{Line}
use Rattle.hip_mem.specs.Memory.{Write}
use Rattle.hip_runs.specs.declared.event.Ending.{Ending}

-- The call that made a frame: its site, and how many steps had been taken before it.
pub record Level : Type 0 where
  pub call : Site
  pub birth : ℕ

-- A block on the stack that an `alloca` made: its address and size in bytes, and the site of the `alloca`.
pub record Slot : Type 0 where
  pub addr : ℕ
  pub size : ℕ
  pub site : Site

-- The values of registers by their names, the newest first.
abbrev pub Registers : Type 0
Registers = List (List ℕ × ℕ)

-- A frame: its function, its basic block, and its place there, which is the number of the next instruction in the
-- block's body, or the length of the body at the block's end; its registers; the stack mark at its call; its blocks on
-- the stack, the newest first; the register that its result goes into; and the call that made it, which the bottom
-- frame does not have.
pub record Frame : Type 0 where
  pub function : ℕ
  pub block : ℕ
  pub place : ℕ
  pub registers : Registers
  pub mark : ℕ
  pub slots : List Slot
  pub dest : Option (List ℕ)
  pub level : Option Level

-- A flush: how many steps had been taken before it, and its site.
pub record Flush : Type 0 where
  pub step : ℕ
  pub site : Site

-- The part of a store in a cache line: its offset in the region and its bytes; the number of its store's step and of
-- its entry in the trace; the site of its store and the calls that had not returned, from the innermost one outward;
-- the first flush of its line after the store; and whether a fence came after the store.
pub record StorePart : Type 0 where
  pub offset : ℕ
  pub bytes : List ℕ
  pub step : ℕ
  pub entry : ℕ
  pub site : Site
  pub levels : List Level
  pub first_flush : Option Flush
  pub fenced : Bool

-- What was printed, all writes in order, the turns taken, the input numbers left, the stack's mark, and how the run
-- ended.
pub record World : Type 0 where
  pub output : List ℕ
  pub writes : List Write
  pub turns : ℕ
  pub left : List ℤ
  pub mark : ℕ
  pub ending : Option Ending

-- How many steps were taken, and how many entries the trace has so far.
pub record Counts : Type 0 where
  pub steps : ℕ
  pub entries : ℕ

-- A state of a run. The frames are listed from the top one down.
pub record State : Type 0 where
  pub world : World
  pub frames : List Frame
  pub lines : List (Line StorePart)
  pub counts : Counts

-- The calls with one more at the front, if there is one; the bottom frame has none.
abbrev pub level_list : Option Level → List Level → List Level
level_list None rest = rest
level_list (Some l) rest = l ∷ rest

-- The calls that made the frames, from the top one down.
abbrev pub levels_of : List Frame → List Level
levels_of [] = []
levels_of (f ∷ fs) = level_list f.level (levels_of fs)

-- The site of a frame's place; at the end of a block there is no instruction.
abbrev pub site_of : Frame → Site
site_of f = record { function = f.function; block = f.block; index = f.place }
