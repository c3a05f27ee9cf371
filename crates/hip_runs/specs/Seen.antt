-- What contracts see of a machine: the run of its program on its input, and how many steps of it were taken.
use Rattle.std.specs.Prelude.{ℕ, suc, cond, List, [], ◌∷◌, Option, Some, None, option_map, slice_get}
use Rattle.hip_tree.specs.declared.instr.Instr.{Instr}
use Rattle.hip_tree.specs.declared.instr.Operand.{Operand}
use Rattle.hip_tree.specs.declared.program.Program.{Program}
use Rattle.hip_tree.specs.declared.site.Site.{Site}
use Rattle.hip_runs.specs.declared.input.Input.{Input}
use Rattle.hip_runs.specs.Found.Marks.{pointer_operands}
use Rattle.hip_runs.specs.Operands.{value_of}
use Rattle.hip_runs.specs.Places.{code_at}
use Rattle.hip_runs.specs.State.{Frame, State, levels_of, site_of}
use Rattle.hip_runs.specs.Step.{has_ended, run}

-- A run, and how many of its steps a machine, or a log of them, has taken.
pub record Seen : Type 0 where
  pub program : Program
  pub input : Input
  pub taken : ℕ

-- The state of the run after the steps that were taken.
abbrev pub state_of : Seen → State
state_of m = run m.program m.input m.taken

-- The run after one more step, unless the run has ended.
abbrev pub after_step : Seen → Seen
after_step m = record m { taken = cond (has_ended (state_of m)) m.taken (suc m.taken) }

-- The site of a frame's next instruction; none at its block's end.
abbrev pub site_in : Frame → List Instr → Option Site
site_in f [] = None
site_in f (i ∷ rest) = Some (site_of f)

-- The site of the top frame's next instruction; none at its block's end, and none without a frame.
abbrev pub top_site : Program → List Frame → Option Site
top_site P [] = None
top_site P (f ∷ fs) = site_in f (code_at P f)

-- The site of the next instruction; none at a block's end, and none if the run has ended.
abbrev pub next_site : Program → State → Option Site
next_site P s = cond (has_ended s) None (top_site P s.frames)

-- The call that made the frame at a level, where the top one has level 0.
abbrev pub call_site_of : State → ℕ → Option Site
call_site_of s level = option_map (λ l. l.call) (slice_get (levels_of s.frames) level)

-- The pointer operands of the first of these instructions.
abbrev pub operands_in : Program → List Instr → List Operand
operands_in P [] = []
operands_in P (i ∷ rest) = pointer_operands P i

-- The value of the pointer operand of that number, counted from 0, of the top frame's next instruction; none if it has
-- no such operand, and none without a frame.
abbrev pub top_pointer : Program → Input → List Frame → ℕ → Option ℕ
top_pointer P I [] operand = None
top_pointer P I (f ∷ fs) operand =
    option_map (value_of P.globals I.base f.registers) (slice_get (operands_in P (code_at P f)) operand)

-- The value of a pointer operand of the next instruction; none if the run has ended.
abbrev pub pointer_of : Program → Input → State → ℕ → Option ℕ
pointer_of P I s operand = cond (has_ended s) None (top_pointer P I s.frames operand)
