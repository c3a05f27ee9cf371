-- How many steps a run takes at most, and that it ends.
use Rattle.std.specs.Prelude.{◌≡◌, ℕ, ◌+◌, ◌-◌, ◌*◌, suc, true, List, [], ◌∷◌, length, max}
use Rattle.hip_tree.specs.declared.block.Block.{Block}
use Rattle.hip_tree.specs.declared.program.Function.{Function}
use Rattle.hip_tree.specs.declared.program.Program.{Program}
use Rattle.hip_runs.specs.declared.input.Input.{Input}
use Rattle.hip_runs.specs.Step.{run, has_ended}

-- The length of the longest body of these blocks, without phis and ends; 0 where there is no block.
abbrev pub longest_body : List Block → ℕ
longest_body [] = 0
longest_body (b ∷ bs) = max (length b.body) (longest_body bs)

-- The length of the longest body of all blocks of these functions; 0 if there is no block.
abbrev pub longest_in : List Function → ℕ
longest_in [] = 0
longest_in (f ∷ fs) = max (longest_body f.blocks) (longest_in fs)

-- The length of the longest body of a program's blocks.
abbrev pub longest : Program → ℕ
longest P = longest_in P.functions

-- How many steps are left at most: one body for each turn that the limit still allows, and what the top frame has left.
abbrev pub steps_left : Program → Input → ℕ → ℕ → ℕ
steps_left P I turns left = (I.limit - turns) * suc (longest P) + left

-- The run ends.
abbrev pub Ends : Program → Input → Type 0
Ends P I = (k : ℕ) × (has_ended (run P I k) ≡ true)
