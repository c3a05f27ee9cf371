-- The sites of the instructions that pass a test, as one walk finds them.
use Rattle.std.specs.Prelude.{ℕ, suc, Bool, cond, List, [], ◌∷◌, ◌++◌}
use Rattle.hip_tree.specs.declared.block.Block.{Block}
use Rattle.hip_tree.specs.declared.instr.Instr.{Instr}
use Rattle.hip_tree.specs.declared.program.Function.{Function}
use Rattle.hip_tree.specs.declared.site.Site.{Site}

-- The sites in a body of block b of function f whose instructions pass; the first instruction has index k.
abbrev pub passing_in_body : (Instr → Bool) → ℕ → ℕ → ℕ → List Instr → List Site
passing_in_body test f b k [] = []
passing_in_body test f b k (i ∷ is) =
    cond (test i) (record { function = f; block = b; index = k } ∷ []) [] ++ passing_in_body test f b (suc k) is

-- The same in blocks of function f, the first of which has number b.
abbrev pub passing_in_blocks : (Instr → Bool) → ℕ → ℕ → List Block → List Site
passing_in_blocks test f b [] = []
passing_in_blocks test f b (x ∷ xs) = passing_in_body test f b 0 x.body ++ passing_in_blocks test f (suc b) xs

-- The same in functions, the first of which has number f; each function has a test of its own.
abbrev pub passing_in_functions : (ℕ → Instr → Bool) → ℕ → List Function → List Site
passing_in_functions tests f [] = []
passing_in_functions tests f (x ∷ xs) =
    passing_in_blocks (tests f) f 0 x.blocks ++ passing_in_functions tests (suc f) xs
