-- Sites: the places of instructions, by function, block and place in the block's body, each numbered from 0.
use Rattle.std.specs.Prelude.{ℕ, suc, Bool, ◌&&◌, nat_eq, List, [], ◌∷◌, ◌++◌, Option, slice_get, option_and_then}
use Rattle.std.specs.List.{list_any}
use Rattle.hip_tree.specs.declared.block.Block.{Block}
use Rattle.hip_tree.specs.declared.instr.Instr.{Instr}
use Rattle.hip_tree.specs.declared.program.Function.{Function}
use Rattle.hip_tree.specs.declared.program.Program.{Program}
use Rattle.hip_tree.specs.declared.site.Site.{Site}

-- The basic block of that number in the function of that number; none if one of them does not exist.
abbrev pub block_of : Program → ℕ → ℕ → Option Block
block_of program function block = option_and_then (λ f. slice_get f.blocks block)
    (slice_get program.functions function)

-- The instruction at a site.
abbrev pub instr_of : Program → Site → Option Instr
instr_of program site = option_and_then (λ b. slice_get b.body site.index) (block_of program site.function site.block)

-- Whether two sites have the same function, block and index.
abbrev pub same_site : Site → Site → Bool
same_site a b = nat_eq a.function b.function && (nat_eq a.block b.block && nat_eq a.index b.index)

-- Whether one of the sites is this one.
abbrev pub has_site : List Site → Site → Bool
has_site sites s = list_any (same_site s) sites

-- The sites of these instructions of block b of function f; the first instruction has index k.
abbrev pub body_sites : ℕ → ℕ → ℕ → List Instr → List Site
body_sites f b k [] = []
body_sites f b k (i ∷ is) = record { function = f; block = b; index = k } ∷ body_sites f b (suc k) is

-- The sites of these blocks of function f; the first block has number b. Phis and ends of blocks have no sites.
abbrev pub block_sites : ℕ → ℕ → List Block → List Site
block_sites f b [] = []
block_sites f b (x ∷ xs) = body_sites f b 0 x.body ++ block_sites f (suc b) xs

-- The sites of these functions; the first function has number f.
abbrev pub function_sites : ℕ → List Function → List Site
function_sites f [] = []
function_sites f (x ∷ xs) = block_sites f 0 x.blocks ++ function_sites (suc f) xs

-- All sites of a program, in its order.
abbrev pub sites_of : Program → List Site
sites_of program = function_sites 0 program.functions
