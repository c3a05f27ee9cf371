-- What is at a place of a program.
use Rattle.std.specs.Prelude.{ℕ, List, [], map, drop, Option, Some, None, slice_get}
use Rattle.hip_tree.specs.declared.block.Block.{Block}
use Rattle.hip_tree.specs.declared.block.End.{End}
use Rattle.hip_tree.specs.declared.block.Phi.{Phi}
use Rattle.hip_tree.specs.declared.instr.Instr.{Instr}
use Rattle.hip_tree.specs.declared.program.Function.{Function}
use Rattle.hip_tree.specs.declared.program.Program.{Program}
use Rattle.hip_names.specs.Names.{number_of}
use Rattle.hip_runs.specs.State.{Frame}

-- The blocks of a function, the entry block first; none if there is no function.
abbrev pub blocks_in : Option Function → List Block
blocks_in None = []
blocks_in (Some f) = f.blocks

-- The blocks of the function of that number.
abbrev pub blocks_of : Program → ℕ → List Block
blocks_of P f = blocks_in (slice_get P.functions f)

-- Block b of function f, both numbered from 0; none if there is no such function or block.
abbrev pub block_at : Program → ℕ → ℕ → Option Block
block_at P f b = slice_get (blocks_of P f) b

-- The instructions of a block between its phis and its end; none if there is no block.
abbrev pub body_of : Option Block → List Instr
body_of None = []
body_of (Some b) = b.body

-- The end of a block, its terminator; none if there is no block. (LLVM, "Terminator Instructions".)
abbrev pub end_of : Option Block → Option End
end_of None = None
end_of (Some b) = Some b.end

-- The phis of a block, in order; none if there is no block.
abbrev pub phis_of : Option Block → List Phi
phis_of None = []
phis_of (Some b) = b.phis

-- The label of a block; the empty name if there is no block.
abbrev pub label_of : Option Block → List ℕ
label_of None = []
label_of (Some b) = b.label

-- The body of block b of function f, both numbered from 0; no instruction if there is no such block.
abbrev pub body_at : Program → ℕ → ℕ → List Instr
body_at P f b = body_of (block_at P f b)

-- The number of the block with that label.
abbrev pub block_number : List Block → List ℕ → Option ℕ
block_number blocks label = number_of (map (λ b. b.label) blocks) label

-- The instructions from a frame's place on; none at the end of a block.
abbrev pub code_at : Program → Frame → List Instr
code_at P f = drop f.place (body_at P f.function f.block)

-- The end of the frame's block, whatever the frame's place in it; none if there is no such block.
abbrev pub end_at : Program → Frame → Option End
end_at P f = end_of (block_at P f.function f.block)
