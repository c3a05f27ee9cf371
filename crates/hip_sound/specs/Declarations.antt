-- What a function declares, in the order of its text: its parameters, and block by block the label, the registers of
-- the phis and those of the body. Arguments say what each declaration becomes, so there is one walk for all uses.
use Rattle.std.specs.Prelude.{ℕ, List, ◌∷◌, ◌++◌, map}
use Rattle.hip_tree.specs.declared.block.Block.{Block}
use Rattle.hip_tree.specs.declared.block.Phi.{Phi}
use Rattle.hip_tree.specs.declared.instr.Instr.{Instr}
use Rattle.hip_tree.specs.declared.program.Function.{Function}
use Rattle.hip_tree.specs.declared.program.Param.{Param}
use Rattle.hip_globals.specs.Constants.{joined}
use Rattle.hip_sound.specs.Names.{numbered}
use Rattle.hip_sound.specs.Registers.{Register, assigned_by}

-- What a parameter, the label of a block, a phi of a block, and a register that an instruction of a block assigns
-- become; blocks, phis and instructions are numbered from 0.
pub record Declares (A : Type 0) : Type 0 where
  pub parameter : Param → A
  pub label : ℕ → List ℕ → A
  pub phi : ℕ → ℕ → Phi → A
  pub instr : ℕ → ℕ → Register → A

-- What the register that the instruction of that number assigns becomes; empty if it assigns none.
abbrev pub instr_declared : {A : Type 0} → (ℕ → Register → A) → ℕ → Instr → List A
instr_declared each i instr = map (each i) (assigned_by instr)

-- What the registers that a body's instructions assign become, in order, each with its instruction's number.
abbrev pub body_declared : {A : Type 0} → (ℕ → Register → A) → List Instr → List A
body_declared each body = joined (numbered (instr_declared each) body)

-- What the block of that number becomes: its label, its phis, and the registers that its body assigns.
abbrev pub block_declared : {A : Type 0} → Declares A → ℕ → Block → List A
block_declared d b block =
    d.label b block.label ∷ (numbered (d.phi b) block.phis ++ body_declared (d.instr b) block.body)

-- What blocks become, in order, each with its number.
abbrev pub blocks_declared : {A : Type 0} → Declares A → List Block → List A
blocks_declared d blocks = joined (numbered (block_declared d) blocks)

-- What a function becomes: its parameters, and then its blocks.
abbrev pub declared_by : {A : Type 0} → Declares A → Function → List A
declared_by d fn = map d.parameter fn.params ++ blocks_declared d fn.blocks
