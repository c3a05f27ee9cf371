-- A clone of a function: the function with flushes and fences inserted, and with calls that may name other functions.
use Rattle.std.specs.Prelude.{◌≡◌, ◌≤◌, ℕ, false, List, [], ◌∷◌, length, Some, slice_get}
use Rattle.hip_tree.specs.declared.block.Block.{Block}
use Rattle.hip_tree.specs.declared.instr.Instr.{Instr}
use Rattle.hip_tree.specs.declared.instr.Instr.TheVariants.{Call}
use Rattle.hip_tree.specs.declared.program.Function.{Function}
use Rattle.hip_tree.specs.declared.program.Program.{Program}
use Rattle.hip_runs.specs.Actions.{is_turn}

-- The two instructions are the same, except for the function that a call names.
abbrev pub IsSameButCallee : Instr → Instr → Type 0
IsSameButCallee (Call dest ret callee args) i' = (other : List ℕ) × (i' ≡ Call dest ret other args)
IsSameButCallee i i' = i' ≡ i

-- The second body is the first one with flushes and fences inserted, and calls may name other functions. An instruction
-- that takes no turn is a flush or a fence.
pub data HasInserted : List Instr → List Instr → Type 0 where
  done : HasInserted [] []
  kept : {is is' : List Instr} (i i' : Instr) → IsSameButCallee i i' → HasInserted is is' →
      HasInserted (i ∷ is) (i' ∷ is')
  inserted : {is is' : List Instr} (i' : Instr) → is_turn i' ≡ false → HasInserted is is' →
      HasInserted is (i' ∷ is')

-- The two blocks are the same, except for the inserted instructions of the second and the functions that calls name.
pub record IsCopy (b b' : Block) : Type 0 where
  pub label : b'.label ≡ b.label
  pub phis : b'.phis ≡ b.phis
  pub body : HasInserted b.body b'.body
  pub end : b'.end ≡ b.end

-- Both lists have as many blocks, and each block of the second is a copy of the one at its place.
abbrev pub AreCopies : List Block → List Block → Type 0
AreCopies [] [] = Unit {0}
AreCopies (b ∷ bs) (b' ∷ bs') = IsCopy b b' × AreCopies bs bs'
AreCopies [] (b' ∷ bs') = ⊥
AreCopies (b ∷ bs) [] = ⊥

-- Function h of Q is a clone of function g of P: it comes after all functions of P, and has the result, the parameters
-- and the blocks of g, with flushes and fences inserted.
pub record IsClone (P Q : Program) (g h : ℕ) : Type 0 where
  pub original : Function
  pub original_at : slice_get P.functions g ≡ Some original
  pub copy : Function
  pub copy_at : slice_get Q.functions h ≡ Some copy
  pub further : length P.functions ≤ h
  pub ret : copy.ret ≡ original.ret
  pub params : copy.params ≡ original.params
  pub blocks : AreCopies original.blocks copy.blocks
