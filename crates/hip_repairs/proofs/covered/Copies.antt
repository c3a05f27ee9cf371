-- What takes a function's place in the repaired program is a copy of it with flushes and fences inserted.
use Rattle.std.proofs.Common.{◌≡◌, ℕ, suc, ◌≤◌, Bool, true, false, cond, not, ◌&&◌, ◌||◌, List, [], ◌∷◌, ◌++◌, length, Option, Some, slice_get, refl}
use Rattle.hip_types.specs.declared.number.Scalar.{Scalar}
use Rattle.hip_tree.specs.declared.block.Block.{Block}
use Rattle.hip_tree.specs.declared.instr.Instr.{Instr}
use Rattle.hip_tree.specs.declared.instr.Instr.TheVariants.{Binary, Compare, Select, Cast, Alloca, Load, Store, Gep, Call}
use Rattle.hip_tree.specs.declared.instr.Operand.{Operand}
use Rattle.hip_tree.specs.declared.program.Function.{Function}
use Rattle.hip_tree.specs.declared.program.Program.{Program}
use Rattle.hip_tree.specs.declared.site.Site.{Site}
use Rattle.hip_runs.specs.Actions.{is_turn}
use Rattle.hip_runs.specs.Operands.{scalar_size}
use Rattle.hip_repairs.specs.declared.plan.Plan.{Plan}
use Rattle.hip_repairs.specs.Clones.{IsSameButCallee, HasInserted, done, kept, inserted, IsCopy, AreCopies, IsClone}
use Rattle.hip_repairs.specs.Repaired.{Marked, Clone, Wanted, is_wide, line_flush, range_flush, flush_of, the_fence, clone_name, renamed, added_flush, added_fence, wanted_by, clones_of, repaired, instrs_of, repaired_body, repaired_block, repaired_blocks, repaired_function}
use Rattle.hip_repairs.proofs.functions.Twins.{CallsTwin}

flush_is_still : (ty : Scalar) (addr : Operand) (align : Option ℕ) → is_turn (flush_of ty addr align) ≡ false
flush_is_still ty addr align = go (is_wide ty align)
  where
    go : (b : Bool) → is_turn (cond b (range_flush addr (scalar_size ty)) (line_flush addr)) ≡ false
    go true = refl
    go false = refl

renamed_same : (clones : List Clone) (i : Instr) (b : Bool) → IsSameButCallee i (renamed clones i b)
renamed_same clones (Call dest ret callee args) b = (cond b (clone_name clones callee) callee, refl)
renamed_same clones (Binary dest op flags width x y) b = refl
renamed_same clones (Compare dest pred ty x y) b = refl
renamed_same clones (Select dest test ty x y) b = refl
renamed_same clones (Cast dest op from x to) b = refl
renamed_same clones (Alloca dest ty align) b = refl
renamed_same clones (Load dest ty addr align) b = refl
renamed_same clones (Store ty value addr align) b = refl
renamed_same clones (Gep dest inbounds ty base indices) b = refl

module _ (is : List Instr) (rest : List Marked) (more : HasInserted is (instrs_of rest)) where
  fence_copied : (c : Bool) → HasInserted is (instrs_of (added_fence c ++ rest))
  fence_copied true = inserted the_fence refl more
  fence_copied false = more

  copied_past : (i : Instr) (b c : Bool) → HasInserted is (instrs_of ((added_flush i b ++ added_fence c) ++ rest))
  copied_past (Store ty value addr align) true c = inserted (flush_of ty addr align) (flush_is_still ty addr align) (fence_copied c)
  copied_past (Store ty value addr align) false c = fence_copied c
  copied_past (Binary dest op flags width x y) b c = fence_copied c
  copied_past (Compare dest pred ty x y) b c = fence_copied c
  copied_past (Select dest test ty x y) b c = fence_copied c
  copied_past (Cast dest op from x to) b c = fence_copied c
  copied_past (Alloca dest ty align) b c = fence_copied c
  copied_past (Load dest ty addr align) b c = fence_copied c
  copied_past (Gep dest inbounds ty base indices) b c = fence_copied c
  copied_past (Call dest ret callee args) b c = fence_copied c

module _ (clones : List Clone) (w : Wanted) (clone : Bool) (f : ℕ) where
  body_copied : (b k : ℕ) (is : List Instr) → HasInserted is (instrs_of (repaired_body clones w clone f b k is))
  body_copied b k [] = done
  body_copied b k (i ∷ is) =
      let s : Site = record { function = f; block = b; index = k } in
      kept i (renamed clones i (clone || w.hoist s)) (renamed_same clones i (clone || w.hoist s))
      (copied_past is (repaired_body clones w clone f b (suc k) is) (body_copied b (suc k) is) i
      (w.flush_after s || (clone && not (w.skip s))) (w.fence_after s || w.hoist s))

  block_copied : (b : ℕ) (x : Block) → IsCopy x (repaired_block clones w clone f b x)
  block_copied b x = record { label = refl; phis = refl; body = body_copied b 0 x.body; end = refl }

  blocks_copied : (b : ℕ) (xs : List Block) → AreCopies xs (repaired_blocks clones w clone f b xs)
  blocks_copied b [] = tt
  blocks_copied b (x ∷ xs) = (block_copied b x, blocks_copied (suc b) xs)

-- A call of a clone calls a clone of the function that the program calls.
pub twin_is_clone : (P : Program) (plan : Plan) (skip : Site → Bool) (to_clone : Bool) (callee' : List ℕ) (g : ℕ) (fn : Function) → slice_get P.functions g ≡ Some fn →
    (twin : CallsTwin P plan skip to_clone callee' g fn) → length P.functions ≤ twin.number → IsClone P (repaired P plan skip) g twin.number
twin_is_clone P plan skip to_clone callee' g fn there twin high = record {
  original = fn;
  original_at = there;
  copy = repaired_function (clones_of P plan) (wanted_by plan skip) to_clone g twin.name fn;
  copy_at = twin.code;
  further = high;
  ret = refl;
  params = refl;
  blocks = blocks_copied (clones_of P plan) (wanted_by plan skip) to_clone g 0 fn.blocks;
}
