-- The instructions of a repaired body: each is one of the original's, or it is inserted, and the same registers are
-- assigned before it.
use Rattle.std.proofs.Common.{◌≡◌, ◌⊎◌, inl, inr, ⊎_elim, ℕ, zero, suc, ◌+◌, Bool, true, false, cond, ◌||◌, List, [], ◌∷◌, ◌++◌, map, length, take, Option, Some, slice_get, refl, sym, ap, ◌∙◌, subst, arith, take_all}
use Rattle.std.specs.List.{flat_map}
use Rattle.std.proofs.lemmas.List.{map-append}
use Rattle.std.proofs.lemmas.List.Concat.{flat_map-append}
use Rattle.std.proofs.lemmas.Option.{same_Some}
use Rattle.hip_types.specs.declared.number.Scalar.{Scalar}
use Rattle.hip_tree.specs.declared.block.Block.{Block}
use Rattle.hip_tree.specs.declared.instr.Instr.{Instr}
use Rattle.hip_tree.specs.declared.instr.Instr.TheVariants.{Store, Call}
use Rattle.hip_tree.specs.declared.instr.Operand.{Operand}
use Rattle.hip_tree.specs.declared.site.Site.{Site}
use Rattle.hip_runs.specs.Operands.{scalar_size}
use Rattle.hip_sound.specs.Registers.{assigned_by, body_registers, block_registers, phi_registers}
use Rattle.hip_repairs.specs.Repaired.{Marked, Clone, Wanted, is_wide, line_flush, range_flush, flush_of, the_fence, renamed, inserted_after, repaired_body, instrs_of, repaired_block, repaired_blocks}
use Rattle.hip_repairs.proofs.soundness.Items.{place_in}

renamed_assigns : (clones : List Clone) (i : Instr) (b : Bool) → assigned_by (renamed clones i b) ≡ assigned_by i
renamed_assigns clones (Call dest ret callee args) b = refl
renamed_assigns clones i b = refl

flush_assigns : (ty : Scalar) (addr : Operand) (align : Option ℕ) → assigned_by (flush_of ty addr align) ≡ []
flush_assigns ty addr align = by_width (is_wide ty align)
  where
    by_width : (b : Bool) → assigned_by (cond b (range_flush addr (scalar_size ty)) (line_flush addr)) ≡ []
    by_width true = refl
    by_width false = refl

fence_registers : (c : Bool) (k : ℕ) → body_registers (take k (instrs_of (cond c ((the_fence, true) ∷ []) []))) ≡ []
fence_registers true zero = refl
fence_registers true (suc k) = nothing_more k
  where
    nothing_more : (k : ℕ) → body_registers (take k []) ≡ []
    nothing_more zero = refl
    nothing_more (suc k) = refl
fence_registers false zero = refl
fence_registers false (suc k) = refl

store_registers : (ty : Scalar) (addr : Operand) (align : Option ℕ) (b c : Bool) (k : ℕ) → body_registers (take k (instrs_of (cond b ((flush_of ty addr align, true) ∷ []) [] ++ cond c ((the_fence, true) ∷ []) []))) ≡ []
store_registers ty addr align true c zero = refl
store_registers ty addr align true c (suc k) = ap (λ rs. rs ++ body_registers (take k (instrs_of (cond c ((the_fence, true) ∷ []) [])))) (flush_assigns ty addr align) ∙ fence_registers c k
store_registers ty addr align false c k = fence_registers c k

-- Inserted instructions assign nothing.
inserted_registers : (w : Wanted) (clone : Bool) (s : Site) (i : Instr) (k : ℕ) → body_registers (take k (instrs_of (inserted_after w clone s i))) ≡ []
inserted_registers w clone s (Store ty value addr align) k = store_registers ty addr align _ _ k
inserted_registers w clone s i k = fence_registers _ k

all_inserted_registers : (w : Wanted) (clone : Bool) (s : Site) (i : Instr) → body_registers (instrs_of (inserted_after w clone s i)) ≡ []
all_inserted_registers w clone s i =
    ap body_registers (sym (take_all (length (instrs_of (inserted_after w clone s i))) (instrs_of (inserted_after w clone s i)) (omega arith))) ∙ inserted_registers w clone s i (length (instrs_of (inserted_after w clone s i)))

module _ (clones : List Clone) (w : Wanted) (clone : Bool) (f b : ℕ) where
  abbrev pub site_at : ℕ → Site
  site_at k = record { function = f; block = b; index = k }

  abbrev pub repaired_instrs : ℕ → List Instr → List Instr
  repaired_instrs place is = instrs_of (repaired_body clones w clone f b place is)

  -- An instruction of the repaired body that is one of the original's.
  abbrev pub IsOriginal : ℕ → List Instr → ℕ → Instr → Type 0
  IsOriginal place is k' i' =
      (j : ℕ) × (i : Instr) × (slice_get is j ≡ Some i) × (i' ≡ renamed clones i (clone || w.hoist (site_at (place + j)))) × (body_registers (take k' (repaired_instrs place is)) ≡ body_registers (take j is))

  -- The instruction of the repaired body is inserted after an instruction of the original.
  abbrev pub IsInserted : ℕ → List Instr → ℕ → Instr → Type 0
  IsInserted place is k' i' =
      (j : ℕ) × (i : Instr) × (m : ℕ) × (slice_get is j ≡ Some i) × (slice_get (instrs_of (inserted_after w clone (site_at (place + j)) i)) m ≡ Some i') × (body_registers (take k' (repaired_instrs place is)) ≡ body_registers (take (suc j) is))

  parts : (place : ℕ) (i : Instr) (is : List Instr) → map (λ m. m.0) (inserted_after w clone (site_at place) i ++ repaired_body clones w clone f b (suc place) is) ≡
      instrs_of (inserted_after w clone (site_at place) i) ++ repaired_instrs (suc place) is
  parts place i is = map-append (λ (m : Marked). m.0) (inserted_after w clone (site_at place) i) (repaired_body clones w clone f b (suc place) is)

  -- What is assigned in the first instructions of a body and its inserted ones.
  first_registers : (place k : ℕ) (i : Instr) (is xs : List Instr) → take k (instrs_of (inserted_after w clone (site_at place) i) ++ repaired_instrs (suc place) is) ≡ xs →
      body_registers (take (suc k) (repaired_instrs place (i ∷ is))) ≡ assigned_by i ++ body_registers xs
  first_registers place k i is xs e =
      ap (λ ys. assigned_by (renamed clones i (clone || w.hoist (site_at place))) ++ body_registers (take k ys)) (parts place i is)
      ∙ ap (λ rs. rs ++ body_registers (take k (instrs_of (inserted_after w clone (site_at place) i) ++ repaired_instrs (suc place) is))) (renamed_assigns clones i (clone || w.hoist (site_at place)))
      ∙ ap (λ ys. assigned_by i ++ body_registers ys) e

  later_registers : (place m : ℕ) (i : Instr) (is : List Instr) → body_registers (instrs_of (inserted_after w clone (site_at place) i) ++ take m (repaired_instrs (suc place) is)) ≡ body_registers (take m (repaired_instrs (suc place) is))
  later_registers place m i is =
      flat_map-append assigned_by (instrs_of (inserted_after w clone (site_at place) i)) (take m (repaired_instrs (suc place) is))
      ∙ ap (λ rs. rs ++ body_registers (take m (repaired_instrs (suc place) is))) (all_inserted_registers w clone (site_at place) i)

  pub in_body : (place : ℕ) (is : List Instr) (k' : ℕ) (i' : Instr) → slice_get (repaired_instrs place is) k' ≡ Some i' → IsOriginal place is k' i' ⊎ IsInserted place is k' i'
  in_body place [] k' i' e = cc
  in_body place (i ∷ is) zero i' e =
      let here : place ≡ place + 0 = omega arith in
      inl (0, i, refl, sym (same_Some _ _ e) ∙ ap (λ n. renamed clones i (clone || w.hoist (site_at n))) here, refl)
  in_body place (i ∷ is) (suc k') i' e =
      ⊎_elim
      (λ front.
      let here : place ≡ place + 0 = omega arith in
      inr (
        0,
        i,
        k',
        refl,
        subst (λ n. slice_get (instrs_of (inserted_after w clone (site_at n) i)) k' ≡ Some i') here front.0,
        first_registers place k' i is (take k' (instrs_of (inserted_after w clone (site_at place) i))) front.1
            ∙ ap (λ rs. assigned_by i ++ rs) (inserted_registers w clone (site_at place) i k'),
      ))
      (λ back.
      ⊎_elim
      (λ o.
      let shifted : suc place + o.0 ≡ place + suc o.0 = omega arith in
      inl (
        suc o.0,
        o.1,
        o.2,
        o.3 ∙ ap (λ n. renamed clones o.1 (clone || w.hoist (site_at n))) shifted,
        first_registers place k' i is _ back.2 ∙ ap (λ rs. assigned_by i ++ rs) (later_registers place back.0 i is ∙ o.4),
      ))
      (λ o.
      let shifted : suc place + o.0 ≡ place + suc o.0 = omega arith in
      inr (
        suc o.0,
        o.1,
        o.2,
        o.3,
        subst (λ n. slice_get (instrs_of (inserted_after w clone (site_at n) o.1)) o.2 ≡ Some i') shifted o.4,
        first_registers place k' i is _ back.2 ∙ ap (λ rs. assigned_by i ++ rs) (later_registers place back.0 i is ∙ o.5),
      ))
      (in_body (suc place) is back.0 i' back.1))
      (place_in (instrs_of (inserted_after w clone (site_at place) i)) (repaired_instrs (suc place) is) k' i' (ap (λ ys. slice_get ys k') (sym (parts place i is)) ∙ e))

  -- A repaired body assigns what the original does.
  pub same_registers : (place : ℕ) (is : List Instr) → body_registers (repaired_instrs place is) ≡ body_registers is
  same_registers place [] = refl
  same_registers place (i ∷ is) =
      ap (λ ys. assigned_by (renamed clones i (clone || w.hoist (site_at place))) ++ body_registers ys) (parts place i is)
      ∙ ap (λ rs. rs ++ body_registers (instrs_of (inserted_after w clone (site_at place) i) ++ repaired_instrs (suc place) is)) (renamed_assigns clones i (clone || w.hoist (site_at place)))
      ∙ ap (λ rs. assigned_by i ++ rs)
      (flat_map-append assigned_by (instrs_of (inserted_after w clone (site_at place) i)) (repaired_instrs (suc place) is)
      ∙ ap (λ rs. rs ++ body_registers (repaired_instrs (suc place) is)) (all_inserted_registers w clone (site_at place) i) ∙ same_registers (suc place) is)

pub same_block_registers : (clones : List Clone) (w : Wanted) (clone : Bool) (f b : ℕ) (block : Block) → block_registers (repaired_block clones w clone f b block) ≡ block_registers block
same_block_registers clones w clone f b block = ap (λ rs. phi_registers block.phis ++ rs) (same_registers clones w clone f b 0 block.body)

pub same_blocks_registers : (clones : List Clone) (w : Wanted) (clone : Bool) (f b : ℕ) (blocks : List Block) → flat_map block_registers (repaired_blocks clones w clone f b blocks) ≡ flat_map block_registers blocks
same_blocks_registers clones w clone f b [] = refl
same_blocks_registers clones w clone f b (x ∷ xs) =
    ap (λ rs. rs ++ flat_map block_registers (repaired_blocks clones w clone f (suc b) xs)) (same_block_registers clones w clone f b x)
    ∙ ap (λ rs. block_registers x ++ rs) (same_blocks_registers clones w clone f (suc b) xs)

-- ---- what is inserted

-- The flush of a store, or a fence.
abbrev pub IsFlushOf : Instr → Instr → Type 0
IsFlushOf i i' = (ty : Scalar) × (value : Operand) × (addr : Operand) × (align : Option ℕ) × (i ≡ Store ty value addr align) × (i' ≡ flush_of ty addr align)

fence_kind : (i i' : Instr) (c : Bool) (k : ℕ) → slice_get (instrs_of (cond c ((the_fence, true) ∷ []) [])) k ≡ Some i' → IsFlushOf i i' ⊎ (i' ≡ the_fence)
fence_kind i i' true zero e = inr (sym (same_Some _ _ e))
fence_kind i i' true (suc k) e = cc
fence_kind i i' false k e = cc

store_kind : (ty : Scalar) (value addr : Operand) (align : Option ℕ) (i' : Instr) (b c : Bool) (k : ℕ) → slice_get (instrs_of (cond b ((flush_of ty addr align, true) ∷ []) [] ++ cond c ((the_fence, true) ∷ []) [])) k ≡ Some i' →
    IsFlushOf (Store ty value addr align) i' ⊎ (i' ≡ the_fence)
store_kind ty value addr align i' true c zero e = inl (ty, value, addr, align, refl, sym (same_Some _ _ e))
store_kind ty value addr align i' true c (suc k) e = fence_kind (Store ty value addr align) i' c k e
store_kind ty value addr align i' false c k e = fence_kind (Store ty value addr align) i' c k e

pub inserted_kind : (w : Wanted) (clone : Bool) (s : Site) (i : Instr) (k : ℕ) (i' : Instr) → slice_get (instrs_of (inserted_after w clone s i)) k ≡ Some i' → IsFlushOf i i' ⊎ (i' ≡ the_fence)
inserted_kind w clone s (Store ty value addr align) k i' e = store_kind ty value addr align i' _ _ k e
inserted_kind w clone s i k i' e = fence_kind i i' _ k e
