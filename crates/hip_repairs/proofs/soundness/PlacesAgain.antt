-- The rules of places hold of the repaired program.
use Rattle.std.proofs.Common.{◌≡◌, ◌⊎◌, ⊎_elim, ℕ, zero, suc, ◌+◌, Bool, true, not, ◌&&◌, ◌||◌, List, [], ◌∷◌, ◌++◌, map, Option, Some, is_some, slice_get, refl, sym, ap, ap₂, ◌∙◌, subst, arith}
use Rattle.std.specs.Prelude.{option_and_then, if◌then◌else◌}
use Rattle.std.specs.List.{list_all, list_any}
use Rattle.std.proofs.lemmas.Option.{same_Some}
use Rattle.std.proofs.lemmas.Bool.{and_from, and_parts}
use Rattle.hip_types.specs.Laws.DistinctLaws.{either}
use Rattle.hip_types.specs.declared.number.Scalar.{Scalar}
use Rattle.hip_tree.specs.Sites.{has_site}
use Rattle.hip_tree.specs.declared.block.Block.{Block}
use Rattle.hip_tree.specs.declared.block.End.{End}
use Rattle.hip_tree.specs.declared.block.Phi.{Phi}
use Rattle.hip_tree.specs.declared.instr.Arg.{Arg}
use Rattle.hip_tree.specs.declared.instr.Instr.{Instr}
use Rattle.hip_tree.specs.declared.instr.Instr.TheVariants.{Store, Call}
use Rattle.hip_tree.specs.declared.program.Function.{Function}
use Rattle.hip_tree.specs.declared.program.Program.{Program}
use Rattle.hip_tree.specs.declared.site.Site.{Site}
use Rattle.hip_sound.specs.Requirement.{each}
use Rattle.hip_externs.specs.Externs.{known_signature}
use Rattle.hip_names.specs.Names.{is_among}
use Rattle.hip_sound.specs.NumberedNames.{function_number, label_names}
use Rattle.hip_sound.specs.Places.{Scope, scope_of, callee_of, are_among, uses_known, uses_agree, use_agrees, signature_agrees, register_agrees, instr_agrees, callee_known, instr_required, end_agrees, is_entry, end_required, predecessors, phi_required}
use Rattle.hip_sound.specs.Registers.{Use, registers_of, parameter_registers, find_register, instr_uses, arg_uses, end_uses, end_labels, phi_uses, used_registers, used_globals}
use Rattle.hip_sound.specs.Rules.{PassesVerifier, block_required, places_required}
use Rattle.hip_sound.specs.declared.fault.Place.{Place}
use Rattle.hip_sound.specs.declared.fault.Place.TheVariants as places
use Rattle.hip_sound.specs.Laws.Decided.{holds-at, holds-made}
use Rattle.hip_runs.specs.Places.{body_of, blocks_in}
use Rattle.hip_repairs.specs.declared.plan.Plan.{Plan}
use Rattle.hip_repairs.specs.Repaired.{Clone, Wanted, wanted_by, clwb_name, sfence_name, pmem_flush_name, clones_of, cloned, renamed, is_call_of, needs, repaired, repaired_block, repaired_blocks, repaired_function}
use Rattle.hip_repairs.proofs.soundness.Bodies.{IsOriginal, IsInserted, in_body, inserted_kind, site_at, repaired_instrs, same_blocks_registers}
use Rattle.hip_repairs.proofs.soundness.CalleesAgain.{callee_again}
use Rattle.hip_repairs.proofs.functions.Clones.{called_there, closed_there, has_at, in_has}
use Rattle.hip_runs.specs.StoredParts.Parts.{In}
use Rattle.hip_repairs.proofs.soundness.InsertedAgain.{fence_check, flush_check}
use Rattle.hip_repairs.proofs.soundness.Needed.{inserted_needed, clwb_callee, sfence_callee, pmem_flush_callee}
use Rattle.hip_repairs.proofs.functions.Origins.{Origin, origin}

-- ---- blocks

module _ (clones : List Clone) (w : Wanted) (clone : Bool) (f : ℕ) where
  pub block_there : (first : ℕ) (blocks : List Block) (b : ℕ) (block' : Block) → slice_get (repaired_blocks clones w clone f first blocks) b ≡ Some block' →
      (block : Block) × (slice_get blocks b ≡ Some block) × (block' ≡ repaired_block clones w clone f (first + b) block)
  block_there first [] b block' e = cc
  block_there first (x ∷ xs) zero block' e = let here : first ≡ first + 0 = omega arith in (x, refl, sym (same_Some _ _ e) ∙ ap (λ n. repaired_block clones w clone f n x) here)
  block_there first (x ∷ xs) (suc b) block' e =
      let rest = block_there (suc first) xs b block' e in
      let shifted : suc first + b ≡ first + suc b = omega arith in
      (rest.0, rest.1, rest.2 ∙ ap (λ n. repaired_block clones w clone f n rest.0) shifted)

  same_labels : (first : ℕ) (blocks : List Block) → map (λ b. b.label) (repaired_blocks clones w clone f first blocks) ≡ map (λ b. b.label) blocks
  same_labels first [] = refl
  same_labels first (x ∷ xs) = ap (λ ls. x.label ∷ ls) (same_labels (suc first) xs)

  same_predecessors : (first : ℕ) (blocks : List Block) (label : List ℕ) → predecessors (repaired_blocks clones w clone f first blocks) label ≡ predecessors blocks label
  same_predecessors first [] label = refl
  same_predecessors first (x ∷ xs) label = ap (λ ls. if is_among (end_labels x.end) label then x.label ∷ ls else ls) (same_predecessors (suc first) xs label)

  same_entry : (first : ℕ) (blocks : List Block) (ls : List (List ℕ)) → list_any (is_entry (repaired_blocks clones w clone f first blocks)) ls ≡ list_any (is_entry blocks) ls
  same_entry first [] ls = refl
  same_entry first (x ∷ xs) ls = refl

module _ (P : Program) (plan : Plan) (skip : Site → Bool) (sound : PassesVerifier P) where
  abbrev Q : Program
  Q = repaired P plan skip

  abbrev clones : List Clone
  clones = clones_of P plan

  abbrev w : Wanted
  w = wanted_by plan skip

  module _ (f' : ℕ) (fn' : Function) (o : Origin P plan skip f' fn') where
    abbrev R : Function
    R = repaired_function clones w o.clone o.f o.name o.fn

    abbrev s : Scope
    s = scope_of P o.fn

    abbrev s' : Scope
    s' = scope_of Q R

    regs : registers_of R ≡ registers_of o.fn
    regs = ap (λ rs. parameter_registers o.fn ++ rs) (same_blocks_registers clones w o.clone o.f 0 o.fn.blocks)

    known_again : (us : List Use) → uses_known s' us ≡ uses_known s us
    known_again us = ap (λ rs. list_all (λ n. is_some (find_register rs n)) (used_registers us) && are_among (map (λ g. g.name) P.globals) (used_globals us)) regs

    agree_again : (us : List Use) → uses_agree s' us ≡ uses_agree s us
    agree_again us = ap (λ rs. list_all (λ (u : Use). use_agrees rs u.operand u.ty) us) regs

    labels_again : (ls : List (List ℕ)) → are_among (label_names R) ls ≡ are_among (label_names o.fn) ls
    labels_again ls = ap (λ known. are_among known ls) (same_labels clones w o.clone o.f 0 o.fn.blocks)

    phi_again : (label : List ℕ) (p : Phi) (place place' : Place) → (phi_required s label p place).Holds → (phi_required s' label p place').Holds
    phi_again label p place place' h =
        let edges = map (λ e. e.label) p.edges in
        let before = predecessors o.fn.blocks label in
        let same = same_predecessors clones w o.clone o.f 0 o.fn.blocks label in
        let named = and_parts (are_among edges before) _ h.1.1.1 in
        let more = and_parts (are_among before edges) _ named.1 in (
          ap₂ (λ a b. a && b) (known_again (phi_uses p)) (labels_again (map (λ e. e.label) p.edges)) ∙ h.0,
          (
            h.1.0,
            (
              agree_again (phi_uses p) ∙ h.1.1.0,
              and_from (are_among edges (predecessors R.blocks label)) _ (ap (λ ls. are_among edges ls) same ∙ named.0)
                  (and_from (are_among (predecessors R.blocks label) edges) _ (ap (λ ls. are_among ls edges) same ∙ more.0) more.1),
            ),
          ),
        )

    end_again : (e : End) (place place' : Place) → (end_required s e place).Holds → (end_required s' e place').Holds
    end_again e place place' h = (
      ap₂ (λ a b. a && b) (known_again (end_uses e)) (labels_again (end_labels e)) ∙ h.0,
      (
        h.1.0,
        (
          ap (λ a. a && end_agrees s e) (agree_again (end_uses e)) ∙ h.1.1.0,
          (h.1.1.1.0, ap not (same_entry clones w o.clone o.f 0 o.fn.blocks (end_labels e)) ∙ h.1.1.1.1),
        ),
      ),
    )

    -- ---- instructions

    -- An instruction that stays the same meets the same rules.
    instr_kept : (i : Instr) (place place' : Place) → callee_known s' i ≡ callee_known s i → instr_agrees s' i ≡ instr_agrees s i → (instr_required s i place).Holds → (instr_required s' i place').Holds
    instr_kept i place place' k a h = (ap₂ (λ x y. x && y) (known_again (instr_uses i)) k ∙ h.0, (h.1.0, ap₂ (λ x y. x && y) (agree_again (instr_uses i)) a ∙ h.1.1))

    call_kept : (dest : Option (List ℕ)) (ret : Option Scalar) (callee callee' : List ℕ) (args : List Arg) (place place' : Place) → callee_of Q callee' ≡ callee_of P callee →
        (instr_required s (Call dest ret callee args) place).Holds → (instr_required s' (Call dest ret callee' args) place').Holds
    call_kept dest ret callee callee' args place place' e h = (
      ap₂ (λ x y. x && y) (known_again (arg_uses args)) (ap is_some e) ∙ h.0,
      (h.1.0, ap₂ (λ x y. x && y) (agree_again (arg_uses args)) (ap (λ c. signature_agrees ret args c && register_agrees dest ret) e) ∙ h.1.1),
    )

    -- The callee of a call that is to name a clone has one, if it is defined.
    call_cloned : (b j : ℕ) (block : Block) (dest : Option (List ℕ)) (ret : Option Scalar) (callee : List ℕ) (args : List Arg) → slice_get o.fn.blocks b ≡ Some block → slice_get block.body j ≡ Some (Call dest ret callee args) →
        (o.clone || has_site plan.hoist (record { function = o.f; block = b; index = j })) ≡ true → (g : ℕ) → function_number P callee ≡ Some g → In g (cloned P plan)
    call_cloned b j block dest ret callee args e c t g n =
        ⊎_elim
        (λ clone.
        let high = o.high clone in
        closed_there P plan.hoist o.f b j dest ret callee args g (in_has o.f (cloned P plan) (has_at o.f high.0 (cloned P plan) high.2))
        (ap (λ x. slice_get (body_of (slice_get (blocks_in x) b)) j) o.at ∙ ap (λ x. slice_get (body_of x) j) e ∙ c) n)
        (λ hoisted.
        called_there P plan.hoist (record { function = o.f; block = b; index = j }) dest ret callee args g hoisted
        (ap (λ x. option_and_then (λ y. slice_get y.body j) (option_and_then (λ y. slice_get y.blocks b) x)) o.at ∙ ap (λ x. option_and_then (λ y. slice_get y.body j) x) e ∙ c) n)
        (either o.clone _ t)

    renamed_again : (b j : ℕ) (block : Block) (i : Instr) (place place' : Place) → slice_get o.fn.blocks b ≡ Some block → slice_get block.body j ≡ Some i → (instr_required s i place).Holds →
        (instr_required s' (renamed clones i (o.clone || has_site plan.hoist (record { function = o.f; block = b; index = j }))) place').Holds
    renamed_again b j block (Call dest ret callee args) place place' e c h =
        call_kept dest ret callee _ args place place'
        (callee_again P plan skip sound callee (o.clone || has_site plan.hoist (record { function = o.f; block = b; index = j })) (call_cloned b j block dest ret callee args e c) (and_parts (uses_known s (arg_uses args)) _ h.0).1) h
    renamed_again b j block i place place' e c h = instr_kept i place place' refl refl h

    -- An original or an inserted instruction meets the rules of its place in the repaired program.
    module _ (b : ℕ) (block : Block) (there : slice_get o.fn.blocks b ≡ Some block) (place : ℕ → Place) (place' : Place) (checked : (j : ℕ) (i : Instr) → slice_get block.body j ≡ Some i → (instr_required s i (place j)).Holds) where
      original_again : (k : ℕ) (i' : Instr) → IsOriginal clones w o.clone o.f b 0 block.body k i' → (instr_required s' i' place').Holds
      original_again k i' x =
          let here : 0 + x.0 ≡ x.0 = omega arith in
          subst (λ y. (instr_required s' y place').Holds)
          (ap (λ n. renamed clones x.1 (o.clone || has_site plan.hoist (record { function = o.f; block = b; index = n }))) (sym here) ∙ sym x.3)
          (renamed_again b x.0 block x.1 (place x.0) place' there x.2 (checked x.0 x.1 x.2))

      found_by : (k : ℕ) (i' : Instr) (x : IsInserted clones w o.clone o.f b 0 block.body k i') (name : List ℕ) → is_call_of name i' ≡ true → (name ≡ clwb_name) ⊎ (name ≡ pmem_flush_name) → callee_of Q name ≡ known_signature name
      found_by k i' x name c which =
          let needed = inserted_needed P plan skip name f' fn' o b block x.0 x.2 x.1 i' there x.3 x.4 c in
          ⊎_elim (λ e. ap (callee_of Q) e ∙ clwb_callee P plan skip sound (ap (needs P plan w) (sym e) ∙ needed) ∙ ap known_signature (sym e))
          (λ e. ap (callee_of Q) e ∙ pmem_flush_callee P plan skip sound (ap (needs P plan w) (sym e) ∙ needed) ∙ ap known_signature (sym e)) which

      inserted_again : (k : ℕ) (i' : Instr) → IsInserted clones w o.clone o.f b 0 block.body k i' → (instr_required s' i' place').Holds
      inserted_again k i' x =
          ⊎_elim
          (λ flush.
          let store : (instr_required s' (Store flush.0 flush.1 flush.2 flush.3) place').Holds =
          instr_kept (Store flush.0 flush.1 flush.2 flush.3) (place x.0) place' refl refl (subst (λ y. (instr_required s y (place x.0)).Holds) flush.4 (checked x.0 x.1 x.3)) in
          subst (λ y. (instr_required s' y place').Holds) (sym flush.5)
          (flush_check s' place' place' flush.1 flush.2 flush.0 flush.3 (λ name c which. found_by k i' x name (ap (is_call_of name) flush.5 ∙ c) which) store))
          (λ fence.
          let needed = inserted_needed P plan skip sfence_name f' fn' o b block x.0 x.2 x.1 i' there x.3 x.4 (ap (is_call_of sfence_name) fence) in
          subst (λ y. (instr_required s' y place').Holds) (sym fence) (fence_check s' place' place' (sfence_callee P plan skip sound needed)))
          (inserted_kind w o.clone (site_at clones w o.clone o.f b (0 + x.0)) x.1 x.2 i' x.4)

      body_again : (k : ℕ) (i' : Instr) → slice_get (repaired_instrs clones w o.clone o.f b 0 block.body) k ≡ Some i' → (instr_required s' i' place').Holds
      body_again k i' e = ⊎_elim (original_again k i') (inserted_again k i') (in_body clones w o.clone o.f b 0 block.body k i' e)

    block_again : (b b' : ℕ) (block : Block) → slice_get o.fn.blocks b ≡ Some block → (block_required s o.f b block).Holds → (block_required s' f' b' (repaired_block clones w o.clone o.f b block)).Holds
    block_again b b' block there h = (
      holds-made (λ i p. phi_required s' block.label p (places.Phi (record { function = f'; block = b'; index = i }))) block.phis
          (λ i p e. phi_again block.label p (places.Phi (record { function = o.f; block = b; index = i })) (places.Phi (record { function = f'; block = b'; index = i }))
          (holds-at (λ i p. phi_required s block.label p (places.Phi (record { function = o.f; block = b; index = i }))) block.phis i p h.0 e)),
      (
        holds-made (λ i instr. instr_required s' instr (places.Body (record { function = f'; block = b'; index = i }))) (repaired_instrs clones w o.clone o.f b 0 block.body)
            (λ k i' e. body_again b block there (λ j. places.Body (record { function = o.f; block = b; index = j })) (places.Body (record { function = f'; block = b'; index = k }))
            (λ j i c. holds-at (λ i instr. instr_required s instr (places.Body (record { function = o.f; block = b; index = i }))) block.body j i h.1.0 c) k i' e),
        end_again block.end (places.End o.f b) (places.End f' b') h.1.1,
      ),
    )

    blocks_again : (each (block_required (scope_of Q fn') f') fn'.blocks).Holds
    blocks_again =
        subst (λ fn. (each (block_required (scope_of Q fn) f') fn.blocks).Holds) (sym o.is)
        (holds-made (block_required s' f') R.blocks
        (λ b block' e.
        let at = block_there clones w o.clone o.f 0 o.fn.blocks b block' e in
        let here : 0 + b ≡ b = omega arith in
        let before = holds-at (block_required s o.f) o.fn.blocks b at.0 (holds-at (λ f fn. each (block_required (scope_of P fn) f) fn.blocks) P.functions o.f o.fn sound.places o.at) at.1 in
        subst (λ x. (block_required s' f' b x).Holds) (sym (at.2 ∙ ap (λ n. repaired_block clones w o.clone o.f n at.0) here)) (block_again b b at.0 at.1 before)))

  pub places_again : (places_required (repaired P plan skip)).Holds
  places_again = holds-made (λ f fn. each (block_required (scope_of Q fn) f) fn.blocks) Q.functions (λ f' fn' e. blocks_again f' fn' (origin P plan skip f' fn' e))
