-- Each use of a register in the repaired program is assigned on every path.
use Rattle.std.proofs.Common.{◌≡◌, ⊎_elim, ℕ, zero, suc, ◌+◌, Bool, true, false, cond, ◌||◌, List, [], ◌∷◌, ◌++◌, map, take, Option, Some, None, slice_get, option_map, unwrap_or, refl, sym, ap, ap₂, ◌∙◌, subst, arith, append-nil, append_assoc}
use Rattle.std.specs.Prelude.{All, if◌then◌else◌}
use Rattle.std.specs.List.{flat_map}
use Rattle.std.specs.Str.{bytes_eq}
use Rattle.std.proofs.lemmas.List.{map-append}
use Rattle.std.proofs.lemmas.List.Elements.{All-append, All-cons, All-head, All-nil, All-tail}
use Rattle.std.proofs.lemmas.Option.{same_Some}
use Rattle.hip_types.specs.declared.number.Scalar.{Scalar}
use Rattle.hip_types.specs.declared.number.Scalar.TheVariants.{Ptr}
use Rattle.hip_tree.specs.declared.block.Block.{Block}
use Rattle.hip_tree.specs.declared.block.Edge.{Edge}
use Rattle.hip_tree.specs.declared.block.Phi.{Phi}
use Rattle.hip_tree.specs.declared.instr.Instr.{Instr}
use Rattle.hip_tree.specs.declared.instr.Instr.TheVariants.{Store, Call}
use Rattle.hip_tree.specs.declared.instr.Operand.{Operand}
use Rattle.hip_tree.specs.declared.program.Function.{Function}
use Rattle.hip_tree.specs.declared.program.Program.{Program}
use Rattle.hip_tree.specs.declared.site.Site.{Site}
use Rattle.hip_sound.specs.Laws.AssignedExact.{all-front, all-back, all-joined, joined-all}
use Rattle.hip_globals.specs.Constants.{joined}
use Rattle.hip_names.specs.Names.{IsAmong}
use Rattle.hip_sound.specs.Names.{numbered_from}
use Rattle.hip_sound.specs.Paths.{label_at, labels_named_at, BlockLeadsTo, IsChain, IsPathTo, names_of, whole_block_names, names_before, IsAssigned}
use Rattle.hip_sound.specs.Registers.{assigned_by, body_registers, block_registers, phi_registers, parameter_registers, use_of, instr_uses, used_registers, operand_registers, end_labels, end_uses}
use Rattle.hip_sound.specs.Rules.{PassesVerifier, use_at, block_number_from, edge_register_uses, phi_register_uses, instr_register_uses, end_register_uses, block_register_uses, UseIsAssigned, AllAssigned}
use Rattle.hip_sound.specs.declared.point.Point.{Point}
use Rattle.hip_sound.specs.declared.point.Point.TheVariants.{Before, AtEnd}
use Rattle.hip_sound.specs.declared.fault.Place.{Place}
use Rattle.hip_sound.specs.declared.fault.Place.TheVariants as places
use Rattle.hip_runs.specs.Operands.{scalar_size}
use Rattle.hip_repairs.specs.declared.plan.Plan.{Plan}
use Rattle.hip_repairs.specs.Repaired.{Clone, Wanted, wanted_by, clones_of, renamed, is_wide, line_flush, range_flush, flush_of, repaired, repaired_block, repaired_blocks, repaired_function}
use Rattle.hip_repairs.proofs.soundness.Bodies.{IsOriginal, IsInserted, in_body, inserted_kind, site_at, repaired_instrs, same_block_registers}
use Rattle.hip_repairs.proofs.functions.Origins.{Origin, origin}
use Rattle.hip_repairs.proofs.soundness.PlacesAgain.{block_there}

-- ---- instructions

renamed_uses : (clones : List Clone) (i : Instr) (b : Bool) → instr_uses (renamed clones i b) ≡ instr_uses i
renamed_uses clones (Call dest ret callee args) b = refl
renamed_uses clones i b = refl

flush_uses : (ty : Scalar) (addr : Operand) (align : Option ℕ) → used_registers (instr_uses (flush_of ty addr align)) ≡ used_registers (use_of addr Ptr ∷ [])
flush_uses ty addr align = by_width (is_wide ty align)
  where
    by_width : (b : Bool) → used_registers (instr_uses (cond b (range_flush addr (scalar_size ty)) (line_flush addr))) ≡ used_registers (use_of addr Ptr ∷ [])
    by_width true = refl
    by_width false = refl

-- What is assigned up to an instruction and by it.
one_more : (is : List Instr) (j : ℕ) (i : Instr) → slice_get is j ≡ Some i → body_registers (take (suc j) is) ≡ body_registers (take j is) ++ assigned_by i
one_more [] j i e = cc
one_more (x ∷ is) zero i e = append-nil (assigned_by x) ∙ ap assigned_by (same_Some x i e)
one_more (x ∷ is) (suc j) i e = ap (λ rs. assigned_by x ++ rs) (one_more is j i e) ∙ sym (append_assoc (assigned_by x) (body_registers (take j is)) (assigned_by i))

module _ (clones : List Clone) (w : Wanted) (clone : Bool) (f : ℕ) (name : List ℕ) (fn : Function) where
  abbrev R : Function
  R = repaired_function clones w clone f name fn

  kept_from : (first b : ℕ) (xs : List Block) → slice_get (repaired_blocks clones w clone f first xs) b ≡ option_map (repaired_block clones w clone f (first + b)) (slice_get xs b)
  kept_from first b [] = refl
  kept_from first zero (x ∷ xs) = let h : first ≡ first + 0 = omega arith in ap (λ n. Some (repaired_block clones w clone f n x)) h
  kept_from first (suc b) (x ∷ xs) = let h : suc first + b ≡ first + suc b = omega arith in kept_from (suc first) b xs ∙ ap (λ n. option_map (repaired_block clones w clone f n) (slice_get xs b)) h

  block_kept : (b : ℕ) → slice_get R.blocks b ≡ option_map (repaired_block clones w clone f (0 + b)) (slice_get fn.blocks b)
  block_kept b = kept_from 0 b fn.blocks

  label_of_kept : (n : ℕ) (o : Option Block) → option_map (λ (b : Block). b.label) (option_map (repaired_block clones w clone f n) o) ≡ option_map (λ b. b.label) o
  label_of_kept n None = refl
  label_of_kept n (Some x) = refl

  same_label_at : (b : ℕ) → label_at R b ≡ label_at fn b
  same_label_at b = ap (option_map (λ (x : Block). x.label)) (block_kept b) ∙ label_of_kept (0 + b) (slice_get fn.blocks b)

  ends_kept : (n : ℕ) (o : Option Block) → option_map (λ (b : Block). end_labels b.end) (option_map (repaired_block clones w clone f n) o) ≡ option_map (λ b. end_labels b.end) o
  ends_kept n None = refl
  ends_kept n (Some x) = refl

  same_labels_named : (b : ℕ) → labels_named_at R b ≡ labels_named_at fn b
  same_labels_named b = ap (λ o. unwrap_or o []) (ap (option_map (λ (x : Block). end_labels x.end)) (block_kept b) ∙ ends_kept (0 + b) (slice_get fn.blocks b))

  names_kept : (n : ℕ) (o : Option Block) → option_map (λ (b : Block). names_of (block_registers b)) (option_map (repaired_block clones w clone f n) o) ≡ option_map (λ b. names_of (block_registers b)) o
  names_kept n None = refl
  names_kept n (Some x) = ap (λ rs. Some (names_of rs)) (same_block_registers clones w clone f n x)

  same_names : (b : ℕ) → whole_block_names R b ≡ whole_block_names fn b
  same_names b = ap (λ o. unwrap_or o []) (ap (option_map (λ (x : Block). names_of (block_registers x))) (block_kept b) ∙ names_kept (0 + b) (slice_get fn.blocks b))

  same_at_end : (b : ℕ) → names_before R AtEnd b ≡ names_before fn AtEnd b
  same_at_end b = same_names b

  -- ---- paths

  leads_before : (b c : ℕ) → BlockLeadsTo R b c → BlockLeadsTo fn b c
  leads_before b c h = record { label = h.label; here = sym (same_label_at c) ∙ h.here; named = subst (λ ls. IsAmong ls h.label) (same_labels_named b) h.named }

  chain_before : (b : ℕ) (cs : List ℕ) → IsChain R b cs → IsChain fn b cs
  chain_before b [] h = tt
  chain_before b (c ∷ cs) h = (leads_before b c h.0, chain_before c cs h.1)

  path_before : (path : List ℕ) (last : ℕ) → IsPathTo R path last → IsPathTo fn path last
  path_before path last h = record { blocks = h.blocks; is = h.is; chain = chain_before 0 h.blocks h.chain; earlier = h.earlier; last_is = h.last_is }

  same_earlier : (bs : List ℕ) → flat_map (whole_block_names R) bs ≡ flat_map (whole_block_names fn) bs
  same_earlier [] = refl
  same_earlier (b ∷ bs) = ap₂ (λ xs ys. xs ++ ys) (same_names b) (same_earlier bs)

  -- A register that is assigned on every path in the program is assigned on every path in the repaired program.
  assigned_again : (last : ℕ) (point point' : Point) (register : List ℕ) → names_before R point' last ≡ names_before fn point last → IsAssigned fn last point register → IsAssigned R last point' register
  assigned_again last point point' register same h path u =
      h path (record {
        leads = path_before path last u.leads;
        earlier = u.earlier;
        is = u.is;
        none = λ a. u.none (subst (λ ns. IsAmong ns register) (sym (ap₂ (λ xs ys. names_of (parameter_registers fn) ++ (xs ++ ys)) (same_earlier u.earlier) same)) a);
      })

  -- ---- uses

  uses_again : (p p' : Place) (b : ℕ) (point point' : Point) → names_before R point' b ≡ names_before fn point b → (names : List (List ℕ)) → All (UseIsAssigned fn) (map (use_at p b point) names) → All (UseIsAssigned R) (map (use_at p' b point') names)
  uses_again p p' b point point' same [] h = All-nil (UseIsAssigned R)
  uses_again p p' b point point' same (n ∷ names) h =
      All-cons (UseIsAssigned R) (use_at p' b point' n) (map (use_at p' b point') names)
      (assigned_again b point point' n same (All-head (UseIsAssigned fn) (use_at p b point n) (map (use_at p b point) names) h))
      (uses_again p p' b point point' same names (All-tail (UseIsAssigned fn) (use_at p b point n) (map (use_at p b point) names) h))

  numbers_kept : (n : ℕ) (first : ℕ) (blocks : List Block) (label : List ℕ) → block_number_from n (repaired_blocks clones w clone f first blocks) label ≡ block_number_from n blocks label
  numbers_kept n first [] label = refl
  numbers_kept n first (x ∷ xs) label = ap (λ ns. if bytes_eq x.label label then n ∷ [] else ns) (numbers_kept (n + 1) (suc first) xs label)

  at_ends_again : (p p' : Place) (names : List (List ℕ)) (bs : List ℕ) → All (UseIsAssigned fn) (flat_map (λ b. map (use_at p b AtEnd) names) bs) → All (UseIsAssigned R) (flat_map (λ b. map (use_at p' b AtEnd) names) bs)
  at_ends_again p p' names [] h = All-nil (UseIsAssigned R)
  at_ends_again p p' names (b ∷ bs) h =
      All-append (UseIsAssigned R) (map (use_at p' b AtEnd) names) (flat_map (λ b. map (use_at p' b AtEnd) names) bs)
      (uses_again p p' b AtEnd AtEnd (same_at_end b) names (all-front (UseIsAssigned fn) (map (use_at p b AtEnd) names) (flat_map (λ b. map (use_at p b AtEnd) names) bs) h))
      (at_ends_again p p' names bs (all-back (UseIsAssigned fn) (map (use_at p b AtEnd) names) (flat_map (λ b. map (use_at p b AtEnd) names) bs) h))

  edge_again : (p p' : Place) (ty : Scalar) (e : Edge) → All (UseIsAssigned fn) (edge_register_uses fn.blocks p ty e) → All (UseIsAssigned R) (edge_register_uses R.blocks p' ty e)
  edge_again p p' ty e h =
      subst (λ bs. All (UseIsAssigned R) (flat_map (λ b. map (use_at p' b AtEnd) (used_registers (use_of e.value ty ∷ []))) bs)) (sym (numbers_kept 0 0 fn.blocks e.label))
      (at_ends_again p p' (used_registers (use_of e.value ty ∷ [])) (block_number_from 0 fn.blocks e.label) h)

  edges_again : (p p' : Place) (ty : Scalar) (es : List Edge) → All (UseIsAssigned fn) (flat_map (edge_register_uses fn.blocks p ty) es) → All (UseIsAssigned R) (flat_map (edge_register_uses R.blocks p' ty) es)
  edges_again p p' ty [] h = All-nil (UseIsAssigned R)
  edges_again p p' ty (e ∷ es) h =
      All-append (UseIsAssigned R) (edge_register_uses R.blocks p' ty e) (flat_map (edge_register_uses R.blocks p' ty) es)
      (edge_again p p' ty e (all-front (UseIsAssigned fn) (edge_register_uses fn.blocks p ty e) (flat_map (edge_register_uses fn.blocks p ty) es) h))
      (edges_again p p' ty es (all-back (UseIsAssigned fn) (edge_register_uses fn.blocks p ty e) (flat_map (edge_register_uses fn.blocks p ty) es) h))

  -- ---- blocks

  before_kept : (b : ℕ) (block : Block) (k j : ℕ) → slice_get fn.blocks b ≡ Some block → body_registers (take k (repaired_instrs clones w clone f b 0 block.body)) ≡ body_registers (take j block.body) → names_before R (Before k) b ≡ names_before fn (Before j) b
  before_kept b block k j e same =
      let here : 0 + b ≡ b = omega arith in
      ap (λ o. unwrap_or (option_map (λ (x : Block). names_of (phi_registers x.phis ++ body_registers (take k x.body))) o) []) (block_kept b ∙ ap (option_map (repaired_block clones w clone f (0 + b))) e)
      ∙ ap (λ n. names_of (phi_registers block.phis ++ body_registers (take k (repaired_instrs clones w clone f n 0 block.body)))) here
      ∙ ap (λ rs. names_of (phi_registers block.phis ++ rs)) same
      ∙ sym (ap (λ o. unwrap_or (option_map (λ (x : Block). names_of (phi_registers x.phis ++ body_registers (take j x.body))) o) []) e)

  module _ (f' b : ℕ) (block : Block) (there : slice_get fn.blocks b ≡ Some block) (body : All (UseIsAssigned fn) (joined (numbered_from 0 (instr_register_uses f b) block.body))) where
    uses_of : (j : ℕ) (i : Instr) → slice_get block.body j ≡ Some i → All (UseIsAssigned fn) (instr_register_uses f b j i)
    uses_of j i e = let here : 0 + j ≡ j = omega arith in subst (λ n. All (UseIsAssigned fn) (instr_register_uses f b n i)) here (all-joined (UseIsAssigned fn) 0 (instr_register_uses f b) block.body body j i e)

    original_again : (k : ℕ) (i' : Instr) → IsOriginal clones w clone f b 0 block.body k i' → All (UseIsAssigned R) (instr_register_uses f' b k i')
    original_again k i' o =
        subst (λ us. All (UseIsAssigned R) (map (use_at (places.Body (record { function = f'; block = b; index = k })) b (Before k)) (used_registers us)))
        (sym (ap instr_uses o.3 ∙ renamed_uses clones o.1 (clone || w.hoist (site_at clones w clone f b (0 + o.0)))))
        (uses_again (places.Body (record { function = f; block = b; index = o.0 })) (places.Body (record { function = f'; block = b; index = k })) b (Before o.0) (Before k)
        (before_kept b block k o.0 there o.4) (used_registers (instr_uses o.1)) (uses_of o.0 o.1 o.2))

    flush_again : (k j : ℕ) (ty : Scalar) (value addr : Operand) (align : Option ℕ) → slice_get block.body j ≡ Some (Store ty value addr align) →
        body_registers (take k (repaired_instrs clones w clone f b 0 block.body)) ≡ body_registers (take (suc j) block.body) → All (UseIsAssigned R) (instr_register_uses f' b k (flush_of ty addr align))
    flush_again k j ty value addr align e same =
        let store = uses_of j (Store ty value addr align) e in
        let place = places.Body (record { function = f; block = b; index = j }) in
        let parts : All (UseIsAssigned fn) (map (use_at place b (Before j)) (operand_registers value) ++ map (use_at place b (Before j)) (used_registers (use_of addr Ptr ∷ []))) =
        subst (All (UseIsAssigned fn)) (map-append (use_at place b (Before j)) (operand_registers value) (used_registers (use_of addr Ptr ∷ []))) store in
        subst (λ ns. All (UseIsAssigned R) (map (use_at (places.Body (record { function = f'; block = b; index = k })) b (Before k)) ns)) (sym (flush_uses ty addr align))
        (uses_again place (places.Body (record { function = f'; block = b; index = k })) b (Before j) (Before k)
        (before_kept b block k j there (same ∙ one_more block.body j (Store ty value addr align) e ∙ append-nil (body_registers (take j block.body))))
        (used_registers (use_of addr Ptr ∷ [])) (all-back (UseIsAssigned fn) (map (use_at place b (Before j)) (operand_registers value)) _ parts))

    inserted_again : (k : ℕ) (i' : Instr) → IsInserted clones w clone f b 0 block.body k i' → All (UseIsAssigned R) (instr_register_uses f' b k i')
    inserted_again k i' o =
        ⊎_elim
        (λ flush.
        subst (λ x. All (UseIsAssigned R) (instr_register_uses f' b k x)) (sym flush.5)
        (flush_again k o.0 flush.0 flush.1 flush.2 flush.3 (o.3 ∙ ap Some flush.4) o.5))
        (λ fence. subst (λ x. All (UseIsAssigned R) (instr_register_uses f' b k x)) (sym fence) (All-nil (UseIsAssigned R)))
        (inserted_kind w clone (site_at clones w clone f b (0 + o.0)) o.1 o.2 i' o.4)

    body_again : All (UseIsAssigned R) (joined (numbered_from 0 (instr_register_uses f' b) (repaired_instrs clones w clone f b 0 block.body)))
    body_again =
        joined-all (UseIsAssigned R) 0 (instr_register_uses f' b) (repaired_instrs clones w clone f b 0 block.body)
        (λ k i' e.
        let here : k ≡ 0 + k = omega arith in
        subst (λ n. All (UseIsAssigned R) (instr_register_uses f' b n i')) here (⊎_elim (original_again k i') (inserted_again k i') (in_body clones w clone f b 0 block.body k i' e)))

  phis_again : (f' b : ℕ) (phis : List Phi) → All (UseIsAssigned fn) (joined (numbered_from 0 (λ i p. phi_register_uses fn.blocks (places.Phi (record { function = f; block = b; index = i })) p) phis)) →
      All (UseIsAssigned R) (joined (numbered_from 0 (λ i p. phi_register_uses R.blocks (places.Phi (record { function = f'; block = b; index = i })) p) phis))
  phis_again f' b phis h =
      joined-all (UseIsAssigned R) 0 (λ i p. phi_register_uses R.blocks (places.Phi (record { function = f'; block = b; index = i })) p) phis
      (λ k p e.
      edges_again (places.Phi (record { function = f; block = b; index = 0 + k })) (places.Phi (record { function = f'; block = b; index = 0 + k })) p.ty p.edges
      (all-joined (UseIsAssigned fn) 0 (λ i p. phi_register_uses fn.blocks (places.Phi (record { function = f; block = b; index = i })) p) phis h k p e))

  block_again : (f' b : ℕ) (block : Block) → slice_get fn.blocks b ≡ Some block → All (UseIsAssigned fn) (block_register_uses fn.blocks f b block) →
      All (UseIsAssigned R) (block_register_uses R.blocks f' b (repaired_block clones w clone f b block))
  block_again f' b block there h =
      let phis = joined (numbered_from 0 (λ i p. phi_register_uses fn.blocks (places.Phi (record { function = f; block = b; index = i })) p) block.phis) in
      let body = joined (numbered_from 0 (instr_register_uses f b) block.body) in
      let end = end_register_uses f b block.end in
      let first = all-front (UseIsAssigned fn) (phis ++ body) end h in
      All-append (UseIsAssigned R) _ (end_register_uses f' b block.end)
      (All-append (UseIsAssigned R) _ _ (phis_again f' b block.phis (all-front (UseIsAssigned fn) phis body first)) (body_again f' b block there (all-back (UseIsAssigned fn) phis body first)))
      (uses_again (places.End f b) (places.End f' b) b AtEnd AtEnd (same_at_end b) (used_registers (end_uses block.end)) (all-back (UseIsAssigned fn) (phis ++ body) end h))

  function_again : (f' : ℕ) → AllAssigned fn f → AllAssigned R f'
  function_again f' h =
      joined-all (UseIsAssigned R) 0 (block_register_uses R.blocks f') R.blocks
      (λ b block' e.
      let at = block_there clones w clone f 0 fn.blocks b block' e in
      subst (λ x. All (UseIsAssigned R) (block_register_uses R.blocks f' (0 + b) x)) (sym at.2)
      (let here : b ≡ 0 + b = omega arith in
      subst (λ n. All (UseIsAssigned R) (block_register_uses R.blocks f' n (repaired_block clones w clone f n at.0))) here
      (block_again f' b at.0 at.1
      (subst (λ n. All (UseIsAssigned fn) (block_register_uses fn.blocks f n at.0)) (sym here)
      (all-joined (UseIsAssigned fn) 0 (block_register_uses fn.blocks f) fn.blocks h b at.0 at.1)))))

module _ (P : Program) (plan : Plan) (skip : Site → Bool) (sound : PassesVerifier P) where
  from_origin : (f' : ℕ) (fn' : Function) → Origin P plan skip f' fn' → AllAssigned fn' f'
  from_origin f' fn' o =
      subst (λ x. AllAssigned x f') (sym o.is) (function_again (clones_of P plan) (wanted_by plan skip) o.clone o.f o.name o.fn f' (sound.assigned o.f o.fn o.at))

  pub all_assigned_again : (f' : ℕ) (fn' : Function) → slice_get (repaired P plan skip).functions f' ≡ Some fn' → AllAssigned fn' f'
  all_assigned_again f' fn' e = from_origin f' fn' (origin P plan skip f' fn' e)
