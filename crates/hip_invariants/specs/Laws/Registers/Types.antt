-- A register of a function is found by its name with its own type.
use Rattle.std.proofs.Common.{◌≡◌, ⊎_elim, inl, inr, ℕ, zero, suc, Bool, true, false, List, [], ◌∷◌, ◌++◌, map, Some, slice_get, refl, sym, ap, ◌∙◌, subst}
use Rattle.std.specs.Prelude.{if◌then◌else◌}
use Rattle.std.specs.List.{flat_map}
use Rattle.std.specs.Str.{bytes_eq}
use Rattle.std.proofs.lemmas.Option.{same_Some}
use Rattle.std.proofs.lemmas.Slice.Eq.{bytes_eq-Decides}
use Rattle.hip_tree.specs.declared.block.Block.{Block}
use Rattle.hip_tree.specs.declared.block.Phi.{Phi}
use Rattle.hip_tree.specs.declared.instr.Instr.{Instr}
use Rattle.hip_tree.specs.declared.program.Function.{Function}
use Rattle.hip_tree.specs.declared.program.Param.{Param}
use Rattle.hip_names.specs.Laws.NameLaws.{among-left, among-right, among-either}
use Rattle.hip_names.specs.Names.{AllDiffer, IsAmong}
use Rattle.hip_sound.specs.Paths.{names_of}
use Rattle.hip_sound.specs.Registers.{Register, find_register, registers_of, assigned_by, phi_registers, body_registers, block_registers, parameter_registers}
use Rattle.hip_sound.specs.Sound.{names_in_block, names_in_function, register_names}
use Rattle.hip_runs.specs.StoredParts.Parts.{In}
use Rattle.hip_names.specs.Laws.DifferLaws.{differ_append, differ_first, differ_second, differ_apart}
use Rattle.hip_invariants.specs.Laws.Registers.Names.{names_append}

among_blocks : (bs : List Block) (q : List ℕ) → IsAmong (names_of (flat_map block_registers bs)) q
    → IsAmong (flat_map names_in_block bs) q
among_blocks [] q h = h
among_blocks (b ∷ bs) q h =
    ⊎_elim (λ l. among-left (names_in_block b) (flat_map names_in_block bs) q (inr l))
    (λ r. among-right (names_in_block b) (flat_map names_in_block bs) q (among_blocks bs q r))
    (among-either (names_of (block_registers b)) (names_of (flat_map block_registers bs)) q
    (subst (λ ns. IsAmong ns q) (names_append (block_registers b) (flat_map block_registers bs)) h))

blocks_differ : (bs : List Block) → AllDiffer (flat_map names_in_block bs)
    → AllDiffer (names_of (flat_map block_registers bs))
blocks_differ [] d = tt
blocks_differ (b ∷ bs) d =
    subst AllDiffer (sym (names_append (block_registers b) (flat_map block_registers bs)))
    (differ_append (names_of (block_registers b)) (names_of (flat_map block_registers bs))
    (differ_first (names_in_block b) (flat_map names_in_block bs) d).1
    (blocks_differ bs (differ_second (names_in_block b) (flat_map names_in_block bs) d))
    (λ q h t. differ_apart (names_in_block b) (flat_map names_in_block bs) d q (inr h) (among_blocks bs q t)))

pub registers_differ : (fn : Function) → AllDiffer (names_in_function fn) → AllDiffer (register_names fn)
registers_differ fn d =
    subst AllDiffer (sym (names_append (parameter_registers fn) (flat_map block_registers fn.blocks)))
    (differ_append (names_of (parameter_registers fn)) (names_of (flat_map block_registers fn.blocks))
    (differ_first (names_of (parameter_registers fn)) (flat_map names_in_block fn.blocks) d)
    (blocks_differ fn.blocks (differ_second (names_of (parameter_registers fn)) (flat_map names_in_block fn.blocks) d))
    (λ q h t. differ_apart (names_of (parameter_registers fn)) (flat_map names_in_block fn.blocks) d q h
    (among_blocks fn.blocks q t)))

-- ---- registers among others

in_left : {A : Type 0} (v : A) (xs ys : List A) → In v xs → In v (xs ++ ys)
in_left v [] ys h = absurd h
in_left v (x ∷ xs) ys (inl e) = inl e
in_left v (x ∷ xs) ys (inr h) = inr (in_left v xs ys h)

in_right : {A : Type 0} (v : A) (xs ys : List A) → In v ys → In v (xs ++ ys)
in_right v [] ys h = h
in_right v (x ∷ xs) ys h = inr (in_right v xs ys h)

in_flat : {A B : Type 0} (f : A → List B) (xs : List A) (k : ℕ) (x : A) (v : B) → slice_get xs k ≡ Some x
    → In v (f x) → In v (flat_map f xs)
in_flat f [] k x v e h = cc
in_flat f (y ∷ xs) zero x v e h = in_left v (f y) (flat_map f xs) (subst (λ z. In v (f z)) (sym (same_Some y x e)) h)
in_flat f (y ∷ xs) (suc k) x v e h = in_right v (f y) (flat_map f xs) (in_flat f xs k x v e h)

in_mapped : {A B : Type 0} (f : A → B) (xs : List A) (k : ℕ) (x : A) → slice_get xs k ≡ Some x
    → In (f x) (map f xs)
in_mapped f [] k x e = cc
in_mapped f (y ∷ xs) zero x e = inl (ap f (sym (same_Some y x e)))
in_mapped f (y ∷ xs) (suc k) x e = inr (in_mapped f xs k x e)

named_in : (rs : List Register) (r : Register) → In r rs → IsAmong (names_of rs) r.name
named_in [] r h = h
named_in (x ∷ rs) r (inl e) = inl (ap (λ (z : Register). z.name) (sym e))
named_in (x ∷ rs) r (inr h) = inr (named_in rs r h)

pub found_itself : (rs : List Register) (r : Register) → AllDiffer (names_of rs) → In r rs
    → find_register rs r.name ≡ Some r.ty
found_itself [] r d h = absurd h
found_itself (x ∷ rs) r d (inl e) =
    let same : bytes_eq x.name r.name ≡ true =
    (bytes_eq-Decides x.name r.name).1 (ap (λ (z : Register). z.name) (sym e)) in
    ap (λ t. if t then Some x.ty else find_register rs r.name) same ∙ ap (λ (z : Register). Some z.ty) (sym e)
found_itself (x ∷ rs) r d (inr h) = go (bytes_eq x.name r.name) refl (found_itself rs r d.1 h)
  where
    go : (b : Bool) → bytes_eq x.name r.name ≡ b → find_register rs r.name ≡ Some r.ty
        → (if b then Some x.ty else find_register rs r.name) ≡ Some r.ty
    go true e f = absurd (d.0 (subst (λ n. IsAmong (names_of rs) n) (sym ((bytes_eq-Decides x.name r.name).0 e))
        (named_in rs r h)))
    go false e f = f

module _ (fn : Function) (differ : AllDiffer (names_in_function fn)) where
  -- The type that a function gives to what an instruction, a phi or a parameter assigns.
  pub assigned_type : (b k : ℕ) (block : Block) (i : Instr) (r : Register) → slice_get fn.blocks b ≡ Some block
      → slice_get block.body k ≡ Some i → In r (assigned_by i)
      → find_register (registers_of fn) r.name ≡ Some r.ty
  assigned_type b k block i r at e h =
      found_itself (registers_of fn) r (registers_differ fn differ)
      (in_right r (parameter_registers fn) (flat_map block_registers fn.blocks)
      (in_flat block_registers fn.blocks b block r at
      (in_right r (phi_registers block.phis) (body_registers block.body)
      (in_flat assigned_by block.body k i r e h))))

  pub phi_type : (b k : ℕ) (block : Block) (p : Phi) → slice_get fn.blocks b ≡ Some block
      → slice_get block.phis k ≡ Some p → find_register (registers_of fn) p.dest ≡ Some (Some p.ty)
  phi_type b k block p at e =
      found_itself (registers_of fn) (record { name = p.dest; ty = Some p.ty }) (registers_differ fn differ)
      (in_right _ (parameter_registers fn) (flat_map block_registers fn.blocks)
      (in_flat block_registers fn.blocks b block _ at
      (in_left _ (phi_registers block.phis) (body_registers block.body)
      (in_mapped (λ (q : Phi). record { name = q.dest; ty = Some q.ty }) block.phis k p e))))

  pub parameter_type : (k : ℕ) (p : Param) → slice_get fn.params k ≡ Some p
      → find_register (registers_of fn) p.name ≡ Some (Some p.ty)
  parameter_type k p e =
      found_itself (registers_of fn) (record { name = p.name; ty = Some p.ty }) (registers_differ fn differ)
      (in_left _ (parameter_registers fn) (flat_map block_registers fn.blocks)
      (in_mapped (λ (q : Param). record { name = q.name; ty = Some q.ty }) fn.params k p e))
