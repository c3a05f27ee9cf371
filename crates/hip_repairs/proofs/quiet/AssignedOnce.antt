-- A register that an `alloca` of a function assigns is assigned by nothing else there.
use Rattle.std.proofs.Common.{◌≡◌, ℕ, zero, suc, true, false, List, [], ◌∷◌, ◌++◌, map, Option, Some, None, slice_get, refl, sym, ap, ◌∙◌, subst}
use Rattle.std.specs.List.{list_any, flat_map}
use Rattle.std.specs.Str.{bytes_eq}
use Rattle.std.proofs.lemmas.List.{map-append}
use Rattle.std.proofs.lemmas.Option.{same_Some}
use Rattle.std.proofs.lemmas.Simd.{map-map}
use Rattle.std.proofs.lemmas.Bool.{false_from_ne_true}
use Rattle.hip_types.specs.Laws.DistinctLaws.{or_first, or_second, any_front, any_back, any_found}
use Rattle.hip_tree.specs.declared.block.Block.{Block}
use Rattle.hip_tree.specs.declared.instr.Instr.{Instr}
use Rattle.hip_tree.specs.declared.instr.Instr.TheVariants.{Binary, Compare, Select, Cast, Alloca, Load, Store, Gep, Call}
use Rattle.hip_tree.specs.declared.block.Phi.{Phi}
use Rattle.hip_tree.specs.declared.program.Function.{Function}
use Rattle.hip_tree.specs.declared.program.Param.{Param}
use Rattle.hip_tree.specs.declared.program.Program.{Program}
use Rattle.hip_names.specs.Laws.NameLaws.{among-sound}
use Rattle.hip_names.specs.Names.{AllDiffer, is_among}
use Rattle.hip_sound.specs.Paths.{names_of}
use Rattle.hip_sound.specs.Registers.{Register, assigned_by, body_registers, phi_registers, block_registers, parameter_registers}
use Rattle.hip_sound.specs.Rules.{PassesVerifier, inner_required}
use Rattle.hip_sound.specs.Sound.{names_in_block, names_in_function}
use Rattle.hip_sound.specs.Laws.Decided.{holds-at}
use Rattle.hip_names.specs.Laws.NameLaws.{bytes_eq-sym}
use Rattle.hip_sound.specs.Laws.NameLaws.{inner-sound}
use Rattle.hip_runs.specs.Places.{blocks_in, blocks_of}
use Rattle.hip_repairs.specs.Direct.{allocates, allocates_in}
use Rattle.hip_names.specs.Laws.DifferLaws.{differ_first, differ_second, differ_apart}

-- ---- lists of items that have names

-- A name of an item is among the names of all.
among_all : {A : Type 0} (names : A → List (List ℕ)) (xs : List A) (k : ℕ) (x : A) (q : List ℕ) → slice_get xs k ≡ Some x → is_among (names x) q ≡ true → is_among (flat_map names xs) q ≡ true
among_all names [] k x q e h = cc
among_all names (y ∷ xs) zero x q e h = any_front (bytes_eq q) (names y) (flat_map names xs) (subst (λ z. is_among (names z) q ≡ true) (sym (same_Some y x e)) h)
among_all names (y ∷ xs) (suc k) x q e h = any_back (bytes_eq q) (names y) (flat_map names xs) (among_all names xs k x q e h)

-- Where all names differ, those of one item do.
differ_at : {A : Type 0} (names : A → List (List ℕ)) (xs : List A) (k : ℕ) (x : A) → AllDiffer (flat_map names xs) → slice_get xs k ≡ Some x → AllDiffer (names x)
differ_at names [] k x d e = cc
differ_at names (y ∷ xs) zero x d e = subst (λ z. AllDiffer (names z)) (same_Some y x e) (differ_first (names y) (flat_map names xs) d)
differ_at names (y ∷ xs) (suc k) x d e = differ_at names xs k x (differ_second (names y) (flat_map names xs) d) e

apart_later : {A : Type 0} (names : A → List (List ℕ)) (z : A) (xs : List A) (j : ℕ) (x y : A) (q : List ℕ) → AllDiffer (flat_map names (z ∷ xs)) → z ≡ x → slice_get xs j ≡ Some y → is_among (names x) q ≡ true → is_among (names y) q ≡ true → ⊥
apart_later names z xs j x y q d same f h i =
    differ_apart (names z) (flat_map names xs) d q (among-sound _ q (subst (λ v. is_among (names v) q ≡ true) (sym same) h)) (among-sound _ q (among_all names xs j y q f i))

-- Two items that have the same name are the same one.
one_item : {A : Type 0} (names : A → List (List ℕ)) (xs : List A) (k j : ℕ) (x y : A) (q : List ℕ) → AllDiffer (flat_map names xs) → slice_get xs k ≡ Some x → slice_get xs j ≡ Some y → is_among (names x) q ≡ true → is_among (names y) q ≡ true → x ≡ y
one_item names [] k j x y q d e f h i = cc
one_item names (z ∷ xs) zero zero x y q d e f h i = sym (same_Some z x e) ∙ same_Some z y f
one_item names (z ∷ xs) zero (suc j) x y q d e f h i = absurd (apart_later names z xs j x y q d (same_Some z x e) f h i)
one_item names (z ∷ xs) (suc k) zero x y q d e f h i = absurd (apart_later names z xs k y x q d (same_Some z y f) e i h)
one_item names (z ∷ xs) (suc k) (suc j) x y q d e f h i = one_item names xs k j x y q (differ_second (names z) (flat_map names xs) d) e f h i

-- ---- the registers of blocks

phis_named : (phis : List Phi) → names_of (phi_registers phis) ≡ map (λ p. p.dest) phis
phis_named phis = map-map (λ (r : Register). r.name) (λ (p : Phi). record { name = p.dest; ty = Some p.ty }) phis

params_named : (fn : Function) → names_of (parameter_registers fn) ≡ map (λ p. p.name) fn.params
params_named fn = map-map (λ (r : Register). r.name) (λ (p : Param). record { name = p.name; ty = Some p.ty }) fn.params

phis_and_body : (b : Block) → names_of (block_registers b) ≡ names_of (phi_registers b.phis) ++ names_of (body_registers b.body)
phis_and_body b = map-append (λ (r : Register). r.name) (phi_registers b.phis) (body_registers b.body)

flat_registers : (body : List Instr) → flat_map (λ i. names_of (assigned_by i)) body ≡ names_of (body_registers body)
flat_registers [] = refl
flat_registers (i ∷ is) = ap (λ xs. names_of (assigned_by i) ++ xs) (flat_registers is) ∙ sym (map-append (λ (r : Register). r.name) (assigned_by i) (body_registers is))

abbrev pub names_of_instr : Instr → List (List ℕ)
names_of_instr i = names_of (assigned_by i)

allocates_name : (q : List ℕ) (i : Instr) → allocates q i ≡ true → is_among (names_of_instr i) q ≡ true
allocates_name q (Alloca dest ty align) e = or_first _ _ (bytes_eq-sym q dest ∙ e)
allocates_name q (Binary dest op flags width a b) e = cc
allocates_name q (Compare dest pred ty a b) e = cc
allocates_name q (Select dest test ty a b) e = cc
allocates_name q (Cast dest op from a to) e = cc
allocates_name q (Load dest ty addr align) e = cc
allocates_name q (Store ty value addr align) e = cc
allocates_name q (Gep dest inbounds ty base indices) e = cc
allocates_name q (Call dest ret callee args) e = cc

in_body : (body : List Instr) (k : ℕ) (i : Instr) (q : List ℕ) → slice_get body k ≡ Some i → is_among (names_of_instr i) q ≡ true → is_among (names_of (body_registers body)) q ≡ true
in_body body k i q e h = subst (λ xs. is_among xs q ≡ true) (flat_registers body) (among_all names_of_instr body k i q e h)

in_block : (b : Block) (q : List ℕ) → is_among (names_of (body_registers b.body)) q ≡ true → is_among (names_in_block b) q ≡ true
in_block b q h = or_second (bytes_eq q b.label) _ (subst (λ ns. is_among ns q ≡ true) (sym (phis_and_body b)) (any_back (bytes_eq q) (names_of (phi_registers b.phis)) (names_of (body_registers b.body)) h))

-- The `alloca` that assigns a register: its block, and the instruction.
record Made (blocks : List Block) (q : List ℕ) : Type 0 where
  j : ℕ
  block : Block
  at : slice_get blocks j ≡ Some block
  k : ℕ
  instr : Instr
  there : slice_get block.body k ≡ Some instr
  is : allocates q instr ≡ true

made : (blocks : List Block) (q : List ℕ) → allocates_in blocks q ≡ true → Made blocks q
made blocks q h =
    let b = any_found (λ (x : Block). list_any (allocates q) x.body) blocks h in
    let i = any_found (allocates q) b.1.body b.3 in
    record { j = b.0; block = b.1; at = b.2; k = i.0; instr = i.1; there = i.2; is = i.3 }

made_in_body : (blocks : List Block) (q : List ℕ) (m : Made blocks q) → is_among (names_of (body_registers m.block.body)) q ≡ true
made_in_body blocks q m = in_body m.block.body m.k m.instr q m.there (allocates_name q m.instr m.is)

made_in_block : (blocks : List Block) (q : List ℕ) (m : Made blocks q) → is_among (names_in_block m.block) q ≡ true
made_in_block blocks q m = in_block m.block q (made_in_body blocks q m)

made_among : (blocks : List Block) (q : List ℕ) → allocates_in blocks q ≡ true → is_among (flat_map names_in_block blocks) q ≡ true
made_among blocks q h = let m = made blocks q h in among_all names_in_block blocks m.j m.block q m.at (made_in_block blocks q m)

-- The names of these blocks differ.
abbrev pub Once : List Block → Type 0
Once blocks = AllDiffer (flat_map names_in_block blocks)

-- A block in which something has the name of the register is the block of the `alloca` that assigns the register.
same_block : (blocks : List Block) (b : ℕ) (block : Block) (q : List ℕ) → Once blocks → slice_get blocks b ≡ Some block → is_among (names_in_block block) q ≡ true → (m : Made blocks q) → block ≡ m.block
same_block blocks b block q once e h m = one_item names_in_block blocks b m.j block m.block q once e m.at h (made_in_block blocks q m)

-- An instruction that assigns such a register is that `alloca`.
pub only_alloca : (blocks : List Block) (b k : ℕ) (block : Block) (i : Instr) (q : List ℕ) → Once blocks → slice_get blocks b ≡ Some block → slice_get block.body k ≡ Some i → is_among (names_of_instr i) q ≡ true → allocates_in blocks q ≡ true → allocates q i ≡ true
only_alloca blocks b k block i q once e f h all = subst (λ x. allocates q x ≡ true) (sym same) m.is
  where
    m : Made blocks q
    m = made blocks q all

    here : block ≡ m.block
    here = same_block blocks b block q once e (in_block block q (in_body block.body k i q f h)) m

    names : AllDiffer (names_in_block m.block)
    names = differ_at names_in_block blocks m.j m.block once m.at

    body : AllDiffer (flat_map names_of_instr m.block.body)
    body = subst AllDiffer (sym (flat_registers m.block.body)) (differ_second (names_of (phi_registers m.block.phis)) (names_of (body_registers m.block.body)) (subst AllDiffer (phis_and_body m.block) names.1))

    same : i ≡ m.instr
    same = one_item names_of_instr m.block.body k m.k i m.instr q body (subst (λ (x : Block). slice_get x.body k ≡ Some i) here f) m.there h (allocates_name q m.instr m.is)

-- No phi assigns such a register.
pub no_phi : (blocks : List Block) (b : ℕ) (block : Block) (q : List ℕ) → Once blocks → slice_get blocks b ≡ Some block → is_among (map (λ p. p.dest) block.phis) q ≡ true → allocates_in blocks q ≡ false
no_phi blocks b block q once e h = false_from_ne_true _ (λ all. meet (made blocks q all))
  where
    there : is_among (names_of (phi_registers block.phis)) q ≡ true
    there = subst (λ ns. is_among ns q ≡ true) (sym (phis_named block.phis)) h

    meet : Made blocks q → ⊥
    meet m =
        let among : is_among (names_in_block block) q ≡ true = or_second (bytes_eq q block.label) _ (subst (λ ns. is_among ns q ≡ true) (sym (phis_and_body block)) (any_front (bytes_eq q) (names_of (phi_registers block.phis)) (names_of (body_registers block.body)) there)) in
        let here : block ≡ m.block = same_block blocks b block q once e among m in
        let names : AllDiffer (names_in_block block) = differ_at names_in_block blocks b block once e in
        differ_apart (names_of (phi_registers block.phis)) (names_of (body_registers block.body)) (subst AllDiffer (phis_and_body block) names.1) q (among-sound _ q there)
        (among-sound _ q (subst (λ (x : Block). is_among (names_of (body_registers x.body)) q ≡ true) (sym here) (made_in_body blocks q m)))

-- No parameter is such a register.
pub no_parameter : (fn : Function) (q : List ℕ) → AllDiffer (names_in_function fn) → is_among (map (λ p. p.name) fn.params) q ≡ true → allocates_in fn.blocks q ≡ false
no_parameter fn q d h = false_from_ne_true _ (λ all. differ_apart (names_of (parameter_registers fn)) (flat_map names_in_block fn.blocks) d q (among-sound _ q (subst (λ ns. is_among ns q ≡ true) (sym (params_named fn)) h)) (among-sound _ q (made_among fn.blocks q all)))

-- ---- the functions of a sound program

pub differ_inside : (P : Program) (g : ℕ) (fn : Function) → PassesVerifier P → slice_get P.functions g ≡ Some fn → AllDiffer (names_in_function fn)
differ_inside P g fn sound e = inner-sound g fn (holds-at inner_required P.functions g fn sound.registers e)

pub once : (P : Program) (g : ℕ) → PassesVerifier P → Once (blocks_of P g)
once P g sound = go (slice_get P.functions g) refl
  where
    go : (o : Option Function) → slice_get P.functions g ≡ o → Once (blocks_in o)
    go None e = tt
    go (Some fn) e = differ_second (names_of (parameter_registers fn)) (flat_map names_in_block fn.blocks) (differ_inside P g fn sound e)
