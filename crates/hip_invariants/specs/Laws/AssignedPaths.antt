-- What is assigned on a path after one more instruction or block.
use Rattle.std.proofs.Common.{◌≡◌, ◌⊎◌, ⊎_elim, inl, inr, ℕ, zero, suc, List, [], ◌∷◌, ◌++◌, take, drop, Some, slice_get, option_map, refl, sym, ap, subst}
use Rattle.std.specs.Prelude.{unwrap_or}
use Rattle.std.specs.List.{flat_map}
use Rattle.std.proofs.lemmas.Option.{same_Some}
use Rattle.hip_tree.specs.declared.block.Block.{Block}
use Rattle.hip_tree.specs.declared.instr.Instr.{Instr}
use Rattle.hip_tree.specs.declared.program.Function.{Function}
use Rattle.hip_names.specs.Laws.NameLaws.{among-left, among-right, among-either}
use Rattle.hip_names.specs.Names.{IsAmong}
use Rattle.hip_sound.specs.Paths.{BlockLeadsTo, IsChain, IsPathTo, registers_before, names_of, whole_block_names, names_before, assigned_on}
use Rattle.hip_sound.specs.Registers.{assigned_by, phi_registers, body_registers, block_registers, parameter_registers}
use Rattle.hip_sound.specs.declared.point.Point.{Point}
use Rattle.hip_sound.specs.declared.point.Point.TheVariants.{Before, AtEnd}
use Rattle.hip_invariants.specs.Laws.Registers.Names.{named_either, named_left, named_right}

-- ---- one instruction more

taken_more : (body : List Instr) (k : ℕ) (i : Instr) (q : List ℕ) → slice_get body k ≡ Some i
    → IsAmong (names_of (body_registers (take (suc k) body))) q
    → IsAmong (names_of (body_registers (take k body))) q ⊎ IsAmong (names_of (assigned_by i)) q
taken_more [] k i q e h = cc
taken_more (x ∷ xs) zero i q e h =
    ⊎_elim (λ l. inr (subst (λ (z : Instr). IsAmong (names_of (assigned_by z)) q) (same_Some x i e) l))
    (λ r. absurd r) (named_either (assigned_by x) [] q h)
taken_more (x ∷ xs) (suc k) i q e h =
    ⊎_elim (λ l. inl (named_left (assigned_by x) (body_registers (take k xs)) q l))
    (λ r. ⊎_elim (λ l. inl (named_right (assigned_by x) (body_registers (take k xs)) q l)) (λ o. inr o)
    (taken_more xs k i q e r))
    (named_either (assigned_by x) (body_registers (take (suc k) xs)) q h)

-- An instruction of a body assigns a register of the body.
body_assigns : (body : List Instr) (k : ℕ) (i : Instr) (q : List ℕ) → slice_get body k ≡ Some i
    → IsAmong (names_of (assigned_by i)) q → IsAmong (names_of (body_registers body)) q
body_assigns [] k i q e h = cc
body_assigns (x ∷ xs) zero i q e h =
    named_left (assigned_by x) (body_registers xs) q
    (subst (λ (z : Instr). IsAmong (names_of (assigned_by z)) q) (sym (same_Some x i e)) h)
body_assigns (x ∷ xs) (suc k) i q e h =
    named_right (assigned_by x) (body_registers xs) q (body_assigns xs k i q e h)

pub taken_all : {A : Type 0} (xs : List A) (k : ℕ) → drop k xs ≡ [] → take k xs ≡ xs
taken_all [] zero e = refl
taken_all [] (suc k) e = refl
taken_all (x ∷ xs) zero e = cc
taken_all (x ∷ xs) (suc k) e = ap (λ ys. x ∷ ys) (taken_all xs k e)

module _ (fn : Function) where
  -- What is assigned in the last block of a path, up to a point.
  before_is : (point : Point) (b : ℕ) (block : Block) → slice_get fn.blocks b ≡ Some block
      → names_before fn point b ≡ names_of (registers_before point block)
  before_is point b block at = ap (λ o. unwrap_or
      (option_map (λ (x : Block). names_of (registers_before point x)) o) []) at

  whole_is : (b : ℕ) (block : Block) → slice_get fn.blocks b ≡ Some block
      → whole_block_names fn b ≡ names_of (block_registers block)
  whole_is b block at = ap (λ o. unwrap_or (option_map (λ (x : Block). names_of (block_registers x)) o) []) at

  -- A name that is assigned on a path is a parameter, or is assigned in an earlier block or in the last block.
  pub on_path : (earlier : List ℕ) (b : ℕ) (block : Block) (point : Point) (q : List ℕ)
      → slice_get fn.blocks b ≡ Some block → IsAmong (assigned_on fn earlier b point) q →
      IsAmong (names_of (parameter_registers fn)) q
      ⊎ (IsAmong (flat_map (whole_block_names fn) earlier) q
      ⊎ IsAmong (names_of (registers_before point block)) q)
  on_path earlier b block point q at h =
      ⊎_elim (λ l. inl l)
      (λ r. inr (⊎_elim (λ l. inl l) (λ m. inr (subst (λ ns. IsAmong ns q) (before_is point b block at) m))
      (among-either (flat_map (whole_block_names fn) earlier) (names_before fn point b) q r)))
      (among-either (names_of (parameter_registers fn))
      (flat_map (whole_block_names fn) earlier ++ names_before fn point b) q h)

  pub by_parameter : (earlier : List ℕ) (b : ℕ) (point : Point) (q : List ℕ)
      → IsAmong (names_of (parameter_registers fn)) q → IsAmong (assigned_on fn earlier b point) q
  by_parameter earlier b point q h = among-left (names_of (parameter_registers fn)) _ q h

  pub by_block : (earlier : List ℕ) (b : ℕ) (point : Point) (q : List ℕ)
      → IsAmong (flat_map (whole_block_names fn) earlier) q → IsAmong (assigned_on fn earlier b point) q
  by_block earlier b point q h = among-right (names_of (parameter_registers fn)) _ q
      (among-left (flat_map (whole_block_names fn) earlier) (names_before fn point b) q h)

  pub by_last : (earlier : List ℕ) (b : ℕ) (block : Block) (point : Point) (q : List ℕ)
      → slice_get fn.blocks b ≡ Some block → IsAmong (names_of (registers_before point block)) q
      → IsAmong (assigned_on fn earlier b point) q
  by_last earlier b block point q at h =
      among-right (names_of (parameter_registers fn)) _ q
      (among-right (flat_map (whole_block_names fn) earlier) (names_before fn point b) q
      (subst (λ ns. IsAmong ns q) (sym (before_is point b block at)) h))

  -- After one more instruction, a name that is assigned on the path was assigned before, or the instruction assigns it.
  pub after_instr : (earlier : List ℕ) (b k : ℕ) (block : Block) (i : Instr) (q : List ℕ)
      → slice_get fn.blocks b ≡ Some block → slice_get block.body k ≡ Some i →
      IsAmong (assigned_on fn earlier b (Before (suc k))) q → IsAmong (assigned_on fn earlier b (Before k)) q
      ⊎ IsAmong (names_of (assigned_by i)) q
  after_instr earlier b k block i q at e h =
      ⊎_elim (λ l. inl (by_parameter earlier b (Before k) q l))
      (λ r. ⊎_elim (λ l. inl (by_block earlier b (Before k) q l))
      (λ m. ⊎_elim (λ l. inl (by_last earlier b block (Before k) q at
      (named_left (phi_registers block.phis) (body_registers (take k block.body)) q l)))
      (λ n. ⊎_elim (λ l. inl (by_last earlier b block (Before k) q at
      (named_right (phi_registers block.phis) (body_registers (take k block.body)) q l))) (λ o. inr o)
      (taken_more block.body k i q e n))
      (named_either (phi_registers block.phis) (body_registers (take (suc k) block.body)) q m)) r)
      (on_path earlier b block (Before (suc k)) q at h)

  -- The end of a block is the place after all its instructions.
  pub at_end : (earlier : List ℕ) (b k : ℕ) (block : Block) (q : List ℕ) → slice_get fn.blocks b ≡ Some block
      → drop k block.body ≡ [] → IsAmong (assigned_on fn earlier b AtEnd) q
      → IsAmong (assigned_on fn earlier b (Before k)) q
  at_end earlier b k block q at e h =
      ⊎_elim (λ l. by_parameter earlier b (Before k) q l)
      (λ r. ⊎_elim (λ l. by_block earlier b (Before k) q l)
      (λ m. by_last earlier b block (Before k) q at
      (subst (λ (is : List Instr). IsAmong (names_of (phi_registers block.phis ++ body_registers is)) q)
      (sym (taken_all block.body k e)) m)) r) (on_path earlier b block AtEnd q at h)

  blocks_more : (earlier : List ℕ) (b : ℕ) (q : List ℕ)
      → IsAmong (flat_map (whole_block_names fn) (earlier ++ b ∷ [])) q
      → IsAmong (flat_map (whole_block_names fn) earlier) q ⊎ IsAmong (whole_block_names fn b) q
  blocks_more [] b q h = ⊎_elim (λ l. inr l) (λ r. absurd r) (among-either (whole_block_names fn b) [] q h)
  blocks_more (c ∷ cs) b q h =
      ⊎_elim (λ l. inl (among-left (whole_block_names fn c) (flat_map (whole_block_names fn) cs) q l))
      (λ r. ⊎_elim (λ l. inl (among-right (whole_block_names fn c) (flat_map (whole_block_names fn) cs) q l))
      (λ o. inr o) (blocks_more cs b q r))
      (among-either (whole_block_names fn c) (flat_map (whole_block_names fn) (cs ++ b ∷ [])) q h)

  -- In the block that control goes to, a name is assigned on the way to the end of the block before it, or by a phi.
  pub over_edge : (earlier : List ℕ) (b c : ℕ) (block to : Block) (q : List ℕ)
      → slice_get fn.blocks b ≡ Some block → slice_get fn.blocks c ≡ Some to →
      IsAmong (assigned_on fn (earlier ++ b ∷ []) c (Before 0)) q → IsAmong (assigned_on fn earlier b AtEnd) q
      ⊎ IsAmong (names_of (phi_registers to.phis)) q
  over_edge earlier b c block to q at there h =
      ⊎_elim (λ l. inl (by_parameter earlier b AtEnd q l))
      (λ r. ⊎_elim
      (λ l. inl (⊎_elim (λ m. by_block earlier b AtEnd q m)
      (λ n. by_last earlier b block AtEnd q at (subst (λ ns. IsAmong ns q) (whole_is b block at) n))
      (blocks_more earlier b q l)))
      (λ m. ⊎_elim (λ p. inr p) (λ none. none_taken to.body none)
      (named_either (phi_registers to.phis) (body_registers (take 0 to.body)) q m)) r)
      (on_path (earlier ++ b ∷ []) c to (Before 0) q there h)
    where
      none_taken : (body : List Instr) → IsAmong (names_of (body_registers (take 0 body))) q
          → IsAmong (assigned_on fn earlier b AtEnd) q ⊎ IsAmong (names_of (phi_registers to.phis)) q
      none_taken [] h = absurd h
      none_taken (i ∷ is) h = absurd h

  -- A name that an instruction of the block assigns is assigned at the end of the block.
  pub by_instr : (earlier : List ℕ) (b k : ℕ) (block : Block) (i : Instr) (q : List ℕ)
      → slice_get fn.blocks b ≡ Some block → slice_get block.body k ≡ Some i →
      IsAmong (names_of (assigned_by i)) q → IsAmong (assigned_on fn earlier b AtEnd) q
  by_instr earlier b k block i q at e h =
      by_last earlier b block AtEnd q at
      (named_right (phi_registers block.phis) (body_registers block.body) q (body_assigns block.body k i q e h))

  blocks_kept : (earlier : List ℕ) (b : ℕ) (q : List ℕ)
      → IsAmong (flat_map (whole_block_names fn) earlier) q ⊎ IsAmong (whole_block_names fn b) q
      → IsAmong (flat_map (whole_block_names fn) (earlier ++ b ∷ [])) q
  blocks_kept [] b q (inl h) = absurd h
  blocks_kept [] b q (inr h) = among-left (whole_block_names fn b) [] q h
  blocks_kept (c ∷ cs) b q (inl h) =
      ⊎_elim (λ l. among-left (whole_block_names fn c) _ q l)
      (λ r. among-right (whole_block_names fn c) _ q (blocks_kept cs b q (inl r)))
      (among-either (whole_block_names fn c) (flat_map (whole_block_names fn) cs) q h)
  blocks_kept (c ∷ cs) b q (inr h) = among-right (whole_block_names fn c) _ q (blocks_kept cs b q (inr h))

  -- A name that is assigned at the end of a block is also assigned at the end of the next block of a path.
  pub by_earlier : (earlier : List ℕ) (b c : ℕ) (block : Block) (q : List ℕ)
      → slice_get fn.blocks b ≡ Some block
      → IsAmong (assigned_on fn earlier b AtEnd) q → IsAmong (assigned_on fn (earlier ++ b ∷ []) c AtEnd) q
  by_earlier earlier b c block q at h =
      ⊎_elim (λ l. by_parameter (earlier ++ b ∷ []) c AtEnd q l)
      (λ r. by_block (earlier ++ b ∷ []) c AtEnd q (blocks_kept earlier b q
      (⊎_elim (λ l. inl l) (λ m. inr (subst (λ ns. IsAmong ns q) (sym (whole_is b block at)) m)) r)))
      (on_path earlier b block AtEnd q at h)

  -- A name that a phi of the last block of a path assigns is assigned at the end of that block.
  pub by_phi : (earlier : List ℕ) (c : ℕ) (to : Block) (q : List ℕ) → slice_get fn.blocks c ≡ Some to
      → IsAmong (names_of (phi_registers to.phis)) q → IsAmong (assigned_on fn earlier c AtEnd) q
  by_phi earlier c to q there h =
      by_last earlier c to AtEnd q there (named_left (phi_registers to.phis) (body_registers to.body) q h)

  -- ---- paths that go on

  chain_more : (x : ℕ) (blocks before : List ℕ) (last c : ℕ) → x ∷ blocks ≡ before ++ last ∷ []
      → IsChain fn x blocks → BlockLeadsTo fn last c → IsChain fn x (blocks ++ c ∷ [])
  chain_more x [] [] last c e chain leads = let same : last ≡ x = cc in (subst (λ n. BlockLeadsTo fn n c) same leads, tt)
  chain_more x [] (p ∷ []) last c e chain leads = cc
  chain_more x [] (p ∷ (q ∷ ps)) last c e chain leads = cc
  chain_more x (y ∷ ys) [] last c e chain leads = cc
  chain_more x (y ∷ ys) (p ∷ ps) last c e chain leads = let rest : y ∷ ys ≡ ps ++ last ∷ [] = cc in
      (chain.0, chain_more y ys ps last c rest chain.1 leads)

  pub path_more : (earlier : List ℕ) (b c : ℕ) → IsPathTo fn (earlier ++ b ∷ []) b → BlockLeadsTo fn b c
      → IsPathTo fn ((earlier ++ b ∷ []) ++ c ∷ []) c
  path_more earlier b c path leads = record {
    blocks = path.blocks ++ c ∷ [];
    is = ap (λ bs. bs ++ c ∷ []) path.is;
    chain = chain_more 0 path.blocks earlier b c (sym path.is) path.chain leads;
    earlier = earlier ++ b ∷ [];
    last_is = refl;
  }
