-- A register that an `alloca` assigns holds an address of the stack, or nothing yet.
use Rattle.std.proofs.Common.{◌≡◌, ℕ, zero, suc, ◌≤◌, true, false, List, [], ◌∷◌, map, Option, Some, None, slice_get, refl, sym, subst, arith}
use Rattle.std.specs.Cmp.Lexicographic.{nat_list_eq_equiv}
use Rattle.std.specs.Str.{bytes_eq}
use Rattle.std.proofs.lemmas.Bool.{both_ways, false_from_ne_true}
use Rattle.hip_types.specs.Laws.DistinctLaws.{or_first, or_second}
use Rattle.hip_tree.specs.declared.block.Block.{Block}
use Rattle.hip_tree.specs.declared.block.Phi.{Phi}
use Rattle.hip_tree.specs.declared.instr.Instr.{Instr}
use Rattle.hip_tree.specs.declared.instr.Instr.TheVariants.{Binary, Compare, Select, Cast, Alloca, Load, Store, Gep, Call}
use Rattle.hip_tree.specs.declared.program.Function.{Function}
use Rattle.hip_tree.specs.declared.program.Param.{Param}
use Rattle.hip_tree.specs.declared.program.Program.{Program}
use Rattle.hip_types.specs.Areas.{stack_end}
use Rattle.hip_names.specs.Names.{is_among}
use Rattle.hip_sound.specs.Rules.{PassesVerifier}
use Rattle.hip_sound.specs.Sound.{IsBlockAt}
use Rattle.hip_runs.specs.declared.input.Input.{Input}
use Rattle.hip_runs.specs.Operands.{look_up, bound}
use Rattle.hip_runs.specs.Places.{blocks_in, blocks_of}
use Rattle.hip_runs.specs.State.{Registers, World}
use Rattle.hip_runs.specs.Step.{run}
use Rattle.hip_invariants.specs.Laws.Registers.Facts.{ValuesHold, each_value, assigned_fact, fact_of_value, values_in_frames}
use Rattle.hip_invariants.specs.Laws.InstrFacts.{instr_fact, fact_holds}
use Rattle.hip_repairs.specs.Direct.{allocates, allocates_in}
use Rattle.hip_repairs.proofs.quiet.AssignedOnce.{names_of_instr, only_alloca, no_phi, no_parameter, differ_inside, once}

-- A register that an `alloca` of its function assigns has no address past the stack.
pub record IsLow (P : Program) (g : ℕ) (name : List ℕ) (v : ℕ) : Type 0 where
  pub is : allocates_in (blocks_of P g) name ≡ true → v ≤ stack_end

-- There is no condition on values that are returned.
abbrev pub Any : ℕ → ℕ → Type 0
Any g v = Unit {0}

module _ (P : Program) (sound : PassesVerifier P) (I : Input) where
  beside : (g : ℕ) (name : List ℕ) (v : ℕ) → allocates_in (blocks_of P g) name ≡ false → IsLow P g name v
  beside g name v a = record { is = λ t. absurd (both_ways _ a t) }

  given_beside : (g : ℕ) (dest : Option (List ℕ)) (v : ℕ) → ((name : List ℕ) → dest ≡ Some name → allocates_in (blocks_of P g) name ≡ false) → assigned_fact (IsLow P) Any g dest v
  given_beside g None v a = tt
  given_beside g (Some name) v a = beside g name v (a name refl)

  own : (q : List ℕ) → is_among (q ∷ []) q ≡ true
  own q = or_first _ _ (nat_list_eq_equiv.refl q)

  bound_low : (h : ℕ) (ps : List Param) (vs : List ℕ) → ((q : List ℕ) → is_among (map (λ p. p.name) ps) q ≡ true → allocates_in (blocks_of P h) q ≡ false) → each_value (IsLow P) Any h (bound ps vs)
  bound_low h [] vs none = tt
  bound_low h (p ∷ ps) [] none = tt
  bound_low h (p ∷ ps) (v ∷ vs) none = (beside h p.name v (none p.name (or_first _ _ (nat_list_eq_equiv.refl p.name))), bound_low h ps vs (λ q i. none q (or_second (bytes_eq q p.name) _ i)))

  parameters : (h : ℕ) (fn : Function) → slice_get P.functions h ≡ Some fn → (q : List ℕ) → is_among (map (λ p. p.name) fn.params) q ≡ true → allocates_in (blocks_of P h) q ≡ false
  parameters h fn e q i = subst (λ (o : Option Function). allocates_in (blocks_in o) q ≡ false) (sym e) (no_parameter fn q (differ_inside P h fn sound e) i)

  module _ (g : ℕ) (w : World) (rs : Registers) where
    other : (i : Instr) → ((q : List ℕ) → is_among (names_of_instr i) q ≡ true → allocates_in (blocks_of P g) q ≡ true → allocates q i ≡ true) → (q : List ℕ) → is_among (names_of_instr i) q ≡ true → allocates q i ≡ false → allocates_in (blocks_of P g) q ≡ false
    other i only q h e = false_from_ne_true _ (λ t. both_ways _ e (only q h t))

    low_fact : (i : Instr) → ((q : List ℕ) → is_among (names_of_instr i) q ≡ true → allocates_in (blocks_of P g) q ≡ true → allocates q i ≡ true) → instr_fact (IsLow P) Any P I g w rs i
    low_fact (Binary dest op flags width x y) only = λ r e. beside g dest _ (other (Binary dest op flags width x y) only dest (own dest) refl)
    low_fact (Compare dest pred ty x y) only = beside g dest _ (other (Compare dest pred ty x y) only dest (own dest) refl)
    low_fact (Select dest test ty x y) only = beside g dest _ (other (Select dest test ty x y) only dest (own dest) refl)
    low_fact (Cast dest op from x to) only = beside g dest _ (other (Cast dest op from x to) only dest (own dest) refl)
    low_fact (Alloca dest ty align) only = λ a e within. record { is = λ t. omega (arith, within) }
    low_fact (Load dest ty addr align) only = beside g dest _ (other (Load dest ty addr align) only dest (own dest) refl)
    low_fact (Store ty value addr align) only = tt
    low_fact (Gep dest inbounds ty base indices) only = beside g dest _ (other (Gep dest inbounds ty base indices) only dest (own dest) refl)
    low_fact (Call dest ret callee args) only = record {
      read = λ e z. given_beside g dest _ avoids;
      enter = λ h fn e named here. (record { all = bound_low h fn.params _ (parameters h fn here) }, record { for_result = λ v r. given_beside g dest v avoids });
    }
      where
        avoids : (name : List ℕ) → dest ≡ Some name → allocates_in (blocks_of P g) name ≡ false
        avoids name e = other (Call dest ret callee args) only name (subst (λ (o : Option (List ℕ)). is_among (names_of_instr (Call o ret callee args)) name ≡ true) (sym e) (own name)) refl

  -- In each frame at each step, such registers have no address after the stack.
  pub run_low : (n : ℕ) → values_in_frames (IsLow P) Any (run P I n).frames
  run_low =
      fact_holds (IsLow P) Any P I
      (record {
        instr = λ n f fs fn block i t h at e. record { is = low_fact f.function (run P I n).world f.registers i (λ r j all. only_alloca (blocks_of P f.function) f.block f.place block i r (once P f.function sound) (blocks_are f.function f.block fn block at) e j all) };
        phi = λ f c k fn block p from h at e. beside f.function p.dest _ (no_phi (blocks_of P f.function) c block p.dest (once P f.function sound) (blocks_are f.function c fn block at) (among_phis block.phis k p e));
        result = λ f fn block arg h at e. tt;
      })
    where
      blocks_are : (g b : ℕ) (fn : Function) (block : Block) → IsBlockAt P g b fn block → slice_get (blocks_of P g) b ≡ Some block
      blocks_are g b fn block at = subst (λ (o : Option Function). slice_get (blocks_in o) b ≡ Some block) (sym at.function) at.block_is

      among_phis : (ps : List Phi) (k : ℕ) (p : Phi) → slice_get ps k ≡ Some p → is_among (map (λ p. p.dest) ps) p.dest ≡ true
      among_phis [] k p e = cc
      among_phis (x ∷ ps) zero p e = or_first _ _ (subst (λ (y : Phi). bytes_eq p.dest y.dest ≡ true) (let s : p ≡ x = cc in s) (nat_list_eq_equiv.refl p.dest))
      among_phis (x ∷ ps) (suc k) p e = or_second (bytes_eq p.dest x.dest) _ (among_phis ps k p e)

-- The registers that an `alloca` of the blocks assigns have no address after the stack.
abbrev pub AreLow : List Block → Registers → Type 0
AreLow blocks rs = (q : List ℕ) → allocates_in blocks q ≡ true → look_up rs q ≤ stack_end

pub are_low : (P : Program) (g : ℕ) (rs : Registers) → ValuesHold (IsLow P) Any g rs → AreLow (blocks_of P g) rs
are_low P g rs h q t = (fact_of_value (IsLow P) Any g rs q h (record { is = λ u. omega arith })).is t
