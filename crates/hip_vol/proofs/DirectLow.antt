-- A store whose address is a register that an `alloca` assigns, or a volatile global itself, is a low one.
use Rattle.std.proofs.Common.{◌≡◌, ◌⊎◌, ⊎_elim, inl, inr, ℕ, zero, suc, Bool, true, false, cond, List, [], ◌∷◌, map, Option, Some, None, slice_get, refl, sym, ap, ◌∙◌, subst, arith}
use Rattle.std.specs.Prelude.{is_some}
use Rattle.std.specs.Str.{bytes_eq}
use Rattle.std.specs.Cmp.Lexicographic.{nat_list_eq_equiv}
use Rattle.std.proofs.lemmas.Bool.{both_ways}
use Rattle.hip_types.specs.Laws.DistinctLaws.{or_first, or_second}
use Rattle.hip_tree.specs.Sites.{instr_of}
use Rattle.hip_tree.specs.declared.block.Block.{Block}
use Rattle.hip_tree.specs.declared.block.Edge.{Edge}
use Rattle.hip_tree.specs.declared.block.End.{End}
use Rattle.hip_tree.specs.declared.block.End.TheVariants as ends
use Rattle.hip_tree.specs.declared.block.Phi.{Phi}
use Rattle.hip_tree.specs.declared.constant.Const.{Const, out-Const, roll-Const, roll-out-Const}
use Rattle.hip_tree.specs.declared.constant.Const.TheOpen.{Const-F}
use Rattle.hip_tree.specs.declared.constant.Const.TheFolds.{fold-roll-Const}
use Rattle.hip_tree.specs.declared.constant.ConstGep.{ConstGep}
use Rattle.hip_tree.specs.declared.constant.TypedConst.{TypedConst}
use Rattle.hip_tree.specs.declared.instr.Arg.{Arg}
use Rattle.hip_tree.specs.declared.instr.Instr.{Instr}
use Rattle.hip_tree.specs.declared.instr.Instr.TheVariants.{Binary, Compare, Select, Cast, Alloca, Load, Store, Gep, Call}
use Rattle.hip_tree.specs.declared.instr.Operand.TheVariants.{Reg, Fixed}
use Rattle.hip_tree.specs.declared.program.Function.{Function}
use Rattle.hip_tree.specs.declared.program.Param.{Param}
use Rattle.hip_tree.specs.declared.program.Program.{Program}
use Rattle.hip_tree.specs.declared.site.Site.{Site}
use Rattle.hip_names.specs.Laws.DifferLaws.{differ_first}
use Rattle.hip_names.specs.Names.{AllDiffer, is_among, number_of}
use Rattle.hip_externs.specs.Externs.{call_of}
use Rattle.hip_externs.specs.declared.call.ExternCall.{ExternCall}
use Rattle.hip_sound.specs.Laws.NameLaws.{names-sound}
use Rattle.hip_sound.specs.Laws.SoundExact.{sound-passes}
use Rattle.hip_sound.specs.NumberedNames.{function_number}
use Rattle.hip_sound.specs.Rules.{PassesVerifier}
use Rattle.hip_sound.specs.Sound.{IsBlockAt, IsSound, callee_names}
use Rattle.hip_runs.specs.Places.{blocks_in, blocks_of}
use Rattle.hip_runs.specs.StoredParts.Parts.{In}
use Rattle.hip_runs.specs.Laws.PartLaws.{in-append, in-map}
use Rattle.hip_invariants.specs.PointerLevels.{PointerLevel, is_at_most, number_level, const_level, after_offset, known_path}
use Rattle.hip_repairs.specs.Direct.{allocates, allocates_in, is_volatile_global, names_volatile, stores_outside, direct}
use Rattle.hip_repairs.proofs.soundness.HeadsAgain.{names_of_globals}
use Rattle.hip_repairs.proofs.quiet.OutsideAddresses.{volatile_number}
use Rattle.hip_repairs.proofs.quiet.AssignedOnce.{names_of_instr, only_alloca, no_phi, no_parameter, differ_inside, once}
use Rattle.hip_vol.specs.Bounds.{Variable, Bound, LevelRule, Register, Result, low, free, same_as, Assignment, bound_in, same_variable}
use Rattle.hip_vol.specs.Closed.{is_level, IsClosedUnder}
use Rattle.hip_vol.specs.LowStores.{least_levels, stores_low, low_stores}
use Rattle.hip_vol.specs.Rules.{operand_bound, element_bound, rule, rule_for_result, argument_rules, rules_into, entry_rules, call_rules, instr_rules, phi_rules, end_rules, level_rules}
use Rattle.hip_vol.proofs.KnownLevels.{program_is_least}
use Rattle.hip_vol.proofs.LevelOrder.{at_most_same, at_most_next, zero_at_most, bound_more, same_variable_is, same_as_itself}
use Rattle.hip_vol.proofs.RuleMembers.{rule_case}

-- ---- a register that an `alloca` assigns

module _ (P : Program) (sound : PassesVerifier P) (g : ℕ) (q : List ℕ) (all : allocates_in (blocks_of P g) q ≡ true) where
  -- If the rule is for the register, its bound is level 0, as that of the `alloca`.
  abbrev IsLowThere : LevelRule → Type 0
  IsLowThere r = r.variable ≡ Register g q → r.least ≡ low

  own : (name : List ℕ) → is_among (name ∷ []) name ≡ true
  own name = or_first _ _ (nat_list_eq_equiv.refl name)

  blocks_are : (h b : ℕ) (fn : Function) (block : Block) → IsBlockAt P h b fn block → slice_get (blocks_of P h) b ≡ Some block
  blocks_are h b fn block at = subst (λ (o : Option Function). slice_get (blocks_in o) b ≡ Some block) (sym at.function) at.block_is

  -- An instruction other than an `alloca` has no rule for the register.
  not_here : (h b k : ℕ) (fn : Function) (block : Block) (i : Instr) → IsBlockAt P h b fn block → slice_get block.body k ≡ Some i →
      (name : List ℕ) → is_among (names_of_instr i) name ≡ true → allocates name i ≡ false → (least : Bound) → Register h name ≡ Register g q → least ≡ low
  not_here h b k fn block i at e name among other least same =
      let numbers : h ≡ g = cc in
      let names : name ≡ q = cc in
      let here : allocates_in (blocks_of P h) name ≡ true = subst (λ n. allocates_in (blocks_of P n) name ≡ true) (sym numbers) (subst (λ x. allocates_in (blocks_of P g) x ≡ true) (sym names) all) in
      absurd (both_ways _ other (only_alloca (blocks_of P h) b k block i name (once P h sound) (blocks_are h b fn block at) e among here))

  for_result : (h : ℕ) (dest : Option (List ℕ)) (least : Bound) → ((name : List ℕ) → dest ≡ Some name → Register h name ≡ Register g q → least ≡ low) → (r : LevelRule) → In r (rule_for_result P h dest least) → IsLowThere r
  for_result h None least each r i = absurd i
  for_result h (Some name) least each r (inl e) = subst IsLowThere (sym e) (each name refl)
  for_result h (Some name) least each r (inr i) = absurd i

  arguments : (h d : ℕ) (fn : Function) → slice_get P.functions d ≡ Some fn → (ps : List Param) (args : List Arg) →
      ((name : List ℕ) → is_among (map (λ p. p.name) ps) name ≡ true → is_among (map (λ p. p.name) fn.params) name ≡ true) → (r : LevelRule) → In r (argument_rules P h d ps args) → IsLowThere r
  arguments h d fn here [] args within r i = absurd i
  arguments h d fn here (p ∷ ps) [] within r i = absurd i
  arguments h d fn here (p ∷ ps) (a ∷ args) within r (inl e) = subst IsLowThere (sym e) differs
    where
      differs : Register d p.name ≡ Register g q → operand_bound P h a.value ≡ low
      differs same =
          let numbers : d ≡ g = cc in
          let names : p.name ≡ q = cc in
          let known : slice_get P.functions g ≡ Some fn = subst (λ n. slice_get P.functions n ≡ Some fn) numbers here in
          let none : allocates_in fn.blocks p.name ≡ false = no_parameter fn p.name (differ_inside P d fn sound here) (within p.name (or_first _ _ (nat_list_eq_equiv.refl p.name))) in
          let there : allocates_in fn.blocks q ≡ true = subst (λ (o : Option Function). allocates_in (blocks_in o) q ≡ true) known all in
          absurd (both_ways _ (subst (λ n. allocates_in fn.blocks n ≡ false) names none) there)
  arguments h d fn here (p ∷ ps) (a ∷ args) within r (inr i) = arguments h d fn here ps args (λ name t. within name (or_second (bytes_eq name p.name) _ t)) r i

  into : (h : ℕ) (dest : Option (List ℕ)) (args : List Arg) (d : ℕ) → ((name : List ℕ) → dest ≡ Some name → Register h name ≡ Register g q → same_as (Result d) ≡ low) →
      (o : Option Function) → slice_get P.functions d ≡ o → (r : LevelRule) → In r (rules_into P h dest args d o) → IsLowThere r
  into h dest args d each None e r i = absurd i
  into h dest args d each (Some fn) e r i =
      ⊎_elim (for_result h dest (same_as (Result d)) each r) (arguments h d fn e fn.params args (λ name t. t) r) (in-append (rule_for_result P h dest (same_as (Result d))) (argument_rules P h d fn.params args) r i)

  entry : (h : ℕ) (dest : Option (List ℕ)) (args : List Arg) → ((name : List ℕ) (least : Bound) → dest ≡ Some name → Register h name ≡ Register g q → least ≡ low) → (o : Option ℕ) (r : LevelRule) → In r (entry_rules P h dest args o) → IsLowThere r
  entry h dest args each None r i = absurd i
  entry h dest args each (Some d) r i = into h dest args d (λ name e. each name (same_as (Result d)) e) (slice_get P.functions d) refl r i

  call : (h : ℕ) (dest : Option (List ℕ)) (callee : List ℕ) (args : List Arg) → ((name : List ℕ) (least : Bound) → dest ≡ Some name → Register h name ≡ Register g q → least ≡ low) → (o : Option ExternCall) (r : LevelRule) → In r (call_rules P h dest callee args o) → IsLowThere r
  call h dest callee args each (Some x) r i = for_result h dest free (λ name e. each name free e) r i
  call h dest callee args each None r i = entry h dest args each (function_number P callee) r i

  only : (h : ℕ) (name : List ℕ) (least : Bound) → (Register h name ≡ Register g q → least ≡ low) → (r : LevelRule) → In r (rule P h name least ∷ []) → IsLowThere r
  only h name least each r (inl e) = subst IsLowThere (sym e) each
  only h name least each r (inr i) = absurd i

  instr : (h b k : ℕ) (fn : Function) (block : Block) (i : Instr) → IsBlockAt P h b fn block → slice_get block.body k ≡ Some i → (r : LevelRule) → In r (instr_rules P h i) → IsLowThere r
  instr h b k fn block (Alloca dest ty align) at e r m = only h dest low (λ same. refl) r m
  instr h b k fn block (Load dest ty addr align) at e r m = only h dest free (not_here h b k fn block _ at e dest (own dest) refl free) r m
  instr h b k fn block (Cast dest op from a to) at e r m = only h dest free (not_here h b k fn block _ at e dest (own dest) refl free) r m
  instr h b k fn block (Gep dest inbounds ty base indices) at e r m = only h dest (element_bound P h base ty (known_path indices)) (not_here h b k fn block _ at e dest (own dest) refl _) r m
  instr h b k fn block (Select dest test ty a c) at e r (inl s) = subst IsLowThere (sym s) (not_here h b k fn block _ at e dest (own dest) refl (operand_bound P h a))
  instr h b k fn block (Select dest test ty a c) at e r (inr m) = only h dest (operand_bound P h c) (not_here h b k fn block _ at e dest (own dest) refl _) r m
  instr h b k fn block (Call dest ret callee args) at e r m =
      call h dest callee args (λ name least d. not_here h b k fn block (Call dest ret callee args) at e name (subst (λ (o : Option (List ℕ)). is_among (names_of_instr (Call o ret callee args)) name ≡ true) (sym d) (own name)) refl least) (call_of callee) r m
  instr h b k fn block (Binary dest op flags width a c) at e r m = only h dest free (not_here h b k fn block _ at e dest (own dest) refl free) r m
  instr h b k fn block (Compare dest pred ty a c) at e r m = only h dest free (not_here h b k fn block _ at e dest (own dest) refl free) r m
  instr h b k fn block (Store ty value addr align) at e r m = absurd m

  among_phis : (ps : List Phi) (k : ℕ) (p : Phi) → slice_get ps k ≡ Some p → is_among (map (λ p. p.dest) ps) p.dest ≡ true
  among_phis [] k p e = cc
  among_phis (x ∷ ps) zero p e = or_first _ _ (subst (λ (y : Phi). bytes_eq p.dest y.dest ≡ true) (let s : p ≡ x = cc in s) (nat_list_eq_equiv.refl p.dest))
  among_phis (x ∷ ps) (suc k) p e = or_second (bytes_eq p.dest x.dest) _ (among_phis ps k p e)

  phi : (h b k : ℕ) (fn : Function) (block : Block) (p : Phi) → IsBlockAt P h b fn block → slice_get block.phis k ≡ Some p → (r : LevelRule) → In r (phi_rules P h p) → IsLowThere r
  phi h b k fn block p at e r i =
      let m = in-map (λ (d : Edge). rule P h p.dest (operand_bound P h d.value)) p.edges r i in
      subst IsLowThere (sym m.2) (differs (operand_bound P h m.0.value))
    where
      differs : (least : Bound) → Register h p.dest ≡ Register g q → least ≡ low
      differs least same =
          let numbers : h ≡ g = cc in
          let names : p.dest ≡ q = cc in
          let here : allocates_in (blocks_of P h) p.dest ≡ true = subst (λ n. allocates_in (blocks_of P n) p.dest ≡ true) (sym numbers) (subst (λ x. allocates_in (blocks_of P g) x ≡ true) (sym names) all) in
          absurd (both_ways _ (no_phi (blocks_of P h) b block p.dest (once P h sound) (blocks_are h b fn block at) (among_phis block.phis k p e)) here)

  end : (h : ℕ) (x : End) (r : LevelRule) → In r (end_rules P h x) → IsLowThere r
  end h (ends.Ret (Some a)) r (inl e) = λ same. let z : Result h ≡ Register g q = sym (ap (λ (y : LevelRule). y.variable) e) ∙ same in cc
  end h (ends.Ret (Some a)) r (inr i) = absurd i
  end h (ends.Ret None) r i = absurd i
  end h (ends.Br label) r i = absurd i
  end h (ends.CondBr test first second) r i = absurd i
  end h (ends.Switch width value other cases) r i = absurd i
  end h ends.Unreachable r i = absurd i

  low_alone : (r : LevelRule) → In r (level_rules P) → IsLowThere r
  low_alone = rule_case P IsLowThere (record {
    instr = instr;
    phi = phi;
    end = λ h b fn block at r i. end h block.end r i;
  })

  -- An assignment with level 0 at the register.
  abbrev lowered : Assignment → Assignment
  lowered A v = cond (same_variable (Register g q) v) (Some 0) (A v)

  lowered_below : (A : Assignment) (v : Variable) → is_at_most (lowered A v) (A v)
  lowered_below A v = go (same_variable (Register g q) v)
    where
      go : (b : Bool) → is_at_most (cond b (Some 0) (A v)) (A v)
      go true = zero_at_most (A v)
      go false = at_most_same (A v)

  lowered_closed : (A : Assignment) → IsClosedUnder (level_rules P) A → IsClosedUnder (level_rules P) (lowered A)
  lowered_closed A closed = record { levels = λ v. level v (same_variable (Register g q) v); met = λ r i. met r i (same_variable (Register g q) r.variable) refl }
    where
      level : (v : Variable) (b : Bool) → is_level (cond b (Some 0) (A v))
      level v true = omega arith
      level v false = closed.levels v

      met : (r : LevelRule) → In r (level_rules P) → (b : Bool) → same_variable (Register g q) r.variable ≡ b → is_at_most (bound_in (lowered A) r.least) (cond b (Some 0) (A r.variable))
      met r i true e = subst (λ least. is_at_most (bound_in (lowered A) least) (Some 0)) (sym (low_alone r i (sym (same_variable_is (Register g q) r.variable e)))) (omega arith)
      met r i false e = at_most_next _ _ _ (bound_more (lowered A) A (lowered_below A) r.least) (closed.met r i)

  -- The least assignment has level 0 at the register.
  pub stack_register_low : is_some (after_offset (least_levels P (Register g q)) 0) ≡ true
  stack_register_low = go (least_levels P (Register g q)) (subst (is_at_most (least_levels P (Register g q))) is ((program_is_least P).below (lowered (least_levels P)) (lowered_closed (least_levels P) (program_is_least P).closed) (Register g q)))
    where
      is : lowered (least_levels P) (Register g q) ≡ Some 0
      is = ap (λ b. cond b (Some 0) (least_levels P (Register g q))) (same_as_itself (Register g q))

      go : (a : PointerLevel) → is_at_most a (Some 0) → is_some (after_offset a 0) ≡ true
      go None h = absurd h
      go (Some t) h = refl

-- ---- a volatile global

volatile_low : (P : Program) → PassesVerifier P → (c : Const) → names_volatile P.globals (out-Const c) ≡ true → is_some (const_level P.globals c) ≡ true
volatile_low P sound c e = go (out-Const c) refl e
  where
    differ : AllDiffer (names_of_globals P.globals)
    differ = differ_first (names_of_globals P.globals) (callee_names P) (names-sound P sound.names)

    by_number : (name : List ℕ) → is_volatile_global P.globals name ≡ true → (o : Option ℕ) → number_of (names_of_globals P.globals) name ≡ o → is_some (number_level P.globals o) ≡ true
    by_number name h None n = refl
    by_number name h (Some k) n = ap (λ b. is_some {T = ℕ} (cond b None (Some 0))) (volatile_number P.globals name k differ h n)

    go : (y : Const-F Const ConstGep TypedConst) → out-Const c ≡ y → names_volatile P.globals y ≡ true → is_some (const_level P.globals c) ≡ true
    go (Const-F.Address name) q h =
        ap (λ x. is_some (const_level P.globals x)) (sym (roll-out-Const c) ∙ ap roll-Const q) ∙ ap is_some (fold-roll-Const _ _ _ _ _ _ _) ∙ by_number name h (number_of (names_of_globals P.globals) name) refl
    go (Const-F.Int b) q h = cc
    go Const-F.Null q h = cc
    go Const-F.Zero q h = cc
    go (Const-F.Gep gep) q h = cc
    go (Const-F.Array items) q h = cc
    go (Const-F.Struct items) q h = cc

-- ---- the stores

-- A direct store is a low one.
pub direct_low : (P : Program) → IsSound P → (s : Site) → direct P s ≡ true → low_stores P s ≡ true
direct_low P sound s = at (instr_of P s)
  where
    passes : PassesVerifier P
    passes = sound-passes P sound

    at : (o : Option Instr) → stores_outside P (blocks_of P s.function) o ≡ true → stores_low P (least_levels P) s.function o ≡ true
    at None e = cc
    at (Some (Store ty value (Reg name) align)) e = stack_register_low P passes s.function name e
    at (Some (Store ty value (Fixed c) align)) e = volatile_low P passes c e
    at (Some (Binary dest op flags width a b)) e = cc
    at (Some (Compare dest pred ty a b)) e = cc
    at (Some (Select dest test ty a b)) e = cc
    at (Some (Cast dest op from a to)) e = cc
    at (Some (Alloca dest ty align)) e = cc
    at (Some (Load dest ty addr align)) e = cc
    at (Some (Gep dest inbounds ty base indices)) e = cc
    at (Some (Call dest ret callee args)) e = cc
