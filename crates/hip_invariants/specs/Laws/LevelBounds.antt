-- The bounds of pointer levels, as an instance of facts of registers. An assignment gives each register and each
-- function's result a level, or none. If it is closed under the rules, a value of level t is at most the stack's end
-- plus t times 64 MiB in every run.
use Rattle.std.proofs.Common.{◌≡◌, ℕ, suc, ◌+◌, ◌*◌, ◌%◌, ◌^◌, ◌<◌, ◌≤◌, Bool, true, false, cond, nat_eq, nat_lt, List, [], ◌∷◌, map, Option, Some, None, slice_get, option_map, refl, sym, ap, ap₂, ◌∙◌, subst, arith, ltb-true}
use Rattle.std.specs.Prelude.{unwrap_or}
use Rattle.std.proofs.lemmas.Bool.{eqb-true}
use Rattle.std.proofs.lemmas.Option.{same_Some}
use Rattle.std.specs.Str.{bytes_eq}
use Rattle.hip_types.specs.Layout.{gep_of}
use Rattle.hip_types.specs.Numbers.{wrapped}
use Rattle.hip_types.specs.declared.number.Scalar.{Scalar}
use Rattle.hip_types.specs.declared.number.Width.TheVariants.{W64}
use Rattle.hip_types.specs.declared.ty.Ty.{Ty}
use Rattle.hip_tree.specs.declared.block.Edge.{Edge}
use Rattle.hip_tree.specs.declared.block.End.TheVariants as ends
use Rattle.hip_tree.specs.declared.constant.Const.{Const, out-Const, roll-Const, roll-out-Const}
use Rattle.hip_tree.specs.declared.constant.Const.TheOpen.{Const-F}
use Rattle.hip_tree.specs.declared.constant.Const.TheFolds.{fold-ConstGep, map-Const, ind-Const, fold-roll-Const, fold-roll-ConstGep}
use Rattle.hip_tree.specs.declared.constant.ConstGep.{ConstGep, roll-ConstGep}
use Rattle.hip_tree.specs.declared.constant.TypedConst.{TypedConst}
use Rattle.hip_tree.specs.declared.instr.Arg.{Arg}
use Rattle.hip_tree.specs.declared.instr.Instr.{Instr}
use Rattle.hip_tree.specs.declared.instr.Instr.TheVariants.{Binary, Compare, Select, Cast, Alloca, Load, Store, Gep, Call}
use Rattle.hip_tree.specs.declared.instr.Operand.{Operand}
use Rattle.hip_tree.specs.declared.instr.Operand.TheVariants.{Reg, Fixed}
use Rattle.hip_tree.specs.declared.program.GlobalVar.{GlobalVar}
use Rattle.hip_tree.specs.declared.program.Param.{Param}
use Rattle.hip_tree.specs.declared.program.Program.{Program}
use Rattle.hip_types.specs.Areas.{volatile_start, stack_end}
use Rattle.hip_names.specs.Names.{number_of}
use Rattle.hip_globals.specs.Addresses.{start_of, is_persistent, address_in}
use Rattle.hip_globals.specs.Constants.{index_of}
use Rattle.hip_sound.specs.Sound.{IsSound}
use Rattle.hip_globals.specs.Values.{Written, global_address, gep_address, const_value}
use Rattle.hip_runs.specs.declared.input.Input.{Input}
use Rattle.hip_runs.specs.Actions.{index_value, index_values, edge_value, returned}
use Rattle.hip_runs.specs.Operands.{value_of, values_of, bound}
use Rattle.hip_runs.specs.State.{Registers, Frame, World}
use Rattle.hip_runs.specs.Step.{run}
use Rattle.hip_runs.specs.Laws.StepLaws.{IsTop}
use Rattle.hip_runs.specs.Validity.{IsValid}
use Rattle.hip_invariants.specs.Laws.InstrFacts.{instr_fact, fact_holds}
use Rattle.hip_invariants.specs.Laws.Registers.Facts.{each_stated, ValuesHold, each_value, assigned_fact, fact_of_value, values_in_frames}
use Rattle.hip_invariants.specs.Laws.GlobalAddresses.{start_before_end}
use Rattle.hip_invariants.specs.PointerLevels.{within_level, is_at_most, after_offset, number_level, global_level, level_step, gep_level_step, item_level_step, const_level, Levels, constant_index, known_index, both, known_path, gep_level, operand_level, goes_into, args_are_at_most, instr_is_closed, IsClosed, IsWithinLevel, RegistersAreWithin}

-- A value within a level is within each higher level.
pub within_higher : (a b : Option ℕ) (v : ℕ) → is_at_most a b → within_level a v → within_level b v
within_higher a None v h m = tt
within_higher None (Some u) v h m = absurd h
within_higher (Some t) (Some u) v h m = omega arith

-- The value 0 is within each level.
pub zero_within : (a : Option ℕ) → within_level a 0
zero_within None = tt
zero_within (Some t) = omega arith

-- An offset from a value within a level is within the level after that offset.
pub offset_within : (a : Option ℕ) (offset v : ℕ) → within_level a v
    → within_level (after_offset a offset) ((v + offset) % 2 ^ 64)
offset_within None offset v m = tt
offset_within (Some t) offset v m = same (nat_eq offset 0) refl
  where
    up : (b : Bool) → offset < 67108864 → within_level (cond b (Some (suc t)) None) ((v + offset) % 2 ^ 64)
    up true lt = let next : stack_end + 67108864 * suc t ≡ stack_end + 67108864 * t + 67108864 = omega arith in
        rw next (omega arith)
    up false lt = tt

    near : (b : Bool) → nat_lt offset 67108864 ≡ b
        → within_level (cond b (cond (nat_lt t 32) (Some (suc t)) None) None) ((v + offset) % 2 ^ 64)
    near true e = up (nat_lt t 32) (ltb-true offset 67108864 e)
    near false e = tt

    same : (b : Bool) → nat_eq offset 0 ≡ b
        → within_level (cond b (Some t) (cond (nat_lt offset 67108864) (cond (nat_lt t 32) (Some (suc t)) None) None))
        ((v + offset) % 2 ^ 64)
    same true e = let none : offset ≡ 0 = eqb-true offset 0 e in omega arith
    same false e = near (nat_lt offset 67108864) refl

-- If two values are within a level, a choice between them is within it too.
pub chosen_within : (a : Option ℕ) (b : Bool) (x y : ℕ) → within_level a x → within_level a y
    → within_level a (cond b x y)
chosen_within a true x y p q = p
chosen_within a false x y p q = q

-- The level of a constant `getelementptr`: the level of its base, after the offset of its indices.
abbrev const_gep_level : List GlobalVar → ConstGep → Option ℕ
const_gep_level globals = fold-ConstGep (Option ℕ) (Option ℕ) (Option ℕ)
    (level_step (global_level globals)) gep_level_step item_level_step

-- ---- values

-- A value that the function of number g returns is within the level of its result.
pub record ResultIsWithin (L : Levels) (g v : ℕ) : Type 0 where
  pub is : within_level (L.result g) v

module _ (P : Program) (s : IsSound P) (base : ℕ) where
  address_within : (name : List ℕ) → within_level (global_level P.globals name) (global_address P.globals base name)
  address_within name = go (number_of (map (λ g. g.name) P.globals) name)
    where
      at_number : (k : ℕ) (b : Bool) → is_persistent P.globals k ≡ b
          → within_level (cond b None (Some 0)) (cond b (start_of true base P.globals k)
          (start_of false volatile_start P.globals k))
      at_number k true e = tt
      at_number k false e = let low = start_before_end false volatile_start P.globals k e in
          omega (arith, low, s.sizes.volatile)

      go : (o : Option ℕ) → within_level (number_level P.globals o)
          (unwrap_or (option_map (address_in P.globals base) o) 0)
      go None = omega arith
      go (Some k) = at_number k (is_persistent P.globals k) refl

  -- The value of the constant is within its level.
  abbrev IsWithin : Const → Type 0
  IsWithin c = within_level (const_level P.globals c) (const_value P.globals base c)

  -- The address that the constant `getelementptr` gives is within its level.
  abbrev IsWithinGep : ConstGep → Type 0
  IsWithinGep gep = within_level (const_gep_level P.globals gep) (gep_address (global_address P.globals base) gep)

  -- No condition on an item of an array or a struct, since no level depends on it.
  abbrev IsWithinItem : TypedConst → Type 0
  IsWithinItem item = Unit {0}

  within_by : (c : Const) (a : Option ℕ) (v : ℕ) → const_level P.globals c ≡ a
      → const_value P.globals base c ≡ v → within_level a v → IsWithin c
  within_by c a v e f m = subst (λ x. within_level x (const_value P.globals base c)) (sym e)
      (subst (within_level a) (sym f) m)

  pub const_within : (c : Const) → IsWithin c
  const_within = ind-Const IsWithin IsWithinGep IsWithinItem
      (λ x y is. subst (λ z. IsWithin (roll-Const z)) is (of_level y))
      (λ x y is.
      let base_most : IsWithin x.base = subst IsWithin (ap (λ g. g.base) is) y.base.1 in
      let level : const_gep_level P.globals (roll-ConstGep x)
      ≡ after_offset (const_level P.globals x.base) (unwrap_or (gep_of x.ty (map index_of x.indices)) 0) =
      fold-roll-ConstGep _ _ _ _ _ _ x in
      let value : gep_address (global_address P.globals base) (roll-ConstGep x)
      ≡ (const_value P.globals base x.base + unwrap_or (gep_of x.ty (map index_of x.indices)) 0) % 2 ^ 64 =
      fold-roll-ConstGep _ _ _ _ _ _ x in
      subst (λ a. within_level a (gep_address (global_address P.globals base) (roll-ConstGep x))) (sym level)
      (subst (within_level (after_offset (const_level P.globals x.base)
      (unwrap_or (gep_of x.ty (map index_of x.indices)) 0))) (sym value)
      (offset_within (const_level P.globals x.base) _ (const_value P.globals base x.base) base_most)))
      (λ x y is. tt)
    where
      of_level : (y : Const-F ((c : Const) × IsWithin c) ((g : ConstGep) × IsWithinGep g)
          ((i : TypedConst) × IsWithinItem i)) → IsWithin
          (roll-Const (map-Const _ _ _ Const ConstGep TypedConst (λ e. e.0) (λ e. e.0) (λ e. e.0) y))
      of_level (Const-F.Int b) = within_by _ None _ (fold-roll-Const _ _ _ _ _ _ _) refl tt
      of_level Const-F.Null = within_by _ (Some 0) 0 (fold-roll-Const _ _ _ _ _ _ _)
          (ap (λ (x : Written). x.value) (fold-roll-Const _ _ _ _ _ _ _)) (omega arith)
      of_level Const-F.Zero = within_by _ (Some 0) 0 (fold-roll-Const _ _ _ _ _ _ _)
          (ap (λ (x : Written). x.value) (fold-roll-Const _ _ _ _ _ _ _)) (omega arith)
      of_level (Const-F.Address name) = within_by _ (global_level P.globals name) (global_address P.globals base name)
          (fold-roll-Const _ _ _ _ _ _ _) (ap (λ (x : Written). x.value) (fold-roll-Const _ _ _ _ _ _ _))
          (address_within name)
      of_level (Const-F.Gep e) = within_by _ (const_gep_level P.globals e.0)
          (gep_address (global_address P.globals base) e.0) (fold-roll-Const _ _ _ _ _ _ _)
          (ap (λ (x : Written). x.value) (fold-roll-Const _ _ _ _ _ _ _)) e.1
      of_level (Const-F.Array items) = within_by _ None _ (fold-roll-Const _ _ _ _ _ _ _) refl tt
      of_level (Const-F.Struct items) = within_by _ None _ (fold-roll-Const _ _ _ _ _ _ _) refl tt

-- ---- indices

module _ (globals : List GlobalVar) (base : ℕ) where
  valued : (c : Const) (y : Const-F Const ConstGep TypedConst) → out-Const c ≡ y
      → const_value globals base c ≡ const_value globals base (roll-Const y)
  valued c y q = ap (const_value globals base) (sym (roll-out-Const c) ∙ ap roll-Const q)

  -- A constant index has the value that `constant_index` gives it.
  constant_is : (ty : Scalar) (c : Const) (i : ℕ) → constant_index ty (out-Const c) ≡ Some i
      → index_value ty (const_value globals base c) ≡ i
  constant_is ty c i e = go (out-Const c) refl e
    where
      go : (y : Const-F Const ConstGep TypedConst) → out-Const c ≡ y → constant_index ty y ≡ Some i
          → index_value ty (const_value globals base c) ≡ i
      go (Const-F.Int b) q r =
          let is : const_value globals base c ≡ b.value =
          valued c _ q ∙ ap (λ (x : Written). x.value) (fold-roll-Const _ _ _ _ _ _ _) in
          ap (index_value ty) is ∙ same_Some (index_value ty b.value) i r
      go Const-F.Zero q r =
          let is : const_value globals base c ≡ 0 =
          valued c _ q ∙ ap (λ (x : Written). x.value) (fold-roll-Const _ _ _ _ _ _ _) in
          ap (index_value ty) is ∙ same_Some (index_value ty 0) i r
      go Const-F.Null q r = cc
      go (Const-F.Address name) q r = cc
      go (Const-F.Gep gep) q r = cc
      go (Const-F.Array items) q r = cc
      go (Const-F.Struct items) q r = cc

  -- Indices that are all constants have the values that `known_path` gives them.
  pub path_is : (rs : Registers) (args : List Arg) (path : List ℕ) → known_path args ≡ Some path
      → index_values globals base rs args ≡ path
  path_is rs [] path e = same_Some [] path e
  path_is rs (a ∷ args) path e = parts a.value (known_index a.ty a.value) (known_path args) refl
      (λ is q. path_is rs args is q) e
    where
      joined : (o : Operand) (i : ℕ) (is : List ℕ) → index_value a.ty (value_of globals base rs o) ≡ i
          → index_values globals base rs args ≡ is → i ∷ is ≡ path
          → index_value a.ty (value_of globals base rs o) ∷ index_values globals base rs args ≡ path
      joined o i is p q r = ap₂ (λ x xs. x ∷ xs) p q ∙ r

      value : (o : Operand) (i : ℕ) → known_index a.ty o ≡ Some i
          → index_value a.ty (value_of globals base rs o) ≡ i
      value (Reg name) i q = cc
      value (Fixed c) i q = constant_is a.ty c i q

      parts : (o : Operand) (first : Option ℕ) (rest : Option (List ℕ)) → known_index a.ty o ≡ first
          → ((is : List ℕ) → rest ≡ Some is → index_values globals base rs args ≡ is)
          → both first rest ≡ Some path →
          index_value a.ty (value_of globals base rs o) ∷ index_values globals base rs args ≡ path
      parts o None rest p later r = cc
      parts o (Some i) None p later r = cc
      parts o (Some i) (Some is) p later r = joined o i is (value o i p) (later is refl) (same_Some (i ∷ is) path r)

module _ (P : Program) (s : IsSound P) (I : Input) (L : Levels) (closed : IsClosed P L) where
  operand_within : (g : ℕ) (rs : Registers) → ValuesHold (IsWithinLevel L) (ResultIsWithin L) g rs → (o : Operand)
      → within_level (operand_level P L g o) (value_of P.globals I.base rs o)
  operand_within g rs h (Reg name) = (fact_of_value (IsWithinLevel L) (ResultIsWithin L) g rs name h
      (record { is = zero_within _ })).is
  operand_within g rs h (Fixed c) = const_within P s I.base c

  free_within : (a : Option ℕ) (v : ℕ) → is_at_most None a → within_level a v
  free_within None v h = tt
  free_within (Some t) v h = absurd h

  assigned_within : (g : ℕ) (a : Option ℕ) (dest : Option (List ℕ)) (v : ℕ) → goes_into P L g a dest
      → within_level a v → assigned_fact (IsWithinLevel L) (ResultIsWithin L) g dest v
  assigned_within g a None v h m = tt
  assigned_within g a (Some dest) v h m = record { is = within_higher a (L.register g dest) v h m }

  bound_within : (g h : ℕ) (rs : Registers) → ValuesHold (IsWithinLevel L) (ResultIsWithin L) g rs
      → (ps : List Param) (args : List Arg) → args_are_at_most P L g h ps args
      → each_value (IsWithinLevel L) (ResultIsWithin L) h (bound ps (values_of P.globals I.base rs args))
  bound_within g h rs holds [] args below = tt
  bound_within g h rs holds (p ∷ ps) [] below = tt
  bound_within g h rs holds (p ∷ ps) (a ∷ args) below = (
    record {
      is = within_higher (operand_level P L g a.value) (L.register h p.name) _ below.0
          (operand_within g rs holds a.value);
    },
    bound_within g h rs holds ps args below.1,
  )

  gep_within : (g : ℕ) (rs : Registers) → ValuesHold (IsWithinLevel L) (ResultIsWithin L) g rs
      → (base : Operand) (ty : Ty) (indices : List Arg)
      → within_level (gep_level (operand_level P L g base) ty (known_path indices))
      ((value_of P.globals I.base rs base + unwrap_or
      (gep_of ty (index_values P.globals I.base rs indices)) 0) % 2 ^ 64)
  gep_within g rs h base ty indices = go (known_path indices) refl
    where
      go : (o : Option (List ℕ)) → known_path indices ≡ o
          → within_level (gep_level (operand_level P L g base) ty o)
          ((value_of P.globals I.base rs base + unwrap_or
          (gep_of ty (index_values P.globals I.base rs indices)) 0) % 2 ^ 64)
      go None e = tt
      go (Some path) e =
          subst (λ is. within_level (after_offset (operand_level P L g base) (unwrap_or (gep_of ty path) 0))
          ((value_of P.globals I.base rs base + unwrap_or (gep_of ty is) 0) % 2 ^ 64))
          (sym (path_is P.globals I.base rs indices path e))
          (offset_within (operand_level P L g base) (unwrap_or (gep_of ty path) 0) (value_of P.globals I.base rs base)
          (operand_within g rs h base))

  instr_fact_of : (g : ℕ) (w : World) (rs : Registers) → ValuesHold (IsWithinLevel L) (ResultIsWithin L) g rs
      → (i : Instr) → instr_is_closed P L g i → instr_fact (IsWithinLevel L) (ResultIsWithin L) P I g w rs i
  instr_fact_of g w rs h (Binary dest op flags width a b) c = λ r e. record { is = free_within _ _ c }
  instr_fact_of g w rs h (Compare dest pred ty a b) c = record { is = free_within _ _ c }
  instr_fact_of g w rs h (Select dest test ty a b) c = record {
    is =
        chosen_within (L.register g dest) _ _ _
        (within_higher (operand_level P L g a) _ _ c.0 (operand_within g rs h a))
        (within_higher (operand_level P L g b) _ _ c.1 (operand_within g rs h b));
  }
  instr_fact_of g w rs h (Cast dest op from a to) c = record { is = free_within _ _ c }
  instr_fact_of g w rs h (Alloca dest ty align) c =
      λ a q within. record { is = within_higher (Some 0) (L.register g dest) a c (omega (arith, within)) }
  instr_fact_of g w rs h (Load dest ty addr align) c = record { is = free_within _ _ c }
  instr_fact_of g w rs h (Store ty value addr align) c = tt
  instr_fact_of g w rs h (Gep dest inbounds ty base indices) c = record {
    is =
        within_higher (gep_level (operand_level P L g base) ty (known_path indices)) (L.register g dest) _ c
        (gep_within g rs h base ty indices);
  }
  instr_fact_of g w rs h (Call dest ret callee args) c = record {
    read = λ e z. assigned_within g None dest (wrapped W64 z) (c.read e) tt;
    enter = λ k fn e q r. let both = c.enter k fn e q r in (
      record { all = bound_within g k rs h fn.params args both.1 },
      record { for_result = λ v m. assigned_within g (L.result k) dest v both.0 m.is },
    );
  }

  edge_within : (g : ℕ) (rs : Registers) → ValuesHold (IsWithinLevel L) (ResultIsWithin L) g rs
      → (a : Option ℕ) (from : List ℕ) (es : List Edge)
      → ((j : ℕ) (e : Edge) → slice_get es j ≡ Some e → is_at_most (operand_level P L g e.value) a)
      → within_level a (edge_value P.globals I.base rs es from)
  edge_within g rs h a from [] each = zero_within a
  edge_within g rs h a from (e ∷ es) each =
      chosen_within a (bytes_eq e.label from) _ _
      (within_higher (operand_level P L g e.value) a _ (each 0 e refl) (operand_within g rs h e.value))
      (edge_within g rs h a from es (λ j d q. each (suc j) d q))

  result_within : (g : ℕ) (rs : Registers) → ValuesHold (IsWithinLevel L) (ResultIsWithin L) g rs
      → (arg : Option Arg) → ((a : Arg) → arg ≡ Some a
      → is_at_most (operand_level P L g a.value) (L.result g))
      → within_level (L.result g) (returned P.globals I.base rs arg)
  result_within g rs h None each = zero_within (L.result g)
  result_within g rs h (Some a) each = within_higher (operand_level P L g a.value) (L.result g) _ (each a refl)
      (operand_within g rs h a.value)

  -- A value of level t is at most the greatest value of that level, in each frame at each step.
  pub levels_hold : (n : ℕ) → values_in_frames (IsWithinLevel L) (ResultIsWithin L) (run P I n).frames
  levels_hold =
      fact_holds (IsWithinLevel L) (ResultIsWithin L) P I
      (record {
        instr = λ n f fs fn block i t h at e. record {
          is =
              instr_fact_of f.function (run P I n).world f.registers h i
              (closed.instr f.function f.block f.place fn block i at e);
        };
        phi = λ f c k fn block p from h at e. record {
          is =
              edge_within f.function f.registers h (L.register f.function p.dest) from p.edges
              (λ j d q. closed.phi f.function c k j fn block p d at e q);
        };
        result = λ f fn block arg h at e. record {
          is =
              result_within f.function f.registers h arg
              (λ a q. closed.result f.function f.block fn block a at (e ∙ ap (λ o. ends.Ret o) q));
        };
      })

  -- The same, as `RegistersAreWithin` says it.
  pub registers_within : (n : ℕ) → RegistersAreWithin L (run P I n).frames
  registers_within n = each_stated (IsWithinLevel L) (ResultIsWithin L) (λ g name. record { is = zero_within _ })
      (run P I n).frames (levels_hold n)

  -- The value of an operand with a level of at most 32 is an address below the region.
  pub low_address : IsValid P I → (n : ℕ) (f : Frame) (fs : List Frame) (o : Operand) (t : ℕ)
      → IsTop (run P I n) f fs → operand_level P L f.function o ≡ Some t → t ≤ 32
      → value_of P.globals I.base f.registers o < I.base
  low_address valid n f fs o t top level low =
      let all : values_in_frames (IsWithinLevel L) (ResultIsWithin L) (f ∷ fs) =
      subst (values_in_frames (IsWithinLevel L) (ResultIsWithin L)) top.frames (levels_hold n) in
      let most : value_of P.globals I.base f.registers o ≤ stack_end + 67108864 * t =
      subst (λ a. within_level a (value_of P.globals I.base f.registers o)) level
      (operand_within f.function f.registers all.0 o) in
      omega (arith, most, low, valid.base.low)
