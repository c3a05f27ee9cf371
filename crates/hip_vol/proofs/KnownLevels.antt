-- The known levels in the rules of a program are levels.
use Rattle.std.proofs.Common.{◌≡◌, ⊎_elim, inl, inr, ℕ, Bool, true, false, cond, List, [], ◌∷◌, Option, Some, None, sym, ap, subst, arith}
use Rattle.std.specs.Prelude.{unwrap_or, map, slice_get}
use Rattle.hip_types.specs.Layout.{gep_of}
use Rattle.hip_types.specs.declared.ty.Ty.{Ty}
use Rattle.hip_tree.specs.declared.block.Edge.{Edge}
use Rattle.hip_tree.specs.declared.block.End.{End}
use Rattle.hip_tree.specs.declared.block.End.TheVariants as ends
use Rattle.hip_tree.specs.declared.constant.Const.{Const, roll-Const}
use Rattle.hip_tree.specs.declared.constant.Const.TheOpen.{Const-F}
use Rattle.hip_tree.specs.declared.constant.Const.TheFolds.{fold-ConstGep, map-Const, ind-Const, fold-roll-Const, fold-roll-ConstGep}
use Rattle.hip_tree.specs.declared.constant.ConstGep.{ConstGep, roll-ConstGep}
use Rattle.hip_tree.specs.declared.constant.TypedConst.{TypedConst}
use Rattle.hip_tree.specs.declared.instr.Arg.{Arg}
use Rattle.hip_tree.specs.declared.instr.Instr.{Instr}
use Rattle.hip_tree.specs.declared.instr.Instr.TheVariants.{Binary, Compare, Select, Cast, Alloca, Load, Store, Gep, Call}
use Rattle.hip_tree.specs.declared.instr.Operand.{Operand}
use Rattle.hip_tree.specs.declared.instr.Operand.TheVariants.{Reg, Fixed}
use Rattle.hip_tree.specs.declared.program.Function.{Function}
use Rattle.hip_tree.specs.declared.program.GlobalVar.{GlobalVar}
use Rattle.hip_tree.specs.declared.program.Param.{Param}
use Rattle.hip_tree.specs.declared.program.Program.{Program}
use Rattle.hip_globals.specs.Addresses.{is_persistent}
use Rattle.hip_globals.specs.Constants.{index_of}
use Rattle.hip_names.specs.Names.{number_of}
use Rattle.hip_externs.specs.Externs.{call_of}
use Rattle.hip_externs.specs.declared.call.ExternCall.{ExternCall}
use Rattle.hip_sound.specs.NumberedNames.{function_number}
use Rattle.hip_runs.specs.StoredParts.Parts.{In}
use Rattle.hip_runs.specs.Laws.PartLaws.{in-append, in-map}
use Rattle.hip_invariants.specs.PointerLevels.{PointerLevel, after_offset, number_level, global_level, level_step, gep_level_step, item_level_step, const_level, known_path}
use Rattle.hip_vol.specs.Bounds.{Bound, LevelRule, Result, low, free, same_as}
use Rattle.hip_vol.specs.Closed.{is_level, IsLeast}
use Rattle.hip_vol.specs.LowStores.{least_levels}
use Rattle.hip_vol.specs.Rules.{operand_bound, element_bound, rule, rule_for_result, argument_rules, rules_into, entry_rules, call_rules, instr_rules, end_rules, level_rules}
use Rattle.hip_vol.proofs.LevelOrder.{past_is_level}
use Rattle.hip_vol.proofs.LeastLevels.{knows_level, KnowsLevel, least_is_least}
use Rattle.hip_vol.proofs.RuleMembers.{rule_case}

-- ---- constants

abbrev gep_level : List GlobalVar → ConstGep → PointerLevel
gep_level globals = fold-ConstGep PointerLevel PointerLevel PointerLevel (level_step (global_level globals)) gep_level_step item_level_step

module _ (globals : List GlobalVar) where
  named_is_level : (name : List ℕ) → is_level (global_level globals name)
  named_is_level name = go (number_of (map (λ g. g.name) globals) name)
    where
      by : (b : Bool) → is_level (cond b None (Some 0))
      by true = tt
      by false = omega arith

      go : (o : Option ℕ) → is_level (number_level globals o)
      go None = omega arith
      go (Some k) = by (is_persistent globals k)

  abbrev IsLevelOf : Const → Type 0
  IsLevelOf c = is_level (const_level globals c)

  abbrev IsGepLevel : ConstGep → Type 0
  IsGepLevel gep = is_level (gep_level globals gep)

  abbrev Nothing : TypedConst → Type 0
  Nothing item = Unit {0}

  by_level : (c : Const) (a : PointerLevel) → const_level globals c ≡ a → is_level a → IsLevelOf c
  by_level c a e h = subst is_level (sym e) h

  pub const_is_level : (c : Const) → is_level (const_level globals c)
  const_is_level = ind-Const IsLevelOf IsGepLevel Nothing
      (λ x y is. subst (λ z. IsLevelOf (roll-Const z)) is (of_level y))
      (λ x y is.
      let base : IsLevelOf x.base = subst IsLevelOf (ap (λ g. g.base) is) y.base.1 in
      let level : gep_level globals (roll-ConstGep x) ≡ after_offset (const_level globals x.base) (unwrap_or (gep_of x.ty (map index_of x.indices)) 0) = fold-roll-ConstGep _ _ _ _ _ _ x in
      subst is_level (sym level) (past_is_level (const_level globals x.base) _ base))
      (λ x y is. tt)
    where
      of_level : (y : Const-F ((c : Const) × IsLevelOf c) ((g : ConstGep) × IsGepLevel g) ((i : TypedConst) × Nothing i)) → IsLevelOf (roll-Const (map-Const _ _ _ Const ConstGep TypedConst (λ e. e.0) (λ e. e.0) (λ e. e.0) y))
      of_level (Const-F.Int b) = by_level _ None (fold-roll-Const _ _ _ _ _ _ _) tt
      of_level Const-F.Null = by_level _ (Some 0) (fold-roll-Const _ _ _ _ _ _ _) (omega arith)
      of_level Const-F.Zero = by_level _ (Some 0) (fold-roll-Const _ _ _ _ _ _ _) (omega arith)
      of_level (Const-F.Address name) = by_level _ (global_level globals name) (fold-roll-Const _ _ _ _ _ _ _) (named_is_level name)
      of_level (Const-F.Gep e) = by_level _ (gep_level globals e.0) (fold-roll-Const _ _ _ _ _ _ _) e.1
      of_level (Const-F.Array items) = by_level _ None (fold-roll-Const _ _ _ _ _ _ _) tt
      of_level (Const-F.Struct items) = by_level _ None (fold-roll-Const _ _ _ _ _ _ _) tt

-- ---- rules

module _ (P : Program) where
  operand_knows : (g : ℕ) (o : Operand) → knows_level (operand_bound P g o)
  operand_knows g (Reg name) = tt
  operand_knows g (Fixed c) = const_is_level P.globals c

  element_knows : (g : ℕ) (base : Operand) (ty : Ty) (path : Option (List ℕ)) → knows_level (element_bound P g base ty path)
  element_knows g base ty None = tt
  element_knows g (Reg name) ty (Some path) = tt
  element_knows g (Fixed c) ty (Some path) = past_is_level _ _ (const_is_level P.globals c)

  -- The known level in the only rule of a list is a level.
  only : (r s : LevelRule) → knows_level r.least → In s (r ∷ []) → KnowsLevel s
  only r s h (inl e) = subst KnowsLevel (sym e) (record { is = h })
  only r s h (inr i) = absurd i

  for_result : (g : ℕ) (dest : Option (List ℕ)) (least : Bound) → knows_level least → (r : LevelRule) → In r (rule_for_result P g dest least) → KnowsLevel r
  for_result g None least h r i = absurd i
  for_result g (Some name) least h r i = only (rule P g name least) r h i

  arguments : (g h : ℕ) (ps : List Param) (args : List Arg) (r : LevelRule) → In r (argument_rules P g h ps args) → KnowsLevel r
  arguments g h [] args r i = absurd i
  arguments g h (p ∷ ps) [] r i = absurd i
  arguments g h (p ∷ ps) (a ∷ args) r (inl e) = subst KnowsLevel (sym e) (record { is = operand_knows g a.value })
  arguments g h (p ∷ ps) (a ∷ args) r (inr i) = arguments g h ps args r i

  into : (g : ℕ) (dest : Option (List ℕ)) (args : List Arg) (h : ℕ) (o : Option Function) (r : LevelRule) → In r (rules_into P g dest args h o) → KnowsLevel r
  into g dest args h None r i = absurd i
  into g dest args h (Some fn) r i = ⊎_elim (for_result g dest (same_as (Result h)) tt r) (arguments g h fn.params args r) (in-append (rule_for_result P g dest (same_as (Result h))) (argument_rules P g h fn.params args) r i)

  entry : (g : ℕ) (dest : Option (List ℕ)) (args : List Arg) (o : Option ℕ) (r : LevelRule) → In r (entry_rules P g dest args o) → KnowsLevel r
  entry g dest args None r i = absurd i
  entry g dest args (Some h) r i = into g dest args h (slice_get P.functions h) r i

  call : (g : ℕ) (dest : Option (List ℕ)) (callee : List ℕ) (args : List Arg) (o : Option ExternCall) (r : LevelRule) → In r (call_rules P g dest callee args o) → KnowsLevel r
  call g dest callee args (Some x) r i = for_result g dest free tt r i
  call g dest callee args None r i = entry g dest args (function_number P callee) r i

  instr : (g : ℕ) (i : Instr) (r : LevelRule) → In r (instr_rules P g i) → KnowsLevel r
  instr g (Alloca dest ty align) r h = only (rule P g dest low) r (omega arith) h
  instr g (Load dest ty addr align) r h = only (rule P g dest free) r tt h
  instr g (Cast dest op from a to) r h = only (rule P g dest free) r tt h
  instr g (Gep dest inbounds ty base indices) r h = only (rule P g dest (element_bound P g base ty (known_path indices))) r (element_knows g base ty (known_path indices)) h
  instr g (Select dest test ty a b) r (inl e) = subst KnowsLevel (sym e) (record { is = operand_knows g a })
  instr g (Select dest test ty a b) r (inr h) = only (rule P g dest (operand_bound P g b)) r (operand_knows g b) h
  instr g (Call dest ret callee args) r h = call g dest callee args (call_of callee) r h
  instr g (Binary dest op flags width a b) r h = only (rule P g dest free) r tt h
  instr g (Compare dest pred ty a b) r h = only (rule P g dest free) r tt h
  instr g (Store ty value addr align) r h = absurd h

  end : (g : ℕ) (x : End) (r : LevelRule) → In r (end_rules P g x) → KnowsLevel r
  end g (ends.Ret (Some a)) r h = only (record { variable = Result g; least = operand_bound P g a.value }) r (operand_knows g a.value) h
  end g (ends.Ret None) r h = absurd h
  end g (ends.Br label) r h = absurd h
  end g (ends.CondBr test first second) r h = absurd h
  end g (ends.Switch width value other cases) r h = absurd h
  end g ends.Unreachable r h = absurd h

  pub rules_know : (r : LevelRule) → In r (level_rules P) → KnowsLevel r
  rules_know = rule_case P KnowsLevel (record {
    instr = λ g b k fn block i at e r h. instr g i r h;
    phi = λ g b k fn block p at e r h. let m = in-map (λ (d : Edge). rule P g p.dest (operand_bound P g d.value)) p.edges r h in subst KnowsLevel (sym m.2) (record { is = operand_knows g m.0.value });
    end = λ g b fn block at r h. end g block.end r h;
  })

-- The least levels of a program are the least closed assignment.
pub program_is_least : (P : Program) → IsLeast (level_rules P) (least_levels P)
program_is_least P = least_is_least (level_rules P) (rules_know P)
