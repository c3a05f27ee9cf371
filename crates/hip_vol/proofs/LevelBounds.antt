-- Where an assignment is closed, a value of level t is at most the stack's end and t times 64 MiB in every run.
use Rattle.std.proofs.Common.{◌≡◌, inl, inr, ℕ, zero, suc, ◌+◌, ◌*◌, ◌%◌, ◌^◌, ◌<◌, ◌≤◌, List, [], ◌∷◌, map, Option, Some, None, slice_get, refl, sym, ap, subst, arith}
use Rattle.std.specs.Prelude.{unwrap_or}
use Rattle.std.specs.Str.{bytes_eq}
use Rattle.hip_types.specs.Layout.{gep_of}
use Rattle.hip_types.specs.Numbers.{wrapped}
use Rattle.hip_types.specs.declared.number.Width.TheVariants.{W64}
use Rattle.hip_types.specs.declared.ty.Ty.{Ty}
use Rattle.hip_tree.specs.declared.block.Edge.{Edge}
use Rattle.hip_tree.specs.declared.block.End.{End}
use Rattle.hip_tree.specs.declared.block.End.TheVariants as ends
use Rattle.hip_tree.specs.declared.instr.Arg.{Arg}
use Rattle.hip_tree.specs.declared.instr.Instr.{Instr}
use Rattle.hip_tree.specs.declared.instr.Instr.TheVariants.{Binary, Compare, Select, Cast, Alloca, Load, Store, Gep, Call}
use Rattle.hip_tree.specs.declared.instr.Operand.{Operand}
use Rattle.hip_tree.specs.declared.instr.Operand.TheVariants.{Reg, Fixed}
use Rattle.hip_tree.specs.declared.program.Function.{Function}
use Rattle.hip_tree.specs.declared.program.Param.{Param}
use Rattle.hip_tree.specs.declared.program.Program.{Program}
use Rattle.hip_types.specs.Areas.{stack_end}
use Rattle.hip_externs.specs.Externs.{call_of}
use Rattle.hip_externs.specs.declared.call.ExternCall.{ExternCall}
use Rattle.hip_sound.specs.NumberedNames.{function_number}
use Rattle.hip_sound.specs.Sound.{IsSound}
use Rattle.hip_globals.specs.Values.{const_value}
use Rattle.hip_runs.specs.declared.input.Input.{Input}
use Rattle.hip_runs.specs.Actions.{index_values, edge_value, returned}
use Rattle.hip_runs.specs.Operands.{value_of, values_of, bound}
use Rattle.hip_runs.specs.State.{Registers, Frame, World}
use Rattle.hip_runs.specs.Step.{run}
use Rattle.hip_runs.specs.StoredParts.Parts.{In}
use Rattle.hip_runs.specs.Validity.{IsValid}
use Rattle.hip_runs.specs.Laws.PartLaws.{append-left, append-right}
use Rattle.hip_runs.specs.Laws.StepLaws.{IsTop}
use Rattle.hip_invariants.specs.PointerLevels.{PointerLevel, within_level, is_at_most, after_offset, known_path}
use Rattle.hip_invariants.specs.Laws.InstrFacts.{instr_fact, CallFact, fact_holds}
use Rattle.hip_invariants.specs.Laws.Registers.Facts.{ValuesHold, each_value, assigned_fact, fact_of_value, values_in_frames}
use Rattle.hip_invariants.specs.Laws.LevelBounds.{within_higher, zero_within, offset_within, chosen_within, const_within, path_is}
use Rattle.hip_vol.specs.Bounds.{Bound, LevelRule, Register, Result, free, low, same_as, Assignment, bound_in}
use Rattle.hip_vol.specs.Closed.{IsMet, IsClosedUnder}
use Rattle.hip_vol.specs.Rules.{operand_bound, element_bound, rule, rule_for_result, argument_rules, rules_into, entry_rules, call_rules, instr_rules, end_rules, level_rules}
use Rattle.hip_vol.proofs.RuleMembers.{of_instr, of_phi, of_end}

nowhere_past : (a : PointerLevel) → after_offset a 0 ≡ a
nowhere_past None = refl
nowhere_past (Some t) = refl

pub record IsWithin (A : Assignment) (g : ℕ) (name : List ℕ) (v : ℕ) : Type 0 where
  pub is : within_level (A (Register g name)) v

pub record ResultIsWithin (A : Assignment) (g v : ℕ) : Type 0 where
  pub is : within_level (A (Result g)) v

module _ (P : Program) (s : IsSound P) (I : Input) (A : Assignment) where
  abbrev Holds : ℕ → Registers → Type 0
  Holds g rs = ValuesHold (IsWithin A) (ResultIsWithin A) g rs

  abbrev AreMet : List LevelRule → Type 0
  AreMet rs = (r : LevelRule) → In r rs → IsMet A r

  register_within : (g : ℕ) (rs : Registers) → Holds g rs → (name : List ℕ) → within_level (A (Register g name)) (value_of P.globals I.base rs (Reg name))
  register_within g rs h name = (fact_of_value (IsWithin A) (ResultIsWithin A) g rs name h (record { is = zero_within _ })).is

  operand_within : (g : ℕ) (rs : Registers) → Holds g rs → (o : Operand) → within_level (bound_in A (operand_bound P g o)) (value_of P.globals I.base rs o)
  operand_within g rs h (Reg name) = subst (λ a. within_level a (value_of P.globals I.base rs (Reg name))) (sym (nowhere_past (A (Register g name)))) (register_within g rs h name)
  operand_within g rs h (Fixed c) = const_within P s I.base c

  -- ---- elements

  element_within : (g : ℕ) (rs : Registers) → Holds g rs → (base : Operand) (ty : Ty) (indices : List Arg) → within_level (bound_in A (element_bound P g base ty (known_path indices))) ((value_of P.globals I.base rs base + unwrap_or (gep_of ty (index_values P.globals I.base rs indices)) 0) % 2 ^ 64)
  element_within g rs h base ty indices = go (known_path indices) refl
    where
      by_base : (o : Operand) (path : List ℕ) → within_level (bound_in A (element_bound P g o ty (Some path))) ((value_of P.globals I.base rs o + unwrap_or (gep_of ty path) 0) % 2 ^ 64)
      by_base (Reg name) path = offset_within (A (Register g name)) (unwrap_or (gep_of ty path) 0) (value_of P.globals I.base rs (Reg name)) (register_within g rs h name)
      by_base (Fixed c) path = offset_within _ (unwrap_or (gep_of ty path) 0) (const_value P.globals I.base c) (const_within P s I.base c)

      go : (o : Option (List ℕ)) → known_path indices ≡ o → within_level (bound_in A (element_bound P g base ty o)) ((value_of P.globals I.base rs base + unwrap_or (gep_of ty (index_values P.globals I.base rs indices)) 0) % 2 ^ 64)
      go None e = tt
      go (Some path) e =
          subst (λ is. within_level (bound_in A (element_bound P g base ty (Some path))) ((value_of P.globals I.base rs base + unwrap_or (gep_of ty is) 0) % 2 ^ 64)) (sym (path_is P.globals I.base rs indices path e)) (by_base base path)

  -- ---- instructions

  -- A value within the bound of a rule for a register is within the register's level.
  ruled : (g : ℕ) (dest : List ℕ) (least : Bound) (v : ℕ) → IsMet A (rule P g dest least) → within_level (bound_in A least) v → IsWithin A g dest v
  ruled g dest least v met m = record { is = within_higher (bound_in A least) (A (Register g dest)) v met m }

  ruled_result : (g : ℕ) (dest : Option (List ℕ)) (least : Bound) (v : ℕ) → AreMet (rule_for_result P g dest least) → within_level (bound_in A least) v → assigned_fact (IsWithin A) (ResultIsWithin A) g dest v
  ruled_result g None least v met m = tt
  ruled_result g (Some dest) least v met m = ruled g dest least v (met (rule P g dest least) (inl refl)) m

  arguments_within : (g h : ℕ) (rs : Registers) → Holds g rs → (ps : List Param) (args : List Arg) → AreMet (argument_rules P g h ps args) → each_value (IsWithin A) (ResultIsWithin A) h (bound ps (values_of P.globals I.base rs args))
  arguments_within g h rs holds [] args met = tt
  arguments_within g h rs holds (p ∷ ps) [] met = tt
  arguments_within g h rs holds (p ∷ ps) (a ∷ args) met =
      (ruled h p.name (operand_bound P g a.value) _ (met (record { variable = Register h p.name; least = operand_bound P g a.value }) (inl refl)) (operand_within g rs holds a.value), arguments_within g h rs holds ps args (λ r i. met r (inr i)))

  call_within : (g : ℕ) (rs : Registers) → Holds g rs → (dest : Option (List ℕ)) (callee : List ℕ) (args : List Arg) → AreMet (call_rules P g dest callee args (call_of callee)) → CallFact (IsWithin A) (ResultIsWithin A) P I g rs dest callee args
  call_within g rs h dest callee args met = record {
    read = λ e z. ruled_result g dest free (wrapped W64 z) (subst (λ (o : Option ExternCall). AreMet (call_rules P g dest callee args o)) e met) tt;
    enter = λ k fn e named here.
        let entered : AreMet (entry_rules P g dest args (function_number P callee)) = subst (λ (o : Option ExternCall). AreMet (call_rules P g dest callee args o)) e met in
        let numbered : AreMet (rules_into P g dest args k (slice_get P.functions k)) = subst (λ (o : Option ℕ). AreMet (entry_rules P g dest args o)) named entered in
        let all : AreMet (rules_into P g dest args k (Some fn)) = subst (λ (o : Option Function). AreMet (rules_into P g dest args k o)) here numbered in
        let first : List LevelRule = rule_for_result P g dest (same_as (Result k)) in
        let second : List LevelRule = argument_rules P g k fn.params args in (
          record { all = arguments_within g k rs h fn.params args (λ r i. all r (append-right first second r i)) },
          record { for_result = λ v m. ruled_result g dest (same_as (Result k)) v (λ r i. all r (append-left first second r i)) (subst (λ a. within_level a v) (sym (nowhere_past (A (Result k)))) m.is) },
        );
  }

  instr_within : (g : ℕ) (w : World) (rs : Registers) → Holds g rs → (i : Instr) → AreMet (instr_rules P g i) → instr_fact (IsWithin A) (ResultIsWithin A) P I g w rs i
  instr_within g w rs h (Binary dest op flags width a b) met = λ r e. ruled g dest free _ (met (rule P g dest free) (inl refl)) tt
  instr_within g w rs h (Compare dest pred ty a b) met = ruled g dest free _ (met (rule P g dest free) (inl refl)) tt
  instr_within g w rs h (Select dest test ty a b) met = record {
    is = chosen_within (A (Register g dest)) _ _ _
        (within_higher (bound_in A (operand_bound P g a)) _ _ (met (rule P g dest (operand_bound P g a)) (inl refl)) (operand_within g rs h a))
        (within_higher (bound_in A (operand_bound P g b)) _ _ (met (rule P g dest (operand_bound P g b)) (inr (inl refl))) (operand_within g rs h b));
  }
  instr_within g w rs h (Cast dest op from a to) met = ruled g dest free _ (met (rule P g dest free) (inl refl)) tt
  instr_within g w rs h (Alloca dest ty align) met = λ a q within. ruled g dest low a (met (rule P g dest low) (inl refl)) (omega (arith, within))
  instr_within g w rs h (Load dest ty addr align) met = ruled g dest free _ (met (rule P g dest free) (inl refl)) tt
  instr_within g w rs h (Store ty value addr align) met = tt
  instr_within g w rs h (Gep dest inbounds ty base indices) met = ruled g dest (element_bound P g base ty (known_path indices)) _ (met (rule P g dest (element_bound P g base ty (known_path indices))) (inl refl)) (element_within g rs h base ty indices)
  instr_within g w rs h (Call dest ret callee args) met = call_within g rs h dest callee args met

  -- ---- phis and results

  in_mapped : {X : Type 0} (f : X → LevelRule) (xs : List X) (j : ℕ) (x : X) → slice_get xs j ≡ Some x → In (f x) (map f xs)
  in_mapped f [] j x e = cc
  in_mapped f (y ∷ ys) zero x e = inl (let q : x ≡ y = cc in ap f q)
  in_mapped f (y ∷ ys) (suc j) x e = inr (in_mapped f ys j x e)

  edge_within : (g : ℕ) (rs : Registers) → Holds g rs → (a : PointerLevel) (from : List ℕ) (es : List Edge) → ((j : ℕ) (e : Edge) → slice_get es j ≡ Some e → is_at_most (bound_in A (operand_bound P g e.value)) a) → within_level a (edge_value P.globals I.base rs es from)
  edge_within g rs h a from [] each = zero_within a
  edge_within g rs h a from (e ∷ es) each = chosen_within a (bytes_eq e.label from) _ _ (within_higher (bound_in A (operand_bound P g e.value)) a _ (each 0 e refl) (operand_within g rs h e.value)) (edge_within g rs h a from es (λ j d q. each (suc j) d q))

  result_within : (g : ℕ) (rs : Registers) → Holds g rs → (arg : Option Arg) → AreMet (end_rules P g (ends.Ret arg)) → within_level (A (Result g)) (returned P.globals I.base rs arg)
  result_within g rs h None met = zero_within (A (Result g))
  result_within g rs h (Some a) met = within_higher (bound_in A (operand_bound P g a.value)) (A (Result g)) _ (met (record { variable = Result g; least = operand_bound P g a.value }) (inl refl)) (operand_within g rs h a.value)

  -- ---- runs

  module _ (closed : IsClosedUnder (level_rules P) A) where
    -- In each frame at each step the values are within the levels.
    levels_hold : (n : ℕ) → values_in_frames (IsWithin A) (ResultIsWithin A) (run P I n).frames
    levels_hold =
        fact_holds (IsWithin A) (ResultIsWithin A) P I
        (record {
          instr = λ n f fs fn block i t h at e. record { is = instr_within f.function (run P I n).world f.registers h i (λ r m. closed.met r (of_instr P f.function f.block fn block at f.place i e r m)) };
          phi = λ f c k fn block p from h at e. record {
            is = edge_within f.function f.registers h (A (Register f.function p.dest)) from p.edges
                (λ j d q. closed.met (rule P f.function p.dest (operand_bound P f.function d.value)) (of_phi P f.function c fn block at k p e _ (in_mapped (λ (x : Edge). rule P f.function p.dest (operand_bound P f.function x.value)) p.edges j d q)));
          };
          result = λ f fn block arg h at e. record { is = result_within f.function f.registers h arg (λ r m. closed.met r (of_end P f.function f.block fn block at r (subst (λ (x : End). In r (end_rules P f.function x)) (sym e) m))) };
        })

    -- An address of a level up to 32 lies below the region.
    pub low_address : IsValid P I → (n : ℕ) (f : Frame) (fs : List Frame) (o : Operand) (t : ℕ) → IsTop (run P I n) f fs → bound_in A (operand_bound P f.function o) ≡ Some t → t ≤ 32 → value_of P.globals I.base f.registers o < I.base
    low_address valid n f fs o t top level small =
        let all : values_in_frames (IsWithin A) (ResultIsWithin A) (f ∷ fs) = subst (values_in_frames (IsWithin A) (ResultIsWithin A)) top.frames (levels_hold n) in
        let most : value_of P.globals I.base f.registers o ≤ stack_end + 67108864 * t = subst (λ a. within_level a (value_of P.globals I.base f.registers o)) level (operand_within f.function f.registers all.0 o) in
        omega (arith, most, small, valid.base.low)
