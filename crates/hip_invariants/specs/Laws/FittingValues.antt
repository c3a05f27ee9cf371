-- Each value of a register fits the type that its function gives the register.
use Rattle.std.proofs.Common.{◌≡◌, ◌⊎◌, inl, inr, ℕ, suc, ◌<◌, ◌^◌, Bool, true, false, cond, List, [], ◌∷◌, map, Option, Some, None, slice_get, option_map, refl, sym, ap, ◌∙◌, subst, arith}
use Rattle.std.specs.Prelude.{Result, Ok, Err, All}
use Rattle.std.proofs.Math.Nat.{mod-lt}
use Rattle.std.proofs.lemmas.List.Elements.{All-head, All-tail}
use Rattle.std.proofs.lemmas.Option.{same_Some}
use Rattle.hip_types.specs.Numbers.{bits, modulus, modulus_pos, wrapped, wrapped-lt}
use Rattle.hip_types.specs.declared.number.Bits.{Bits}
use Rattle.hip_types.specs.declared.number.CastOp.{CastOp}
use Rattle.hip_types.specs.declared.number.CastOp.TheVariants as casts
use Rattle.hip_types.specs.declared.number.Scalar.{Scalar}
use Rattle.hip_types.specs.declared.number.Scalar.TheVariants.{Int, Ptr}
use Rattle.hip_types.specs.declared.number.Width.{Width}
use Rattle.hip_types.specs.declared.number.Width.TheVariants.{W1, W64}
use Rattle.hip_tree.specs.declared.block.Block.{Block}
use Rattle.hip_tree.specs.declared.block.Edge.{Edge}
use Rattle.hip_tree.specs.declared.block.End.{End}
use Rattle.hip_tree.specs.declared.block.End.TheVariants as ends
use Rattle.hip_tree.specs.declared.instr.Arg.{Arg}
use Rattle.hip_tree.specs.declared.instr.Instr.{Instr}
use Rattle.hip_tree.specs.declared.instr.Instr.TheVariants.{Binary, Compare, Select, Cast, Alloca, Load, Store, Gep, Call}
use Rattle.hip_tree.specs.declared.instr.Operand.{Operand}
use Rattle.hip_tree.specs.declared.instr.Operand.TheVariants.{Reg, Fixed}
use Rattle.hip_tree.specs.declared.program.Function.{Function}
use Rattle.hip_tree.specs.declared.program.Param.{Param}
use Rattle.hip_tree.specs.declared.program.Program.{Program}
use Rattle.hip_num.specs.Arithmetic.{modulo}
use Rattle.hip_num.specs.declared.arithmetic.NumTrap.{NumTrap}
use Rattle.hip_names.specs.Names.{AllDiffer}
use Rattle.hip_externs.specs.Externs.{signature}
use Rattle.hip_sound.specs.Given.{CallsFunction, CallsExtern}
use Rattle.hip_sound.specs.Laws.Decided.{all-at}
use Rattle.hip_sound.specs.Laws.GivenLaws.{sound-operands, sound-calls}
use Rattle.hip_sound.specs.Registers.{Register, Use, find_register, registers_of, assigned_by, instr_uses, end_uses, arg_uses, edge_uses}
use Rattle.hip_sound.specs.Sound.{IsSound, IsBlockAt, IsTyped, EndItem, OwnTypesAgree, names_in_function, operand_is_typed}
use Rattle.hip_externs.specs.declared.call.ExternCall.TheVariants as calls
use Rattle.hip_runs.specs.declared.input.Input.{Input}
use Rattle.hip_runs.specs.Actions.{truth, cast_value, edge_value, returned}
use Rattle.hip_runs.specs.Operands.{look_up, value_of, values_of, bound}
use Rattle.hip_types.specs.Scalars.{width_of}
use Rattle.hip_runs.specs.StoredParts.Parts.{In}
use Rattle.hip_runs.specs.State.{Registers, World}
use Rattle.hip_runs.specs.Step.{run}
use Rattle.hip_runs.specs.Validity.{IsValid}
use Rattle.hip_invariants.specs.Laws.InstrFacts.{CallFact, instr_fact, KeepsFact, fact_holds}
use Rattle.hip_invariants.specs.Laws.Registers.Facts.{each_stated, ValuesHold, each_value, assigned_fact, WaitsFor, fact_of_value}
use Rattle.hip_invariants.specs.Laws.ConstantTypes.{constant_fits}
use Rattle.hip_invariants.specs.Laws.Registers.Types.{assigned_type, phi_type, parameter_type}
use Rattle.hip_invariants.specs.Types.{type_in, fits_type, FitsType, result_in, FitsResult, RegistersFit}
use Rattle.hip_invariants.specs.Laws.Callees.{function_free}

none_fits : (t : Option (Option Scalar)) → fits_type t 0
none_fits None = tt
none_fits (Some None) = tt
none_fits (Some (Some ty)) = modulus_pos (width_of ty)

module _ (P : Program) (s : IsSound P) (I : Input) (valid : IsValid P I) (g : ℕ) (fn : Function)
    (here : slice_get P.functions g ≡ Some fn) where
  -- The values of these registers fit their types in the function.
  abbrev TypesHold : Registers → Type 0
  TypesHold rs = ValuesHold (FitsType P) (FitsResult P) g rs

  differ : AllDiffer (names_in_function fn)
  differ = all-at (λ f. AllDiffer (names_in_function f)) P.functions g fn s.inner_names_differ here

  of_type : (name : List ℕ) (t : Option Scalar) (v : ℕ) → find_register (registers_of fn) name ≡ Some t
      → fits_type (Some t) v → FitsType P g name v
  of_type name t v e h = record {
    is = subst (λ (x : Option (Option Scalar)). fits_type x v)
        (sym (ap (λ (o : Option Function). type_in o name) here ∙ e)) h;
  }

  -- ---- operands

  pub operand_fits : (rs : Registers) → TypesHold rs → (o : Operand) (ty : Scalar)
      → operand_is_typed (registers_of fn) o ty → value_of P.globals I.base rs o < modulus (width_of ty)
  operand_fits rs h (Reg name) ty t =
      let value : FitsType P g name (look_up rs name) =
      fact_of_value (FitsType P) (FitsResult P) g rs name h (record { is = none_fits _ }) in
      subst (λ (x : Option (Option Scalar)). fits_type x (look_up rs name))
      (ap (λ (o : Option Function). type_in o name) here ∙ t) value.is
  operand_fits rs h (Fixed c) ty t = constant_fits P s I.base valid.base c ty t

  bound_fit : (h : ℕ) (rs : Registers) → TypesHold rs → (ps : List Param) (args : List Arg)
      → map (λ p. p.ty) ps ≡ map (λ a. a.ty) args → All (IsTyped fn) (arg_uses args) →
      ((k : ℕ) (p : Param) (v : ℕ) → slice_get ps k ≡ Some p → fits_type (Some (Some p.ty)) v
      → FitsType P h p.name v) → each_value (FitsType P) (FitsResult P) h
      (bound ps (values_of P.globals I.base rs args))
  bound_fit h rs holds [] args e typed each = tt
  bound_fit h rs holds (p ∷ ps) [] e typed each = tt
  bound_fit h rs holds (p ∷ ps) (a ∷ args) e typed each =
      let first : p.ty ≡ a.ty = cc in
      let rest : map (λ (q : Param). q.ty) ps ≡ map (λ (b : Arg). b.ty) args = cc in
      let value : value_of P.globals I.base rs a.value < modulus (width_of a.ty) =
      operand_fits rs holds a.value a.ty (All-head (IsTyped fn) _ (arg_uses args) typed) in (
        each 0 p _ refl (subst (λ ty. value_of P.globals I.base rs a.value < modulus (width_of ty)) (sym first) value),
        bound_fit h rs holds ps args rest (All-tail (IsTyped fn) _ (arg_uses args) typed)
            (λ k q v f. each (suc k) q v f),
      )

  -- ---- how a register gets a value

  truth_fits : (b : Bool) → truth b < 2
  truth_fits true = omega arith
  truth_fits false = omega arith

  cast_fits : (op : CastOp) (from to : Scalar) (v : ℕ) → cast_value op from to v < modulus (width_of to)
  cast_fits casts.Sext from to v = mod-lt _ (modulus_pos (width_of to))
  cast_fits casts.Zext from to v = mod-lt _ (modulus_pos (width_of to))
  cast_fits casts.Trunc from to v = mod-lt _ (modulus_pos (width_of to))
  cast_fits casts.Ptrtoint from to v = mod-lt _ (modulus_pos (width_of to))
  cast_fits casts.Inttoptr from to v = mod-lt _ (modulus_pos (width_of to))

  binary_fits : (w : Width) (r : Result ℕ NumTrap) (b : Bits) → modulo w r ≡ Ok b → b.value < modulus w
  binary_fits w (Ok n) b e = let same : bits w n ≡ b = cc in
      subst (λ (x : Bits). x.value < modulus w) same (mod-lt n (modulus_pos w))
  binary_fits w (Err trap) b e = cc

  chosen_fits : (b : Bool) (x y m : ℕ) → x < m → y < m → cond b x y < m
  chosen_fits true x y m p q = p
  chosen_fits false x y m p q = q

  -- The register of a call has the type of its result.
  abbrev ResultIsTyped : Option (List ℕ) → Option Scalar → Type 0
  ResultIsTyped None ret = Unit {0}
  ResultIsTyped (Some dest) ret = find_register (registers_of fn) dest ≡ Some ret

  result_fact : (dest : Option (List ℕ)) (ret : Option Scalar) (v : ℕ) → ResultIsTyped dest ret
      → fits_type (Some ret) v → assigned_fact (FitsType P) (FitsResult P) g dest v
  result_fact None ret v t h = tt
  result_fact (Some dest) ret v t h = of_type dest ret v t h

  call_fact : (rs : Registers) (dest : Option (List ℕ)) (ret : Option Scalar) (callee : List ℕ) (args : List Arg)
      → TypesHold rs → All (IsTyped fn) (arg_uses args) → ResultIsTyped dest ret →
      CallsFunction P callee ret args ⊎ CallsExtern callee ret args
      → CallFact (FitsType P) (FitsResult P) P I g rs dest callee args
  call_fact rs dest ret callee args h typed t (inl c) = record {
    read = λ e z. absurd (let none = function_free P s callee ret args c in let z : ⊥ = cc in z);
    enter = λ k callee_fn e named here. entered k callee_fn (same_Some c.number k (sym c.named ∙ named)) here;
  }
    where
      entered : (k : ℕ) (k_fn : Function) → c.number ≡ k → slice_get P.functions k ≡ Some k_fn
          → ValuesHold (FitsType P) (FitsResult P) k (bound k_fn.params (values_of P.globals I.base rs args))
          × WaitsFor (FitsType P) (FitsResult P) g dest k
      entered k k_fn q e = (
        record {
          all = bound_fit k rs h k_fn.params args
              (subst (λ (x : Function). map (λ p. p.ty) x.params ≡ map (λ a. a.ty) args) same c.params) typed
              (λ j p v r fit. parameter j p v r fit);
        },
        record {
          for_result = λ v r. result_fact dest ret v t
              (subst (λ (x : Option Scalar). fits_type (Some x) v)
              (ap (λ (x : Function). x.ret) (sym same) ∙ c.result)
              (subst (λ (o : Option Function). fits_type (result_in o) v) e r.is));
        },
      )
        where
          same : c.function ≡ k_fn
          same = same_Some c.function k_fn (sym c.here ∙ ap (slice_get P.functions) q ∙ e)

          inside : AllDiffer (names_in_function k_fn)
          inside = all-at (λ f. AllDiffer (names_in_function f)) P.functions k k_fn s.inner_names_differ e

          parameter : (j : ℕ) (p : Param) (v : ℕ) → slice_get k_fn.params j ≡ Some p
              → fits_type (Some (Some p.ty)) v → FitsType P k p.name v
          parameter j p v r fit = record {
            is = subst (λ (x : Option (Option Scalar)). fits_type x v)
                (sym (ap (λ (o : Option Function). type_in o p.name) e ∙ parameter_type k_fn inside j p r)) fit;
          }
  call_fact rs dest ret callee args h typed t (inr c) = record {
    read = λ e z.
        let known : Some (signature calls.ReadI64) ≡ Some c.signature = ap (option_map signature) (sym e)
        ∙ c.known in
        let is : Some (Int W64) ≡ ret = ap (λ z. z.ret) (same_Some (signature calls.ReadI64) c.signature known)
        ∙ c.result in
        result_fact dest ret (wrapped W64 z) t (subst (λ (r : Option Scalar). fits_type (Some r) (wrapped W64 z)) is
        (wrapped-lt W64 z));
    enter = λ k callee_fn e named here. let known : None ≡ Some c.signature = ap (option_map signature) (sym e)
        ∙ c.known in absurd (let z : ⊥ = cc in z);
  }

  module _ (b k : ℕ) (block : Block) (at : slice_get fn.blocks b ≡ Some block) where
    own : (i : Instr) (r : Register) → slice_get block.body k ≡ Some i → In r (assigned_by i)
        → find_register (registers_of fn) r.name ≡ Some r.ty
    own i r e h = assigned_type fn differ b k block i r at e h

    where_at : IsBlockAt P g b fn block
    where_at = record { function = here; block_is = at }

    typed_at : (i : Instr) (j : ℕ) (u : Use) → slice_get block.body k ≡ Some i
        → slice_get (instr_uses i) j ≡ Some u → IsTyped fn u
    typed_at i j u e q = all-at (IsTyped fn) (instr_uses i) j u
        ((sound-operands P s g b fn block where_at).body k i e) q

    instr_fact_of : (w : World) (rs : Registers) → TypesHold rs → (i : Instr) → slice_get block.body k ≡ Some i
        → instr_fact (FitsType P) (FitsResult P) P I g w rs i
    instr_fact_of w rs h (Binary dest op flags width x y) e =
        λ r q. of_type dest (Some (Int width)) _ (own (Binary dest op flags width x y) _ e (inl refl))
        (binary_fits width _ r q)
    instr_fact_of w rs h (Compare dest pred ty x y) e =
        of_type dest (Some (Int W1)) _ (own (Compare dest pred ty x y) _ e (inl refl)) (truth_fits _)
    instr_fact_of w rs h (Select dest test ty x y) e =
        of_type dest (Some ty) _ (own (Select dest test ty x y) _ e (inl refl))
        (chosen_fits _ _ _ (modulus (width_of ty))
        (operand_fits rs h x ty (typed_at (Select dest test ty x y) 1 _ e refl))
        (operand_fits rs h y ty (typed_at (Select dest test ty x y) 2 _ e refl)))
    instr_fact_of w rs h (Cast dest op from x to) e =
        of_type dest (Some to) _ (own (Cast dest op from x to) _ e (inl refl)) (cast_fits op from to _)
    instr_fact_of w rs h (Alloca dest ty align) e =
        λ a q within. of_type dest (Some Ptr) a (own (Alloca dest ty align) _ e (inl refl))
        (let low : a < 2 ^ 64 = omega (arith, within) in low)
    instr_fact_of w rs h (Load dest ty addr align) e =
        of_type dest (Some ty) _ (own (Load dest ty addr align) _ e (inl refl)) (mod-lt _ (modulus_pos (width_of ty)))
    instr_fact_of w rs h (Store ty value addr align) e = tt
    instr_fact_of w rs h (Gep dest inbounds ty base indices) e =
        of_type dest (Some Ptr) _ (own (Gep dest inbounds ty base indices) _ e (inl refl)) (mod-lt _ (modulus_pos W64))
    instr_fact_of w rs h (Call None ret callee args) e =
        call_fact rs None ret callee args h ((sound-operands P s g b fn block where_at).body k
        (Call None ret callee args) e) tt (sound-calls P s g b k fn block None ret callee args where_at e)
    instr_fact_of w rs h (Call (Some dest) ret callee args) e =
        call_fact rs (Some dest) ret callee args h
        ((sound-operands P s g b fn block where_at).body k (Call (Some dest) ret callee args) e)
        (own (Call (Some dest) ret callee args) _ e (inl refl))
        (sound-calls P s g b k fn block (Some dest) ret callee args where_at e)

  -- ---- phis and results

  edge_fits : (rs : Registers) → TypesHold rs → (ty : Scalar) (from : List ℕ) (es : List Edge)
      → All (IsTyped fn) (edge_uses ty es) → edge_value P.globals I.base rs es from < modulus (width_of ty)
  edge_fits rs h ty from [] typed = modulus_pos (width_of ty)
  edge_fits rs h ty from (e ∷ es) typed =
      chosen_fits _ _ _ (modulus (width_of ty))
      (operand_fits rs h e.value ty (All-head (IsTyped fn) _ (edge_uses ty es) typed))
      (edge_fits rs h ty from es (All-tail (IsTyped fn) _ (edge_uses ty es) typed))

  pub result_fits : (rs : Registers) → TypesHold rs → (arg : Option Arg)
      → All (IsTyped fn) (end_uses (ends.Ret arg)) → option_map (λ a. a.ty) arg ≡ fn.ret
      → fits_type (Some fn.ret) (returned P.globals I.base rs arg)
  result_fits rs h None typed e = none_fits (Some fn.ret)
  result_fits rs h (Some a) typed e = subst
      (λ (t : Option Scalar). fits_type (Some t) (value_of P.globals I.base rs a.value)) e
      (operand_fits rs h a.value a.ty (All-head (IsTyped fn) _ [] typed))

module _ (P : Program) (s : IsSound P) (I : Input) (valid : IsValid P I) where
  pub types_kept : KeepsFact (FitsType P) (FitsResult P) P I
  types_kept = record {
    instr = λ n f fs fn block i t h at e. record {
      is =
          instr_fact_of P s I valid f.function fn at.function f.block f.place block at.block_is
          (run P I n).world f.registers h i e;
    };
    phi = λ f c k fn block p from h at e.
        of_type P s I valid f.function fn at.function p.dest (Some p.ty) _
        (phi_type fn (differ P s I valid f.function fn at.function) c k block p at.block_is e)
        (edge_fits P s I valid f.function fn at.function f.registers h p.ty from p.edges
        ((sound-operands P s f.function c fn block at).phis k p e));
    result = λ f fn block arg h at e.
        let typed = subst (λ (x : End). All (IsTyped fn) (end_uses x)) e
        (sound-operands P s f.function f.block fn block at).last in
        let agrees = subst (λ (x : End). OwnTypesAgree P fn (EndItem x)) e
        (s.types_agree f.function f.block fn block at).last.own in
        record {
          is = subst (λ (o : Option Function). fits_type (result_in o)
              (returned P.globals I.base f.registers arg)) (sym at.function)
              (result_fits P s I valid f.function fn at.function f.registers h arg typed agrees);
        };
  }

  -- The registers fit their types at each step.
  pub registers_fit : (n : ℕ) → RegistersFit P (run P I n).frames
  registers_fit n = each_stated (FitsType P) (FitsResult P) (λ g name. record { is = none_fits _ }) (run P I n).frames
      (fact_holds (FitsType P) (FitsResult P) P I types_kept n)
