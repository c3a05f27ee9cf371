-- The pointer operands of an instruction, as its op gives them.
use Rattle.std.proofs.Common.{◌≡◌, ◌⊎◌, inl, inr, ℕ, zero, suc, ◌+◌, ◌<◌, Bool, true, false, cond, List, [], ◌∷◌, ◌++◌, length, drop, get_or, Option, Some, None, is_some, option_map, slice_get, refl, sym, ap, ap₂, ◌∙◌, subst, arith, add-one, drop-cons}
use Rattle.std.specs.List.{flat_map}
use Rattle.std.proofs.lemmas.List.{length-map}
use Rattle.std.proofs.lemmas.Option.{same_Some, slice_get-map}
use Rattle.hip_externs.specs.Externs.{call_of, signature}
use Rattle.hip_externs.specs.declared.call.ExternCall.{ExternCall}
use Rattle.hip_types.specs.declared.number.Scalar.{Scalar}
use Rattle.hip_types.specs.declared.number.Scalar.TheVariants.{Int, Ptr}
use Rattle.hip_tree.specs.declared.instr.Arg.{Arg}
use Rattle.hip_tree.specs.declared.instr.Instr.TheVariants.{Store, Call}
use Rattle.hip_tree.specs.declared.instr.Operand.{Operand}
use Rattle.hip_tree.specs.declared.program.Program.{Program}
use Rattle.hip_sound.specs.Given.{CallsFunction, CallsExtern}
use Rattle.hip_sound.specs.Laws.CalleeLaws.{not_numbered}
use Rattle.hip_sound.specs.NumberedNames.{function_number}
use Rattle.hip_sound.specs.Sound.{IsSound}
use Rattle.hip_runs.specs.declared.input.Input.{Input}
use Rattle.hip_runs.specs.Found.Marks.{pointer_arg, pointer_operands}
use Rattle.hip_runs.specs.Operands.{value_of, values_of}
use Rattle.hip_runs.specs.State.{Registers}
use Rattle.hip_code.specs.declared.code.Code.{Code}
use Rattle.hip_code.specs.declared.op.Call as op_call
use Rattle.hip_code.specs.declared.op.Control.TheVariants as controls
use Rattle.hip_code.specs.declared.op.Op.{Op}
use Rattle.hip_code.specs.declared.op.Op.TheVariants as ops
use Rattle.hip_code.specs.Named.{IsCallWith, is_memory, is_pointer, passes, passes_or_effects, stores_at}
use Rattle.hip_code.specs.Numbers.{OpNumbers}
use Rattle.hip_core.specs.declared.core_parts.Core.{Core}
use Rattle.hip_core.specs.Acts.{numbers_of}
use Rattle.hip_core.specs.PointerOperands.{IsPointerArg, TellsPointer, calls_with}

-- ---- the pointers among arguments

pointer_is : (t : Scalar) (v : Operand) → pointer_arg (record { ty = t; value = v }) ≡ cond (is_pointer t) (v ∷ []) []
pointer_is Ptr v = refl
pointer_is (Int w) v = refl

pub pointer_arg_is : (a : Arg) (b : Bool) → is_pointer a.ty ≡ b → pointer_arg a ≡ cond b (a.value ∷ []) []
pointer_arg_is a b e = pointer_is a.ty a.value ∙ ap (λ c. cond c (a.value ∷ []) []) e

rest_is : (args : List Arg) (i : ℕ) (a : Arg) → i < length args → a ≡ get_or args i a → flat_map pointer_arg (drop i args) ≡ pointer_arg a ++ flat_map pointer_arg (drop (i + 1) args)
rest_is args i a below is =
    ap (flat_map pointer_arg) (drop-cons args i a below) ∙ ap₂ (λ x n. pointer_arg x ++ flat_map pointer_arg (drop n args)) (sym is) (sym (add-one i))

pub pointer_found : (args : List Arg) (i : ℕ) (a : Arg) → i < length args → a ≡ get_or args i a → is_pointer a.ty ≡ true → slice_get (flat_map pointer_arg (drop i args)) 0 ≡ Some a.value
pointer_found args i a below is on = ap (λ xs. slice_get xs 0) (rest_is args i a below is ∙ ap (λ xs. xs ++ flat_map pointer_arg (drop (i + 1) args)) (pointer_arg_is a true on))

-- ---- the operands of an instruction

module _ {code : Code} {c : Core} where
  pub tells_store_none : {ty : Scalar} {value addr : Operand} {align : Option ℕ} {k : ℕ} → 0 < k → TellsPointer code c (Store ty value addr align) k None
  tells_store_none {ty} {value} {addr} {align} {k} some = record { tells = λ P I rs op sound here names agrees. go P I rs k some }
    where
      go : (P : Program) (I : Input) (rs : Registers) (j : ℕ) → 0 < j → None ≡ option_map (value_of P.globals I.base rs) (slice_get (addr ∷ []) j)
      go P I rs zero h = absurd (omega (arith, h))
      go P I rs (suc j) h = refl

  pub tells_store : {ty : Scalar} {value addr : Operand} {align : Option ℕ} {k : ℕ} {o : Option ℕ} (op : Op) → slice_get code.ops.items c.top.place ≡ Some op → k ≡ 0 → ((a : ℕ) → stores_at (numbers_of code c) a op → o ≡ Some a) →
      TellsPointer code c (Store ty value addr align) k o
  tells_store {ty} {value} {addr} {align} {k} {o} op at first stated = record {
    tells = λ P I rs op' sound here names agrees.
        let same : op' ≡ op = same_Some _ _ (sym here ∙ at) in
        let v = value_of P.globals I.base rs addr in
        stated v (subst (stores_at (numbers_of code c) v) same names.is) ∙ ap (λ j. option_map (value_of P.globals I.base rs) (slice_get (addr ∷ []) j)) (sym first);
  }

-- A call has as many arguments as its callee has parameters, so it passes the values of all its arguments.
enough : (P : Program) (n : OpNumbers) (callee : List ℕ) (ret : Option Scalar) (args : List Arg) (vs : List ℕ) (call : op_call.Call) → IsSound P → call_of callee ≡ None → length vs ≡ length args → CallsFunction P callee ret args ⊎ CallsExtern callee ret args →
    IsCallWith P n callee vs call → calls_with n vs (ops.Control (controls.Call call))
enough P n callee ret args vs call s defined long (inl f) w =
    let same : f.number ≡ call.function = same_Some _ _ (sym f.named ∙ w.numbered) in
    let here : slice_get P.functions call.function ≡ Some f.function = ap (slice_get P.functions) (sym same) ∙ f.here in
    let params = length-map f.function.params (λ p. p.ty) in
    let given = length-map args (λ (a : Arg). a.ty) in
    let counts = ap length f.params in
    w.passed f.function here (omega (arith, long, params, given, counts))
enough P n callee ret args vs call s defined long (inr x) w = absurd (let no : None ≡ Some x.signature = ap (option_map signature) (sym defined) ∙ x.known in let z : ⊥ = cc in z)

pub called_with : (P : Program) (n : OpNumbers) (callee : List ℕ) (ret : Option Scalar) (args : List Arg) (vs : List ℕ) (op : Op) → IsSound P → call_of callee ≡ None → length vs ≡ length args → CallsFunction P callee ret args ⊎ CallsExtern callee ret args →
    passes P n callee vs op → calls_with n vs op × (is_some (function_number P callee) ≡ true)
called_with P n callee ret args vs (ops.Control (controls.Call call)) s defined long agrees w = (enough P n callee ret args vs call s defined long agrees w, ap is_some w.numbered)
called_with P n callee ret args vs (ops.Control (controls.Go go)) s defined long agrees w = absurd w
called_with P n callee ret args vs (ops.Control (controls.Exit exit)) s defined long agrees w = absurd w
called_with P n callee ret args vs (ops.Value dest value) s defined long agrees w = absurd w
called_with P n callee ret args vs (ops.Memory memory) s defined long agrees w = absurd w

module _ {code : Code} {c : Core} {dest : Option (List ℕ)} {ret : Option Scalar} {callee : List ℕ} {args : List Arg} {k : ℕ} where
  -- There is no pointer of that number among the arguments.
  pub tells_call_none : slice_get (flat_map pointer_arg args) k ≡ None → TellsPointer code c (Call dest ret callee args) k None
  tells_call_none none = record { tells = λ P I rs op sound here names agrees. go P I rs (is_some (function_number P callee)) }
    where
      go : (P : Program) (I : Input) (rs : Registers) (b : Bool) → None ≡ option_map (value_of P.globals I.base rs) (slice_get (cond b (flat_map pointer_arg args) []) k)
      go P I rs true = sym (ap (option_map (value_of P.globals I.base rs)) none)
      go P I rs false = nothing k
        where
          nothing : (j : ℕ) → None ≡ option_map (value_of P.globals I.base rs) (slice_get [] j)
          nothing zero = refl
          nothing (suc j) = refl

  pub tells_call : {o : Option ℕ} (op : Op) (j : ℕ) → slice_get code.ops.items c.top.place ≡ Some op → IsPointerArg args k j → ((vs : List ℕ) → calls_with (numbers_of code c) vs op → o ≡ slice_get vs j) → (is_memory op → o ≡ None) →
      TellsPointer code c (Call dest ret callee args) k o
  tells_call {o} op j at p calls other = record {
    tells = λ P I rs op' sound here names agrees.
        let same : op' ≡ op = same_Some _ _ (sym here ∙ at) in
        go P I rs sound agrees (call_of callee) refl (subst (λ (x : Op). passes_or_effects P (numbers_of code c) (call_of callee) callee (values_of P.globals I.base rs args) x) same names.is);
  }
    where
      nothing : (P : Program) (I : Input) (rs : Registers) (i : ℕ) → None ≡ option_map (value_of P.globals I.base rs) (slice_get [] i)
      nothing P I rs zero = refl
      nothing P I rs (suc i) = refl

      go : (P : Program) (I : Input) (rs : Registers) → IsSound P → CallsFunction P callee ret args ⊎ CallsExtern callee ret args → (x : Option ExternCall) → call_of callee ≡ x →
          passes_or_effects P (numbers_of code c) x callee (values_of P.globals I.base rs args) op → o ≡ option_map (value_of P.globals I.base rs) (slice_get (pointer_operands P (Call dest ret callee args)) k)
      go P I rs sound agrees None defined w =
          let vs = values_of P.globals I.base rs args in
          let r = called_with P (numbers_of code c) callee ret args vs op sound defined (length-map args (λ (a : Arg). value_of P.globals I.base rs a.value)) agrees w in
          calls vs r.0 ∙ slice_get-map (λ (a : Arg). value_of P.globals I.base rs a.value) args j ∙ ap (option_map (λ (a : Arg). value_of P.globals I.base rs a.value)) p.here
          ∙ sym (ap (option_map (value_of P.globals I.base rs)) (ap (λ b. slice_get (cond b (flat_map pointer_arg args) []) k) r.1 ∙ p.is))
      go P I rs sound agrees (Some x) known w =
          other w ∙ nothing P I rs k ∙ ap (λ b. option_map (value_of P.globals I.base rs) (slice_get (cond b (flat_map pointer_arg args) []) k)) (sym (not_numbered P sound callee x known))

pub got_there : {A : Type 0} (xs : List A) (k : ℕ) (d : A) → k < length xs → slice_get xs k ≡ Some (get_or xs k d)
got_there [] k d h = absurd (omega (arith, h))
got_there (x ∷ xs) zero d h = refl
got_there (x ∷ xs) (suc k) d h = got_there xs k d (omega (arith, h))

pub pointer_there : (args : List Arg) (k left i : ℕ) (a : Arg) → i < length args → a ≡ get_or args i a → is_pointer a.ty ≡ true → left ≡ 0 → slice_get (flat_map pointer_arg (drop i args)) left ≡ slice_get (flat_map pointer_arg args) k → IsPointerArg args k i
pointer_there args k left i a below is on none same = record {
  arg = a;
  here = got_there args i a below ∙ ap Some (sym is);
  is = sym same ∙ ap (slice_get (flat_map pointer_arg (drop i args))) none ∙ pointer_found args i a below is on;
}
