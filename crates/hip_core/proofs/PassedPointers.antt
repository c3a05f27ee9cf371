-- The values of all pointer operands of an instruction, as its op gives them.
use Rattle.std.proofs.Common.{◌≡◌, ◌⊎◌, ℕ, zero, suc, ◌+◌, ◌<◌, cond, List, [], ◌∷◌, ◌++◌, append_assoc, length, drop, get_or, map, Option, Some, None, slice_get, Result, Ok, Err, IfOk, refl, sym, ap, ◌∙◌, subst, arith, add-one}
use Rattle.std.specs.List.{flat_map}
use Rattle.std.proofs.lemmas.List.{length-map}
use Rattle.std.proofs.lemmas.Option.{same_Some, slice_get-map}
use Rattle.hip_externs.specs.Externs.{call_of}
use Rattle.hip_externs.specs.declared.call.ExternCall.{ExternCall}
use Rattle.hip_types.specs.declared.number.Scalar.{Scalar}
use Rattle.hip_types.specs.declared.number.Scalar.TheVariants.{Int, Ptr}
use Rattle.hip_tree.specs.declared.instr.Arg.{Arg}
use Rattle.hip_tree.specs.declared.instr.Instr.TheVariants.{Store, Call}
use Rattle.hip_tree.specs.declared.instr.Operand.{Operand}
use Rattle.hip_tree.specs.declared.program.Program.{Program}
use Rattle.hip_sound.specs.Given.{CallsFunction, CallsExtern}
use Rattle.hip_sound.specs.Sound.{IsSound}
use Rattle.hip_runs.specs.declared.input.Input.{Input}
use Rattle.hip_runs.specs.Found.Marks.{pointer_arg, pointer_operands}
use Rattle.hip_runs.specs.Operands.{value_of, values_of}
use Rattle.hip_runs.specs.State.{Registers}
use Rattle.hip_code.specs.declared.code.Code.{Code}
use Rattle.hip_code.specs.declared.op.Op.{Op}
use Rattle.hip_code.specs.Named.{is_memory, passes_or_effects, stores_at}
use Rattle.hip_core.specs.declared.core_parts.Core.{Core}
use Rattle.hip_core.specs.Acts.{numbers_of}
use Rattle.hip_core.specs.PointerOperands.{TellsPointer, calls_with, pointer_passed, pointers_among}
use Rattle.hip_core.proofs.NamedPointers.{called_with}
use Rattle.hip_sound.specs.Laws.CalleeLaws.{not_numbered}

-- ---- the pointers among the values that are passed

none_passed : (t : Scalar) → pointer_passed t None ≡ []
none_passed Ptr = refl
none_passed (Int w) = refl

no_values : (args : List Arg) → pointers_among args [] ≡ []
no_values [] = refl
no_values (a ∷ args) = refl

none_left : (args : List Arg) (i : ℕ) → pointers_among args (drop i []) ≡ []
none_left args zero = no_values args
none_left args (suc i) = no_values args

nothing_more : (args more : List Arg) (t : Scalar) (i j : ℕ) → pointers_among args (drop i []) ≡ pointer_passed t None ++ pointers_among more (drop j [])
nothing_more args more t i j =
    none_left args i ∙ sym (ap (λ xs. xs ++ pointers_among more (drop j [])) (none_passed t) ∙ none_left more j)

-- The argument at a place, and those after it.
among_rest : (args : List Arg) (vs : List ℕ) (i : ℕ) (a : Arg) → i < length args → a ≡ get_or args i a
    → pointers_among (drop i args) (drop i vs) ≡ pointer_passed a.ty (slice_get vs i) ++ pointers_among (drop (suc i) args) (drop (suc i) vs)
among_rest [] vs i a below is = absurd (omega (arith, below))
among_rest (x ∷ args) [] i a below is = nothing_more (drop i (x ∷ args)) (drop (suc i) (x ∷ args)) a.ty i (suc i)
among_rest (x ∷ args) (v ∷ vs) zero a below is = ap (λ (y : Arg). pointer_passed y.ty (Some v) ++ pointers_among args vs) (sym is)
among_rest (x ∷ args) (v ∷ vs) (suc i) a below is = among_rest args vs i a (omega (arith, below)) is

pub one_passed : (args : List Arg) (vs old new all : List ℕ) (i : ℕ) (a : Arg) → i < length args → a ≡ get_or args i a
    → old ++ pointers_among (drop i args) (drop i vs) ≡ all → new ≡ old ++ pointer_passed a.ty (slice_get vs i)
    → new ++ pointers_among (drop (i + 1) args) (drop (i + 1) vs) ≡ all
one_passed args vs old new all i a below is so_far added =
    ap (λ xs. xs ++ pointers_among (drop (i + 1) args) (drop (i + 1) vs)) added
    ∙ append_assoc old (pointer_passed a.ty (slice_get vs i)) (pointers_among (drop (i + 1) args) (drop (i + 1) vs))
    ∙ ap (λ n. old ++ (pointer_passed a.ty (slice_get vs i) ++ pointers_among (drop n args) (drop n vs))) (add-one i)
    ∙ ap (λ xs. old ++ xs) (sym (among_rest args vs i a below is)) ∙ so_far

-- The values of the pointers among the arguments, where the values are those of the arguments.
among_are : (args : List Arg) (f : Operand → ℕ) → pointers_among args (map (λ (a : Arg). f a.value) args) ≡ map f (flat_map pointer_arg args)
among_are [] f = refl
among_are (a ∷ args) f = go a.ty a.value _ _ (among_are args f)
  where
    go : (t : Scalar) (v : Operand) (xs : List ℕ) (os : List Operand) → xs ≡ map f os → pointer_passed t (Some (f v)) ++ xs ≡ map f (pointer_arg (record { ty = t; value = v }) ++ os)
    go Ptr v xs os e = ap (λ ys. f v ∷ ys) e
    go (Int w) v xs os e = e

-- ---- the operands of an instruction

module _ {code : Code} {c : Core} {values : List ℕ} where
  pub tells_stored : {ty : Scalar} {value addr : Operand} {align : Option ℕ} (op : Op) → slice_get code.ops.items c.top.place ≡ Some op → ((a : ℕ) → stores_at (numbers_of code c) a op → values ≡ a ∷ [])
      → (k : ℕ) → TellsPointer code c (Store ty value addr align) k (slice_get values k)
  tells_stored {ty} {value} {addr} {align} op at stated k = record {
    tells = λ P I rs op' sound here names agrees.
        let same : op' ≡ op = same_Some _ _ (sym here ∙ at) in
        let v = value_of P.globals I.base rs addr in
        ap (λ xs. slice_get xs k) (stated v (subst (stores_at (numbers_of code c) v) same names.is)) ∙ slice_get-map (value_of P.globals I.base rs) (addr ∷ []) k;
  }

  pub tells_passed : {dest : Option (List ℕ)} {ret : Option Scalar} {callee : List ℕ} {args : List Arg} (op : Op) → slice_get code.ops.items c.top.place ≡ Some op
      → ((vs : List ℕ) → calls_with (numbers_of code c) vs op → values ≡ pointers_among args vs) → (is_memory op → values ≡ [])
      → (k : ℕ) → TellsPointer code c (Call dest ret callee args) k (slice_get values k)
  tells_passed {dest} {ret} {callee} {args} op at calls other k = record {
    tells = λ P I rs op' sound here names agrees.
        let same : op' ≡ op = same_Some _ _ (sym here ∙ at) in
        let all = go P I rs sound agrees (call_of callee) refl (subst (λ (x : Op). passes_or_effects P (numbers_of code c) (call_of callee) callee (values_of P.globals I.base rs args) x) same names.is) in
        ap (λ xs. slice_get xs k) all ∙ slice_get-map (value_of P.globals I.base rs) (pointer_operands P (Call dest ret callee args)) k;
  }
    where
      go : (P : Program) (I : Input) (rs : Registers) → IsSound P → CallsFunction P callee ret args ⊎ CallsExtern callee ret args → (x : Option ExternCall) → call_of callee ≡ x →
          passes_or_effects P (numbers_of code c) x callee (values_of P.globals I.base rs args) op → values ≡ map (value_of P.globals I.base rs) (pointer_operands P (Call dest ret callee args))
      go P I rs sound agrees None defined w =
          let vs = values_of P.globals I.base rs args in
          let r = called_with P (numbers_of code c) callee ret args vs op sound defined (length-map args (λ (a : Arg). value_of P.globals I.base rs a.value)) agrees w in
          calls vs r.0 ∙ among_are args (value_of P.globals I.base rs) ∙ ap (λ b. map (value_of P.globals I.base rs) (cond b (flat_map pointer_arg args) [])) (sym r.1)
      go P I rs sound agrees (Some x) known w =
          other w ∙ ap (λ b. map (value_of P.globals I.base rs) (cond b (flat_map pointer_arg args) [])) (sym (not_numbered P sound callee x known))

-- ---- what a call gives

pub if_ok : {T E : Type 0} (A B : T → Type 0) → ((x : T) → A x → B x) → (r : Result T E) → IfOk r A → IfOk r B
if_ok A B f (Ok x) a = f x a
if_ok A B f (Err e) a = a

pub if_both_ok : {T E : Type 0} (A B C : T → Type 0) → ((x : T) → A x → B x → C x) → (r : Result T E) → IfOk r A → IfOk r B → IfOk r C
if_both_ok A B C f (Ok x) a b = f x a b
if_both_ok A B C f (Err e) a b = a
