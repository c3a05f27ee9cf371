-- In a sound program a call is of a defined function exactly if it is not of an external one.
use Rattle.std.proofs.Common.{◌≡◌, ◌⊎◌, ℕ, suc, Bool, true, false, cond, List, [], ◌∷◌, length, count_by, Option, Some, None, is_some, is_none, option_map, refl, sym, ap, ◌∙◌, subst, inl, inr}
use Rattle.std.specs.Prelude.{option_and_then, slice_get}
use Rattle.std.specs.List.{flat_map, filter}
use Rattle.std.proofs.lemmas.List.Sums.{length-filter}
use Rattle.hip_types.specs.declared.number.Scalar.{Scalar}
use Rattle.hip_types.specs.declared.number.Scalar.TheVariants.{Int, Ptr}
use Rattle.hip_externs.specs.Externs.{Signature, call_of, signature}
use Rattle.hip_externs.specs.declared.call.ExternCall.{ExternCall}
use Rattle.hip_tree.specs.Sites.{instr_of}
use Rattle.hip_tree.specs.declared.block.Block.{Block}
use Rattle.hip_tree.specs.declared.instr.Arg.{Arg}
use Rattle.hip_tree.specs.declared.instr.Instr.{Instr}
use Rattle.hip_tree.specs.declared.instr.Instr.TheVariants.{Call}
use Rattle.hip_tree.specs.declared.instr.Operand.{Operand}
use Rattle.hip_tree.specs.declared.program.Function.{Function}
use Rattle.hip_tree.specs.declared.program.Program.{Program}
use Rattle.hip_tree.specs.declared.site.Site.{Site}
use Rattle.hip_sound.specs.Given.{CallsAgree, CallsExtern, CallsFunction}
use Rattle.hip_sound.specs.Laws.Decided.{all-at}
use Rattle.hip_sound.specs.Laws.NumberingLaws.{function_number-there}
use Rattle.hip_sound.specs.NumberedNames.{function_number}
use Rattle.hip_sound.specs.Sound.{IsBlockAt, IsFree, IsSound}
use Rattle.hip_runs.specs.Found.Marks.{pointer_arg}
use Rattle.hip_runs.specs.Found.Scores.{operands_at}
use Rattle.hip_plan.specs.Worths.{is_pointer}

-- The function and the block that have an instruction at a site.
pub record Stands (P : Program) (s : Site) (i : Instr) : Type 0 where
  pub function : Function
  pub block : Block
  pub at : IsBlockAt P s.function s.block function block
  pub here : slice_get block.body s.index ≡ Some i

stands : (P : Program) (s : Site) (i : Instr) → instr_of P s ≡ Some i → Stands P s i
stands P s i e = in_program (slice_get P.functions s.function) refl e
  where
    in_function : (fn : Function) → slice_get P.functions s.function ≡ Some fn → (o : Option Block) → slice_get fn.blocks s.block ≡ o →
        option_and_then (λ (b : Block). slice_get b.body s.index) o ≡ Some i → Stands P s i
    in_function fn f None b g = absurd (let z : ⊥ = cc in z)
    in_function fn f (Some block) b g = record { function = fn; block = block; at = record { function = f; block_is = b }; here = g }

    in_program : (o : Option Function) → slice_get P.functions s.function ≡ o →
        option_and_then (λ (b : Block). slice_get b.body s.index) (option_and_then (λ (f : Function). slice_get f.blocks s.block) o) ≡ Some i → Stands P s i
    in_program None f g = absurd (let z : ⊥ = cc in z)
    in_program (Some fn) f g = in_function fn f (slice_get fn.blocks s.block) refl g

-- No function of a sound program has the name of an external function.
free : (P : Program) → IsSound P → (name : List ℕ) (n : ℕ) → function_number P name ≡ Some n → call_of name ≡ None
free P sound name n e =
    let there = function_number-there P name n e in
    subst (λ (m : List ℕ). call_of m ≡ None) there.2 (all-at (λ (f : Function). IsFree f.name) P.functions n there.0 sound.externs.functions there.1)

known : (o : Option ExternCall) (s : Signature) → option_map signature o ≡ Some s → is_none o ≡ false
known None s e = absurd (let z : ⊥ = cc in z)
known (Some c) s e = refl

pub defined_call : (P : Program) → IsSound P → CallsAgree P → (s : Site) (dest : Option (List ℕ)) (ret : Option Scalar) (callee : List ℕ) (args : List Arg) →
    instr_of P s ≡ Some (Call dest ret callee args) → is_some (function_number P callee) ≡ is_none (call_of callee)
defined_call P sound agree s dest ret callee args e =
    let place = stands P s (Call dest ret callee args) e in
    by_callee (agree s.function s.block s.index place.function place.block dest ret callee args place.at place.here)
  where
    by_number : (o : Option ℕ) → function_number P callee ≡ o → is_none (call_of callee) ≡ false → is_some o ≡ is_none (call_of callee)
    by_number None f extern = sym extern
    by_number (Some n) f extern = absurd (let of_none = ap is_none (free P sound callee n f) in let z : ⊥ = cc in z)

    by_callee : CallsFunction P callee ret args ⊎ CallsExtern callee ret args → is_some (function_number P callee) ≡ is_none (call_of callee)
    by_callee (inl f) = ap is_some f.named ∙ sym (ap is_none (free P sound callee f.number f.named))
    by_callee (inr x) = by_number (function_number P callee) refl (known (call_of callee) x.signature x.known)

filtered : (args : List Arg) → length (flat_map pointer_arg args) ≡ length (filter is_pointer args)
filtered [] = refl
filtered (a ∷ rest) = one a.ty a.value (filtered rest)
  where
    one : (ty : Scalar) (value : Operand) → length (flat_map pointer_arg rest) ≡ length (filter is_pointer rest) →
        length (flat_map pointer_arg (record { ty = ty; value = value } ∷ rest)) ≡ length (filter is_pointer (record { ty = ty; value = value } ∷ rest))
    one Ptr value e = ap suc e
    one (Int w) value e = e

pointer_count : (args : List Arg) → length (flat_map pointer_arg args) ≡ count_by is_pointer args
pointer_count args = filtered args ∙ length-filter is_pointer args

-- How many pointer operands a call has.
pub call_operands : (P : Program) → IsSound P → CallsAgree P → (s : Site) (dest : Option (List ℕ)) (ret : Option Scalar) (callee : List ℕ) (args : List Arg) →
    instr_of P s ≡ Some (Call dest ret callee args) → length (operands_at P (instr_of P s)) ≡ cond (is_none (call_of callee)) (count_by is_pointer args) 0
call_operands P sound agree s dest ret callee args here =
    ap (λ o. length (operands_at P o)) here
    ∙ ap (λ t. length (cond t (flat_map pointer_arg args) [])) (defined_call P sound agree s dest ret callee args here)
    ∙ by_test (is_none (call_of callee))
  where
    by_test : (b : Bool) → length (cond b (flat_map pointer_arg args) []) ≡ cond b (count_by is_pointer args) 0
    by_test true = pointer_count args
    by_test false = refl
