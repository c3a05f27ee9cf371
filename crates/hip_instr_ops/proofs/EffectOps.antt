-- What the ops of external functions do.
use Rattle.std.proofs.Common.{◌≡◌, ℕ, ◌<◌, ◌≤◌, List, [], ◌∷◌, length, Option, Some, slice_get, refl, sym, ◌∙◌, subst, arith}
use Rattle.std.proofs.lemmas.Option.{slice_get-get_or, slice_get_within, get_or_from_slice_get}
use Rattle.std.specs.Prelude.{get_or}
use Rattle.hip_types.specs.declared.number.Scalar.{Scalar}
use Rattle.hip_tree.specs.declared.instr.Arg.{Arg}
use Rattle.hip_tree.specs.declared.instr.Instr.TheVariants as instrs
use Rattle.hip_tree.specs.declared.program.GlobalVar.{GlobalVar}
use Rattle.hip_externs.specs.Externs.{call_of, row_of}
use Rattle.hip_externs.specs.declared.call.ExternCall.{ExternCall}
use Rattle.hip_sound.specs.Laws.Decided.{all-at}
use Rattle.hip_code.specs.Calls.{extern_op, are_passed, are_taken, is_first, are_both}
use Rattle.hip_code.specs.Numbers.{Tables}
use Rattle.hip_code.specs.Resolved.{is_result}
use Rattle.hip_code.specs.Laws.MemoryLaws.{resolves_extern}
use Rattle.hip_code.specs.declared.op.Memory.TheVariants as memories
use Rattle.hip_code.specs.declared.op.Op.TheVariants as ops
use Rattle.hip_code.specs.declared.op.OpOperand.{OpOperand}
use Rattle.hip_instr_ops.specs.Effects.{StandsForArg}
use Rattle.hip_scope.specs.Known.{ArgsKnown, OperandKnown}
use Rattle.hip_scope.specs.Scopes.{DoesInstr, names_of}
use Rattle.hip_scope.specs.declared.scope.Scope.{Scope}

-- The operand of each argument is known.
pub arg_known : (names : List (List ℕ)) (args : List Arg) (k : ℕ) (x : Arg) → ArgsKnown names args → k < length args → x ≡ get_or args k x → OperandKnown names x.value
arg_known names args k x h lt e =
    subst (λ (a : Arg). OperandKnown names a.value) (sym e) (all-at (λ a. OperandKnown names a.value) args k (get_or args k x) h (slice_get-get_or args k x lt))

pub none_there : (args : List Arg) (k : ℕ) (x : Arg) → length args ≤ k → ¬ (slice_get args k ≡ Some x)
none_there args k x le e = let lt = slice_get_within args k x e in let q : ⊥ = omega (arith, le, lt) in q

pub arg_same : (args : List Arg) (k : ℕ) (x y : Arg) → x ≡ get_or args k x → slice_get args k ≡ Some y → x ≡ y
arg_same args k x y e h = e ∙ get_or_from_slice_get args k y x h

first_taken : (s : Scope) (t : Tables) (args : List Arg) (a : OpOperand) → length args ≡ 1 → StandsForArg s t a args 0 → is_first s.program.now.globals s.base (names_of s) t.constants args a
first_taken s t [] a lt h = absurd (let q : ⊥ = omega (arith, lt) in q)
first_taken s t (x ∷ xs) a lt h = h x refl

both_taken : (s : Scope) (t : Tables) (args : List Arg) (a b : OpOperand) → 2 ≤ length args → StandsForArg s t a args 0 → StandsForArg s t b args 1 → are_both s.program.now.globals s.base (names_of s) t.constants args a b
both_taken s t [] a b le h k = absurd (let q : ⊥ = omega (arith, le) in q)
both_taken s t (x ∷ []) a b le h k = absurd (let q : ⊥ = omega (arith, le) in q)
both_taken s t (x ∷ y ∷ ys) a b le h k = (h x refl, k y refl)

-- The operands are those that a function with these parameters takes.
passed : (s : Scope) (t : Tables) (params : List Scalar) (args : List Arg) (a b : OpOperand) → length args ≡ length params → StandsForArg s t a args 0 → StandsForArg s t b args 1 →
    are_passed s.program.now.globals s.base (names_of s) t.constants params args a b
passed s t [] args a b l h k = tt
passed s t (p ∷ []) args a b l h k = first_taken s t args a l h
passed s t (p ∷ q ∷ more) args a b l h k = both_taken s t args a b (omega (arith, l)) h k

taken : (s : Scope) (t : Tables) (call : ExternCall) (args : List Arg) (a b : OpOperand) → length args ≡ length (row_of call).params → StandsForArg s t a args 0 → StandsForArg s t b args 1 →
    are_taken s.program.now.globals s.base (names_of s) t.constants call args a b
taken s t call args a b l h k = passed s t (row_of call).params args a b l h k

taken_on : (globals : List GlobalVar) (base other : ℕ) (names : List (List ℕ)) (constants : List ℕ) (call : ExternCall) (args : List Arg) (a b : OpOperand) → other ≡ base →
    are_taken globals base names constants call args a b → are_taken globals other names constants call args a b
taken_on globals base other names constants call args a b e h = subst (λ r. are_taken globals r names constants call args a b) (sym e) h

-- The op of a call does what the call does.
pub does_extern : (s : Scope) (t : Tables) (dest : Option (List ℕ)) (slot : Option ℕ) (ret : Option Scalar) (callee : List ℕ) (args : List Arg) (call : ExternCall) (a b : OpOperand) →
    call_of callee ≡ Some call → is_result (names_of s) slot dest → length args ≡ length (row_of call).params → StandsForArg s t a args 0 → StandsForArg s t b args 1 →
    DoesInstr s.program.now s.base s.number t (ops.Memory (memories.Effect (extern_op call slot a b))) (instrs.Call dest ret callee args)
does_extern s t dest slot ret callee args call a b named r long h k = record {
  on = λ I q. resolves_extern s.program.now I s.number t dest slot ret callee args call a b named r
      (taken_on s.program.now.globals s.base I.base (names_of s) t.constants call args a b q (taken s t call args a b long h k));
}
