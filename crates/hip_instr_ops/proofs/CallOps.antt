-- What the ops of calls do.
use Rattle.std.proofs.Math.Seq.{drop-append_seam}
use Rattle.std.proofs.Common.{◌⊎◌, inl, inr, option_map, drop, ap₂, ◌≡◌, ℕ, zero, suc, ◌+◌, ◌<◌, ◌≤◌, List, [], ◌∷◌, ◌++◌, length, take, get_or, Option, Some, None, slice_get, refl, sym, ap, ◌∙◌, subst, arith, append_assoc, add-one}
use Rattle.std.proofs.lemmas.List.{append-nil, length-append, length-map}
use Rattle.std.proofs.lemmas.Option.{same_Some, slice_get-map}
use Rattle.hip_types.specs.declared.number.Scalar.{Scalar}
use Rattle.hip_tree.specs.declared.instr.Arg.{Arg}
use Rattle.hip_tree.specs.declared.program.Param.{Param}
use Rattle.hip_tree.specs.declared.program.Program.{Program}
use Rattle.hip_tree.specs.declared.instr.Instr.TheVariants as instrs
use Rattle.hip_names.specs.Names.{number_of}
use Rattle.hip_names.specs.Laws.NumberLaws.{number_of-there}
use Rattle.hip_tree.specs.declared.program.Function.{Function}
use Rattle.hip_externs.specs.Externs.{Signature, call_of, row_of, signature}
use Rattle.hip_externs.specs.declared.call.ExternCall.{ExternCall}
use Rattle.hip_sound.specs.Given.{CallsExtern, CallsFunction}
use Rattle.hip_sound.specs.Laws.Decided.{all-at}
use Rattle.hip_sound.specs.NumberedNames.{function_names}
use Rattle.hip_sound.specs.Sound.{IsFree, IsSound, register_names}
use Rattle.hip_runs.specs.declared.input.Input.{Input}
use Rattle.hip_runs.specs.Places.{block_at, blocks_in}
use Rattle.hip_code.specs.Edges.{IsOpCall, are_arguments}
use Rattle.hip_code.specs.Entries.{PlaceStandsAt, entry}
use Rattle.hip_code.specs.Frames.{names_at, names_in}
use Rattle.hip_code.specs.Laws.CallLaws.{resolves_call}
use Rattle.hip_code.specs.Named.{has_pointer}
use Rattle.hip_code.specs.Numbers.{Tables, entries_of}
use Rattle.hip_code.specs.Resolved.{is_result}
use Rattle.hip_code.specs.declared.op.Call.{Call}
use Rattle.hip_code.specs.declared.op.Control.TheVariants as controls
use Rattle.hip_code.specs.declared.op.Op.TheVariants as ops
use Rattle.hip_code.specs.declared.op.Move.{Move}
use Rattle.hip_code.specs.declared.op.OpOperand.{OpOperand}
use Rattle.hip_scope.specs.Growth.{TablesGrow, Makes, OnlyConstants}
use Rattle.hip_instr_ops.specs.Passed.{are_passed, Calls, PassesArguments}
use Rattle.hip_scope.specs.Scopes.{DescribesScope, DoesHere, OfFunctions, OperandStandsFor, names_of}
use Rattle.hip_scope.specs.declared.scope.Scope.{Scope}
use Rattle.hip_scope.proofs.Sound.{entry_block, param_number}
use Rattle.hip_scope.proofs.Growth.{span_is, span_within, grows_on, makes_same, grows_moves}

pub passes_none : (s : Scope) (t : Tables) → PassesArguments s t t []
passes_none s t = record { moves = []; are = sym (append-nil t.moves); makes = makes_same t (λ v. Unit {0}) (λ v. tt) }

passed_more : (s : Scope) (t : Tables) (slot : ℕ) (ms : List Move) (xs : List Arg) (m : Move) (x : Arg) → are_passed s t slot ms xs → m.dest ≡ slot + length xs → OperandStandsFor s t m.value x.value →
    are_passed s t slot (ms ++ m ∷ []) (xs ++ x ∷ [])
passed_more s t slot [] [] m x a d h = (let l = d in omega (arith, l), h, tt)
passed_more s t slot [] (y ∷ xs) m x a d h = absurd a
passed_more s t slot (n ∷ ms) [] m x a d h = absurd a
passed_more s t slot (n ∷ ms) (y ∷ xs) m x a d h = (a.0, a.1, passed_more s t (suc slot) ms xs m x a.2 (let l = d in omega (arith, l)) h)

pub passes_on : (s : Scope) (t u v : Tables) (moves : List Move) (args : List Arg) (k : ℕ) (o : OpOperand) (dest : ℕ) (x : Arg) → PassesArguments s t u (take k args) → Makes u v (λ w. OperandStandsFor s w o x.value) → OnlyConstants u v →
    dest ≡ k → moves ≡ v.moves ++ record { dest = dest; value = o } ∷ [] → k < length args → x ≡ get_or args k x → PassesArguments s t (record v { moves = moves }) (take (k + 1) args)
passes_on s t u v moves args k o dest x p m only d e lt is = record {
  moves = p.moves ++ record { dest = dest; value = o } ∷ [];
  are = e ∙ ap (λ l. l ++ record { dest = dest; value = o } ∷ []) (only.moves ∙ p.are) ∙ append_assoc t.moves p.moves _;
  makes = record {
    grows = grows_on p.makes.grows (grows_on m.grows (grows_moves v (record { dest = dest; value = o } ∷ []) moves e));
    lasts = λ w g.
        let far = grows_on (grows_moves v (record { dest = dest; value = o } ∷ []) moves e) g in
        subst (λ xs. are_passed s w 0 (p.moves ++ record { dest = dest; value = o } ∷ []) xs) (sym (taken args k x lt is))
        (passed_more s w 0 p.moves (take k args) (record { dest = dest; value = o }) x (p.makes.lasts w (grows_on m.grows far)) (let l = long args k (omega (arith, lt)) in omega (arith, d, l)) (m.lasts w far));
  };
}
  where
    taken : (xs : List Arg) (k : ℕ) (x : Arg) → k < length xs → x ≡ get_or xs k x → take (k + 1) xs ≡ take k xs ++ x ∷ []
    taken xs k x lt is = rw add-one (go xs k x lt is)
      where
        go : (xs : List Arg) (k : ℕ) (x : Arg) → k < length xs → x ≡ get_or xs k x → take (suc k) xs ≡ take k xs ++ x ∷ []
        go [] k x lt is = absurd (let q : ⊥ = omega (arith, lt) in q)
        go (y ∷ xs) zero x lt is = ap (λ z. z ∷ []) (sym is)
        go (y ∷ xs) (suc k) x lt is = ap (λ l. y ∷ l) (go xs k x (omega (arith, lt)) is)

    long : (xs : List Arg) (k : ℕ) → k ≤ length xs → length (take k xs) ≡ k
    long xs zero le = refl
    long [] (suc k) le = absurd (let q : ⊥ = omega (arith, le) in q)
    long (y ∷ xs) (suc k) le = ap suc (long xs k (omega (arith, le)))

pub passes_all : (s : Scope) (t u : Tables) (args : List Arg) (k : ℕ) → length args ≤ k → PassesArguments s t u (take k args) → PassesArguments s t u args
passes_all s t u args k le p = subst (PassesArguments s t u) (all args k le) p
  where
    all : (xs : List Arg) (k : ℕ) → length xs ≤ k → take k xs ≡ xs
    all [] zero le = refl
    all [] (suc k) le = refl
    all (x ∷ xs) zero le = absurd (let q : ⊥ = omega (arith, le) in q)
    all (x ∷ xs) (suc k) le = ap (λ l. x ∷ l) (all xs k (omega (arith, le)))

-- ---- calls

arguments_passed : (s : Scope) (t : Tables) (called : List (List ℕ)) (k : ℕ) (ms : List Move) (ps : List Param) (xs : List Arg) → ((j : ℕ) (p : Param) → slice_get ps j ≡ Some p → number_of called p.name ≡ Some (k + j)) →
    length ps ≡ length xs → are_passed s t k ms xs → are_arguments s.program.now.globals s.base (names_of s) called t.constants ms ps xs
arguments_passed s t called k [] [] xs f l a = tt
arguments_passed s t called k [] (p ∷ ps) [] f l a = tt
arguments_passed s t called k [] (p ∷ ps) (x ∷ xs) f l a = absurd a
arguments_passed s t called k (m ∷ ms) ps [] f l a = absurd a
arguments_passed s t called k (m ∷ ms) [] (x ∷ xs) f l a = absurd (let q : ⊥ = omega (arith, l) in q)
arguments_passed s t called k (m ∷ ms) (p ∷ ps) (x ∷ xs) f l a = (
  f 0 p refl ∙ ap Some (let d = a.0 in omega (arith, d)),
  a.1,
  arguments_passed s t called (suc k) ms ps xs (λ j q e. f (suc j) q e ∙ ap Some (omega arith)) (let n = l in omega (arith, n)) a.2,
)

passed_long : (s : Scope) (t : Tables) (k : ℕ) (ms : List Move) (xs : List Arg) → are_passed s t k ms xs → length ms ≡ length xs
passed_long s t k [] [] a = refl
passed_long s t k [] (x ∷ xs) a = absurd a
passed_long s t k (m ∷ ms) [] a = absurd a
passed_long s t k (m ∷ ms) (x ∷ xs) a = ap suc (passed_long s t (suc k) ms xs a.2)

module _ (s : Scope) (t u v : Tables) (dest : Option (List ℕ)) (ret : Option Scalar) (callee : List ℕ) (args : List Arg) (call : Call) (d : DescribesScope s) (c : Calls s.program.now callee args)
    (number : call.function ≡ c.number) (p : PassesArguments s t u args) (g : TablesGrow u v) where
  called_is : names_at s.program.now c.number ≡ register_names c.function
  called_is = ap names_in c.here

  placed : call.target ≡ entry s.program.now c.number 0 → PlaceStandsAt s.program.now call.target call.function 0 0
  placed target =
      let first = entry_block s.program.now d.sound c.number c.function c.here in
      let there : block_at s.program.now c.number 0 ≡ Some first.0 = ap (λ o. slice_get (blocks_in o) 0) c.here ∙ first.1 in
      let nothing : entry s.program.now c.number 0 ≡ entry s.program.now c.number 0 + 0 = omega arith in
      subst (λ n. PlaceStandsAt s.program.now call.target n 0 0) (sym number) (record { block = first.0; here = there; within = omega arith; is = target ∙ nothing })

  moved : call.arguments.from ≡ length t.moves → call.arguments.count ≡ length args → entries_of call.arguments v.moves ≡ p.moves
  moved f n =
      let l = ap length p.are in let m = length-append t.moves p.moves in let k = passed_long s v 0 p.moves args (p.makes.lasts v g) in
      span_is call.arguments.from call.arguments.count g.moves (omega (arith, l, m, k, f, n)) ∙ ap₂ (λ i (ms : List Move). drop i ms) f p.are ∙ drop-append_seam t.moves p.moves

  pub does_call : call.target ≡ entry s.program.now c.number 0 → call.size ≡ length (names_at s.program.now c.number) → call.frame ≡ length (names_of s) → is_result (names_of s) call.dest dest →
      call.arguments.from ≡ length t.moves → call.arguments.count ≡ length args → call.pointed ≡ has_pointer args → DoesHere s v (ops.Control (controls.Call call)) (instrs.Call dest ret callee args)
  does_call target size frame result f n pointed = record { on = λ I e. resolves_call s.program.now I s.number v dest ret callee args call c.free (is_call I e) }
    where
      is_call : (I : Input) → I.base ≡ s.base → IsOpCall s.program.now I s.number v call callee args dest
      is_call I e = record {
        function = c.function;
        numbered = c.named ∙ ap Some (sym number);
        here = subst (λ n. slice_get s.program.now.functions n ≡ Some c.function) (sym number) c.here;
        begins = placed target;
        frame = frame;
        size = subst (λ n. call.size ≡ length (names_at s.program.now n)) (sym number) size;
        span =
            (let l = ap length p.are in let m = length-append t.moves p.moves in let k = passed_long s v 0 p.moves args (p.makes.lasts v g) in
            span_within call.arguments.from call.arguments.count g.moves (omega (arith, l, m, k, f, n)));
        arguments =
            subst (λ ms. are_arguments s.program.now.globals I.base (names_of s) (names_at s.program.now call.function) v.constants ms c.function.params args) (sym (moved f n))
            (subst (λ r. are_arguments s.program.now.globals r (names_of s) (names_at s.program.now call.function) v.constants p.moves c.function.params args) (sym e)
            (subst (λ called. are_arguments s.program.now.globals s.base (names_of s) called v.constants p.moves c.function.params args) (sym (ap (names_at s.program.now) number ∙ called_is))
            (arguments_passed s v (register_names c.function) 0 p.moves c.function.params args (λ j q h. param_number s.program.now d.sound c.number c.function c.here j q h ∙ ap Some (omega arith)) c.as_long (p.makes.lasts v g))));
        result = result;
        pointed = pointed;
      }

-- The number of the callee's name is the number of the function that is called.
pub number_is : (s : Scope) (callee : List ℕ) (args : List Arg) (number : ℕ) → DescribesScope s → (c : Calls s.program.now callee args) → number_of s.functions.now callee ≡ Some number → number ≡ c.number
number_is s callee args number d c e = same_Some number c.number (sym e ∙ ap (λ ns. number_of ns callee) d.functions ∙ c.named)

-- The number at a place in a table of functions is that of the function.
pub number_given : (P : Program) (numbers : List ℕ) (f : ℕ → ℕ) (k number found : ℕ) → k ≡ number → OfFunctions P numbers f → number < length P.functions → slice_get numbers k ≡ Some found → found ≡ f number
number_given P numbers f k number found e o lt h = same_Some found (f number) (sym h ∙ ap (slice_get numbers) e ∙ o.at number lt)

-- ---- what a call names

-- No function has the name of an external function.
function_free : (P : Program) → IsSound P → (callee : List ℕ) (ret : Option Scalar) (args : List Arg) → CallsFunction P callee ret args → call_of callee ≡ None
function_free P s callee ret args c =
    let free : call_of c.function.name ≡ None = all-at (λ f. IsFree f.name) P.functions c.number c.function s.externs.functions c.here in
    let there : slice_get (function_names P.functions) c.number ≡ Some callee = number_of-there (function_names P.functions) callee c.number c.named in
    let same : Some c.function.name ≡ Some callee = sym (slice_get-map (λ (f : Function). f.name) P.functions c.number ∙ ap (option_map (λ (f : Function). f.name)) c.here) ∙ there in
    subst (λ n. call_of n ≡ None) (same_Some c.function.name callee same) free

pub calls_extern : (P : Program) → IsSound P → (callee : List ℕ) (ret : Option Scalar) (args : List Arg) (call : ExternCall) → CallsFunction P callee ret args ⊎ CallsExtern callee ret args → call_of callee ≡ Some call →
    length args ≡ length (row_of call).params
calls_extern P s callee ret args call (inl c) e = absurd (let none = function_free P s callee ret args c in let q : ⊥ = cc (none, e) in q)
calls_extern P s callee ret args call (inr c) e =
    let same : signature call ≡ c.signature = same_Some (signature call) c.signature (sym (ap (option_map signature) e) ∙ c.known) in
    sym (length-map args (λ (a : Arg). a.ty)) ∙ ap length (sym c.params) ∙ ap (λ (x : Signature). length x.params) (sym same)

pub calls_function : (P : Program) → IsSound P → (callee : List ℕ) (ret : Option Scalar) (args : List Arg) → CallsFunction P callee ret args ⊎ CallsExtern callee ret args → call_of callee ≡ None → Calls P callee args
calls_function P s callee ret args (inl c) e = record {
  number = c.number;
  function = c.function;
  named = c.named;
  here = c.here;
  as_long = sym (length-map c.function.params (λ (p : Param). p.ty)) ∙ ap length c.params ∙ length-map args (λ (a : Arg). a.ty);
  free = e;
}
calls_function P s callee ret args (inr c) e = absurd (let none = ap (option_map signature) e in let known = c.known in let q : ⊥ = cc (none, known) in q)
