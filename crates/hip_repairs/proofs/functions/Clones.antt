-- Where the repaired program has its clones, and which functions are cloned.
use Rattle.std.proofs.Common.{◌≡◌, ◌⊎◌, inl, inr, ⊎_elim, ℕ, zero, suc, ◌+◌, ◌<◌, ◌≤◌, Bool, true, false, cond, ◌||◌, nat_eq, nat_lt, ◌-◌, List, [], ◌∷◌, ◌++◌, map, length, Option, Some, None, slice_get, refl, sym, ap, ap₂, ◌∙◌, subst, arith, le-ltb}
use Rattle.std.specs.Prelude.{option_to_list}
use Rattle.std.specs.Cmp.{IsEquivalence, nat_eq_equiv}
use Rattle.std.specs.Cmp.Lexicographic.{nat_list_eq_equiv}
use Rattle.std.specs.List.{list_any, IsDistinct}
use Rattle.std.specs.Str.{bytes_eq}
use Rattle.std.proofs.lemmas.Bool.Decides.{Decides-eqb}
use Rattle.std.proofs.lemmas.List.{length-map, map-append}
use Rattle.std.proofs.lemmas.Map.Keys.{apart_from_distinct}
use Rattle.std.proofs.lemmas.Option.{slice_get_within, get_or_from_slice_get, same_Some}
use Rattle.std.proofs.lemmas.Slice.Eq.{bytes_eq-Decides}
use Rattle.std.proofs.lemmas.Bool.{and_parts}
use Rattle.hip_types.specs.Laws.DistinctLaws.{or_second, either, any_back, any_at, any_found}
use Rattle.hip_types.specs.declared.number.Scalar.{Scalar}
use Rattle.hip_tree.specs.Sites.{instr_of, same_site, has_site}
use Rattle.hip_tree.specs.declared.instr.Arg.{Arg}
use Rattle.hip_tree.specs.declared.instr.Instr.{Instr}
use Rattle.hip_tree.specs.declared.instr.Instr.TheVariants.{Store, Call}
use Rattle.hip_tree.specs.declared.instr.Operand.{Operand}
use Rattle.hip_tree.specs.declared.program.Function.{Function}
use Rattle.hip_tree.specs.declared.program.Program.{Program}
use Rattle.hip_tree.specs.declared.site.Site.{Site}
use Rattle.hip_externs.specs.Externs.{call_of}
use Rattle.hip_names.specs.Names.{number_of}
use Rattle.hip_sound.specs.NumberedNames.{function_names, function_number, name_in}
use Rattle.hip_names.specs.Laws.NumberLaws.{number_of-first, number_of-past, number_of-known, number_of-there}
use Rattle.hip_sound.specs.Laws.NumberingLaws.{function_number-there}
use Rattle.hip_sound.specs.Sound.{top_names}
use Rattle.hip_calls.specs.Fresh.{fresh_names, name_of}
use Rattle.hip_calls.specs.Laws.FreshLaws.{length-fresh_for, fresh_for-free, fresh_for-distinct, fresh_for-extern}
use Rattle.hip_calls.specs.Reach.{called_at, callees}
use Rattle.hip_calls.specs.Laws.ReachLaws.{Has, IsNamed, called-has, callees-first, callees-closed, callees-named}
use Rattle.hip_runs.specs.Operands.{scalar_size}
use Rattle.hip_runs.specs.Places.{blocks_in, body_at}
use Rattle.hip_externs.specs.declared.call.ExternCall.{ExternCall}
use Rattle.hip_externs.specs.declared.call.ExternCall.TheVariants as calls
use Rattle.hip_repairs.specs.declared.plan.Plan.{Plan}
use Rattle.hip_repairs.specs.Harmless.{marked_body}
use Rattle.hip_repairs.specs.Repaired.{Marked, clwb_name, sfence_name, pmem_flush_name, is_wide, line_flush, range_flush, flush_of, the_fence, renamed, inserted_after, repaired_body, instrs_of, Clone, Wanted, clone_name, clones_from, clones_of, clone_in, repaired_functions, clone_functions, cloned, repaired_blocks, repaired, repaired_function, wanted_by}
use Rattle.hip_repairs.proofs.functions.Blocks.{body_twin}
use Rattle.hip_repairs.specs.Laws.Callable.{instr_place, IsCallable}
use Rattle.hip_runs.specs.StoredParts.Parts.{In}
use Rattle.hip_repairs.proofs.functions.Functions.{length-repaired_functions, names-repaired_functions, get_back}
use Rattle.hip_repairs.proofs.functions.Twins.{Twin, CallsTwin}

-- ---- numbers in a list

pub has_in : (g : ℕ) (xs : List ℕ) → In g xs → Has xs g
has_in g [] h = absurd h
has_in g (x ∷ xs) (inl e) = ap (λ b. b || list_any (nat_eq g) xs) ((Decides-eqb g x).1 e)
has_in g (x ∷ xs) (inr h) = or_second (nat_eq g x) (list_any (nat_eq g) xs) (has_in g xs h)

pub in_has : (g : ℕ) (xs : List ℕ) → Has xs g → In g xs
in_has g [] h = cc
in_has g (x ∷ xs) h = ⊎_elim (λ e. inl ((Decides-eqb g x).0 e)) (λ r. inr (in_has g xs r)) (either (nat_eq g x) (list_any (nat_eq g) xs) h)

pub has_at : (g k : ℕ) (xs : List ℕ) → slice_get xs k ≡ Some g → Has xs g
has_at g k xs e = any_at (nat_eq g) xs k g e (nat_eq_equiv.refl g)

-- ---- which functions are cloned

same_sites : (s t : Site) → same_site s t ≡ true → s ≡ t
same_sites s t e =
    let first = and_parts _ _ e in
    let second = and_parts _ _ first.1 in
    let f : s.function ≡ t.function = (Decides-eqb s.function t.function).0 first.0 in
    let b : s.block ≡ t.block = (Decides-eqb s.block t.block).0 second.0 in
    let i : s.index ≡ t.index = (Decides-eqb s.index t.index).0 second.1 in
    λ x. record { function = f x; block = b x; index = i x }

pub called_there : (P : Program) (sites : List Site) (s : Site) (dest : Option (List ℕ)) (ret : Option Scalar) (callee : List ℕ) (args : List Arg) (g : ℕ) →
    has_site sites s ≡ true → instr_of P s ≡ Some (Call dest ret callee args) → function_number P callee ≡ Some g → In g (callees P sites)
called_there P sites s dest ret callee args g h i e =
    let at = any_found (same_site s) sites h in
    let one : Has (called_at P (instr_of P s)) g =
    subst (λ o. Has (called_at P o) g) (sym i) (subst (λ o. Has (option_to_list o) g) (sym e) (ap (λ b. b || false) (nat_eq_equiv.refl g))) in
    in_has g (callees P sites) (callees-first P sites at.0 s g (at.2 ∙ ap Some (sym (same_sites s at.1 at.3))) one)

pub closed_there : (P : Program) (sites : List Site) (f b k : ℕ) (dest : Option (List ℕ)) (ret : Option Scalar) (callee : List ℕ) (args : List Arg) (g : ℕ) →
    In f (callees P sites) → slice_get (body_at P f b) k ≡ Some (Call dest ret callee args) → function_number P callee ≡ Some g → In g (callees P sites)
closed_there P sites f b k dest ret callee args g i c e =
    let at = instr_place P f b k (Call dest ret callee args) c in
    in_has g (callees P sites) (callees-closed P sites f g (has_in f (callees P sites) i) (called-has P f b k at.0 at.1 dest ret callee args g at.2 at.3 at.4 e))

-- ---- the name that a call in a clone has

-- A name that no cloned function has, stays.
kept_name : (P : Program) (fs : List ℕ) (names : List (List ℕ)) (callee : List ℕ) → ((f : ℕ) → Has fs f → ¬ (name_of P f ≡ callee)) → clone_name (clones_from P fs names) callee ≡ callee
kept_name P [] names callee none = refl
kept_name P (f ∷ fs) [] callee none = refl
kept_name P (f ∷ fs) (name ∷ names) callee none = by_first (bytes_eq (name_of P f) callee) refl (kept_name P fs names callee (λ g h. none g (or_second (nat_eq g f) _ h)))
  where
    by_first : (b : Bool) → bytes_eq (name_of P f) callee ≡ b → clone_name (clones_from P fs names) callee ≡ callee → cond b name (clone_name (clones_from P fs names) callee) ≡ callee
    by_first true t rest = absurd (none f (ap (λ b. b || list_any (nat_eq f) fs) (nat_eq_equiv.refl f)) ((bytes_eq-Decides (name_of P f) callee).0 t))
    by_first false t rest = rest

pub extern_kept : (P : Program) (plan : Plan) → IsCallable P → (callee : List ℕ) → ¬ (call_of callee ≡ None) → clone_name (clones_of P plan) callee ≡ callee
extern_kept P plan good callee there =
    kept_name P (cloned P plan) (fresh_names P (cloned P plan)) callee
    (λ f h e. there (ap call_of (sym e) ∙ good.free (name_of P f) f (callees-named P plan.hoist f h)))

-- Where the clone of a function is, and its name.
pub find_clone : (P : Program) (callee : List ℕ) (g : ℕ) → function_number P callee ≡ Some g → name_of P g ≡ callee → (fs : List ℕ) (names : List (List ℕ)) → length names ≡ length fs → ((f : ℕ) → Has fs f → IsNamed P f) → Has fs g →
    (k : ℕ) × (slice_get fs k ≡ Some g) × (slice_get names k ≡ Some (clone_name (clones_from P fs names) callee))
find_clone P callee g e n [] names long all h = cc
find_clone P callee g e n (f ∷ fs) [] long all h = cc
find_clone P callee g e n (f ∷ fs) (name ∷ names) long all h =
    by_first (bytes_eq (name_of P f) callee) refl (λ r. find_clone P callee g e n fs names (omega (arith, long)) (λ q i. all q (or_second (nat_eq q f) _ i)) r)
  where
    by_first : (b : Bool) → bytes_eq (name_of P f) callee ≡ b → (Has fs g → (k : ℕ) × (slice_get fs k ≡ Some g) × (slice_get names k ≡ Some (clone_name (clones_from P fs names) callee))) →
        (k : ℕ) × (slice_get (f ∷ fs) k ≡ Some g) × (slice_get (name ∷ names) k ≡ Some (cond b name (clone_name (clones_from P fs names) callee)))
    by_first true t rest =
        let named : function_number P (name_of P f) ≡ Some f = all f (ap (λ b. b || list_any (nat_eq f) fs) (nat_eq_equiv.refl f)) in
        let same : Some f ≡ Some g = sym named ∙ ap (function_number P) ((bytes_eq-Decides (name_of P f) callee).0 t) ∙ e in
        (0, same, refl)
    by_first false t rest =
        ⊎_elim (λ s. let same : g ≡ f = (Decides-eqb g f).0 s in let on : bytes_eq (name_of P f) callee ≡ true = (bytes_eq-Decides (name_of P f) callee).1 (ap (name_of P) (sym same) ∙ n) in cc)
        (λ r. let later = rest r in (suc later.0, later.1, later.2)) (either (nat_eq g f) (list_any (nat_eq g) fs) h)

-- ---- the clones as functions

pub AreThere : Program → List ℕ → Type 0
AreThere P fs = (f : ℕ) → Has fs f → (fn : Function) × (slice_get P.functions f ≡ Some fn)

first_there : (P : Program) (f : ℕ) (fs : List ℕ) → AreThere P (f ∷ fs) → (fn : Function) × (slice_get P.functions f ≡ Some fn)
unfolding AreThere
first_there P f fs there = there f (ap (λ b. b || list_any (nat_eq f) fs) (nat_eq_equiv.refl f))

rest_there : (P : Program) (f : ℕ) (fs : List ℕ) → AreThere P (f ∷ fs) → AreThere P fs
unfolding AreThere
rest_there P f fs there = λ g h. there g (or_second (nat_eq g f) _ h)

-- One clone for each number, under its name.
names_of_clones : (P : Program) (clones : List Clone) (w : Wanted) (fs : List ℕ) (names : List (List ℕ)) → length names ≡ length fs → AreThere P fs → function_names (clone_functions P clones w fs names) ≡ names
names_of_clones P clones w [] [] long there = refl
names_of_clones P clones w [] (name ∷ names) long there = absurd (omega (arith, long))
names_of_clones P clones w (f ∷ fs) [] long there = absurd (omega (arith, long))
names_of_clones P clones w (f ∷ fs) (name ∷ names) long there =
    let at = first_there P f fs there in
    ap (λ o. function_names (clone_in clones w f name o ++ clone_functions P clones w fs names)) at.1
    ∙ ap (λ ns. name ∷ ns) (names_of_clones P clones w fs names (omega (arith, long)) (rest_there P f fs there))

get_clone : (P : Program) (clones : List Clone) (w : Wanted) (fs : List ℕ) (names : List (List ℕ)) (k g : ℕ) (name : List ℕ) (fn : Function) → AreThere P fs → slice_get fs k ≡ Some g → slice_get names k ≡ Some name → slice_get P.functions g ≡ Some fn →
    slice_get (clone_functions P clones w fs names) k ≡ Some (repaired_function clones w true g name fn)
get_clone P clones w [] names k g name fn there e n c = cc
get_clone P clones w (f ∷ fs) [] k g name fn there e n c = cc
get_clone P clones w (f ∷ fs) (m ∷ names) zero g name fn there e n c =
    let same : f ≡ g = same_Some f g e in
    let named : m ≡ name = same_Some m name n in
    subst (λ h. slice_get (clone_in clones w h m (slice_get P.functions h) ++ clone_functions P clones w fs names) zero ≡ Some (repaired_function clones w true g name fn)) (sym same)
    (ap (λ o. slice_get (clone_in clones w g m o ++ clone_functions P clones w fs names) zero) c ∙ ap (λ x. Some (repaired_function clones w true g x fn)) named)
get_clone P clones w (f ∷ fs) (m ∷ names) (suc k) g name fn there e n c =
    let at = first_there P f fs there in
    ap (λ o. slice_get (clone_in clones w f m o ++ clone_functions P clones w fs names) (suc k)) at.1 ∙ get_clone P clones w fs names k g name fn (rest_there P f fs there) e n c

-- Each item among the clones is the clone of a cloned function.
pub at_clone : (P : Program) (clones : List Clone) (w : Wanted) (fs : List ℕ) (names : List (List ℕ)) (k : ℕ) (x : Function) → AreThere P fs → slice_get (clone_functions P clones w fs names) k ≡ Some x →
    (g : ℕ) × (name : List ℕ) × (slice_get fs k ≡ Some g) × (slice_get names k ≡ Some name)
at_clone P clones w [] names k x there e = cc
at_clone P clones w (f ∷ fs) [] k x there e = cc
at_clone P clones w (f ∷ fs) (m ∷ names) zero x there e = (f, m, refl, refl)
at_clone P clones w (f ∷ fs) (m ∷ names) (suc k) x there e =
    let at = first_there P f fs there in
    at_clone P clones w fs names k x (rest_there P f fs there) (sym (ap (λ o. slice_get (clone_in clones w f m o ++ clone_functions P clones w fs names) (suc k)) at.1) ∙ e)

-- An item of a list without repeats is at one place only.
one_place : {A : Type 0} {same : A → A → Bool} → IsEquivalence same → (xs : List A) (i j : ℕ) (x : A) → IsDistinct same xs → slice_get xs i ≡ Some x → slice_get xs j ≡ Some x → ¬ (i < j)
one_place {same = same} laws xs i j x d e f below =
    let apart = apart_from_distinct same xs i j x d below (slice_get_within xs j x f) in
    let alike : same x x ≡ false = ap₂ same (sym (get_or_from_slice_get xs i x x e)) (sym (get_or_from_slice_get xs j x x f)) ∙ apart in
    let one = laws.refl x in
    cc

cond_false : {A : Type 0} (t : Bool) (x y : A) → t ≡ false → cond t x y ≡ y
cond_false t x y e = ap (λ b. cond b x y) e

at_place : {A : Type 0} (xs : List A) (k : ℕ) → k < length xs → (x : A) × (slice_get xs k ≡ Some x)
at_place [] k h = absurd (omega arith)
at_place (x ∷ xs) zero h = (x, refl)
at_place (x ∷ xs) (suc k) h = at_place xs k (omega arith)

module _ (P : Program) (plan : Plan) (skip : Site → Bool) where
  abbrev pub fresh : List (List ℕ)
  fresh = fresh_names P (cloned P plan)

  length-fresh : length fresh ≡ length (cloned P plan)
  length-fresh = length-fresh_for (top_names P) (map (name_of P) (cloned P plan)) ∙ length-map (cloned P plan) (name_of P)

  pub cloned_there : AreThere P (cloned P plan)
  unfolding AreThere
  cloned_there = λ f h. let there = function_number-there P (name_of P f) f (callees-named P plan.hoist f h) in (there.0, there.1)

  pub cloned_is_there : (f k : ℕ) → slice_get (cloned P plan) k ≡ Some f → (fn : Function) × (slice_get P.functions f ≡ Some fn)
  unfolding AreThere
  cloned_is_there f k e = cloned_there f (has_at f k (cloned P plan) e)

  -- The names of all functions of the repaired program.
  pub names_then : function_names (repaired P plan skip).functions ≡ function_names P.functions ++ fresh
  names_then =
      map-append (λ (f : Function). f.name) (repaired_functions (clones_of P plan) (wanted_by plan skip) 0 P.functions) (clone_functions P (clones_of P plan) (wanted_by plan skip) (cloned P plan) fresh)
      ∙ ap₂ (λ xs ys. xs ++ ys) (names-repaired_functions (clones_of P plan) (wanted_by plan skip) 0 P.functions) (names_of_clones P (clones_of P plan) (wanted_by plan skip) (cloned P plan) fresh length-fresh cloned_there)

  fresh_number : (k : ℕ) (name : List ℕ) → slice_get fresh k ≡ Some name → number_of fresh name ≡ Some k
  fresh_number k name e = number_of-first fresh name k e (λ j below f. absurd (one_place nat_list_eq_equiv fresh j k name (fresh_for-distinct (top_names P) (map (name_of P) (cloned P plan))) f e below))

  not_before : (k : ℕ) (name : List ℕ) → slice_get fresh k ≡ Some name → (j : ℕ) → ¬ (slice_get (function_names P.functions) j ≡ Some name)
  not_before k name e j f =
      let free = fresh_for-free (top_names P) (map (name_of P) (cloned P plan)) k name e in
      let here = any_at (bytes_eq name) (function_names P.functions) j name f (nat_list_eq_equiv.refl name) in
      let there = any_back (bytes_eq name) (map (λ g. g.name) P.globals) _ (any_back (bytes_eq name) (map (λ e. e.name) P.externs) _ here) in
      cc

  -- The clone of a function has the number of its place after all functions.
  pub clone_number : (k : ℕ) (name : List ℕ) → slice_get fresh k ≡ Some name → function_number (repaired P plan skip) name ≡ Some (length P.functions + k)
  clone_number k name e =
      ap (λ names. number_of names name) names_then
      ∙ number_of-past (function_names P.functions) fresh name k (fresh_number k name e) (not_before k name e)
      ∙ ap (λ n. Some (n + k)) (length-map P.functions (λ f. f.name))

  pub fresh_extern : (k : ℕ) (name : List ℕ) → slice_get fresh k ≡ Some name → call_of name ≡ None
  fresh_extern k name e = fresh_for-extern (top_names P) (map (name_of P) (cloned P plan)) k name e

  -- Each cloned function has a name for its clone.
  pub fresh_there : (k g : ℕ) → slice_get (cloned P plan) k ≡ Some g → (name : List ℕ) × (slice_get fresh k ≡ Some name)
  fresh_there k g e = let below = slice_get_within (cloned P plan) k g e in at_place fresh k (omega (arith, length-fresh))

  pub among_clones : (k : ℕ) → slice_get (repaired P plan skip).functions (length P.functions + k) ≡ slice_get (clone_functions P (clones_of P plan) (wanted_by plan skip) (cloned P plan) fresh) k
  among_clones k =
      ap (λ n. slice_get (repaired P plan skip).functions (n + k)) (sym (length-repaired_functions (clones_of P plan) (wanted_by plan skip) 0 P.functions))
      ∙ get_back (repaired_functions (clones_of P plan) (wanted_by plan skip) 0 P.functions) (clone_functions P (clones_of P plan) (wanted_by plan skip) (cloned P plan) fresh) k

  pub clone_code : (k g : ℕ) (name : List ℕ) (fn : Function) → slice_get (cloned P plan) k ≡ Some g → slice_get fresh k ≡ Some name → slice_get P.functions g ≡ Some fn →
      slice_get (repaired P plan skip).functions (length P.functions + k) ≡ Some (repaired_function (clones_of P plan) (wanted_by plan skip) true g name fn)
  clone_code k g name fn e n c = among_clones k ∙ get_clone P (clones_of P plan) (wanted_by plan skip) (cloned P plan) fresh k g name fn cloned_there e n c

  pub twin_of_clone : (k g : ℕ) → slice_get (cloned P plan) k ≡ Some g → Twin P plan skip true g (length P.functions + k)
  twin_of_clone k g e =
      let name = fresh_there k g e in
      let fn = function_number-there P (name_of P g) g (callees-named P plan.hoist g (has_at g k (cloned P plan) e)) in
      record {
        plain = λ q. cc;
        high = λ q. (k, refl, e);
        blocks = ap blocks_in (clone_code k g name.0 fn.0 e name.1 fn.1) ∙ ap (λ o. repaired_blocks (clones_of P plan) (wanted_by plan skip) true g 0 (blocks_in o)) (sym fn.1);
        marked = λ b.
            cond_false (nat_lt (length P.functions + k) (length P.functions)) _ _ (le-ltb (length P.functions + k) (length P.functions) (omega arith))
            ∙ ap (λ o. (elim o as (λ _. ℕ → List Marked) [ None ↦ λ _. [] | Some f ↦ λ b. marked_body P (clones_of P plan) (wanted_by plan skip) true f b ]) b)
            (ap (slice_get (cloned P plan)) (let n : length P.functions + k - length P.functions ≡ k = omega arith in n) ∙ e);
      }

  pub calls_of_clone : IsCallable P → (callee : List ℕ) (g : ℕ) (fn : Function) → function_number P callee ≡ Some g → slice_get P.functions g ≡ Some fn → In g (cloned P plan) → CallsTwin P plan skip true (clone_name (clones_of P plan) callee) g fn
  calls_of_clone good callee g fn e f i =
      let there = function_number-there P callee g e in
      let named : name_of P g ≡ callee = ap name_in there.1 ∙ there.2 in
      let found = find_clone P callee g e named (cloned P plan) fresh length-fresh (λ q h. callees-named P plan.hoist q h) (has_in g (cloned P plan) i) in
      record {
        number = length P.functions + found.0;
        found = clone_number found.0 (clone_name (clones_of P plan) callee) found.2;
        free = fresh_extern found.0 (clone_name (clones_of P plan) callee) found.2;
        name = clone_name (clones_of P plan) callee;
        code = clone_code found.0 g (clone_name (clones_of P plan) callee) fn found.1 found.2 f;
        twin = twin_of_clone found.0 g found.1;
      }

-- ---- calls in a clone

pub in_append : {A : Type 0} (xs ys : List A) (k : ℕ) (v : A) → slice_get (xs ++ ys) k ≡ Some v → (slice_get xs k ≡ Some v) ⊎ ((j : ℕ) × (slice_get ys j ≡ Some v))
in_append [] ys k v e = inr (k, e)
in_append (x ∷ xs) ys zero v e = inl e
in_append (x ∷ xs) ys (suc k) v e = in_append xs ys k v e

abbrev IsExtern : List ℕ → Type 0
IsExtern name = (c : ExternCall) × (call_of name ≡ Some c)

flush_calls : (ty : Scalar) (addr : Operand) (align : Option ℕ) (dest : Option (List ℕ)) (ret : Option Scalar) (callee : List ℕ) (args : List Arg) → flush_of ty addr align ≡ Call dest ret callee args → IsExtern callee
flush_calls ty addr align dest ret callee args e = by_width (is_wide ty align) e
  where
    by_width : (b : Bool) → cond b (range_flush addr (scalar_size ty)) (line_flush addr) ≡ Call dest ret callee args → IsExtern callee
    by_width true e = let same : pmem_flush_name ≡ callee = cc in (calls.PmemFlush, ap call_of (sym same))
    by_width false e = let same : clwb_name ≡ callee = cc in (calls.Clwb, ap call_of (sym same))

fence_calls : (dest : Option (List ℕ)) (ret : Option Scalar) (callee : List ℕ) (args : List Arg) → the_fence ≡ Call dest ret callee args → IsExtern callee
fence_calls dest ret callee args e = let same : sfence_name ≡ callee = cc in (calls.Sfence, ap call_of (sym same))

module _ (dest : Option (List ℕ)) (ret : Option Scalar) (callee : List ℕ) (args : List Arg) where
  fences_call : (c : Bool) (k : ℕ) → slice_get (instrs_of (cond c ((the_fence, true) ∷ []) [])) k ≡ Some (Call dest ret callee args) → IsExtern callee
  fences_call true zero e = fence_calls dest ret callee args (same_Some _ _ e)
  fences_call true (suc k) e = cc
  fences_call false k e = cc

  store_calls : (ty : Scalar) (addr : Operand) (align : Option ℕ) (b c : Bool) (k : ℕ) → slice_get (instrs_of (cond b ((flush_of ty addr align, true) ∷ []) [] ++ cond c ((the_fence, true) ∷ []) [])) k ≡ Some (Call dest ret callee args) → IsExtern callee
  store_calls ty addr align true c zero e = flush_calls ty addr align dest ret callee args (same_Some _ _ e)
  store_calls ty addr align true c (suc k) e = fences_call c k e
  store_calls ty addr align false c k e = fences_call c k e

  inserted_calls : (w : Wanted) (clone : Bool) (s : Site) (i : Instr) (k : ℕ) → slice_get (instrs_of (inserted_after w clone s i)) k ≡ Some (Call dest ret callee args) → IsExtern callee
  inserted_calls w clone s (Store ty value addr align) k e = store_calls ty addr align _ _ k e
  inserted_calls w clone s i k e = fences_call _ k e

  abbrev IsRenamed : List Clone → List Instr → Type 0
  IsRenamed clones is = (j : ℕ) × (original : List ℕ) × (slice_get is j ≡ Some (Call dest ret original args)) × (callee ≡ clone_name clones original)

  renamed_call : (clones : List Clone) (b : Bool) (i : Instr) → renamed clones i (true || b) ≡ Call dest ret callee args → (original : List ℕ) × (i ≡ Call dest ret original args) × (callee ≡ clone_name clones original)
  renamed_call clones b (Call d r c a) e =
      let names : clone_name clones c ≡ callee = cc in
      let dests : d ≡ dest = cc in
      let rets : r ≡ ret = cc in
      let given : a ≡ args = cc in
      (c, λ x. Call (dests x) (rets x) c (given x), sym names)
  renamed_call clones b i e = cc

  -- A call in a clone's body is one of the original's, renamed, or it is inserted.
  pub call_in_clone : (clones : List Clone) (w : Wanted) (f b place : ℕ) (is : List Instr) (k : ℕ) → slice_get (instrs_of (repaired_body clones w true f b place is)) k ≡ Some (Call dest ret callee args) → IsRenamed clones is ⊎ IsExtern callee
  call_in_clone clones w f b place [] k e = cc
  call_in_clone clones w f b place (i ∷ is) zero e =
      let call = renamed_call clones (w.hoist (record { function = f; block = b; index = place })) i (same_Some _ _ e) in
      inl (0, call.0, ap Some call.1, call.2)
  call_in_clone clones w f b place (i ∷ is) (suc k) e =
      let s : Site = record { function = f; block = b; index = place } in
      let parts : slice_get (instrs_of (inserted_after w true s i) ++ instrs_of (repaired_body clones w true f b (suc place) is)) k ≡ Some (Call dest ret callee args) =
      ap (λ xs. slice_get xs k) (sym (map-append (λ (m : Marked). m.0) (inserted_after w true s i) (repaired_body clones w true f b (suc place) is))) ∙ e in
      ⊎_elim (λ front. inr (inserted_calls w true s i k front))
      (λ back. ⊎_elim (λ r. inl (suc r.0, r.1, r.2, r.3)) (λ x. inr x) (call_in_clone clones w f b (suc place) is back.0 back.1))
      (in_append (instrs_of (inserted_after w true s i)) (instrs_of (repaired_body clones w true f b (suc place) is)) k (Call dest ret callee args) parts)

module _ (P : Program) (plan : Plan) (skip : Site → Bool) (good : IsCallable P) where
  -- No function of the repaired program has the name of an external one.
  pub still_free : (name : List ℕ) (g : ℕ) → function_number (repaired P plan skip) name ≡ Some g → call_of name ≡ None
  still_free name g e =
      ⊎_elim (λ first. let known = number_of-known (function_names P.functions) name g first in good.free name known.0 known.1)
      (λ later. fresh_extern P plan skip later.0 name later.1)
      (in_append (function_names P.functions) (fresh P plan skip) g name
      (ap (λ names. slice_get names g) (sym (names_then P plan skip)) ∙ number_of-there (function_names (repaired P plan skip).functions) name g e))

  clone_after : (callee' : List ℕ) (g g' : ℕ) (fn : Function) → CallsTwin P plan skip true callee' g fn → function_number (repaired P plan skip) callee' ≡ Some g' → length P.functions ≤ g'
  clone_after callee' g g' fn t e =
      let same : t.number ≡ g' = same_Some t.number g' (sym t.found ∙ e) in
      let high = t.twin.high refl in
      omega (arith, same, high.1)

  pub calls_in_clone : (f' b k : ℕ) (dest : Option (List ℕ)) (ret : Option Scalar) (callee' : List ℕ) (args : List Arg) (g' : ℕ) → length P.functions ≤ f' →
      slice_get (body_at (repaired P plan skip) f' b) k ≡ Some (Call dest ret callee' args) → function_number (repaired P plan skip) callee' ≡ Some g' → length P.functions ≤ g'
  calls_in_clone f' b k dest ret callee' args g' high c e =
      let j : ℕ = f' - length P.functions in
      let place : length P.functions + j ≡ f' = omega arith in
      let at = instr_place (repaired P plan skip) f' b k (Call dest ret callee' args) c in
      let clone = at_clone P (clones_of P plan) (wanted_by plan skip) (cloned P plan) (fresh P plan skip) j at.0 (cloned_there P plan skip)
      (sym (among_clones P plan skip j) ∙ ap (slice_get (repaired P plan skip).functions) place ∙ at.2) in
      let twin = twin_of_clone P plan skip j clone.0 clone.2 in
      let body : slice_get (instrs_of (repaired_body (clones_of P plan) (wanted_by plan skip) true clone.0 b 0 (body_at P clone.0 b))) k ≡ Some (Call dest ret callee' args) =
      ap (λ is. slice_get is k) (sym (body_twin P plan skip true clone.0 (length P.functions + j) twin b)) ∙ ap (λ f. slice_get (body_at (repaired P plan skip) f b) k) place ∙ c in
      ⊎_elim (λ r. of_original clone.0 (has_at clone.0 j (cloned P plan) clone.2) r) (λ x. not_extern callee' x e)
      (call_in_clone dest ret callee' args (clones_of P plan) (wanted_by plan skip) clone.0 b 0 (body_at P clone.0 b) k body)
    where
      not_extern : (name : List ℕ) → IsExtern name → function_number (repaired P plan skip) name ≡ Some g' → length P.functions ≤ g'
      not_extern name x e = let free = still_free name g' e in let both = x.1 in cc

      of_original : (f : ℕ) → Has (cloned P plan) f → IsRenamed dest ret callee' args (clones_of P plan) (body_at P f b) → length P.functions ≤ g'
      of_original f h r =
          ⊎_elim (λ x. not_extern r.1 x (ap (function_number (repaired P plan skip)) (sym (r.3 ∙ extern_kept P plan good r.1 (λ none. let both = x.1 in cc))) ∙ e))
          (λ d.
          let there = function_number-there P r.1 d.0 d.1 in
          let closed = closed_there P plan.hoist f b r.0 dest ret r.1 args d.0 (in_has f (cloned P plan) h) r.2 d.1 in
          clone_after (clone_name (clones_of P plan) r.1) d.0 g' there.0 (calls_of_clone P plan skip good r.1 d.0 there.0 d.1 there.1 closed) (ap (function_number (repaired P plan skip)) (sym r.3) ∙ e))
          (good.calls f b r.0 dest ret r.1 args r.2)
