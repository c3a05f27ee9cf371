-- Laws of the functions that calls can reach: the least list that has the callees of the calls and is closed under
-- calls. It has each function once, and each is the first function of its name.
use Rattle.std.specs.Prelude.{◌≡◌, ◌≤◌, ◌||◌, ◌<◌, ℕ, zero, suc, ◌+◌, nat_eq, Bool, true, false, List, [], ◌∷◌, Option, Some, None, slice_get, option_to_list, length}
use Rattle.std.specs.Cmp.{nat_eq_equiv}
use Rattle.std.specs.List.{flat_map, list_any, IsDistinct}
use Rattle.std.proofs.Common.{◌⊎◌, refl, sym, ap, ◌∙◌, subst, inl, ⊎_elim, arith, eq-or-lt_of_le}
use Rattle.std.proofs.lemmas.Bool.Decides.{Decides-eqb}
use Rattle.std.proofs.lemmas.Map.Steps.{length-le_from_distinct_below}
use Rattle.std.proofs.lemmas.Option.{slice_get_within, same_Some}
use Rattle.hip_types.specs.Distinct.{met}
use Rattle.hip_types.specs.Laws.DistinctLaws.{any_front, any_back, any_either, any_at, any_found, met-kept, met-distinct, met-first, met-second, met-only}
use Rattle.hip_tree.specs.Sites.{instr_of}
use Rattle.hip_tree.specs.declared.block.Block.{Block}
use Rattle.hip_tree.specs.declared.instr.Arg.{Arg}
use Rattle.hip_tree.specs.declared.instr.Instr.{Instr}
use Rattle.hip_tree.specs.declared.instr.Instr.TheVariants as instrs
use Rattle.hip_tree.specs.declared.program.Function.{Function}
use Rattle.hip_tree.specs.declared.program.Program.{Program}
use Rattle.hip_tree.specs.declared.site.Site.{Site}
use Rattle.hip_types.specs.declared.number.Scalar.{Scalar}
use Rattle.hip_sound.specs.NumberedNames.{function_number, name_in}
use Rattle.hip_sound.specs.Laws.NumberingLaws.{function_number-there, function_number-within}
use Rattle.hip_calls.specs.Fresh.{name_of}
use Rattle.hip_calls.specs.Reach.{called_by, called_in, called_from, called_at, extended, reached, callees}

-- The number is in the list.
abbrev pub Has : List ℕ → ℕ → Type 0
Has xs q = list_any (nat_eq q) xs ≡ true

either_of : (b : Bool) → (b || false) ≡ true → (b ≡ true) ⊎ ⊥
either_of true e = inl refl
either_of false e = cc

-- ---- the calls of a function

has_one : (q : ℕ) → Has (q ∷ []) q
has_one q = ap (λ b. b || false) (nat_eq_equiv.refl q)

flat-has : {A : Type 0} (f : A → List ℕ) (xs : List A) (k : ℕ) (x : A) (q : ℕ) → slice_get xs k ≡ Some x
    → Has (f x) q
    → Has (flat_map f xs) q
flat-has f [] k x q e h = cc
flat-has f (y ∷ xs) zero x q e h =
    any_front (nat_eq q) (f y) (flat_map f xs) (subst (λ z. Has (f z) q) (sym (same_Some y x e)) h)
flat-has f (y ∷ xs) (suc k) x q e h = any_back (nat_eq q) (f y) (flat_map f xs) (flat-has f xs k x q e h)

flat-all : {A : Type 0} (f : A → List ℕ) (Q : ℕ → Type 0) → (xs : List A)
    → ((k : ℕ) (x : A) (q : ℕ) → slice_get xs k ≡ Some x → Has (f x) q → Q q) → (q : ℕ)
    → Has (flat_map f xs) q → Q q
flat-all f Q [] each q h = cc
flat-all f Q (x ∷ xs) each q h =
    ⊎_elim (λ front. each 0 x q refl front) (λ back. flat-all f Q xs (λ k y r e g. each (suc k) y r e g) q back)
    (any_either (nat_eq q) (f x) (flat_map f xs) h)

-- A call of a defined function in a function is among the calls of that function.
pub called-has : (P : Program) (f b k : ℕ) (fn : Function) (block : Block) (dest : Option (List ℕ))
    (ret : Option Scalar) (callee : List ℕ) (args : List Arg) (g : ℕ) →
    slice_get P.functions f ≡ Some fn → slice_get fn.blocks b ≡ Some block
    → slice_get block.body k ≡ Some (instrs.Call dest ret callee args) → function_number P callee ≡ Some g
    → Has (called_from P f) g
called-has P f b k fn block dest ret callee args g e s c n =
    subst (λ o. Has (called_in P o) g) (sym e)
    (flat-has (λ b. flat_map (called_by P) b.body) fn.blocks b block g s
    (flat-has (called_by P) block.body k (instrs.Call dest ret callee args) g c
    (subst (λ o. Has (option_to_list o) g) (sym n) (has_one g))))

-- The function of that number is the first of its name.
abbrev pub IsNamed : Program → ℕ → Type 0
IsNamed P q = function_number P (name_of P q) ≡ Some q

named : (P : Program) (callee : List ℕ) (g : ℕ) → function_number P callee ≡ Some g → IsNamed P g
named P callee g e =
    let there = function_number-there P callee g e in
    ap (λ o. function_number P (name_in o)) there.1 ∙ ap (function_number P) there.2 ∙ e

called_by-named : (P : Program) (i : Instr) (q : ℕ) → Has (called_by P i) q → IsNamed P q
called_by-named P (instrs.Call dest ret callee args) q h = by_number (function_number P callee) refl h
  where
    by_number : (o : Option ℕ) → function_number P callee ≡ o → Has (option_to_list o) q → IsNamed P q
    by_number None e h = cc
    by_number (Some g) e h =
        let same : q ≡ g = ⊎_elim (λ t. (Decides-eqb q g).0 t) (λ f. absurd f) (either_of (nat_eq q g) h) in
        subst (λ n. IsNamed P n) (sym same) (named P callee g e)
called_by-named P i q h = cc

called-named : (P : Program) (f q : ℕ) → Has (called_from P f) q → IsNamed P q
called-named P f q h = in_function (slice_get P.functions f) h
  where
    in_function : (o : Option Function) → Has (called_in P o) q → IsNamed P q
    in_function None h = cc
    in_function (Some fn) h =
        flat-all (λ (b : Block). flat_map (called_by P) b.body) (IsNamed P) fn.blocks
        (λ _ b q _ g. flat-all (called_by P) (IsNamed P) b.body (λ _ i q _ c. called_by-named P i q c) q g) q h

called_at-named : (P : Program) (o : Option Instr) (q : ℕ) → Has (called_at P o) q → IsNamed P q
called_at-named P None q h = cc
called_at-named P (Some i) q h = called_by-named P i q h

-- ---- the list, as it is extended

extended-first : (P : Program) (seen : List ℕ) (o : Option ℕ) (q : ℕ) → Has seen q → Has (extended P seen o) q
extended-first P seen None q h = h
extended-first P seen (Some f) q h = met-first nat_eq_equiv q seen (called_from P f) h

extended-distinct : (P : Program) (seen : List ℕ) (o : Option ℕ) → IsDistinct nat_eq seen
    → IsDistinct nat_eq (extended P seen o)
extended-distinct P seen None d = d
extended-distinct P seen (Some f) d = met-distinct nat_eq_equiv seen (called_from P f) d

reached-first : (P : Program) (steps place : ℕ) (seen : List ℕ) (q : ℕ) → Has seen q
    → Has (reached P steps place seen) q
reached-first P zero place seen q h = h
reached-first P (suc steps) place seen q h =
    reached-first P steps (suc place) (extended P seen (slice_get seen place)) q
    (extended-first P seen (slice_get seen place) q h)

reached-distinct : (P : Program) (steps place : ℕ) (seen : List ℕ) → IsDistinct nat_eq seen
    → IsDistinct nat_eq (reached P steps place seen)
reached-distinct P zero place seen d = d
reached-distinct P (suc steps) place seen d =
    reached-distinct P steps (suc place) (extended P seen (slice_get seen place))
    (extended-distinct P seen (slice_get seen place) d)

-- If a number is in the set, each function that its function calls is in the set too.
abbrev pub IsClosed : Program → (ℕ → Type 0) → Type 0
IsClosed P Q = (f q : ℕ) → Q f → Has (called_from P f) q → Q q

reached-all : (P : Program) (Q : ℕ → Type 0) → IsClosed P Q → (steps place : ℕ) (seen : List ℕ)
    → ((q : ℕ) → Has seen q → Q q) → (q : ℕ) → Has (reached P steps place seen) q → Q q
reached-all P Q closed zero place seen all q h = all q h
reached-all P Q closed (suc steps) place seen all q h =
    reached-all P Q closed steps (suc place) (extended P seen (slice_get seen place))
    (λ r g. at (slice_get seen place) refl r g) q h
  where
    at : (o : Option ℕ) → slice_get seen place ≡ o → (r : ℕ) → Has (extended P seen o) r → Q r
    at None e r g = all r g
    at (Some f) e r g =
        ⊎_elim (λ old. all r old) (λ new. closed f r
        (all f (any_at (nat_eq f) seen place f e (nat_eq_equiv.refl f))) new)
        (met-only nat_eq_equiv r seen (called_from P f) g)

-- The list has every function that the functions before that place call.
abbrev IsDone : Program → List ℕ → ℕ → Type 0
IsDone P seen place = (k f q : ℕ) → k < place → slice_get seen k ≡ Some f → Has (called_from P f) q
    → Has seen q

get_within : (xs : List ℕ) (k : ℕ) → k < length xs → (x : ℕ) × (slice_get xs k ≡ Some x)
get_within [] k h = absurd (omega arith)
get_within (x ∷ xs) zero h = (x, refl)
get_within (x ∷ xs) (suc k) h = get_within xs k (omega arith)

done_next : (P : Program) (seen : List ℕ) (place : ℕ) → IsDone P seen place
    → IsDone P (extended P seen (slice_get seen place)) (suc place)
done_next P seen place done = at (slice_get seen place) refl
  where
    at_end : (k f : ℕ) → k ≤ place → slice_get seen place ≡ None → slice_get seen k ≡ Some f → k < place
    at_end k f le e s =
        ⊎_elim (λ same. let t : None ≡ Some f = sym e ∙ ap (slice_get seen) (sym same) ∙ s in cc) (λ l. l)
        (eq-or-lt_of_le le)

    met_at : (g k f q : ℕ) → slice_get seen place ≡ Some g → k ≤ place → slice_get seen k ≡ Some f
        → Has (called_from P f) q → Has (met nat_eq seen (called_from P g)) q
    met_at g k f q e le s c =
        ⊎_elim (λ same. let fg : f ≡ g = same_Some f g (sym s ∙ ap (slice_get seen) same ∙ e) in
        met-second nat_eq_equiv q seen (called_from P g) (subst (λ n. Has (called_from P n) q) fg c))
        (λ l. met-first nat_eq_equiv q seen (called_from P g) (done k f q l s c)) (eq-or-lt_of_le le)

    at : (o : Option ℕ) → slice_get seen place ≡ o → IsDone P (extended P seen o) (suc place)
    at None e k f q below s c = done k f q (at_end k f (omega arith) e s) s c
    at (Some g) e k f q below s c =
        let within = slice_get_within seen place g e in
        let old = get_within seen k (omega arith) in
        let there = met-kept nat_eq seen (called_from P g) k old.0 old.1 in
        let same : old.0 ≡ f = same_Some old.0 f (sym there ∙ s) in
        met_at g k f q e (omega arith) (old.1 ∙ ap Some same) c

reached-done : (P : Program) (steps place : ℕ) (seen : List ℕ) → IsDone P seen place
    → IsDone P (reached P steps place seen) (steps + place)
reached-done P zero place seen done = λ k f q below s c. done k f q (omega arith) s c
reached-done P (suc steps) place seen done =
    λ k f q below s c. reached-done P steps (suc place) (extended P seen (slice_get seen place))
    (done_next P seen place done) k f q (omega arith) s c

-- ---- all functions that calls reach from these calls

nothing-distinct : IsDistinct nat_eq []
unfolding IsDistinct
nothing-distinct = tt

-- No function is in the list twice.
pub callees-distinct : (P : Program) (sites : List Site) → IsDistinct nat_eq (callees P sites)
callees-distinct P sites =
    reached-distinct P (length P.functions) 0 _
    (met-distinct nat_eq_equiv [] (flat_map (λ s. called_at P (instr_of P s)) sites) nothing-distinct)

-- If a fact holds for the callees of these calls and is closed under calls, it holds for all functions of the list.
pub callees-least : (P : Program) (sites : List Site) (Q : ℕ → Type 0)
    → ((k : ℕ) (s : Site) (q : ℕ) → slice_get sites k ≡ Some s → Has (called_at P (instr_of P s)) q → Q q)
    → IsClosed P Q → (q : ℕ) → Has (callees P sites) q → Q q
callees-least P sites Q first closed q h =
    reached-all P Q closed (length P.functions) 0 (met nat_eq [] (flat_map (λ s. called_at P (instr_of P s)) sites))
    (λ r g. ⊎_elim (λ none. cc) (λ new. flat-all (λ s. called_at P (instr_of P s)) Q sites
    (λ k s q e c. first k s q e c) r new)
    (met-only nat_eq_equiv r [] (flat_map (λ s. called_at P (instr_of P s)) sites) g)) q h

-- Each function of the list is the first function of its name.
pub callees-named : (P : Program) (sites : List Site) (q : ℕ) → Has (callees P sites) q → IsNamed P q
callees-named P sites q h =
    callees-least P sites (IsNamed P) (λ _ s r _ g. called_at-named P (instr_of P s) r g)
    (λ f r n g. called-named P f r g) q h

pub callees-within : (P : Program) (sites : List Site) (q : ℕ) → Has (callees P sites) q → q < length P.functions
callees-within P sites q h = function_number-within P (name_of P q) q (callees-named P sites q h)

-- The list has at most as many functions as the program.
pub callees-length : (P : Program) (sites : List Site) → length (callees P sites) ≤ length P.functions
callees-length P sites =
    length-le_from_distinct_below (callees P sites) (length P.functions) (callees-distinct P sites)
    (λ q h. callees-within P sites q h)

-- The callees of these calls are in the list.
pub callees-first : (P : Program) (sites : List Site) (k : ℕ) (s : Site) (q : ℕ) → slice_get sites k ≡ Some s
    → Has (called_at P (instr_of P s)) q → Has (callees P sites) q
callees-first P sites k s q e h =
    reached-first P (length P.functions) 0 (met nat_eq [] (flat_map (λ s. called_at P (instr_of P s)) sites)) q
    (met-second nat_eq_equiv q [] (flat_map (λ s. called_at P (instr_of P s)) sites)
    (flat-has (λ s. called_at P (instr_of P s)) sites k s q e h))

-- Each function that a function of the list calls is in the list.
pub callees-closed : (P : Program) (sites : List Site) → IsClosed P (Has (callees P sites))
callees-closed P sites f q h c =
    let at = any_found (nat_eq f) (callees P sites) h in
    let same : f ≡ at.1 = (Decides-eqb f at.1).0 at.3 in
    let within = slice_get_within (callees P sites) at.0 at.1 at.2 in
    let long = callees-length P sites in
    reached-done P (length P.functions) 0 (met nat_eq [] (flat_map (λ s. called_at P (instr_of P s)) sites))
    (λ k g r below s d. absurd (omega arith)) at.0 f q (omega arith) (at.2 ∙ ap Some (sym same)) c
