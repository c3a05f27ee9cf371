-- The rules on names, declarations, `main` and registers hold of the repaired program.
use Rattle.std.proofs.Common.{◌≡◌, ⊎_elim, ℕ, suc, Bool, true, false, cond, List, [], ◌∷◌, ◌++◌, map, Option, Some, None, is_some, is_none, slice_get, refl, sym, ap, ap₂, ◌∙◌, subst}
use Rattle.std.specs.Prelude.{codes, if◌then◌else◌}
use Rattle.std.specs.List.{IsDistinct}
use Rattle.std.specs.Str.{bytes_eq}
use Rattle.std.proofs.lemmas.List.{map-append}
use Rattle.std.proofs.lemmas.Slice.Eq.{bytes_eq-Decides}
use Rattle.std.proofs.lemmas.Bool.{both_ways}
use Rattle.hip_types.specs.Laws.DistinctLaws.{any_found}
use Rattle.hip_tree.specs.declared.program.Extern.{Extern}
use Rattle.hip_tree.specs.declared.program.Function.{Function}
use Rattle.hip_tree.specs.declared.program.GlobalVar.{GlobalVar}
use Rattle.hip_tree.specs.declared.program.Program.{Program}
use Rattle.hip_tree.specs.declared.site.Site.{Site}
use Rattle.hip_externs.specs.Externs.{call_of, known_signature}
use Rattle.hip_names.specs.Laws.NameLaws.{among-whole}
use Rattle.hip_names.specs.Laws.NameLaws.{among-left, among-right}
use Rattle.hip_sound.specs.Laws.NameLaws.{names-sound, names-whole}
use Rattle.hip_names.specs.Names.{AllDiffer, IsAmong, is_among}
use Rattle.hip_sound.specs.NumberedNames as numbers
use Rattle.hip_sound.specs.Rules.{PassesVerifier, names_required, is_of, declared, free_function, externs_required, is_main, has_main, main_required}
use Rattle.hip_sound.specs.Laws.Decided.{holds-at, holds-made}
use Rattle.hip_sound.specs.Sound.{top_names}
use Rattle.hip_calls.specs.Fresh.{name_of}
use Rattle.hip_calls.specs.Laws.FreshLaws.{fresh_for-distinct, fresh_for-free}
use Rattle.hip_repairs.specs.declared.plan.Plan.{Plan}
use Rattle.hip_repairs.specs.Repaired.{wanted_by, clones_of, cloned, added_externs, repaired, repaired_functions}
use Rattle.hip_repairs.specs.Laws.Callable.{callable_of, IsCallable}
use Rattle.hip_repairs.proofs.functions.Clones.{fresh, fresh_extern, in_append, names_then}
use Rattle.hip_repairs.proofs.soundness.Declarations.{added_at, added_passes, clwb_extern, sfence_extern, pmem_flush_extern}
use Rattle.hip_names.specs.Laws.DifferLaws.{Apart, differ_append, differ_first, differ_second, differ_apart, apart_append, append_apart, differ_distinct, among_at}
use Rattle.hip_repairs.proofs.functions.Origins.{Origin, origin}

-- ---- names of the program

abbrev pub names_of_globals : List GlobalVar → List (List ℕ)
names_of_globals globals = map (λ g. g.name) globals

abbrev pub names_of_externs : List Extern → List (List ℕ)
names_of_externs externs = map (λ e. e.name) externs

apart_sym : (xs ys : List (List ℕ)) → Apart xs ys → Apart ys xs
apart_sym xs ys a q h t = a q t h

-- The table of external functions has none of these names, or, in `AreTaken`, all of them.
abbrev AreFree : List (List ℕ) → Type 0
AreFree xs = (q : List ℕ) → IsAmong xs q → call_of q ≡ None

abbrev AreTaken : List (List ℕ) → Type 0
AreTaken xs = (q : List ℕ) → IsAmong xs q → is_some (call_of q) ≡ true

free_apart : (xs ys : List (List ℕ)) → AreFree xs → AreTaken ys → Apart xs ys
free_apart xs ys free taken q h t = let a = free q h in let b = taken q t in let c : is_some (call_of q) ≡ false = ap is_some a in cc

added_distinct : (a b c : Bool) → IsDistinct bytes_eq (names_of_externs (cond a (clwb_extern ∷ []) [] ++ (cond b (sfence_extern ∷ []) [] ++ cond c (pmem_flush_extern ∷ []) [])))
unfolding IsDistinct
added_distinct true true true = ((refl, (refl, tt)), ((refl, tt), (tt, tt)))
added_distinct true true false = ((refl, tt), (tt, tt))
added_distinct true false true = ((refl, tt), (tt, tt))
added_distinct true false false = (tt, tt)
added_distinct false true true = ((refl, tt), (tt, tt))
added_distinct false true false = (tt, tt)
added_distinct false false true = (tt, tt)
added_distinct false false false = tt

module _ (P : Program) (plan : Plan) (skip : Site → Bool) (sound : PassesVerifier P) where
  good : IsCallable P
  good = callable_of P sound

  abbrev added : List Extern
  added = added_externs P plan (wanted_by plan skip)

  abbrev G : List (List ℕ)
  G = names_of_globals P.globals

  abbrev E : List (List ℕ)
  E = names_of_externs P.externs

  abbrev A : List (List ℕ)
  A = names_of_externs added

  abbrev F : List (List ℕ)
  F = numbers.function_names P.functions

  abbrev N : List (List ℕ)
  N = fresh P plan skip

  none_of : (name : List ℕ) → is_none (call_of name) ≡ true → call_of name ≡ None
  none_of name h = by_call (call_of name) h
    where
      by_call : {B : Type 0} (o : Option B) → is_none o ≡ true → o ≡ None
      by_call None e = refl
      by_call (Some c) e = cc

  globals_free : AreFree G
  globals_free q h =
      let at = among_at (λ (g : GlobalVar). g.name) P.globals q h in
      ap call_of at.3 ∙ none_of at.1.name (holds-at _ P.globals at.0 at.1 sound.externs.0 at.2)

  functions_free : AreFree F
  functions_free q h =
      let at = among_at (λ (f : Function). f.name) P.functions q h in
      ap call_of at.3 ∙ none_of at.1.name (holds-at free_function P.functions at.0 at.1 sound.externs.1.1 at.2)

  fresh_at : (q : List ℕ) → IsAmong N q → (k : ℕ) × (slice_get N k ≡ Some q)
  fresh_at q h = let found = any_found (bytes_eq q) N (among-whole N q h) in (found.0, found.2 ∙ ap Some (sym ((bytes_eq-Decides q found.1).0 found.3)))

  fresh_free : AreFree N
  fresh_free q h = let at = fresh_at q h in fresh_extern P plan skip at.0 q at.1

  fresh_not_taken : Apart N (top_names P)
  fresh_not_taken q h t = let at = fresh_at q h in both_ways _ (fresh_for-free (top_names P) (map (name_of P) (cloned P plan)) at.0 q at.1) (among-whole (top_names P) q t)

  added_taken : AreTaken A
  added_taken q h =
      let at = among_at (λ (e : Extern). e.name) added q h in
      ap (λ n. is_some (call_of n)) at.3 ∙ added_passes (λ e. is_some (call_of e.name)) refl refl refl at.1 (added_at P plan (wanted_by plan skip) at.0 at.1 at.2).0

  added_apart : Apart A E
  added_apart q h t =
      let at = among_at (λ (e : Extern). e.name) added q h in
      both_ways (is_among E q) (ap (is_among E) at.3 ∙ (added_at P plan (wanted_by plan skip) at.0 at.1 at.2).1) (among-whole E q t)

  differ_before : AllDiffer (G ++ (E ++ F))
  differ_before = names-sound P sound.names

  fresh_apart_from : (xs : List (List ℕ)) → ((q : List ℕ) → IsAmong xs q → IsAmong (top_names P) q) → Apart xs N
  fresh_apart_from xs there q h t = fresh_not_taken q t (there q h)

  differ_after_repair : AllDiffer (G ++ ((E ++ A) ++ (F ++ N)))
  differ_after_repair =
      let rest = differ_second G (E ++ F) differ_before in
      let fromG = differ_apart G (E ++ F) differ_before in
      let GE : Apart G E = λ q h t. fromG q h (among-left E F q t) in
      let GF : Apart G F = λ q h t. fromG q h (among-right E F q t) in
      let GN : Apart G N = fresh_apart_from G (λ q h. among-left G (E ++ F) q h) in
      let EN : Apart E N = fresh_apart_from E (λ q h. among-right G (E ++ F) q (among-left E F q h)) in
      let FN : Apart F N = fresh_apart_from F (λ q h. among-right G (E ++ F) q (among-right E F q h)) in
      differ_append G ((E ++ A) ++ (F ++ N)) (differ_first G (E ++ F) differ_before)
      (differ_append (E ++ A) (F ++ N)
      (differ_append E A (differ_first E F rest) (differ_distinct _ (added_distinct _ _ _)) (apart_sym A E added_apart))
      (differ_append F N (differ_second E F rest) (differ_distinct N (fresh_for-distinct (top_names P) (map (name_of P) (cloned P plan)))) FN)
      (append_apart E A (F ++ N) (apart_append E F N (differ_apart E F rest) EN) (apart_append A F N (apart_sym F A (free_apart F A functions_free added_taken)) (apart_sym N A (free_apart N A fresh_free added_taken)))))
      (apart_append G (E ++ A) (F ++ N) (apart_append G E A GE (free_apart G A globals_free added_taken)) (apart_append G F N GF GN))

  pub names_again : (names_required (repaired P plan skip)).Holds
  names_again =
      names-whole (repaired P plan skip)
      (subst AllDiffer (sym (ap (λ xs. G ++ xs) (ap₂ (λ xs ys. xs ++ ys) (map-append (λ (e : Extern). e.name) P.externs added) (names_then P plan skip)))) differ_after_repair)

  -- ---- declarations

  function_free : (f' : ℕ) (fn' : Function) → Origin P plan skip f' fn' → (free_function f' fn').Holds
  function_free f' fn' o = ap (λ fn. is_none (call_of fn.name)) o.is ∙ named o.clone refl
    where
      named : (b : Bool) → o.clone ≡ b → is_none (call_of o.name) ≡ true
      named true e = let high = o.high e in ap is_none (fresh_extern P plan skip high.0 o.name high.3)
      named false e = ap (λ n. is_none (call_of n)) (o.plain e).1 ∙ holds-at free_function P.functions o.f o.fn sound.externs.1.1 o.at

  pub externs_again : (externs_required (repaired P plan skip)).Holds
  externs_again = (
    sound.externs.0,
    (
      holds-made declared (P.externs ++ added)
          (λ k e h. ⊎_elim (λ first. holds-at declared P.externs k e sound.externs.1.0 first)
          (λ more. added_passes (λ x. is_of x (known_signature x.name)) refl refl refl e (added_at P plan (wanted_by plan skip) more.0 e more.1).0) (in_append P.externs added k e h)),
      holds-made free_function (repaired P plan skip).functions (λ f' fn' e. function_free f' fn' (origin P plan skip f' fn' e)),
    ),
  )

  -- ---- `main`

  main_kept : (f : ℕ) (fs more : List Function) → has_main fs ≡ true → has_main (repaired_functions (clones_of P plan) (wanted_by plan skip) f fs ++ more) ≡ true
  main_kept f [] more h = cc
  main_kept f (x ∷ xs) more h = by_first (bytes_eq x.name (codes "main")) h (main_kept (suc f) xs more)
    where
      by_first : (b : Bool) → (if b then is_main x else has_main xs) ≡ true →
          (has_main xs ≡ true → has_main (repaired_functions (clones_of P plan) (wanted_by plan skip) (suc f) xs ++ more) ≡ true) →
          (if b then is_main x else has_main (repaired_functions (clones_of P plan) (wanted_by plan skip) (suc f) xs ++ more)) ≡ true
      by_first true g rest = g
      by_first false g rest = rest g

  pub main_again : (main_required (repaired P plan skip)).Holds
  main_again = main_kept 0 P.functions _ sound.main
