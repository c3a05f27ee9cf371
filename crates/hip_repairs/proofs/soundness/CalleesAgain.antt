-- Calls of the repaired program find the same signatures as their original calls.
use Rattle.std.proofs.Common.{◌≡◌, ◌⊎◌, inl, inr, ⊎_elim, ℕ, suc, Bool, true, false, cond, List, [], ◌∷◌, ◌++◌, map, Option, Some, None, is_some, slice_get, option_map, refl, sym, ap, ap₂, ◌∙◌}
use Rattle.std.specs.Prelude.{if◌then◌else◌}
use Rattle.std.specs.Str.{bytes_eq}
use Rattle.std.proofs.lemmas.Option.{same_Some}
use Rattle.std.proofs.lemmas.Slice.Eq.{bytes_eq-Decides}
use Rattle.hip_types.specs.Laws.DistinctLaws.{either}
use Rattle.hip_tree.specs.declared.program.Extern.{Extern}
use Rattle.hip_tree.specs.declared.program.Function.{Function}
use Rattle.hip_tree.specs.declared.program.Program.{Program}
use Rattle.hip_tree.specs.declared.site.Site.{Site}
use Rattle.hip_sound.specs.Requirement.{each}
use Rattle.hip_externs.specs.Externs.{Signature, signature, call_of, known_signature}
use Rattle.hip_names.specs.Names.{is_among, number_of}
use Rattle.hip_sound.specs.NumberedNames.{function_names, function_number}
use Rattle.hip_names.specs.Laws.NumberLaws.{number_cases}
use Rattle.hip_sound.specs.Laws.NumberingLaws.{function_number-there}
use Rattle.hip_sound.specs.Places.{extern_of, function_of, first_of, callee_of}
use Rattle.hip_sound.specs.Laws.SoundExact.{table-decides}
use Rattle.hip_sound.specs.Rules.{PassesVerifier, is_of, declared}
use Rattle.hip_externs.specs.declared.call.ExternCall.{ExternCall}
use Rattle.hip_sound.specs.Laws.Decided.{holds-at}
use Rattle.hip_names.specs.Laws.NameLaws.{bytes_eq-sym}
use Rattle.hip_repairs.specs.declared.plan.Plan.{Plan}
use Rattle.hip_repairs.specs.Repaired.{wanted_by, clone_name, clones_of, cloned, added_externs, repaired}
use Rattle.hip_repairs.specs.Laws.Callable.{function_at, callee_there, callable_of, IsCallable}
use Rattle.hip_repairs.proofs.functions.Clones.{extern_kept, calls_of_clone}
use Rattle.hip_runs.specs.StoredParts.Parts.{In}
use Rattle.hip_repairs.proofs.soundness.HeadsAgain.{externs_again}
use Rattle.hip_repairs.proofs.functions.Lookup.{calls_plain}
use Rattle.hip_repairs.proofs.functions.Twins.{CallsTwin}

-- ---- signatures that are tested to be the same, are

abbrev declared_signature : Extern → Signature
declared_signature e = record { ret = e.ret; params = e.params }

is_of_known : (e : Extern) (o : Option Signature) → is_of e o ≡ true → o ≡ Some (declared_signature e)
is_of_known e o h = (table-decides e o).0 h

-- ---- look-ups

signature_at : (es : List Extern) (name : List ℕ) (s : Signature) → extern_of es name ≡ Some s → (k : ℕ) × (e : Extern) × (slice_get es k ≡ Some e) × (e.name ≡ name) × (s ≡ declared_signature e)
signature_at [] name s h = cc
signature_at (e ∷ es) name s h = by_first (bytes_eq e.name name) refl h (signature_at es name s)
  where
    by_first : (b : Bool) → bytes_eq e.name name ≡ b → (if b then Some (declared_signature e) else extern_of es name) ≡ Some s
        → (extern_of es name ≡ Some s → (k : ℕ) × (x : Extern) × (slice_get es k ≡ Some x) × (x.name ≡ name) × (s ≡ declared_signature x)) → (k : ℕ) × (x : Extern) × (slice_get (e ∷ es) k ≡ Some x) × (x.name ≡ name) × (s ≡ declared_signature x)
    by_first true t g rest = (0, e, refl, (bytes_eq-Decides e.name name).0 t, sym (same_Some _ _ g))
    by_first false t g rest = let later = rest g in (suc later.0, later.1, later.2, later.3, later.4)

-- A declared function has the signature of the table.
pub extern_signature : (es : List Extern) (name : List ℕ) (s : Signature) → (each declared es).Holds → extern_of es name ≡ Some s → known_signature name ≡ Some s
extern_signature es name s h e =
    let at = signature_at es name s e in
    ap known_signature (sym at.3) ∙ is_of_known at.1 (known_signature at.1.name) (holds-at declared es at.0 at.1 h at.2) ∙ ap Some (sym at.4)

no_extern : (es : List Extern) (name : List ℕ) → (each declared es).Holds → call_of name ≡ None → extern_of es name ≡ None
no_extern es name h free = by_found (extern_of es name) refl
  where
    by_found : (o : Option Signature) → extern_of es name ≡ o → extern_of es name ≡ None
    by_found None e = e
    by_found (Some s) e = let known : option_map signature (call_of name) ≡ Some s = extern_signature es name s h e in let none : None ≡ Some s = sym (ap (option_map signature) free) ∙ known in cc

pub extern_there : (es : List Extern) (name : List ℕ) → is_among (map (λ e. e.name) es) name ≡ true → (s : Signature) × (extern_of es name ≡ Some s)
extern_there [] name h = cc
extern_there (e ∷ es) name h = by_first (bytes_eq e.name name) (⊎_elim (λ t. inl (bytes_eq-sym e.name name ∙ t)) (λ r. inr (extern_there es name r)) (either (bytes_eq name e.name) _ h))
  where
    by_first : (b : Bool) → (b ≡ true) ⊎ ((s : Signature) × (extern_of es name ≡ Some s)) → (s : Signature) × ((if b then Some (declared_signature e) else extern_of es name) ≡ Some s)
    by_first true h = (declared_signature e, refl)
    by_first false (inl t) = cc
    by_first false (inr r) = r

extern_kept_first : (es more : List Extern) (name : List ℕ) (s : Signature) → extern_of es name ≡ Some s → extern_of (es ++ more) name ≡ Some s
extern_kept_first [] more name s e = cc
extern_kept_first (x ∷ es) more name s e = by_first (bytes_eq x.name name) e (extern_kept_first es more name s)
  where
    by_first : (b : Bool) → (if b then Some (declared_signature x) else extern_of es name) ≡ Some s → (extern_of es name ≡ Some s → extern_of (es ++ more) name ≡ Some s) → (if b then Some (declared_signature x) else extern_of (es ++ more) name) ≡ Some s
    by_first true g rest = g
    by_first false g rest = rest g

abbrev signature_of : Function → Signature
signature_of f = record { ret = f.ret; params = map (λ p. p.ty) f.params }

function_at_number : (fs : List Function) (name : List ℕ) (g : ℕ) (fn : Function) → number_of (function_names fs) name ≡ Some g → slice_get fs g ≡ Some fn → function_of fs name ≡ Some (signature_of fn)
function_at_number [] name g fn e c = cc
function_at_number (f ∷ fs) name g fn e c =
    ⊎_elim
    (λ h.
    let same : f ≡ fn = same_Some f fn (ap (slice_get (f ∷ fs)) (sym h.0) ∙ c) in
    ap (λ b. if b then Some (signature_of f) else function_of fs name) (bytes_eq-sym f.name name ∙ h.2) ∙ ap (λ x. Some (signature_of x)) same)
    (λ l.
    ap (λ b. if b then Some (signature_of f) else function_of fs name) (bytes_eq-sym f.name name ∙ l.1)
    ∙ function_at_number fs name l.0 fn l.2 (ap (slice_get (f ∷ fs)) (sym l.3) ∙ c))
    (number_cases f.name (function_names fs) name g e)

-- ---- calls

module _ (P : Program) (plan : Plan) (skip : Site → Bool) (sound : PassesVerifier P) where
  good : IsCallable P
  good = callable_of P sound

  abbrev Q : Program
  Q = repaired P plan skip

  function_callee : (callee callee' : List ℕ) (g : ℕ) (fn : Function) (to_clone : Bool) → function_number P callee ≡ Some g → slice_get P.functions g ≡ Some fn → CallsTwin P plan skip to_clone callee' g fn → callee_of Q callee' ≡ callee_of P callee
  function_callee callee callee' g fn to_clone e c t =
      ap₂ first_of (no_extern Q.externs callee' (externs_again P plan skip sound).1.0 t.free) (function_at_number Q.functions callee' t.number _ t.found t.code)
      ∙ sym (ap₂ first_of (no_extern P.externs callee sound.externs.1.0 (good.free callee g e)) (function_at_number P.functions callee g fn e c))

  extern_callee : (callee : List ℕ) (c : ExternCall) → call_of callee ≡ Some c → is_some (callee_of P callee) ≡ true → callee_of Q callee ≡ callee_of P callee
  extern_callee callee c e h = by_extern (extern_of P.externs callee) refl
    where
      no_function : (o : Option Signature) → function_of P.functions callee ≡ o → is_some o ≡ true → ⊥
      no_function None g t = cc
      no_function (Some s) g t =
          let number = function_at P.functions callee s g in
          let free = good.free callee number.0 number.1 in
          cc

      by_extern : (o : Option Signature) → extern_of P.externs callee ≡ o → callee_of Q callee ≡ callee_of P callee
      by_extern (Some s) g =
          ap (λ o. first_of o (function_of Q.functions callee)) (extern_kept_first P.externs (added_externs P plan (wanted_by plan skip)) callee s g)
          ∙ sym (ap (λ o. first_of o (function_of P.functions callee)) g)
      by_extern None g = absurd (no_function (function_of P.functions callee) refl (ap (λ o. is_some (first_of o (function_of P.functions callee))) (sym g) ∙ h))

  -- A call finds the same signature, under the callee's own name or its clone's.
  pub callee_again : (callee : List ℕ) (to_clone : Bool) → (to_clone ≡ true → (g : ℕ) → function_number P callee ≡ Some g → In g (cloned P plan)) → is_some (callee_of P callee) ≡ true →
      callee_of Q (cond to_clone (clone_name (clones_of P plan) callee) callee) ≡ callee_of P callee
  callee_again callee to_clone there h = ⊎_elim (λ x. external x.0 x.1 to_clone) (λ d. defined d.0 d.1 to_clone there) (callee_there P callee sound.externs h)
    where
      external : (c : ExternCall) → call_of callee ≡ Some c → (b : Bool) → callee_of Q (cond b (clone_name (clones_of P plan) callee) callee) ≡ callee_of P callee
      external c e true = ap (callee_of Q) (extern_kept P plan good callee (λ none. cc)) ∙ extern_callee callee c e h
      external c e false = extern_callee callee c e h

      defined : (g : ℕ) → function_number P callee ≡ Some g → (b : Bool) → (b ≡ true → (g : ℕ) → function_number P callee ≡ Some g → In g (cloned P plan)) → callee_of Q (cond b (clone_name (clones_of P plan) callee) callee) ≡ callee_of P callee
      defined g e true there =
          let fn = function_number-there P callee g e in
          function_callee callee (clone_name (clones_of P plan) callee) g fn.0 true e fn.1 (calls_of_clone P plan skip good callee g fn.0 e fn.1 (there refl g e))
      defined g e false there =
          let fn = function_number-there P callee g e in
          function_callee callee callee g fn.0 false e fn.1 (calls_plain P plan skip good callee g fn.0 e fn.1)
