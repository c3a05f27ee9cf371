-- Each function of the repaired program is one of the program's or a clone of one.
use Rattle.std.proofs.Common.{◌≡◌, ◌⊎◌, inl, inr, ⊎_elim, ℕ, zero, suc, ◌+◌, ◌-◌, ◌<◌, ◌≤◌, Bool, true, false, List, length, Option, Some, None, slice_get, option_map, refl, sym, ap, ◌∙◌, subst, arith}
use Rattle.std.proofs.lemmas.Option.{same_Some}
use Rattle.hip_tree.specs.declared.program.Function.{Function}
use Rattle.hip_tree.specs.declared.program.Program.{Program}
use Rattle.hip_tree.specs.declared.site.Site.{Site}
use Rattle.hip_repairs.specs.declared.plan.Plan.{Plan}
use Rattle.hip_repairs.specs.Repaired.{wanted_by, clones_of, cloned, repaired, repaired_function}
use Rattle.hip_repairs.proofs.functions.Clones.{fresh, among_clones, at_clone, cloned_there, cloned_is_there, clone_code}
use Rattle.hip_repairs.proofs.functions.Functions.{plain_code}

lt_or_le : (a b : ℕ) → (a < b) ⊎ (b ≤ a)
lt_or_le a zero = inr (omega arith)
lt_or_le zero (suc b) = inl (omega arith)
lt_or_le (suc a) (suc b) = ⊎_elim (λ l. inl (omega arith)) (λ g. inr (omega arith)) (lt_or_le a b)

-- The function f' of the repaired program.
pub record Origin (P : Program) (plan : Plan) (skip : Site → Bool) (f' : ℕ) (fn' : Function) : Type 0 where
  pub clone : Bool
  pub f : ℕ
  pub name : List ℕ
  pub fn : Function
  pub at : slice_get P.functions f ≡ Some fn
  pub is : fn' ≡ repaired_function (clones_of P plan) (wanted_by plan skip) clone f name fn
  pub plain : clone ≡ false → (f' ≡ f) × (name ≡ fn.name)
  pub high : clone ≡ true → (k : ℕ) × (f' ≡ length P.functions + k) × (slice_get (cloned P plan) k ≡ Some f) × (slice_get (fresh P plan skip) k ≡ Some name)

module _ (P : Program) (plan : Plan) (skip : Site → Bool) where
  plain_origin : (f : ℕ) (fn' : Function) → f < length P.functions → slice_get (repaired P plan skip).functions f ≡ Some fn' → Origin P plan skip f fn'
  plain_origin f fn' h e = by_function (slice_get P.functions f) refl (sym (plain_code P plan skip f h) ∙ e)
    where
      by_function : (o : Option Function) → slice_get P.functions f ≡ o → option_map (λ x. repaired_function (clones_of P plan) (wanted_by plan skip) false f x.name x) o ≡ Some fn' → Origin P plan skip f fn'
      by_function None g c = cc
      by_function (Some fn) g c = record {
        clone = false;
        f = f;
        name = fn.name;
        fn = fn;
        at = g;
        is = sym (same_Some _ _ c);
        plain = λ _. (refl, refl);
        high = λ q. cc;
      }

  clone_origin : (k : ℕ) (fn' : Function) → slice_get (repaired P plan skip).functions (length P.functions + k) ≡ Some fn' → Origin P plan skip (length P.functions + k) fn'
  clone_origin k fn' e =
      let clone = at_clone P (clones_of P plan) (wanted_by plan skip) (cloned P plan) (fresh P plan skip) k fn' (cloned_there P plan skip) (sym (among_clones P plan skip k) ∙ e) in
      let there = cloned_is_there P plan skip clone.0 k clone.2 in
      record {
        clone = true;
        f = clone.0;
        name = clone.1;
        fn = there.0;
        at = there.1;
        is = same_Some _ _ (sym e ∙ clone_code P plan skip k clone.0 clone.1 there.0 clone.2 clone.3 there.1);
        plain = λ q. cc;
        high = λ _. (k, refl, clone.2, clone.3);
      }

  pub origin : (f' : ℕ) (fn' : Function) → slice_get (repaired P plan skip).functions f' ≡ Some fn' → Origin P plan skip f' fn'
  origin f' fn' e =
      ⊎_elim (λ below. plain_origin f' fn' below e)
      (λ high.
      let place : length P.functions + (f' - length P.functions) ≡ f' = omega arith in
      subst (λ n. Origin P plan skip n fn') place (clone_origin (f' - length P.functions) fn' (ap (slice_get (repaired P plan skip).functions) place ∙ e)))
      (lt_or_le f' (length P.functions))
