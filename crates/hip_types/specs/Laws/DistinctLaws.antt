-- Laws of lists without repeats: an item keeps its place, and no item occurs twice.
use Rattle.std.specs.Prelude.{◌≡◌, ℕ, zero, suc, ◌⊎◌, Bool, true, false, cond, ◌||◌, List, [], ◌∷◌, ◌++◌, Some, slice_get}
use Rattle.std.specs.Cmp.{IsEquivalence}
use Rattle.std.specs.List.{list_any, IsDistinct}
use Rattle.std.proofs.Common.{refl, sym, ap, ◌∙◌, inl, inr, ⊎_elim}
use Rattle.std.proofs.lemmas.List.Folds.{list_any-append}
use Rattle.std.proofs.lemmas.Map.Keys.{IsDistinct-push}
use Rattle.std.proofs.lemmas.Map.Steps.{list_any_congr}
use Rattle.hip_types.specs.Distinct.{met}

pub or_first : (b c : Bool) → b ≡ true → (b || c) ≡ true
or_first b c e = ap (λ t. t || c) e

pub or_second : (b c : Bool) → c ≡ true → (b || c) ≡ true
or_second true c e = refl
or_second false c e = e

pub either : (b c : Bool) → (b || c) ≡ true → (b ≡ true) ⊎ (c ≡ true)
either true c e = inl refl
either false c e = inr e

module _ {A : Type 0} (test : A → Bool) where
  pub any_front : (xs ys : List A) → list_any test xs ≡ true → list_any test (xs ++ ys) ≡ true
  any_front xs ys e = list_any-append test xs ys ∙ or_first _ _ e

  pub any_back : (xs ys : List A) → list_any test ys ≡ true → list_any test (xs ++ ys) ≡ true
  any_back xs ys e = list_any-append test xs ys ∙ or_second _ _ e

  pub any_either : (xs ys : List A) → list_any test (xs ++ ys) ≡ true
      → (list_any test xs ≡ true) ⊎ (list_any test ys ≡ true)
  any_either xs ys e = either _ _ (sym (list_any-append test xs ys) ∙ e)

  pub any_at : (xs : List A) (k : ℕ) (x : A) → slice_get xs k ≡ Some x → test x ≡ true
      → list_any test xs ≡ true
  any_at [] k x e t = cc
  any_at (y ∷ xs) zero x e t = or_first _ _ (let same : y ≡ x = cc in ap test same ∙ t)
  any_at (y ∷ xs) (suc k) x e t = or_second _ _ (any_at xs k x e t)

  pub any_found : (xs : List A) → list_any test xs ≡ true
      → (k : ℕ) × (x : A) × (slice_get xs k ≡ Some x) × (test x ≡ true)
  any_found [] e = cc
  any_found (y ∷ xs) e =
      ⊎_elim (λ t. (0, y, refl, t)) (λ f. let rest = any_found xs f in (suc rest.0, rest.1, rest.2, rest.3))
      (either _ _ e)

-- An item of the first list is at the same place in the joined list.
pub get_kept : {A : Type 0} (xs ys : List A) (k : ℕ) (x : A) → slice_get xs k ≡ Some x
    → slice_get (xs ++ ys) k ≡ Some x
get_kept [] ys k x e = cc
get_kept (y ∷ xs) ys zero x e = e
get_kept (y ∷ xs) ys (suc k) x e = get_kept xs ys k x e

-- An item of the first list keeps its place.
pub met-kept : {A : Type 0} (same : A → A → Bool) (xs ys : List A) (k : ℕ) (x : A) → slice_get xs k ≡ Some x
    → slice_get (met same xs ys) k ≡ Some x
met-kept same xs [] k x e = e
met-kept {A} same xs (y ∷ ys) k x e =
    met-kept same (cond (list_any (same y) xs) xs (xs ++ y ∷ [])) ys k x (added (list_any (same y) xs))
  where
    added : (b : Bool) → slice_get (cond b xs (xs ++ y ∷ [])) k ≡ Some x
    added true = e
    added false = get_kept xs (y ∷ []) k x e

module _ {A : Type 0} {same : A → A → Bool} (laws : IsEquivalence same) where
  -- No item of the result occurs twice.
  pub met-distinct : (xs ys : List A) → IsDistinct same xs → IsDistinct same (met same xs ys)
  met-distinct xs [] d = d
  met-distinct xs (y ∷ ys) d =
      met-distinct (cond (list_any (same y) xs) xs (xs ++ y ∷ [])) ys (added (list_any (same y) xs) refl)
    where
      added : (b : Bool) → list_any (same y) xs ≡ b → IsDistinct same (cond b xs (xs ++ y ∷ []))
      added true e = d
      added false e = IsDistinct-push laws xs y d e

  -- Each item of the two lists is in the result.
  pub met-first : (q : A) (xs ys : List A) → list_any (same q) xs ≡ true
      → list_any (same q) (met same xs ys) ≡ true
  met-first q xs [] e = e
  met-first q xs (y ∷ ys) e =
      met-first q (cond (list_any (same y) xs) xs (xs ++ y ∷ [])) ys (added (list_any (same y) xs))
    where
      added : (b : Bool) → list_any (same q) (cond b xs (xs ++ y ∷ [])) ≡ true
      added true = e
      added false = any_front (same q) xs (y ∷ []) e

  pub met-second : (q : A) (xs ys : List A) → list_any (same q) ys ≡ true
      → list_any (same q) (met same xs ys) ≡ true
  met-second q xs [] e = cc
  met-second q xs (y ∷ ys) e =
      ⊎_elim (λ t. met-first q (cond (list_any (same y) xs) xs (xs ++ y ∷ [])) ys
      (added (list_any (same y) xs) refl t))
      (λ f. met-second q (cond (list_any (same y) xs) xs (xs ++ y ∷ [])) ys f) (either (same q y) _ e)
    where
      added : (b : Bool) → list_any (same y) xs ≡ b → same q y ≡ true
          → list_any (same q) (cond b xs (xs ++ y ∷ [])) ≡ true
      added true e t = list_any_congr laws q y xs t ∙ e
      added false e t = any_back (same q) xs (y ∷ []) (or_first _ _ t)

  -- Each item of the result is in one of the two lists.
  pub met-only : (q : A) (xs ys : List A) → list_any (same q) (met same xs ys) ≡ true
      → (list_any (same q) xs ≡ true) ⊎ (list_any (same q) ys ≡ true)
  met-only q xs [] e = inl e
  met-only q xs (y ∷ ys) e =
      ⊎_elim (λ t. from (list_any (same y) xs) t) (λ f. inr (or_second _ _ f))
      (met-only q (cond (list_any (same y) xs) xs (xs ++ y ∷ [])) ys e)
    where
      from : (b : Bool) → list_any (same q) (cond b xs (xs ++ y ∷ [])) ≡ true → (list_any (same q) xs ≡ true)
          ⊎ (list_any (same q) (y ∷ ys) ≡ true)
      from true e = inl e
      from false e =
          ⊎_elim (λ t. inl t) (λ f. inr (or_first _ _ (⊎_elim (λ t. t) (λ n. cc) (either (same q y) false f))))
          (any_either (same q) xs (y ∷ []) e)
