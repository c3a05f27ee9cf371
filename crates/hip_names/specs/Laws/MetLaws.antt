-- Steps of loops that put items into a list without repeats.
use Rattle.std.specs.Prelude.{◌≡◌, ℕ, ◌+◌, ◌<◌, Bool, cond, List, [], ◌∷◌, ◌++◌, length, drop}
use Rattle.std.specs.Cmp.{both_ways}
use Rattle.std.specs.Cmp.Lexicographic.{nat_list_eq_equiv}
use Rattle.std.specs.List.{flat_map, list_any}
use Rattle.std.specs.Str.{bytes_eq}
use Rattle.std.proofs.Common.{get_or, refl, sym, ap, ◌∙◌, ⊎_elim}
use Rattle.std.proofs.lemmas.List.{at_drop_more}
use Rattle.hip_types.specs.Distinct.{met}
use Rattle.hip_types.specs.Laws.DistinctLaws.{met-second, met-only}
use Rattle.hip_names.specs.Names.{is_among}

module _ {A : Type 0} (same : A → A → Bool) where
  pub met-append : (xs ys zs : List A) → met same xs (ys ++ zs) ≡ met same (met same xs ys) zs
  met-append xs [] zs = refl
  met-append xs (y ∷ ys) zs = met-append (cond (list_any (same y) xs) xs (xs ++ y ∷ [])) ys zs

  -- The step for item k: the list gets what item k gives, and the items after it are left.
  pub met-next : {B : Type 0} (f : B → List A) (seen : List A) (items : List B) (k : ℕ) (x : B) → k < length items
      → x ≡ get_or items k x →
      met same (met same seen (f x)) (flat_map f (drop (k + 1) items)) ≡ met same seen (flat_map f (drop k items))
  met-next {B} f seen items k x h e =
      sym (met-append seen (f x) (flat_map f (drop (k + 1) items)))
      ∙ ap (λ y. met same seen (f y ++ flat_map f (drop (k + 1) items))) e
      ∙ sym (at_drop_more (λ ys. met same seen (flat_map f ys)) items k x h)

-- A set of names has exactly the names that are put into it.
pub met-alike : (names : List (List ℕ)) → (q : List ℕ) → is_among (met bytes_eq [] names) q ≡ is_among names q
met-alike names q =
    both_ways _ _ (λ e. ⊎_elim (λ none. cc) (λ there. there) (met-only nat_list_eq_equiv q [] names e))
    (λ e. met-second nat_list_eq_equiv q [] names e)
