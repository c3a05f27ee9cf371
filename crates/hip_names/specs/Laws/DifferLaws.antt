-- Lists of names that differ: how they are appended and split.
use Rattle.std.proofs.Common.{◌≡◌, inl, inr, ⊎_elim, ℕ, suc, false, List, [], ◌∷◌, ◌++◌, map, Some, slice_get, refl, sym, subst}
use Rattle.std.specs.List.{AllByRecursion, IsDistinct}
use Rattle.std.specs.Str.{bytes_eq}
use Rattle.std.proofs.lemmas.Bool.{both_ways}
use Rattle.std.proofs.lemmas.Slice.Eq.{bytes_eq-Decides}
use Rattle.hip_names.specs.Laws.NameLaws.{among-left, among-right, among-either}
use Rattle.hip_names.specs.Names.{AllDiffer, IsAmong}

-- No name of the first list is one of the second.
abbrev pub Apart : List (List ℕ) → List (List ℕ) → Type 0
Apart xs ys = (q : List ℕ) → IsAmong xs q → ¬ IsAmong ys q

pub differ_append : (xs ys : List (List ℕ)) → AllDiffer xs → AllDiffer ys → Apart xs ys → AllDiffer (xs ++ ys)
differ_append [] ys d e a = e
differ_append (x ∷ xs) ys d e a =
    (λ t. ⊎_elim d.0 (a x (inl refl)) (among-either xs ys x t), differ_append xs ys d.1 e (λ q h. a q (inr h)))

pub differ_first : (xs ys : List (List ℕ)) → AllDiffer (xs ++ ys) → AllDiffer xs
differ_first [] ys d = tt
differ_first (x ∷ xs) ys d = (λ t. d.0 (among-left xs ys x t), differ_first xs ys d.1)

pub differ_second : (xs ys : List (List ℕ)) → AllDiffer (xs ++ ys) → AllDiffer ys
differ_second [] ys d = d
differ_second (x ∷ xs) ys d = differ_second xs ys d.1

pub differ_apart : (xs ys : List (List ℕ)) → AllDiffer (xs ++ ys) → Apart xs ys
differ_apart [] ys d q h t = h
differ_apart (x ∷ xs) ys d q (inl e) t = d.0 (among-right xs ys x (subst (λ n. IsAmong ys n) (sym e) t))
differ_apart (x ∷ xs) ys d q (inr h) t = differ_apart xs ys d.1 q h t

pub apart_append : (xs ys zs : List (List ℕ)) → Apart xs ys → Apart xs zs → Apart xs (ys ++ zs)
apart_append xs ys zs a b q h t = ⊎_elim (a q h) (b q h) (among-either ys zs q t)

pub append_apart : (xs ys zs : List (List ℕ)) → Apart xs zs → Apart ys zs → Apart (xs ++ ys) zs
append_apart xs ys zs a b q h t = ⊎_elim (λ f. a q f t) (λ g. b q g t) (among-either xs ys q h)

none_among : (x : List ℕ) (xs : List (List ℕ)) → AllByRecursion (λ y. bytes_eq x y ≡ false) xs
    → ¬ IsAmong xs x
none_among x [] h t = t
none_among x (y ∷ xs) h (inl e) = both_ways (bytes_eq x y) h.0 ((bytes_eq-Decides x y).1 (sym e))
none_among x (y ∷ xs) h (inr t) = none_among x xs h.1 t

pub differ_distinct : (xs : List (List ℕ)) → IsDistinct bytes_eq xs → AllDiffer xs
unfolding IsDistinct
differ_distinct [] d = tt
differ_distinct (x ∷ xs) d = (none_among x xs d.0, differ_distinct xs d.1)

-- What is among the names of some items is the name of one of them.
pub among_at : {A : Type 0} (name : A → List ℕ) (xs : List A) (q : List ℕ) → IsAmong (map name xs) q
    → (k : ℕ) × (x : A) × (slice_get xs k ≡ Some x) × (q ≡ name x)
among_at name [] q h = absurd h
among_at name (x ∷ xs) q (inl e) = (0, x, refl, sym e)
among_at name (x ∷ xs) q (inr h) = let later = among_at name xs q h in (suc later.0, later.1, later.2, later.3)
