-- A set of numbers as those of a list are put in.
use Rattle.std.proofs.Common.{◌≡◌, ℕ, ◌+◌, ◌<◌, ◌≤◌, Bool, true, false, ◌||◌, nat_eq, List, [], ◌∷◌, length, take, get_or, refl, sym, ap, ◌∙◌}
use Rattle.std.specs.List.{list_any}
use Rattle.std.proofs.lemmas.List.{take_all, take_more}
use Rattle.std.proofs.lemmas.List.Folds.{list_any-append}

-- The set has the numbers of the list.
pub record HasNumbers (numbers set : List ℕ) : Type 0 where
  pub has : (n : ℕ) → list_any (nat_eq n) set ≡ list_any (nat_eq n) numbers

pub no_numbers : (numbers : List ℕ) → HasNumbers (take 0 numbers) []
no_numbers numbers = record { has = λ n. refl }

pub one_number : (numbers : List ℕ) (i d : ℕ) (old new : List ℕ) → i < length numbers →
    ((n : ℕ) → list_any (nat_eq n) new ≡ nat_eq n (get_or numbers i d) || list_any (nat_eq n) old) → HasNumbers (take i numbers) old → HasNumbers (take (i + 1) numbers) new
one_number numbers i d old new h put before = record { has = by_number }
  where
    regroup : (a b : Bool) → a || b ≡ b || (a || false)
    regroup true true = refl
    regroup true false = refl
    regroup false true = refl
    regroup false false = refl

    by_number : (n : ℕ) → list_any (nat_eq n) new ≡ list_any (nat_eq n) (take (i + 1) numbers)
    by_number n =
        put n
        ∙ ap (λ b. nat_eq n (get_or numbers i d) || b) (before.has n)
        ∙ regroup (nat_eq n (get_or numbers i d)) (list_any (nat_eq n) (take i numbers))
        ∙ sym (list_any-append (nat_eq n) (take i numbers) (get_or numbers i d ∷ []))
        ∙ ap (λ ns. list_any (nat_eq n) ns) (sym (take_more numbers i d h))

pub all_numbers : (numbers : List ℕ) (i : ℕ) (set : List ℕ) → length numbers ≤ i → HasNumbers (take i numbers) set →
    (n : ℕ) → list_any (nat_eq n) set ≡ list_any (nat_eq n) numbers
all_numbers numbers i set h so_far n = so_far.has n ∙ ap (λ ns. list_any (nat_eq n) ns) (take_all i numbers h)
