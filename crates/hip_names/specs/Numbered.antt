-- Tables that give each name a number. A name may occur more than once in the list: its number is the place of its
-- first occurrence. The law: a table with an entry for each name, in order, is such a table.
use Rattle.std.specs.Prelude.{ℕ, zero, suc, ◌+◌, ◌<◌, ◌≤◌, ◌≡◌, Bool, true, false, cond, List, [], ◌∷◌, ◌++◌, length, take, Option, Some, None, option_map, if◌then◌else◌}
use Rattle.std.specs.Str.{bytes_eq}
use Rattle.std.proofs.Common.{get_or, refl, sym, ap, ◌∙◌, arith}
use Rattle.hip_names.specs.Laws.NameLaws.{bytes_eq-sym}
use Rattle.hip_names.specs.Names.{number_of}
use Rattle.hip_names.specs.Laws.NumberLaws.{number_of-cons}
use Rattle.hip_names.specs.Tables.{Entry, TableStandsFor, value_beside, value_of}

-- The table of these names and numbers gives each name its first place in `names`, from 0, and no number to a name
-- that is not there.
pub record NumbersNames (known : List (List ℕ)) (numbers : List ℕ) (names : List (List ℕ)) : Type 0 where
  pub finds : (name : List ℕ) → value_beside known numbers name ≡ number_of names name

-- Each name with its number; the first name has number n.
abbrev pub entries_from : ℕ → List (List ℕ) → List (Entry ℕ)
entries_from n [] = []
entries_from n (name ∷ names) = record { name = name; value = n } ∷ entries_from (suc n) names

-- One more name adds an entry at the end.
pub entries-next : (n : ℕ) (names : List (List ℕ)) (k : ℕ) (name : List ℕ) → k < length names
    → get_or names k [] ≡ name →
    entries_from n (take k names) ++ record { name = name; value = n + k } ∷ []
    ≡ entries_from n (take (k + 1) names)
entries-next n [] k name h e = absurd (omega arith)
entries-next n (x ∷ names) zero name h e =
    let same : n + 0 ≡ n = omega arith in
    ap (λ (m : ℕ). record { name = name; value = m } ∷ []) same
    ∙ ap (λ (y : List ℕ). record { name = y; value = n } ∷ []) (sym e)
entries-next n (x ∷ names) (suc k) name h e =
    let one : suc (k + 1) ≡ suc k + 1 = omega arith in
    let on : n + suc k ≡ suc n + k = omega arith in
    ap (λ m. record { name = x; value = n }
    ∷ (entries_from (suc n) (take k names) ++ record { name = name; value = m }
    ∷ [])) on
    ∙ ap (λ es. record { name = x; value = n } ∷ es) (entries-next (suc n) names k name (omega arith) e)
    ∙ ap (λ m. entries_from n (take m (x ∷ names))) one

shifted : (b : Bool) (n : ℕ) (o : Option ℕ)
    → (if b then Some n else option_map (λ k. suc n + k) o) ≡ option_map (λ k. n + k)
    (cond b (Some 0) (option_map suc o))
shifted true n o = let e : n ≡ n + 0 = omega arith in ap Some e
shifted false n None = refl
shifted false n (Some k) = let e : suc n + k ≡ n + suc k = omega arith in ap Some e

found_from : (n : ℕ) (names : List (List ℕ)) (name : List ℕ)
    → value_of (entries_from n names) name ≡ option_map (λ k. n + k) (number_of names name)
found_from n [] name = refl
found_from n (x ∷ names) name =
    ap (λ o. if bytes_eq x name then Some n else o) (found_from (suc n) names name)
    ∙ ap (λ b. if b then Some n else option_map (λ k. suc n + k) (number_of names name)) (bytes_eq-sym x name)
    ∙ shifted (bytes_eq name x) n (number_of names name)
    ∙ ap (option_map (λ k. n + k)) (sym (number_of-cons x names name))

from_zero : (o : Option ℕ) → option_map (λ k. 0 + k) o ≡ o
from_zero None = refl
from_zero (Some k) = let e : 0 + k ≡ k = omega arith in ap Some e

whole : (names : List (List ℕ)) (k : ℕ) → length names ≤ k → take k names ≡ names
whole [] zero h = refl
whole [] (suc k) h = refl
whole (x ∷ names) zero h = absurd (omega arith)
whole (x ∷ names) (suc k) h = ap (λ rest. x ∷ rest) (whole names k (omega arith))

pub numbers_found : (known : List (List ℕ)) (numbers : List ℕ) (names : List (List ℕ)) (k : ℕ)
    → length names ≤ k →
    TableStandsFor known numbers (entries_from 0 (take k names)) → NumbersNames known numbers names
numbers_found known numbers names k h stands =
    record {
      finds = λ name. stands.finds name ∙ ap (λ ns. value_of (entries_from 0 ns) name)
          (whole names k h) ∙ found_from 0 names name ∙ from_zero _;
    }
