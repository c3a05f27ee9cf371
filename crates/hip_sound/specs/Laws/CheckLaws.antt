-- Each rule is exact: its requirement finds nothing exactly if it holds.
use Rattle.std.specs.Prelude.{ℕ, zero, suc, ◌+◌, ◌<◌, ◌≡◌, not, Bool, true, false, List, [], ◌∷◌, ◌++◌, length, get_or, All, Option, Some, None}
use Rattle.std.specs.List.{list_all}
use Rattle.std.proofs.Common.{refl, subst, arith}
use Rattle.std.proofs.lemmas.List.Sums.{AllPass-from_list_all, list_all-from_AllPass}
use Rattle.std.proofs.lemmas.Bool.{leb-true, le-leb, and_parts}
use Rattle.std.specs.Cmp.Derive.{both_true}
use Rattle.hip_types.specs.Layout.{Fits}
use Rattle.hip_types.specs.declared.ty.Ty.{Ty}
use Rattle.hip_names.specs.Laws.NameLaws.{among-sound, among-whole}
use Rattle.hip_sound.specs.Requirement.{Requirement, IsDecided, or_else, nothing_asked, asks, asks_true, and_then, each_from, each}
use Rattle.hip_names.specs.Names.{IsAmong, is_among}
use Rattle.hip_sound.specs.Names.{Named, differ_after}
use Rattle.hip_sound.specs.declared.fault.Fault.{Fault}
use Rattle.hip_sound.specs.declared.fault.Fault.TheVariants as breaks
use Rattle.hip_sound.specs.declared.fault.Finding.{Finding}
use Rattle.hip_sound.specs.Places.{fits_test, types_fit}
use Rattle.hip_sound.specs.declared.fault.Place.{Place}

pub nothing-exact : IsDecided nothing_asked
nothing-exact = record { sound = λ e. tt; whole = λ h. refl }

pub asks-exact : (fact : Type 0) (test : Bool) (fault : Fault) (place : Place) → (test ≡ true → fact)
    → (fact → test ≡ true) → IsDecided (asks fact test fault place)
asks-exact fact true fault place sound whole = record { sound = λ e. sound refl; whole = λ h. refl }
asks-exact fact false fault place sound whole = record { sound = λ e. cc; whole = λ h. let same = whole h in cc }

pub asks_true-exact : (test : Bool) (fault : Fault) (place : Place) → IsDecided (asks_true test fault place)
asks_true-exact true fault place = record { sound = λ e. refl; whole = λ h. refl }
asks_true-exact false fault place = record { sound = λ e. cc; whole = λ h. cc }

both_none : (a b : Option Finding) → or_else a b ≡ None → (a ≡ None) × (b ≡ None)
both_none None b e = (refl, e)
both_none (Some f) b e = cc

none_then : (a b : Option Finding) → a ≡ None → b ≡ None → or_else a b ≡ None
none_then None b e f = f
none_then (Some x) b e f = cc

pub and_then-exact : (a b : Requirement) → IsDecided a → IsDecided b → IsDecided (and_then a b)
and_then-exact a b p q = record {
  sound = λ e. let both = both_none a.found b.found e in (p.sound both.0, q.sound both.1);
  whole = λ h. none_then a.found b.found (p.whole h.0) (q.whole h.1);
}

pub each_from-exact : {A : Type 0} → (n : ℕ) (check : ℕ → A → Requirement) (xs : List A)
    → ((m : ℕ) (x : A) → IsDecided (check m x)) → IsDecided (each_from n check xs)
each_from-exact n check [] exact = nothing-exact
each_from-exact n check (x ∷ xs) exact =
    and_then-exact (check n x) (each_from (n + 1) check xs) (exact n x) (each_from-exact (n + 1) check xs exact)

-- ---- names

not_among : (xs : List (List ℕ)) (name : List ℕ) → not (is_among xs name) ≡ true → ¬ IsAmong xs name
not_among xs name e h = let there = among-whole xs name h in let off : not true ≡ true = rw there at e in cc

among_not : (xs : List (List ℕ)) (name : List ℕ) → ¬ IsAmong xs name → not (is_among xs name) ≡ true
among_not xs name h = by_test (is_among xs name) refl
  where
    by_test : (b : Bool) → is_among xs name ≡ b → not b ≡ true
    by_test true e = absurd (h (among-sound xs name e))
    by_test false e = refl

pub differ_after-exact : (earlier : List (List ℕ)) (xs : List Named) → IsDecided (differ_after earlier xs)
differ_after-exact earlier [] = nothing-exact
differ_after-exact earlier (x ∷ xs) =
    and_then-exact _ _ (asks-exact _ _ breaks.Duplicate x.place (not_among earlier x.name) (among_not earlier x.name))
    (differ_after-exact (earlier ++ x.name ∷ []) xs)

-- ---- types

fits-sound : (t : Ty) → fits_test t ≡ true → Fits t
fits-sound t e =
    let both = and_parts _ _ e in
    record { small = leb-true _ _ both.0; shallow = leb-true _ _ both.1 }

fits-whole : (t : Ty) → Fits t → fits_test t ≡ true
fits-whole t f = both_true (le-leb _ _ f.small) (le-leb _ _ f.shallow)

all_fit-sound : (ts : List Ty) → list_all fits_test ts ≡ true → All Fits ts
all_fit-sound ts e = λ k d h. fits-sound _ (AllPass-from_list_all fits_test ts e k d h)

all_fit-whole : (ts : List Ty) → All Fits ts → list_all fits_test ts ≡ true
all_fit-whole ts f = list_all-from_AllPass fits_test ts (λ k d h. fits-whole _ (f k d h))

pub types_fit-exact : (ts : List Ty) (place : Place) → IsDecided (types_fit ts place)
types_fit-exact ts place = asks-exact _ _ breaks.TooLarge place (all_fit-sound ts) (all_fit-whole ts)

-- ---- what holds of each item

pub each_from-holds : {A : Type 0} → (n : ℕ) (check : ℕ → A → Requirement) (xs : List A) (k : ℕ) (d : A)
    → (each_from n check xs).Holds → k < length xs → (check (n + k) (get_or xs k d)).Holds
each_from-holds n check [] k d h within = absurd (omega arith)
each_from-holds n check (x ∷ xs) zero d h within = let e : n + 0 ≡ n = omega arith in rw e h.0
each_from-holds n check (x ∷ xs) (suc k) d h within =
    let e : n + suc k ≡ n + 1 + k = omega arith in
    rw e (each_from-holds (n + 1) check xs k d h.1 (omega arith))

pub each-holds : {A : Type 0} → (check : ℕ → A → Requirement) (xs : List A) (k : ℕ) (d : A)
    → (each check xs).Holds
    → k < length xs → (check k (get_or xs k d)).Holds
each-holds check xs k d h within =
    let e : 0 + k ≡ k = omega arith in
    subst (λ (m : ℕ). (check m (get_or xs k d)).Holds) e (each_from-holds 0 check xs k d h within)
