-- The names of registers of two lists.
use Rattle.std.proofs.Common.{◌≡◌, ◌⊎◌, ℕ, List, ◌++◌, sym, subst}
use Rattle.std.proofs.lemmas.List.{map-append}
use Rattle.hip_names.specs.Laws.NameLaws.{among-left, among-right, among-either}
use Rattle.hip_names.specs.Names.{IsAmong}
use Rattle.hip_sound.specs.Paths.{names_of}
use Rattle.hip_sound.specs.Registers.{Register}

pub names_append : (xs ys : List Register) → names_of (xs ++ ys) ≡ names_of xs ++ names_of ys
names_append xs ys = map-append (λ (r : Register). r.name) xs ys

pub named_either : (xs ys : List Register) (q : List ℕ) → IsAmong (names_of (xs ++ ys)) q
    → IsAmong (names_of xs) q ⊎ IsAmong (names_of ys) q
named_either xs ys q h = among-either (names_of xs) (names_of ys) q (subst (λ ns. IsAmong ns q) (names_append xs ys) h)

pub named_left : (xs ys : List Register) (q : List ℕ) → IsAmong (names_of xs) q → IsAmong (names_of (xs ++ ys)) q
named_left xs ys q h = subst (λ ns. IsAmong ns q) (sym (names_append xs ys))
    (among-left (names_of xs) (names_of ys) q h)

pub named_right : (xs ys : List Register) (q : List ℕ) → IsAmong (names_of ys) q → IsAmong (names_of (xs ++ ys)) q
named_right xs ys q h = subst (λ ns. IsAmong ns q) (sym (names_append xs ys))
    (among-right (names_of xs) (names_of ys) q h)
