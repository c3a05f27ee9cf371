-- Loops that verify each item of a list.
use Rattle.std.proofs.Common.{ℕ, ◌+◌, ◌≡◌, ◌<◌, List, get_or, drop, length, Option, Some, None, Result, Err, refl, sym, ap, subst, ◌∙◌}
use Rattle.std.proofs.lemmas.List.{at_drop_more}
use Rattle.hip_typing.specs.Seen.Answers.{Answers}
use Rattle.hip_sound.specs.Requirement.{Requirement, or_else, each_from, each}
use Rattle.hip_sound.specs.declared.fault.Finding.{Finding}
use Rattle.hip_typing.specs.declared.refused.Refused.{Refused}
use Rattle.hip_typing.specs.declared.refused.Refused.TheVariants as refused

each_next : {A : Type 0} (check : ℕ → A → Requirement) (xs : List A) (i : ℕ) (x : A) → i < length xs → x ≡ get_or xs i x → (each_from i check (drop i xs)).found ≡ or_else (check i x).found (each_from (i + 1) check (drop (i + 1) xs)).found
each_next check xs i x within is =
    at_drop_more (λ ys. (each_from i check ys).found) xs i x within
    ∙ ap (λ y. or_else (check i y).found (each_from (i + 1) check (drop (i + 1) xs)).found) (sym is)

none_first : (a b : Option Finding) → a ≡ None → or_else a b ≡ b
none_first None b e = refl
none_first (Some f) b e = cc

some_first : (a b : Option Finding) (f : Finding) → a ≡ Some f → or_else a b ≡ Some f
some_first None b f e = cc
some_first (Some g) b f e = e

-- After an item where nothing is found, the rest of the list decides.
pub each_goes_on : {A : Type 0} (check : ℕ → A → Requirement) (xs : List A) (i : ℕ) (x : A) → i < length xs → x ≡ get_or xs i x → (each_from i check (drop i xs)).found ≡ (each check xs).found → (check i x).found ≡ None → (each_from (i + 1) check (drop (i + 1) xs)).found ≡ (each check xs).found
each_goes_on check xs i x within is so_far none = sym (none_first _ _ none) ∙ sym (each_next check xs i x within is) ∙ so_far

-- The first item with a finding decides.
pub each_stops : (T : Type 0) {A : Type 0} (check : ℕ → A → Requirement) (xs : List A) (i : ℕ) (x : A) (e : Refused) → i < length xs → x ≡ get_or xs i x → (each_from i check (drop i xs)).found ≡ (each check xs).found → Answers {T = T} (Err e) (check i x).found → Answers {T = T} (Err e) (each check xs).found
each_stops T check xs i x (refused.Found f) within is so_far found = sym so_far ∙ each_next check xs i x within is ∙ some_first _ _ f found
each_stops T check xs i x refused.NoMemory within is so_far found = tt

-- After two requirements with nothing found the third decides.
pub after_two : {T : Type 0} (r : Result T Refused) (a b found : Option Finding) → a ≡ None → b ≡ None → Answers r found → Answers r (or_else a (or_else b found))
after_two r a b found e f h = subst (λ (o : Option Finding). Answers r o) (sym (none_first a (or_else b found) e ∙ none_first b found f)) h
