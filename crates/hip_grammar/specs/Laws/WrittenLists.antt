-- The text of a list with commas reads as the list.
use Rattle.std.proofs.Common.{◌≡◌, ℕ, Bool, true, List, [], ◌∷◌, ◌++◌, map, refl, ap, codes}
use Rattle.std.specs.List.{list_all, flat_map}
use Rattle.std.proofs.lemmas.Bool.{and_parts}
use Rattle.hip_tokens.specs.Written.{ends_word}
use Rattle.hip_grammar.specs.Rule.{one, many}
use Rattle.hip_grammar.specs.Production.{Production, the, one_more_by, separated, none_up_to, some_up_to, listed}
use Rattle.hip_grammar.specs.Laws.Texts.{DerivesText, Leaves, anything, then_text, last_text, nothing_text, mark_then, blank_text, left_text, right_text, many_texts}
use Rattle.hip_grammar.specs.declared.fault.TextFault.{TextFault}
use Rattle.hip_grammar.specs.Words.{comma, is_mark}
use Rattle.hip_grammar.specs.Show.{commas, after_commas}

-- What follows a comma and a space.
pub after_comma : {A : Type 0} (l : Production TextFault A) {c : List ℕ → Bool} {s : List ℕ} {x : A}
    → DerivesText c l.rule s x
    → DerivesText c (one_more_by comma l).rule (codes ", " ++ s) x
unfolding one_more_by
after_comma l p = mark_then _ _ 44 refl refl (blank_text 32 refl p)

module _ {A : Type 0} (l : Production TextFault A) (text : A → List ℕ) (test : A → Bool)
    (each : (x : A) → test x ≡ true → DerivesText ends_word l.rule (text x) x) where
  abbrev past_comma : A → List ℕ
  past_comma x = codes ", " ++ text x

  one_more_is : (x : A) → test x ≡ true → DerivesText ends_word (one_more_by comma l).rule (past_comma x) x
  one_more_is x e = after_comma l (each x e)

  after_commas_are : (xs : List A) → flat_map past_comma xs ≡ after_commas (map text xs)
  after_commas_are [] = refl
  after_commas_are (x ∷ xs) = ap (λ (t : List ℕ). codes ", " ++ (text x ++ t)) (after_commas_are xs)

  others_are : (xs : List A) → list_all test xs ≡ true
      → DerivesText ends_word (many (one_more_by comma l).rule) (after_commas (map text xs)) xs
  others_are xs e =
      rw (← after_commas_are xs) (many_texts (one_more_by comma l).rule past_comma ends_word test one_more_is
      (λ x rest. refl) xs e)

  commas_leave : (xs : List A) → Leaves ends_word (after_commas (map text xs)) ends_word
  commas_leave [] rest e = e
  commas_leave (x ∷ xs) rest e = refl

  pub separated_are : (x : A) (xs : List A) → list_all test (x ∷ xs) ≡ true
      → DerivesText ends_word (separated comma l).rule (commas (map text (x ∷ xs))) (x ∷ xs)
  unfolding separated
  separated_are x xs e =
      let p = and_parts (test x) (list_all test xs) e in
      then_text _ (each x p.0) (last_text _ (others_are xs p.1) (nothing_text anything)) (commas_leave xs)

  -- Up to a closing mark.
  module _ (mark : ℕ) (closing : List ℕ)
      (close : DerivesText anything (one (the {F = TextFault} (is_mark mark))) closing tt) where
    pub none_listed : DerivesText anything (listed comma (is_mark mark) l).rule closing []
    unfolding listed none_up_to
    none_listed = left_text _ (last_text _ close (nothing_text anything))

    pub some_listed : Leaves ends_word closing anything → (x : A) (xs : List A) → list_all test (x ∷ xs) ≡ true
        → DerivesText anything (listed comma (is_mark mark) l).rule (commas (map text (x ∷ xs)) ++ closing) (x ∷ xs)
    unfolding listed some_up_to
    some_listed leaves x xs e =
        right_text _ (then_text _ (separated_are x xs e) (last_text _ close (nothing_text anything)) leaves)

    pub listed_are : Leaves ends_word closing anything → (xs : List A) → list_all test xs ≡ true
        → DerivesText anything (listed comma (is_mark mark) l).rule (commas (map text xs) ++ closing) xs
    listed_are leaves [] e = none_listed
    listed_are leaves (x ∷ xs) e = some_listed leaves x xs e
