-- A last argument that takes any number of words, for words that do not begin with `-`.
use Rattle.std.proofs.Common.{◌≡◌, ◌∙◌, ◌&&◌, true, List, [], ◌∷◌, ◌++◌, Some, None, refl, sym, ap, subst, append_assoc}
use Rattle.std.specs.Prelude.{fold}
use Rattle.std.specs.List.{list_all}
use Rattle.std.proofs.lemmas.Bool.{and_parts}
use Rattle.clap.specs.Simple.{Shape}
use Rattle.clap.specs.Faults.{turn_fault, walk_fault}
use Rattle.clap.specs.Kinds.{or_else}
use Rattle.clap.specs.Walk.{Row, Walk, walked}
use Rattle.clap.specs.Words.{Text}
use Rattle.clap.specs.declared.builder.value_parser.Reading.TheVariants.{AsWritten}
use Rattle.clap.specs.declared.parser.matches.ValueSource.TheVariants.{CommandLine}
use Rattle.hip_words.proofs.Plain.{IsPlain, plain_word}
use Rattle.hip_words.specs.Plain.{is_plain}

-- The words of an argument, from the command line.
abbrev pub row : Text → List Text → Row
row id values = record { id = id; values = values; count = None; source = Some CommandLine; reading = AsWritten }

-- The walk takes each plain word from `first` on into the last argument, and no turn fails: `one` is the walk after one
-- word, and `more` that after several.
pub record TakesList (shape : Shape) (first : Walk) (one : Text → Walk) (more : List Text → Text → Walk) : Type 0 where
  pub to_one : (n : Text) → IsPlain n → walked shape.rules [] first n ≡ one n
  pub to_two : (n m : Text) → IsPlain m → walked shape.rules [] (one n) m ≡ more (n ∷ []) m
  pub to_more : (ns : List Text) (n m : Text) → IsPlain m → walked shape.rules [] (more ns n) m ≡ more (ns ++ n ∷ []) m
  pub one_passes : (n : Text) → IsPlain n → turn_fault shape [] first n ≡ []
  pub two_passes : (n m : Text) → IsPlain m → turn_fault shape [] (one n) m ≡ []
  pub more_passes : (ns : List Text) (n m : Text) → IsPlain m → turn_fault shape [] (more ns n) m ≡ []

module _ {shape : Shape} {first : Walk} {one : Text → Walk} {more : List Text → Text → Walk} (takes : TakesList shape first one more) where
  passes_more : (ns : List Text) (n : Text) (ms : List Text) → list_all is_plain ms ≡ true
      → walk_fault shape [] (more ns n) ms ≡ []
  unfolding walk_fault
  passes_more ns n [] e = refl
  passes_more ns n (m ∷ ms) e =
      let both = and_parts (is_plain m) (list_all is_plain ms) e in
      ap (λ kinds. or_else kinds (walk_fault shape [] (walked shape.rules [] (more ns n) m) ms))
      (takes.more_passes ns n m (plain_word m both.0))
      ∙ ap (λ w. walk_fault shape [] w ms) (takes.to_more ns n m (plain_word m both.0))
      ∙ passes_more (ns ++ n ∷ []) m ms both.1

  -- No turn fails.
  pub list_passes : (ns : List Text) → list_all is_plain ns ≡ true → walk_fault shape [] first ns ≡ []
  unfolding walk_fault
  list_passes [] e = refl
  list_passes (n ∷ []) e =
      let is_n = plain_word n (and_parts (is_plain n) true e).0 in
      ap (λ kinds. or_else kinds (walk_fault shape [] (walked shape.rules [] first n) [])) (takes.one_passes n is_n)
  list_passes (n ∷ m ∷ ms) e =
      let head = and_parts (is_plain n) (is_plain m && list_all is_plain ms) e in
      let second = and_parts (is_plain m) (list_all is_plain ms) head.1 in
      let is_n = plain_word n head.0 in
      let is_m = plain_word m second.0 in
      ap (λ kinds. or_else kinds (walk_fault shape [] (walked shape.rules [] first n) (m ∷ ms))) (takes.one_passes n is_n)
      ∙ ap (λ w. walk_fault shape [] w (m ∷ ms)) (takes.to_one n is_n)
      ∙ ap (λ kinds. or_else kinds (walk_fault shape [] (walked shape.rules [] (one n) m) ms)) (takes.two_passes n m is_m)
      ∙ ap (λ w. walk_fault shape [] w ms) (takes.to_two n m is_m)
      ∙ passes_more (n ∷ []) m ms second.1

  ends_more : (ns : List Text) (n : Text) (ms : List Text) → list_all is_plain ms ≡ true
      → (q : List Text × Text) × (fold (walked shape.rules []) (more ns n) ms ≡ more q.0 q.1) × (q.0 ++ q.1 ∷ [] ≡ ns ++ n ∷ ms)
  ends_more ns n [] e = ((ns, n), refl, refl)
  ends_more ns n (m ∷ ms) e =
      let both = and_parts (is_plain m) (list_all is_plain ms) e in
      let rest = ends_more (ns ++ n ∷ []) m ms both.1 in (
        rest.0,
        ap (λ w. fold (walked shape.rules []) w ms) (takes.to_more ns n m (plain_word m both.0)) ∙ rest.1,
        rest.2 ∙ append_assoc ns (n ∷ []) (m ∷ ms),
      )

  -- What holds of the three ways to end holds of the walk over a list of plain words.
  pub list_ends : (Holds : List Text → Walk → Type 0) → Holds [] first → ((n : Text) → Holds (n ∷ []) (one n))
      → ((ns : List Text) (n : Text) → Holds (ns ++ n ∷ []) (more ns n)) → (ns : List Text) → list_all is_plain ns ≡ true
      → Holds ns (fold (walked shape.rules []) first ns)
  list_ends Holds none single several [] e = none
  list_ends Holds none single several (n ∷ []) e =
      let is_n = plain_word n (and_parts (is_plain n) true e).0 in
      subst (Holds (n ∷ [])) (sym (takes.to_one n is_n)) (single n)
  list_ends Holds none single several (n ∷ m ∷ ms) e =
      let head = and_parts (is_plain n) (is_plain m && list_all is_plain ms) e in
      let second = and_parts (is_plain m) (list_all is_plain ms) head.1 in
      let is_n = plain_word n head.0 in
      let is_m = plain_word m second.0 in
      let end = ends_more (n ∷ []) m ms second.1 in
      let walks = ap (λ w. fold (walked shape.rules []) (walked shape.rules [] w m) ms) (takes.to_one n is_n)
      ∙ ap (λ w. fold (walked shape.rules []) w ms) (takes.to_two n m is_m) ∙ end.1 in
      subst (Holds (n ∷ m ∷ ms)) (sym walks)
      (subst (λ xs. Holds xs (more end.0.0 end.0.1)) end.2 (several end.0.0 end.0.1))
