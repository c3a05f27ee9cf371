-- What holds of every value that a part derives, if the names in its tokens have the form of names.
use Rattle.std.proofs.Common.{◌≡◌, Bool, true, List, [], ◌∷◌, Option, Some, None, inl, inr, refl, sym, subst}
use Rattle.std.specs.List.{list_all}
use Rattle.std.specs.Cmp.Derive.{both_true}
use Rattle.hip_tokens.specs.Tokens.{Tok, At}
use Rattle.hip_tokens.specs.Formed.{is_formed, AreFormed}
use Rattle.hip_grammar.specs.Rule.{Rule, Verdict, Yes, done, one, both, ◌or◌, many, perhaps, AllDerive}
use Rattle.hip_grammar.specs.Production.{Production, gives, token, ◌>>=◌, either, repeated, optional, one_more_by, separated, none_up_to, some_up_to, listed, skipped, phased}

-- Each value that the rule derives from formed tokens has the property, and the tokens that are left are formed too.
abbrev pub RuleYields : {F A : Type 0} → Rule F A → (A → Type 0) → Type 0
RuleYields {F} {A} l Q =
    (ts : List At) (a : A) (rest : List At) → AreFormed ts → l.Derives ts a rest → Q a × AreFormed rest

-- The same for a part, by its rule.
pub record Yields {F A : Type 0} (p : Production F A) (Q : A → Type 0) : Type 0 where
  pub yields : RuleYields p.rule Q

-- ---- the rules

one_yields : {F A : Type 0} (p : Tok → Verdict F A) (Q : A → Type 0)
    → ((t : Tok) (a : A) → is_formed t ≡ true → p t ≡ Yes a → Q a) → RuleYields (one p) Q
unfolding one
one_yields p Q h ts a rest f d = let g = subst AreFormed d.1 f in (h d.0.tok a g.0 d.2, g.1)

done_yields : (F : Type 0) {A : Type 0} (a : A) (Q : A → Type 0) → Q a → RuleYields {F = F} (done a) Q
unfolding done
done_yields F a Q q ts x rest f d = (subst Q (sym d.1) q, subst AreFormed (sym d.0) f)

both_yields : {F A B : Type 0} (l : Rule F A) (f : A → Rule F B) (P : A → Type 0) (Q : B → Type 0)
    → RuleYields l P
    → ((a : A) → P a → RuleYields (f a) Q) → RuleYields (both l f) Q
unfolding both
both_yields l f P Q p q ts b rest g d = let first = p ts d.0 d.1 g d.2 in q d.0 first.0 d.1 b rest first.1 d.3

or_yields : {F A : Type 0} (l m : Rule F A) (Q : A → Type 0) → RuleYields l Q → RuleYields m Q
    → RuleYields (l or m) Q
unfolding ◌or◌
or_yields l m Q p q ts a rest f d = elim d [ inl k ↦ p ts a rest f k | inr k ↦ q ts a rest f k ]

all_yield : {F A : Type 0} (l : Rule F A) (test : A → Bool) → RuleYields l (λ a. test a ≡ true)
    → (ts : List At) (xs : List A) (rest : List At) → AreFormed ts → AllDerive l ts xs rest
    → (list_all test xs ≡ true) × AreFormed rest
all_yield l test p ts [] rest f d = (refl, subst AreFormed (sym d) f)
all_yield l test p ts (x ∷ xs) rest f d =
    let first = p ts x d.0 f d.1 in let others =
    all_yield l test p d.0 xs rest first.1 d.2 in (both_true first.0 others.0, others.1)

many_yields : {F A : Type 0} (l : Rule F A) (test : A → Bool) → RuleYields l (λ a. test a ≡ true)
    → RuleYields (many l) (λ xs. list_all test xs ≡ true)
unfolding many
many_yields l test p ts xs rest f d = all_yield l test p ts xs rest f d

perhaps_yields : {F A : Type 0} (l : Rule F A) (P : A → Type 0) (Q : Option A → Type 0) → RuleYields l P
    → Q None
    → ((a : A) → P a → Q (Some a)) → RuleYields (perhaps l) Q
unfolding perhaps
perhaps_yields l P Q p q h ts o rest f d = elim d [
  | inl k ↦ (subst Q (sym k.1) q, subst AreFormed (sym k.0) f)
  | inr k ↦ let first = p ts k.0 rest f k.2 in (subst Q (sym k.1) (h k.0 first.0), first.1)
]

-- ---- the parts

-- The property that every value has.
abbrev pub Any : {A : Type 0} → A → Type 0
Any a = Unit {0}

pub token_yields : {F A : Type 0} (p : Tok → Verdict F A) (Q : A → Type 0)
    → ((t : Tok) (a : A) → is_formed t ≡ true → p t ≡ Yes a → Q a) → Yields (token p) Q
token_yields p Q h = record { yields = one_yields p Q h }

pub gives_yields : {F A : Type 0} (a : A) (Q : A → Type 0) → Q a → Yields {F = F} (gives a) Q
gives_yields {F} a Q q = record { yields = done_yields F a Q q }

pub then_yields : {F A B : Type 0} (l : Production F A) (f : A → Production F B) (P : A → Type 0) (Q : B → Type 0)
    → Yields l P
    → ((a : A) → P a → Yields (f a) Q) → Yields (l >>= f) Q
then_yields l f P Q p q = record {
  yields =
      both_yields l.rule (λ a. (f a).rule) P Q p.yields (λ a h. (q a h).yields);
}

-- A part after a token with no condition.
pub after_token : {F A B : Type 0} (p : Tok → Verdict F A) (f : A → Production F B) (Q : B → Type 0)
    → ((a : A) → Yields (f a) Q) → Yields (token p >>= f) Q
after_token p f Q q = then_yields (token p) f Any Q (token_yields p Any (λ t a g e. tt)) (λ a h. q a)

pub either_yields : {F A : Type 0} (k : Tok → Bool) (l m : Production F A) (Q : A → Type 0) → Yields l Q → Yields m Q
    → Yields (either k l m) Q
either_yields k l m Q p q = record { yields = or_yields l.rule m.rule Q p.yields q.yields }

pub repeated_yields : {F A : Type 0} (k : Tok → Bool) (l : Production F A) (test : A → Bool)
    → Yields l (λ a. test a ≡ true)
    → Yields (repeated k l) (λ xs. list_all test xs ≡ true)
repeated_yields k l test p = record { yields = many_yields l.rule test p.yields }

pub optional_yields : {F A : Type 0} (k : Tok → Bool) (l : Production F A) (P : A → Type 0) (Q : Option A → Type 0)
    → Yields l P → Q None → ((a : A) → P a → Q (Some a)) → Yields (optional k l) Q
optional_yields k l P Q p q h = record { yields = perhaps_yields l.rule P Q p.yields q h }

pub one_more_yields : {F A : Type 0} (k : Tok → Bool) (l : Production F A) (Q : A → Type 0) → Yields l Q
    → Yields (one_more_by k l) Q
unfolding one_more_by
one_more_yields k l Q p = after_token _ _ Q (λ _. p)

-- A separated list has at least one value, and all of its values pass the test.
pub separated_yields : {F A : Type 0} (k : Tok → Bool) (l : Production F A) (test : A → Bool) (Q : List A → Type 0)
    → Yields l (λ a. test a ≡ true) →
    ((x : A) (xs : List A) → list_all test (x ∷ xs) ≡ true → Q (x ∷ xs))
    → Yields (separated k l) Q
unfolding separated
separated_yields k l test Q p h =
    then_yields l _ _ Q p (λ first e. then_yields (repeated k (one_more_by k l)) _ _ Q
    (repeated_yields k (one_more_by k l) test (one_more_yields k l _ p))
    (λ others es. gives_yields (first ∷ others) Q (h first others (both_true e es))))

some_yield : {F A : Type 0} (k close : Tok → Bool) (l : Production F A) (test : A → Bool)
    → Yields l (λ a. test a ≡ true)
    → Yields (some_up_to k close l) (λ xs. list_all test xs ≡ true)
unfolding some_up_to
some_yield k close l test p =
    then_yields (separated k l) _ (λ xs. list_all test xs ≡ true) _ (separated_yields k l test _ p (λ x xs e. e))
    (λ items e. after_token _ _ _ (λ _. gives_yields items _ e))

none_yield : {F A : Type 0} (close : Tok → Bool) (test : A → Bool)
    → Yields {F = F} (none_up_to close) (λ xs. list_all test xs ≡ true)
unfolding none_up_to
none_yield close test = after_token _ _ _ (λ _. gives_yields [] _ refl)

pub listed_yields : {F A : Type 0} (k close : Tok → Bool) (l : Production F A) (test : A → Bool)
    → Yields l (λ a. test a ≡ true) → Yields (listed k close l) (λ xs. list_all test xs ≡ true)
unfolding listed
listed_yields k close l test p =
    either_yields close (none_up_to close) (some_up_to k close l) _ (none_yield close test)
    (some_yield k close l test p)

pub skipped_yields : {F A : Type 0} (k : Tok → Bool) (l : Production F A) → Yields l Any → Yields (skipped k l) Any
unfolding skipped
skipped_yields k l p =
    then_yields (repeated k l) _ _ Any (repeated_yields k l (λ a. true)
    (record { yields = λ ts a rest f d. (refl, (p.yields ts a rest f d).1) })) (λ _ h. gives_yields tt Any tt)

-- A part after parts of one kind, each with a head.
pub phased_yields : {F X P B : Type 0} (kh : Tok → Bool) (head : Production F X) (kf : Tok → Bool) (part : X → Production F P)
    (after_head : List P → X → Production F B) (no_head following : List P → Production F B) (R : X → Type 0)
    (test : P → Bool)
    (Q : B → Type 0)
    → Yields head R → ((x : X) → R x → Yields (part x) (λ p. test p ≡ true))
    → ((ps : List P) → list_all test ps ≡ true → Yields (following ps) Q)
    → Yields (phased kh head kf part after_head no_head following) Q
phased_yields {F} {X} {P} kh head kf part after_head no_head following R test Q p q r = record {
  yields =
      both_yields (many (both head.rule (λ x. (part x).rule))) (λ ps. (following ps).rule)
      (λ ps. list_all test ps ≡ true) Q
      (many_yields (both head.rule (λ x. (part x).rule)) test
      (both_yields head.rule (λ x. (part x).rule) R (λ a. test a ≡ true) p.yields (λ x h. (q x h).yields)))
      (λ ps h. (r ps h).yields);
}
