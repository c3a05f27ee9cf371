-- A part of a grammar: its rule, and how it is read. Only the reading uses the test for the next token.
use Rattle.std.specs.Prelude.{Bool, List, Option, [], ◌∷◌, if◌then◌else◌}
use Rattle.hip_tokens.specs.Tokens.{Tok}
use Rattle.hip_grammar.specs.Rule.{Rule, Verdict, Yes, No, done, one, both, ◌or◌, many, perhaps}
use Rattle.hip_grammar.specs.Reader.{Reader, done_at, one_at, both_at, either_at, many_at, perhaps_at, leaders_at, on_ok, by_head}

-- A rule that derives values of type A, and a reader of them; laws show that the reader is exact for the rule.
pub record Production (F A : Type 0) : Type 1 where
  pub rule : Rule F A
  pub read : Reader F A

-- No token, and this value.
abbrev pub gives : {F A : Type 0} → A → Production F A
gives a = record { rule = done a; read = done_at a }

-- One token, by its verdict: a value, or a refusal.
abbrev pub token : {F A : Type 0} → (Tok → Verdict F A) → Production F A
token p = record { rule = one p; read = one_at p }

-- One part, and then the part that its value selects.
infixl 10 ◌>>=◌
abbrev pub ◌>>=◌ : {F A B : Type 0} → Production F A → (A → Production F B) → Production F B
l >>= f = record { rule = both l.rule (λ x. (f x).rule); read = both_at l.read (λ x. (f x).read) }

-- The first case if the next token passes, else the second.
abbrev pub either : {F A : Type 0} → (Tok → Bool) → Production F A → Production F A → Production F A
either k l m = record { rule = l.rule or m.rule; read = either_at k l.read m.read }

-- Any number of parts, as long as the next token passes.
abbrev pub repeated : {F A : Type 0} → (Tok → Bool) → Production F A → Production F (List A)
repeated k l = record { rule = many l.rule; read = many_at k l.read }

-- One part if the next token passes, else none.
abbrev pub optional : {F A : Type 0} → (Tok → Bool) → Production F A → Production F (Option A)
optional k l = record { rule = perhaps l.rule; read = perhaps_at k l.read }

-- A token that passes.
abbrev pub the : {F : Type 0} → (Tok → Bool) → Tok → Verdict F (Unit {0})
the k t = if k t then Yes tt else No

-- One token that passes, with no value; any other is refused without a reason.
abbrev pub passing : {F : Type 0} → (Tok → Bool) → Production F (Unit {0})
passing k = token (the k)

-- One more part, after a token that passes.
unfoldable pub one_more_by : {F A : Type 0} → (Tok → Bool) → Production F A → Production F A
one_more_by k l = passing k >>= λ _. l

-- At least one part, with such a token between each two.
unfoldable pub separated : {F A : Type 0} → (Tok → Bool) → Production F A → Production F (List A)
separated k l = l >>= λ first. repeated k (one_more_by k l) >>= λ others. gives (first ∷ others)

-- No part, up to a closing token.
unfoldable pub none_up_to : {F A : Type 0} → (Tok → Bool) → Production F (List A)
none_up_to close = passing close >>= λ _. gives []

-- At least one part, with such a token between each two, up to a closing token.
unfoldable pub some_up_to : {F A : Type 0} → (Tok → Bool) → (Tok → Bool) → Production F A → Production F (List A)
some_up_to k close l = separated k l >>= λ items. passing close >>= λ _. gives items

-- Any number of parts, with such a token between each two, up to a closing token.
unfoldable pub listed : {F A : Type 0} → (Tok → Bool) → (Tok → Bool) → Production F A → Production F (List A)
listed k close l = either close (none_up_to close) (some_up_to k close l)

-- Any number of parts, with no value.
unfoldable pub skipped : {F A : Type 0} → (Tok → Bool) → Production F A → Production F (Unit {0})
skipped k l = repeated k l >>= λ _. gives tt

-- Any number of parts of one kind, and what follows them, which may begin with the same head. The rule is the parts and
-- then what follows. The reading goes by the next tokens: after a head that is not followed by such a part it reads
-- `after_head`, and without a head `no_head`.
abbrev pub phased : {F X P B : Type 0} → (Tok → Bool) → Production F X → (Tok → Bool) → (X → Production F P)
    → (List P → X → Production F B) → (List P → Production F B) → (List P → Production F B) → Production F B
phased kh head kf part after_head no_head following = record {
  rule = both (many (both head.rule (λ x. (part x).rule))) (λ ps. (following ps).rule);
  read = λ ts. on_ok (leaders_at kh head.read kf (λ x. (part x).read) ts)
      (λ q. by_head q.1 (λ x. (after_head q.0 x).read) ((no_head q.0).read));
}
