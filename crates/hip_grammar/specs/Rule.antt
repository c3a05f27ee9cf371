-- Grammars by parts. A rule describes the tokens between two places in one list of tokens; the second place is at or
-- after the first.
use Rattle.std.specs.Prelude.{◌≡◌, List, [], ◌∷◌, ◌++◌, Option, Some, None, ◌⊎◌}
use Rattle.hip_tokens.specs.Tokens.{Tok, At}

-- The second place is at or after the first.
abbrev pub Later : List At → List At → Type 0
Later a b = (w : List At) × (a ≡ w ++ b)

-- A rule that derives values of type A, and refuses a token for a reason of type F.
pub record Rule (F A : Type 0) : Type 1 where
  -- The tokens from the first place to the second derive the value.
  pub Derives : List At → A → List At → Type 0
  -- The tokens between the places are a front of the rule.
  pub Front : List At → List At → Type 0
  -- The tokens between the places are a front, and the token at the second place is refused for this reason.
  pub Refuses : F → List At → List At → Type 0

-- What a place for one token makes of a token: its value, or a refusal, perhaps with a reason of this place.
pub data Verdict (F A : Type 0) : Type 0 where
  Yes : A → Verdict F A
  Because : F → Verdict F A
  No : Verdict F A

-- No token.
unfoldable pub done : {F A : Type 0} → A → Rule F A
done {F} {A} a = record {
  Derives = λ ts x rest. (rest ≡ ts) × (x ≡ a);
  Front = λ ts rest. rest ≡ ts;
  Refuses = λ why ts rest. ⊥;
}

-- One token. A front of a single token is no token or that token.
unfoldable pub one : {F A : Type 0} → (Tok → Verdict F A) → Rule F A
one {F} {A} p = record {
  Derives = λ ts x rest. (t : At) × (ts ≡ t ∷ rest) × (p t.tok ≡ Yes x);
  Front = λ ts rest. (rest ≡ ts) ⊎ ((t : At) × (x : A) × (ts ≡ t ∷ rest) × (p t.tok ≡ Yes x));
  Refuses = λ why ts rest. (rest ≡ ts) × (t : At) × (more : List At) × (ts ≡ t ∷ more)
      × (p t.tok ≡ Because why);
}

-- One part, and then the part that its value selects. A front is one of the first part, or the first part whole and
-- a front of the second.
unfoldable pub both : {F A B : Type 0} → Rule F A → (A → Rule F B) → Rule F B
both {F} {A} {B} l f = record {
  Derives = λ ts y rest. (x : A) × (m : List At) × l.Derives ts x m × (f x).Derives m y rest;
  Front = λ ts rest. l.Front ts rest ⊎ ((x : A) × (m : List At) × l.Derives ts x m × (f x).Front m rest);
  Refuses = λ why ts rest. l.Refuses why ts rest ⊎ ((x : A) × (m : List At) × l.Derives ts x m
      × (f x).Refuses why m rest);
}

-- The first case or the second. A front of either case is a front.
infixr 5 ◌or◌
unfoldable pub ◌or◌ : {F A : Type 0} → Rule F A → Rule F A → Rule F A
l or m = record {
  Derives = λ ts x rest. l.Derives ts x rest ⊎ m.Derives ts x rest;
  Front = λ ts rest. l.Front ts rest ⊎ m.Front ts rest;
  Refuses = λ why ts rest. l.Refuses why ts rest ⊎ m.Refuses why ts rest;
}

-- Each value in turn is derived.
abbrev pub AllDerive : {F A : Type 0} → Rule F A → List At → List A → List At → Type 0
AllDerive l ts [] rest = rest ≡ ts
AllDerive l ts (x ∷ xs) rest = (m : List At) × l.Derives ts x m × AllDerive l m xs rest

-- Any number of parts, one after the other. A front is any number of whole parts and a front of one more.
unfoldable pub many : {F A : Type 0} → Rule F A → Rule F (List A)
many {F} {A} l = record {
  Derives = AllDerive l;
  Front = λ ts rest. (xs : List A) × (m : List At) × AllDerive l ts xs m × l.Front m rest;
  Refuses = λ why ts rest. (xs : List A) × (m : List At) × AllDerive l ts xs m × l.Refuses why m rest;
}

-- A part or nothing.
unfoldable pub perhaps : {F A : Type 0} → Rule F A → Rule F (Option A)
perhaps {F} {A} l = record {
  Derives = λ ts o rest. ((rest ≡ ts) × (o ≡ None)) ⊎ ((x : A) × (o ≡ Some x) × l.Derives ts x rest);
  Front = λ ts rest. (rest ≡ ts) ⊎ l.Front ts rest;
  Refuses = λ why ts rest. l.Refuses why ts rest;
}
