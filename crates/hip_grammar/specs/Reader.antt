-- Reading from left to right by the next token, up to the first token that is refused.
use Rattle.std.specs.Prelude.{ℕ, zero, suc, Bool, false, List, [], ◌∷◌, ◌++◌, length, Option, Some, None, Result, Ok, Err, if◌then◌else◌}
use Rattle.hip_tokens.specs.Tokens.{Tok, At}
use Rattle.hip_grammar.specs.Rule.{Verdict, Yes, Because, No}

-- The value and the tokens after it, or the refused place, perhaps with a reason of that place.
abbrev pub Outcome : Type 0 → Type 0 → Type 0
Outcome F A = Result (A × List At) (Option F × List At)

-- A reading from a place in the tokens on.
abbrev pub Reader : Type 0 → Type 0 → Type 0
Reader F A = List At → Outcome F A

-- The reading that follows a value that was read; a refusal stays.
abbrev pub on_ok : {F A B : Type 0} → Outcome F A → (A → Reader F B) → Outcome F B
on_ok (Ok x) f = f x.0 x.1
on_ok (Err e) f = Err e

-- This value, with no token taken.
abbrev pub done_at : {F A : Type 0} → A → Reader F A
done_at x ts = Ok (x, ts)

-- One part, and after it the part that its value selects.
abbrev pub both_at : {F A B : Type 0} → Reader F A → (A → Reader F B) → Reader F B
both_at r f ts = on_ok (r ts) f

-- By the verdict on a token: it is taken for its value, or refused at its place, with the reason if it has one.
abbrev pub judged : {F A : Type 0} → Verdict F A → At → List At → Outcome F A
judged (Yes x) t more = Ok (x, more)
judged (Because why) t more = Err (Some why, t ∷ more)
judged No t more = Err (None, t ∷ more)

-- One token, by its verdict; if no token is left, that place is refused without a reason.
abbrev pub one_at : {F A : Type 0} → (Tok → Verdict F A) → Reader F A
one_at p [] = Err (None, [])
one_at p (t ∷ ts) = judged (p t.tok) t ts

-- Whether the next token passes.
abbrev pub next : (Tok → Bool) → List At → Bool
next p [] = false
next p (t ∷ ts) = p t.tok

-- The first case if the next token passes, else the second. At the end of the tokens it is the second.
abbrev pub either_at : {F A : Type 0} → (Tok → Bool) → Reader F A → Reader F A → Reader F A
either_at p r s ts = if next p ts then r ts else s ts

-- One part if the next token passes, else none, with no token taken.
abbrev pub perhaps_at : {F A : Type 0} → (Tok → Bool) → Reader F A → Reader F (Option A)
perhaps_at p r ts = if next p ts then on_ok (r ts) (λ x more. Ok (Some x, more)) else Ok (None, ts)

-- At most n parts, as long as the next token begins one.
unfoldable pub times_at : {F A : Type 0} → (Tok → Bool) → Reader F A → ℕ → Reader F (List A)
times_at p r zero ts = Ok ([], ts)
times_at p r (suc n) ts =
    if next p ts then on_ok (r ts) (λ x more. on_ok (times_at p r n more) (λ xs rest. Ok (x ∷ xs, rest)))
    else Ok ([], ts)

-- Parts as long as the next token passes, but at most as many as there are tokens.
abbrev pub many_at : {F A : Type 0} → (Tok → Bool) → Reader F A → Reader F (List A)
many_at p r ts = times_at p r (length ts) ts

-- The values that were read before, and then those still to be read.
abbrev pub with_front : {F A : Type 0} → List A → Outcome F (List A) → Outcome F (List A)
with_front front o = on_ok o (λ xs rest. Ok (front ++ xs, rest))

-- The values are folded into a start, one by one.
abbrev pub folded : {A S : Type 0} → (S → A → S) → S → List A → S
folded step s [] = s
folded step s (x ∷ xs) = folded step (step s x) xs

-- The values still to be read are folded into a start, one by one; a refusal stays.
abbrev pub taken_up : {F A S : Type 0} → (S → A → S) → S → Outcome F (List A) → Outcome F S
taken_up step s o = on_ok o (λ xs rest. Ok (folded step s xs, rest))

-- At most n parts of one kind that begin with a head. The result also has the last head, if no such part follows it.
unfoldable pub leading_at : {F X P : Type 0} → (Tok → Bool) → Reader F X → (Tok → Bool) → (X → Reader F P)
    → ℕ
    → Reader F (List P × Option X)
leading_at kh rh kf rf zero ts = Ok (([], None), ts)
leading_at kh rh kf rf (suc n) ts =
    if next kh ts
    then on_ok (rh ts) (λ x m.
    if next kf m
    then on_ok (rf x m) (λ p more. on_ok (leading_at kh rh kf rf n more) (λ q rest. Ok ((p ∷ q.0, q.1), rest)))
    else Ok (([], Some x), m))
    else Ok (([], None), ts)

-- Parts of one kind that begin with a head, but at most as many as there are tokens.
abbrev pub leaders_at : {F X P : Type 0} → (Tok → Bool) → Reader F X → (Tok → Bool) → (X → Reader F P)
    → Reader F (List P × Option X)
leaders_at kh rh kf rf ts = leading_at kh rh kf rf (length ts) ts

-- What is read after the head, or the outcome where there is no head.
abbrev pub by_head : {F X B : Type 0} → Option X → (X → Reader F B) → Reader F B → Reader F B
by_head (Some x) r o = r x
by_head None r o = o

-- The parts that were read before and those still to be read, with the last head if no part follows it.
abbrev pub with_leaders : {F X P : Type 0} → List P → Outcome F (List P × Option X)
    → Outcome F (List P × Option X)
with_leaders front o = on_ok o (λ q rest. Ok ((front ++ q.0, q.1), rest))
