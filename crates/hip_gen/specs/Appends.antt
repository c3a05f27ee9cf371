-- Texts that are written one after another.
use Rattle.std.specs.Prelude.{ℕ, ◌≡◌, List, ◌++◌, Result, Ok, Err, OnOk}
use Rattle.std.proofs.Common.{append_assoc, ap, ◌∙◌}

-- The bytes are those before with a piece at their end.
pub record Appends (before after piece : List ℕ) : Type 0 where
  pub is : after ≡ before ++ piece

-- One piece, and then another.
pub and_then : {before middle after s t : List ℕ} → Appends before middle s → Appends middle after t
    → Appends before after (s ++ t)
and_then {before} {middle} {after} {s} {t} p q =
    record { is = q.is ∙ ap (λ bytes. bytes ++ t) p.is ∙ append_assoc before s t }

-- The bytes are those before with two pieces at their end.
pub record AppendsBoth (before after first second : List ℕ) : Type 0 where
  pub middle : List ℕ
  pub one : Appends before middle first
  pub two : Appends middle after second

pub both : {before middle after first second : List ℕ} → Appends before middle first → Appends middle after second
    → AppendsBoth before after first second
both {middle = middle} p q = record { middle = middle; one = p; two = q }

-- Two pieces, and then another.
pub and_on : {before middle after s t u : List ℕ} → AppendsBoth before middle s t → Appends middle after u
    → Appends before after (s ++ (t ++ u))
and_on p q = and_then p.one (and_then p.two q)

-- If a fact holds when a call succeeds, so does a fact that follows from it.
pub on_ok : {A E : Type 0} {P Q : Type 0} (r : Result A E) → OnOk r P → (P → Q) → OnOk r Q
on_ok (Ok x) p f = f p
on_ok (Err e) p f = p
