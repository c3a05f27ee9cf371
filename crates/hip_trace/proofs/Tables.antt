-- A test that holds at each number below a bound, which is decided by computing.
use Rattle.std.proofs.Common.{◌≡◌, ℕ, zero, suc, ◌<◌, Bool, true, false, ◌&&◌, refl, arith, inl, inr}
use Rattle.std.proofs.lemmas.Bool.{cases_eq}

-- The test holds below n.
unfoldable pub holds_below : (ℕ → Bool) → ℕ → Bool
holds_below f zero = true
holds_below f (suc n) = f n && holds_below f n

both_of : (a b : Bool) → (a && b) ≡ true → (a ≡ true) × (b ≡ true)
both_of true true h = (refl, refl)
both_of true false h = cc
both_of false b h = cc

pub holds_at : (f : ℕ → Bool) (n : ℕ) → holds_below f n ≡ true → (b : ℕ) → b < n → f b ≡ true
unfolding holds_below
holds_at f zero h b lt = absurd (omega arith)
holds_at f (suc n) h b lt =
    let both = both_of (f n) (holds_below f n) h in
    elim (cases_eq b n) [ inl same ↦ rw same both.0 | inr other ↦ holds_at f n both.1 b (omega arith) ]
