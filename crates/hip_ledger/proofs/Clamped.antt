-- Beyond the region no byte is loose.
use Rattle.std.proofs.Common.{◌≡◌, ◌⊎◌, inl, inr, ℕ, zero, suc, ◌+◌, ◌-◌, ◌*◌, ◌/◌, ◌≤◌, List, [], ◌++◌, length, Option, None, refl, sym, ap, ap₂, ◌∙◌, arith}
use Rattle.std.specs.Prelude.{option_and_then, option_to_list, min}
use Rattle.hip_lines.specs.Parts.{loose_at, loose_from, loose_in}
use Rattle.hip_lines.specs.Pending.{Pending}
use Rattle.hip_lines.specs.declared.part.LooseByte.{LooseByte}
use Rattle.hip_lines.specs.declared.part.Part.{Part}
use Rattle.hip_ledger.proofs.Searches.{got_none}

none_at : (ws : List (Pending Part)) (o : ℕ) → 64 * length ws ≤ o → loose_at ws o ≡ None
none_at ws o h = ap (option_and_then (λ w. loose_in w o)) (got_none ws (o / 64) (omega (arith, h)))

beyond : (ws : List (Pending Part)) (o n : ℕ) → 64 * length ws ≤ o → loose_from ws o n ≡ []
beyond ws o zero h = refl
beyond ws o (suc n) h = ap₂ (λ (a : Option LooseByte) (r : List LooseByte). option_to_list a ++ r) (none_at ws o h) (beyond ws (suc o) n (omega (arith, h)))

-- A range that reaches the region's end has the same loose bytes as a longer one from the same offset.
cut : (ws : List (Pending Part)) (o n m : ℕ) → 64 * length ws ≤ o + m → m ≤ n → loose_from ws o m ≡ loose_from ws o n
cut ws o n zero h k = sym (beyond ws o n (omega (arith, h)))
cut ws o zero (suc m) h k = absurd (omega (arith, k))
cut ws o (suc n) (suc m) h k = ap (λ (r : List LooseByte). option_to_list (loose_at ws o) ++ r) (cut ws (suc o) n m (omega (arith, h)) (omega (arith, k)))

split : (a b : ℕ) → (a ≤ b) ⊎ (b ≤ a)
split a b = grind arith

pub clamped : (ws : List (Pending Part)) (o n region : ℕ) → region ≡ 64 * length ws → loose_from ws (min o region) (min n (region - min o region)) ≡ loose_from ws o n
clamped ws o n region e = go (split o region) (split n (region - o))
  where
    go : (o ≤ region) ⊎ (region ≤ o) → (n ≤ region - o) ⊎ (region - o ≤ n) → loose_from ws (min o region) (min n (region - min o region)) ≡ loose_from ws o n
    go (inl le) (inl k) = ap₂ (loose_from ws) (let q : min o region ≡ o = omega (arith, le) in q) (let q : min n (region - min o region) ≡ n = omega (arith, le, k) in q)
    go (inl le) (inr k) = ap₂ (loose_from ws) (let q : min o region ≡ o = omega (arith, le) in q) (let q : min n (region - min o region) ≡ region - o = omega (arith, le, k) in q) ∙ cut ws o n (region - o) (omega (arith, e, le)) k
    go (inr le) k = ap₂ (loose_from ws) (let q : min o region ≡ region = omega (arith, le) in q) (let q : min n (region - min o region) ≡ 0 = omega (arith, le) in q) ∙ sym (beyond ws o n (omega (arith, e, le)))
