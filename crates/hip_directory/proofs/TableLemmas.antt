-- The entries of a table after a group is made.
use Rattle.std.proofs.Common.{◌≡◌, ◌≢◌, ◌⊎◌, inl, inr, ℕ, ◌+◌, ◌*◌, ◌/◌, ◌%◌, ◌<◌, ◌≤◌, ◌==◌, Bool, true, false, cond, List, length, slice_index, slice_set, refl, sym, ap, ◌∙◌, arith}
use Rattle.std.proofs.lemmas.List.{get_or-set_same, get_or-set_other, get_or_past}
use Rattle.std.proofs.lemmas.Bool.Decides.{nat_tests}
use Rattle.hip_directory.specs.Tables.{number_in, IsDirectoryTable}

equal_or_not : (j k : ℕ) → (((j == k) ≡ true) × (j ≡ k)) ⊎ (((j == k) ≡ false) × (j ≢ k))
equal_or_not j k = grind (arith, nat_tests)

-- ---- zeros at the ends change nothing

pub number-same : (gs gs' es es' : List ℕ) → ((i : ℕ) → slice_index gs' i ≡ slice_index gs i) → ((i : ℕ) → slice_index es' i ≡ slice_index es i) → (k : ℕ) → number_in gs' es' k ≡ number_in gs es k
unfolding number_in
number-same gs gs' es es' f g k = g (64 * slice_index gs' (k / 64) + k % 64) ∙ ap (λ n. slice_index es (64 * n + k % 64)) (f (k / 64))

pub table-same : (gs gs' es : List ℕ) → IsDirectoryTable gs es → ((i : ℕ) → slice_index gs' i ≡ slice_index gs i) → IsDirectoryTable gs' es
table-same gs gs' es h f = record {
  whole = h.whole;
  within = λ i. omega (arith, f i, h.within i);
  first = h.first;
  apart = λ i j ne nz e. h.apart i j ne (λ z. nz (f i ∙ z)) (sym (f i) ∙ e ∙ f j);
}

-- ---- a group is made

-- The places of groups after one is made.
made : (gs : List ℕ) (at c i : ℕ) → at < length gs → ((i ≡ at) × (slice_index (slice_set gs at c) i ≡ c)) ⊎ ((i ≢ at) × (slice_index (slice_set gs at c) i ≡ slice_index gs i))
made gs at c i lt = go (equal_or_not i at)
  where
    go : (((i == at) ≡ true) × (i ≡ at)) ⊎ (((i == at) ≡ false) × (i ≢ at)) → ((i ≡ at) × (slice_index (slice_set gs at c) i ≡ c)) ⊎ ((i ≢ at) × (slice_index (slice_set gs at c) i ≡ slice_index gs i))
    go (inl x) = inl (x.1, ap (slice_index (slice_set gs at c)) x.1 ∙ get_or-set_same gs at c 0 lt)
    go (inr x) = inr (x.1, get_or-set_other gs at i c 0 x.1)

pub number-grown : (gs es es' : List ℕ) (at c : ℕ) → IsDirectoryTable gs es → at < length gs → slice_index gs at ≡ 0 → c ≡ length es / 64 → ((i : ℕ) → slice_index es' i ≡ slice_index es i) → (k : ℕ) → number_in (slice_set gs at c) es' k ≡ number_in gs es k
unfolding number_in
number-grown gs es es' at c h lt none ce g k = g (64 * slice_index (slice_set gs at c) (k / 64) + k % 64) ∙ go (made gs at c (k / 64) lt)
  where
    go : ((k / 64 ≡ at) × (slice_index (slice_set gs at c) (k / 64) ≡ c)) ⊎ ((k / 64 ≢ at) × (slice_index (slice_set gs at c) (k / 64) ≡ slice_index gs (k / 64))) → slice_index es (64 * slice_index (slice_set gs at c) (k / 64) + k % 64) ≡ slice_index es (64 * slice_index gs (k / 64) + k % 64)
    go (inl x) =
        let e : slice_index gs (k / 64) ≡ 0 = ap (slice_index gs) x.0 ∙ none in
        get_or_past es (64 * slice_index (slice_set gs at c) (k / 64) + k % 64) 0 (omega (arith, x.1, ce, h.whole))
        ∙ sym (ap (slice_index es) (let z : 64 * slice_index gs (k / 64) + k % 64 ≡ k % 64 = omega (arith, e) in z) ∙ h.first (k % 64) (omega arith))
    go (inr x) = ap (λ n. slice_index es (64 * n + k % 64)) x.1
