-- What is read of a kept line.
use Rattle.std.proofs.Common.{◌≡◌, ◌≢◌, ◌⊎◌, inl, inr, ℕ, ◌+◌, ◌<◌, ◌≤◌, List, [], ◌∷◌, ◌++◌, length, min, take, get_or, Option, Some, None, option_to_list, slice_get, sym, ap, ◌∙◌, arith, length-append}
use Rattle.std.proofs.lemmas.List.{take_all}
use Rattle.std.proofs.lemmas.Option.{slice_get-get_or}
use Rattle.hip_lines.specs.Laws.LooseLaws.{get-append_left, get-append_end}
use Rattle.hip_crash.specs.Values.{bytes_with, bytes_after}
use Rattle.hip_crash.specs.Views.{later_in}
use Rattle.hip_crash.specs.declared.values.StoredValue.{StoredValue}
use Rattle.hip_crash.specs.declared.views.LineView.{LineView}
use Rattle.hip_crash.proofs.Bytes.{after-more, bytes_after-append}

one-at-most : {A : Type 0} (o : Option A) → length (option_to_list o) ≤ 1
one-at-most None = omega arith
one-at-most (Some x) = omega arith

-- A count above the number of stores that are kept together includes the store that is kept apart.
pub whole-after : (vs : List StoredValue) (o : Option StoredValue) (count front start : ℕ) (bs b1 b2 : List ℕ) → front ≡ min count (length vs) → front < count → count ≤ length (vs ++ option_to_list o)
    → b1 ≡ bytes_after (take front vs) start bs → b2 ≡ bytes_after (option_to_list o) start b1 → b2 ≡ bytes_after (take count (vs ++ option_to_list o)) start bs
whole-after vs o count front start bs b1 b2 f lt le p q =
    let all : length (vs ++ option_to_list o) ≤ count = omega (arith, length-append vs (option_to_list o), one-at-most o, f, lt) in
    q ∙ ap (bytes_after (option_to_list o) start) (p ∙ ap (λ xs. bytes_after xs start bs) (take_all front vs (omega (arith, f, lt))))
    ∙ sym (bytes_after-append vs (option_to_list o) start bs)
    ∙ ap (λ xs. bytes_after xs start bs) (sym (take_all count (vs ++ option_to_list o) all))

-- These are the bytes after this many of the later stores, and no fewer of them give the wanted bytes.
pub record IsSearched (v : LineView) (start place : ℕ) (wanted bytes : List ℕ) : Type 0 where
  pub at : bytes ≡ bytes_after (take place (later_in v)) start v.bytes
  pub none : (q : ℕ) → q < place → bytes_after (take q (later_in v)) start v.bytes ≢ wanted

none-more : (v : LineView) (start place : ℕ) (wanted bytes : List ℕ) → IsSearched v start place wanted bytes → bytes ≢ wanted → (q : ℕ) → q < place + 1 → bytes_after (take q (later_in v)) start v.bytes ≢ wanted
none-more v start place wanted bytes s ne q lt e = go (split q place lt) e
  where
    split : (q p : ℕ) → q < p + 1 → (q < p) ⊎ (q ≡ p)
    split q p h = grind arith

    go : (q < place) ⊎ (q ≡ place) → bytes_after (take q (later_in v)) start v.bytes ≡ wanted → ⊥
    go (inl h) e = s.none q h e
    go (inr h) e = ne (s.at ∙ ap (λ n. bytes_after (take n (later_in v)) start v.bytes) (sym h) ∙ e)

-- The search after one more store.
pub search-more : (v : LineView) (start place : ℕ) (wanted bytes new : List ℕ) (d : StoredValue) → place < length v.later.now → IsSearched v start place wanted bytes → bytes ≢ wanted
    → new ≡ bytes_with (get_or v.later.now place d) start bytes → IsSearched v start (place + 1) wanted new
search-more v start place wanted bytes new d lt s ne e = record {
  at = e ∙ ap (bytes_with (get_or v.later.now place d) start) s.at ∙ sym (after-more (later_in v) place (get_or v.later.now place d) start v.bytes (get-append_left v.later.now (option_to_list v.last) place lt ∙ slice_get-get_or v.later.now place d lt));
  none = none-more v start place wanted bytes s ne;
}

-- The search at the store that is kept apart.
module _ (v : LineView) (start : ℕ) (wanted bytes : List ℕ) (place : ℕ) (all : place ≡ length v.later.now) (s : IsSearched v start place wanted bytes) (ne : bytes ≢ wanted) where
  pub last-none : v.last ≡ None → (q : ℕ) → q ≤ length (later_in v) → bytes_after (take q (later_in v)) start v.bytes ≢ wanted
  last-none e q le = none-more v start place wanted bytes s ne q (omega (arith, le, all, length-append v.later.now (option_to_list v.last), ap (λ o. length (option_to_list o)) e))

  module _ (x : StoredValue) (e : v.last ≡ Some x) (new : List ℕ) (w : new ≡ bytes_with x start bytes) where
    long : length (later_in v) ≡ place + 1
    long = length-append v.later.now (option_to_list v.last) ∙ ap (λ o. length v.later.now + length (option_to_list o)) e ∙ ap (λ n. n + 1) (sym all)

    pub last-bytes : bytes_after (take (place + 1) (later_in v)) start v.bytes ≡ new
    last-bytes =
        after-more (later_in v) place x start v.bytes (ap (λ o. slice_get (v.later.now ++ option_to_list o) place) e ∙ ap (slice_get (v.later.now ++ x ∷ [])) all ∙ get-append_end v.later.now x)
        ∙ ap (bytes_with x start) (sym s.at) ∙ sym w

    pub last-within : place + 1 ≤ length (later_in v)
    last-within = omega (arith, long)

    pub last-other : new ≢ wanted → (q : ℕ) → q ≤ length (later_in v) → bytes_after (take q (later_in v)) start v.bytes ≢ wanted
    last-other other q le e = go (split q place (omega (arith, le, long))) e
      where
        split : (q p : ℕ) → q ≤ p + 1 → (q < p + 1) ⊎ (q ≡ p + 1)
        split q p h = grind arith

        go : (q < place + 1) ⊎ (q ≡ place + 1) → bytes_after (take q (later_in v)) start v.bytes ≡ wanted → ⊥
        go (inl h) e = none-more v start place wanted bytes s ne q h e
        go (inr h) e = other (sym last-bytes ∙ ap (λ n. bytes_after (take n (later_in v)) start v.bytes) (sym h) ∙ e)
