-- The list of the lines that hold flushed parts.
use Rattle.std.proofs.Common.{◌≡◌, ◌≢◌, ◌⊎◌, inl, inr, ℕ, zero, suc, ◌+◌, ◌-◌, ◌<◌, ◌≤◌, Bool, true, false, cond, nat_lt, ◌||◌, List, [], ◌∷◌, ◌++◌, length, take, slice_index, slice_get, Option, Some, None, IsSome, refl, sym, ap, ◌∙◌, subst, arith, length-append}
use Rattle.std.proofs.lemmas.Grind.{common_steps}
use Rattle.std.proofs.lemmas.Bool.Decides.{nat_tests}
use Rattle.std.proofs.lemmas.Cmp.{eq_by_cmp_equiv, nat_cmp_total}
use Rattle.std.proofs.lemmas.List.Folds.{list_any-append, list_any_more}
use Rattle.std.proofs.lemmas.Map.Keys.{IsDistinct-push}
use Rattle.std.proofs.lemmas.Map.Steps.{length-le_from_keys}
use Rattle.std.specs.List.{list_any, IsDistinct}
use Rattle.std.specs.Map.{lookup}
use Rattle.std.specs.Ordering.{nat_cmp, eq_by_cmp}
use Rattle.std.specs.BTreeMap.{is_at}
use Rattle.hip_lines.specs.declared.part.Part.{Part}
use Rattle.hip_directory.specs.Directories.{number_at}
use Rattle.hip_lines.specs.declared.queue.Queue.{Queue}
use Rattle.hip_lines.specs.declared.queues.Queues.{Queues}
use Rattle.hip_lines.specs.Pending.{Pending, pending_fenced}
use Rattle.hip_lines.specs.Kept.{queue_at, count_of, pending_by, pending_at, ListsFlushed, ChangesLine}
use Rattle.hip_lines.proofs.Placed.{has-place, there}

pub same_or_not : (j k : ℕ) → ((is_at (nat_cmp j) k ≡ true) × (j ≡ k)) ⊎ ((is_at (nat_cmp j) k ≡ false) × (j ≢ k))
same_or_not j k = grind (arith, common_steps)

pub some_flushed : (o : Option Queue) → nat_lt 0 (pending_by o).flushed ≡ true → IsSome o
some_flushed None e = absurd (let h : ⊥ = cc in h)
some_flushed (Some q) e = refl

-- The queues, each at its line.
abbrev by_line : List Queue → List (ℕ × Queue)
by_line [] = []
by_line (q ∷ qs) = (q.line, q) ∷ by_line qs

length-by_line : (qs : List Queue) → length (by_line qs) ≡ length qs
length-by_line [] = refl
length-by_line (q ∷ qs) = ap suc (length-by_line qs)

same_queue : (x y : Queue) → Some x ≡ Some y → y ≡ x
same_queue x y e = cc

found : (qs : List Queue) (k j : ℕ) (q : Queue) → slice_get qs k ≡ Some q → q.line ≡ j → IsSome (lookup (is_at (nat_cmp j)) (by_line qs))
found [] k j q e l = absurd (let z : ⊥ = cc in z)
found (x ∷ qs) zero j q e l = go (same_or_not j x.line)
  where
    go : ((is_at (nat_cmp j) x.line ≡ true) × (j ≡ x.line)) ⊎ ((is_at (nat_cmp j) x.line ≡ false) × (j ≢ x.line)) → IsSome (lookup (is_at (nat_cmp j)) ((x.line, x) ∷ by_line qs))
    go (inl y) = rw y.0 refl
    go (inr y) = absurd (y.1 (sym l ∙ ap (λ (r : Queue). r.line) (same_queue x q e)))
found (x ∷ qs) (suc k) j q e l = go (is_at (nat_cmp j) x.line) refl (found qs k j q e l)
  where
    go : (b : Bool) → is_at (nat_cmp j) x.line ≡ b → IsSome (lookup (is_at (nat_cmp j)) (by_line qs)) → IsSome (lookup (is_at (nat_cmp j)) ((x.line, x) ∷ by_line qs))
    go true y h = rw y refl
    go false y h = rw y h

found_at : (m : Queues) (j : ℕ) → IsSome (queue_at m j) → IsSome (lookup (is_at (nat_cmp j)) (by_line m.queues.items))
unfolding queue_at
found_at m j s =
    let t = there m.directory m.queues.items j m.placed (has-place m.directory m.queues.items j s) in
    found m.queues.items (number_at m.directory j - 1) j t.0 t.1 t.3

-- If each line of a list has a queue, there are at most as many lines in the list as there are queues.
few_lines : (lines : List ℕ) (m : Queues) → IsDistinct (eq_by_cmp nat_cmp) lines → ((q : ℕ) → list_any (eq_by_cmp nat_cmp q) lines ≡ true → IsSome (queue_at m q)) → length lines ≤ count_of m
unfolding count_of
few_lines lines m d h = omega (arith, length-by_line m.queues.items, length-le_from_keys (eq_by_cmp_equiv nat_cmp_total) lines (by_line m.queues.items) d (λ q e. found_at m q (h q e)))

pub length-listed : (lines : List ℕ) (m : Queues) → ListsFlushed lines m → length lines ≤ count_of m
length-listed lines m h = few_lines lines m h.distinct (λ q e. some_flushed (queue_at m q) (sym (h.listed q) ∙ e))

pub length-listed_more : (lines : List ℕ) (m : Queues) (j : ℕ) → ListsFlushed lines m → (pending_at m j).flushed ≡ 0 → IsSome (queue_at m j) → length lines < count_of m
length-listed_more lines m j h z s =
    omega (arith, length-append lines (j ∷ []), few_lines (lines ++ j ∷ []) m (IsDistinct-push (eq_by_cmp_equiv nat_cmp_total) lines j h.distinct (h.listed j ∙ ap (nat_lt 0) z)) has)
  where
    pick : (q : ℕ) (b : Bool) → list_any (is_at (nat_cmp q)) lines ≡ b → (b || (is_at (nat_cmp q) j || false)) ≡ true → ((is_at (nat_cmp q) j ≡ true) × (q ≡ j)) ⊎ ((is_at (nat_cmp q) j ≡ false) × (q ≢ j)) → IsSome (queue_at m q)
    pick q true a e x = some_flushed (queue_at m q) (sym (h.listed q) ∙ a)
    pick q false a e (inl x) = subst (λ k. IsSome (queue_at m k)) (sym x.1) s
    pick q false a e (inr x) = absurd (let f = x.0 in let n : (is_at (nat_cmp q) j || false) ≡ false = ap (λ b. b || false) f in let w : ⊥ = cc in w)

    has : (q : ℕ) → list_any (eq_by_cmp nat_cmp q) (lines ++ j ∷ []) ≡ true → IsSome (queue_at m q)
    has q e = pick q (list_any (is_at (nat_cmp q)) lines) refl (sym (list_any-append (is_at (nat_cmp q)) lines (j ∷ [])) ∙ e) (same_or_not q j)

-- One more line holds flushed parts.
pub listed-more : (lines : List ℕ) (m m' : Queues) (j : ℕ) → ListsFlushed lines m → (pending_at m j).flushed ≡ 0 → 0 < (pending_at m' j).flushed → ((q : ℕ) → q ≢ j → pending_at m' q ≡ pending_at m q) → ListsFlushed (lines ++ j ∷ []) m'
listed-more lines m m' j h z p o = record {
  distinct = IsDistinct-push (eq_by_cmp_equiv nat_cmp_total) lines j h.distinct (h.listed j ∙ ap (nat_lt 0) z);
  listed = λ q. list_any-append (is_at (nat_cmp q)) lines (j ∷ []) ∙ ap (λ b. b || (is_at (nat_cmp q) j || false)) (h.listed q) ∙ go q (same_or_not q j);
}
  where
    yes : (n : ℕ) → 0 < n → true ≡ nat_lt 0 n
    yes n p = grind (arith, nat_tests)

    or_true : (b : Bool) → (b || (true || false)) ≡ true
    or_true true = refl
    or_true false = refl

    or_false : (b : Bool) → (b || (false || false)) ≡ b
    or_false true = refl
    or_false false = refl

    go : (q : ℕ) → ((is_at (nat_cmp q) j ≡ true) × (q ≡ j)) ⊎ ((is_at (nat_cmp q) j ≡ false) × (q ≢ j)) → (nat_lt 0 (pending_at m q).flushed || (is_at (nat_cmp q) j || false)) ≡ nat_lt 0 (pending_at m' q).flushed
    go q (inl x) = ap (λ c. nat_lt 0 (pending_at m q).flushed || (c || false)) x.0 ∙ or_true (nat_lt 0 (pending_at m q).flushed) ∙ yes (pending_at m' j).flushed p ∙ ap (λ k. nat_lt 0 (pending_at m' k).flushed) (sym x.1)
    go q (inr x) = ap (λ c. nat_lt 0 (pending_at m q).flushed || (c || false)) x.0 ∙ or_false (nat_lt 0 (pending_at m q).flushed) ∙ ap (λ (w : Pending Part). nat_lt 0 w.flushed) (sym (o q x.1))

-- One more line is fenced.
pub fence_more : (lines : List ℕ) (i : ℕ) (old m m' : Queues) → i < length lines → ((j : ℕ) → pending_at m j ≡ cond (list_any (is_at (nat_cmp j)) (take i lines)) (pending_fenced (pending_at old j)) (pending_at old j)) → ChangesLine pending_fenced (slice_index lines i) m m' → (j : ℕ) → pending_at m' j ≡ cond (list_any (is_at (nat_cmp j)) (take (i + 1) lines)) (pending_fenced (pending_at old j)) (pending_at old j)
fence_more lines i old m m' lt h c j = go (same_or_not j (slice_index lines i)) ∙ ap (λ b. cond b (pending_fenced (pending_at old j)) (pending_at old j)) (sym (list_any_more (is_at (nat_cmp j)) lines i 0 lt))
  where
    twice : (b : Bool) → pending_fenced (cond b (pending_fenced (pending_at old j)) (pending_at old j)) ≡ cond (b || true) (pending_fenced (pending_at old j)) (pending_at old j)
    twice true = refl
    twice false = refl

    or_false : (b : Bool) → b ≡ (b || false)
    or_false true = refl
    or_false false = refl

    go : ((is_at (nat_cmp j) (slice_index lines i) ≡ true) × (j ≡ slice_index lines i)) ⊎ ((is_at (nat_cmp j) (slice_index lines i) ≡ false) × (j ≢ slice_index lines i)) → pending_at m' j ≡ cond (list_any (is_at (nat_cmp j)) (take i lines) || is_at (nat_cmp j) (slice_index lines i)) (pending_fenced (pending_at old j)) (pending_at old j)
    go (inl x) = ap (pending_at m') x.1 ∙ c.here ∙ ap (λ k. pending_fenced (pending_at m k)) (sym x.1) ∙ ap pending_fenced (h j) ∙ twice (list_any (is_at (nat_cmp j)) (take i lines)) ∙ ap (λ b. cond (list_any (is_at (nat_cmp j)) (take i lines) || b) (pending_fenced (pending_at old j)) (pending_at old j)) (sym x.0)
    go (inr x) = ap pending_by (c.others j x.1) ∙ h j ∙ ap (λ b. cond b (pending_fenced (pending_at old j)) (pending_at old j)) (or_false (list_any (is_at (nat_cmp j)) (take i lines)) ∙ ap (λ b. list_any (is_at (nat_cmp j)) (take i lines) || b) (sym x.0))
