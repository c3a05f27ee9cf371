-- What the calls on the queues do to the lines of a region.
use Rattle.std.proofs.Common.{◌≡◌, ◌≢◌, ◌⊎◌, inl, inr, ℕ, ◌/◌, ◌<◌, Bool, true, false, cond, nat_lt, ◌||◌, rules, List, [], ◌∷◌, length, Option, Some, None, IsSome, OnErr, Result, Ok, Err, refl, sym, ap, ◌∙◌, subst, arith}
use Rattle.std.proofs.lemmas.Bool.Decides.{nat_tests}
use Rattle.std.specs.List.{list_any, IsDistinct}
use Rattle.std.specs.Ordering.{nat_cmp, eq_by_cmp}
use Rattle.std.specs.BTreeMap.{is_at}
use Rattle.hip_lines.specs.declared.part.Part.{Part}
use Rattle.hip_lines.specs.declared.queue.Queue.{Queue}
use Rattle.hip_lines.specs.declared.queues.Queues.{Queues}
use Rattle.hip_lines.specs.Line.{has_bytes}
use Rattle.hip_lines.specs.Pending.{Pending, none_pending, pending_with, pending_flushed, pending_fenced}
use Rattle.hip_lines.specs.Parts.{part_in, pending_stored, pending_flushed_all, pending_fenced_all, none_pending_all}
use Rattle.hip_lines.specs.Kept.{queue_at, pending_by, pending_at, HasRoomAt, HasRoomFor, AreBelow, ListsFlushed, ChangesLine, FlushesLines, ChangesSome}
use Rattle.hip_lines.specs.Views.{lines_of}
use Rattle.hip_lines.proofs.Listed.{same_or_not, some_flushed}
use Rattle.hip_lines.proofs.Tables.{length-table_from, table_same, table_changed, table_mapped, table_replicated, table_at}

pub below-empty : (n : ℕ) (m : Queues) → ((j : ℕ) → queue_at m j ≡ None) → AreBelow n m
below-empty n m h j s = absurd (none_some (queue_at m j) (h j) s)
  where
    none_some : (o : Option Queue) → o ≡ None → IsSome o → ⊥
    none_some None e s = let z : ⊥ = cc in z
    none_some (Some q) e s = let z : ⊥ = cc in z

pub length-lines_of : (n : ℕ) (m : Queues) → length (lines_of n m) ≡ n
unfolding lines_of
length-lines_of n m = length-table_from (pending_at m) 0 n

pub held-length : (n : ℕ) (m : Queues) (ls : List (Pending Part)) → lines_of n m ≡ ls → length ls ≡ n
held-length n m ls e = ap length (sym e) ∙ length-lines_of n m

pub held-same_length : (n : ℕ) (m m' : Queues) (ls : List (Pending Part)) → lines_of n m ≡ ls → length (lines_of n m') ≡ length ls
held-same_length n m m' ls e = length-lines_of n m' ∙ sym (held-length n m ls e)

pub lines-same : (n : ℕ) (m m' : Queues) → ((j : ℕ) → pending_at m' j ≡ pending_at m j) → lines_of n m' ≡ lines_of n m
unfolding lines_of
lines-same n m m' h = table_same (pending_at m) (pending_at m') h 0 n

pub lines-empty : (n : ℕ) (m : Queues) → ((j : ℕ) → queue_at m j ≡ None) → lines_of n m ≡ none_pending_all n
unfolding lines_of none_pending_all
lines-empty n m e = table_replicated none_pending (pending_at m) (λ j. ap pending_by (e j)) 0 n

pub lines-stored : (o k t n : ℕ) (m m' : Queues) → ((j : ℕ) → pending_at m' j ≡ cond (has_bytes j o k) (pending_with (part_in o k t j) (pending_at m j)) (pending_at m j)) → lines_of n m' ≡ pending_stored o k t (lines_of n m)
unfolding lines_of
lines-stored o k t n m m' h = table_changed (λ j w. pending_with (part_in o k t j) w) o k (pending_at m) (pending_at m') h 0 n

pub lines-fenced : (n : ℕ) (m m' : Queues) → ((j : ℕ) → pending_at m' j ≡ pending_fenced (pending_at m j)) → lines_of n m' ≡ pending_fenced_all (lines_of n m)
unfolding lines_of
lines-fenced n m m' h = table_mapped pending_fenced (pending_at m) (pending_at m') h 0 n

-- The one line that a byte reaches.
here_or_not : (o j : ℕ) → ((has_bytes j o 1 ≡ true) × (j ≡ o / 64)) ⊎ ((has_bytes j o 1 ≡ false) × (j ≢ o / 64))
here_or_not o j = grind (arith, nat_tests)

pub lines-flushed : (o n : ℕ) (m m' : Queues) → ChangesLine pending_flushed (o / 64) m m' → lines_of n m' ≡ pending_flushed_all o 1 (lines_of n m)
unfolding lines_of
lines-flushed o n m m' c = table_changed (λ _ w. pending_flushed w) o 1 (pending_at m) (pending_at m') (λ j. go j (here_or_not o j)) 0 n
  where
    go : (j : ℕ) → ((has_bytes j o 1 ≡ true) × (j ≡ o / 64)) ⊎ ((has_bytes j o 1 ≡ false) × (j ≢ o / 64)) → pending_at m' j ≡ cond (has_bytes j o 1) (pending_flushed (pending_at m j)) (pending_at m j)
    go j (inl x) = ap (pending_at m') x.1 ∙ c.here ∙ ap (λ k. pending_flushed (pending_at m k)) (sym x.1) ∙ ap (λ b. cond b (pending_flushed (pending_at m j)) (pending_at m j)) (sym x.0)
    go j (inr x) = ap pending_by (c.others j x.1) ∙ ap (λ b. cond b (pending_flushed (pending_at m j)) (pending_at m j)) (sym x.0)

-- Lines that are equal have equal pending parts.
pub lines-at : (n k : ℕ) (m m' : Queues) → k < n → lines_of n m' ≡ lines_of n m → pending_at m' k ≡ pending_at m k
unfolding lines_of
lines-at n k m m' h e = table_at (pending_at m) (pending_at m') n k h e

-- The list stays right if the parts of no line change.
pub listed-same : (lines lines' : List ℕ) (m m' : Queues) → lines' ≡ lines → ((j : ℕ) → pending_at m' j ≡ pending_at m j) → ListsFlushed lines m → ListsFlushed lines' m'
listed-same lines lines' m m' e h l = subst (λ (xs : List ℕ). ListsFlushed xs m') (sym e) (record { distinct = l.distinct; listed = λ j. l.listed j ∙ ap (λ (w : Pending Part). nat_lt 0 w.flushed) (sym (h j)) })

-- If the list is empty, no line holds a flushed part.
pub none_listed : (m : Queues) → ListsFlushed [] m → (j : ℕ) → pending_at m j ≡ pending_fenced (pending_at m j)
none_listed m l j = ap (λ k. record { parts = (pending_at m j).parts; flushed = k }) z ∙ ap (λ k. pending_fenced (record { parts = (pending_at m j).parts; flushed = k })) (sym z)
  where
    z : (pending_at m j).flushed ≡ 0
    z = let e = l.listed j in grind (arith, nat_tests)

pub none_listed-from_fenced : (m m' : Queues) → ((j : ℕ) → pending_at m' j ≡ pending_fenced (pending_at m j)) → (j : ℕ) → false ≡ nat_lt 0 (pending_at m' j).flushed
none_listed-from_fenced m m' h j = ap (λ (w : Pending Part). nat_lt 0 w.flushed) (sym (h j))

pub room-kept : (m m' : Queues) (r : Option (ℕ × ℕ)) → ((j : ℕ) → HasRoomAt m j → HasRoomAt m' j) → HasRoomFor m r → HasRoomFor m' r
room-kept m m' None k h = tt
room-kept m m' (Some (o, n)) k h = λ j b. k j (h j b)

pub on_err : {A E P : Type 0} (r : Result A E) → P → OnErr r P
on_err (Ok x) p = tt
on_err (Err e) p = p

pub listed-stored : (o k t : ℕ) (lines : List ℕ) (m m' : Queues) → ((j : ℕ) → pending_at m' j ≡ cond (has_bytes j o k) (pending_with (part_in o k t j) (pending_at m j)) (pending_at m j)) → ListsFlushed lines m → ListsFlushed lines m'
listed-stored o k t lines m m' h l = record { distinct = l.distinct; listed = λ j. l.listed j ∙ go j (has_bytes j o k) ∙ ap (λ (w : Pending Part). nat_lt 0 w.flushed) (sym (h j)) }
  where
    go : (j : ℕ) (b : Bool) → nat_lt 0 (pending_at m j).flushed ≡ nat_lt 0 (cond b (pending_with (part_in o k t j) (pending_at m j)) (pending_at m j)).flushed
    go j true = refl
    go j false = refl

pub none_distinct : IsDistinct (eq_by_cmp nat_cmp) []
unfolding IsDistinct
none_distinct = search rules

pub none_listed-empty : (lines : List ℕ) (m : Queues) → lines ≡ [] → ((j : ℕ) → queue_at m j ≡ None) → ListsFlushed lines m
none_listed-empty lines m e h = subst (λ (xs : List ℕ). ListsFlushed xs m) (sym e) (record { distinct = none_distinct; listed = λ j. ap (λ o. nat_lt 0 (pending_by o).flushed) (sym (h j)) })

pub listed-fenced : (lines : List ℕ) (m m' : Queues) → lines ≡ [] → ((j : ℕ) → pending_at m' j ≡ pending_fenced (pending_at m j)) → ListsFlushed lines m'
listed-fenced lines m m' e h = subst (λ (xs : List ℕ). ListsFlushed xs m') (sym e) (record { distinct = none_distinct; listed = λ j. none_listed-from_fenced m m' h j })

-- A fence with a line in the list changes that line.
pub fence-changes : (n : ℕ) (lines : List ℕ) (m m' : Queues) → ListsFlushed lines m → AreBelow n m → 0 < length lines → ((j : ℕ) → pending_at m' j ≡ pending_fenced (pending_at m j)) → lines_of n m' ≡ lines_of n m → ⊥
fence-changes n [] m m' l b h p e = absurd (omega arith)
fence-changes n (j ∷ js) m m' l b h p e =
    let f : 0 < (pending_at m j).flushed = below (pending_at m j).flushed (sym (l.listed j) ∙ first (same_or_not j j)) in
    let s : IsSome (queue_at m j) = some_flushed (queue_at m j) (sym (l.listed j) ∙ first (same_or_not j j)) in
    omega (arith, f, ap (λ (w : Pending Part). w.flushed) (sym (p j) ∙ lines-at n j m m' (b j s) e))
  where
    below : (k : ℕ) → nat_lt 0 k ≡ true → 0 < k
    below k e = grind (arith, nat_tests)

    first : ((is_at (nat_cmp j) j ≡ true) × (j ≡ j)) ⊎ ((is_at (nat_cmp j) j ≡ false) × (j ≢ j)) → list_any (is_at (nat_cmp j)) (j ∷ js) ≡ true
    first (inl x) = ap (λ c. c || list_any (is_at (nat_cmp j)) js) x.0
    first (inr x) = absurd (x.1 refl)

pub lines-flushed_all : (o k n : ℕ) (m m' : Queues) → FlushesLines o k m m' → lines_of n m' ≡ pending_flushed_all o k (lines_of n m)
unfolding lines_of
lines-flushed_all o k n m m' f = table_changed (λ _ w. pending_flushed w) o k (pending_at m) (pending_at m') f.pending 0 n

-- If the parts of some line change, the list of the lines of the region changes.
pub some-changes : (n : ℕ) (m m' : Queues) → ChangesSome m m' → AreBelow n m → lines_of n m' ≡ lines_of n m → ⊥
some-changes n m m' c b e = c.differs (lines-at n c.line m m' (b c.line c.there) e)
