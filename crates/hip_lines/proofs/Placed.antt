-- Queues by their places.
use Rattle.std.proofs.Common.{◌≡◌, ◌≢◌, ◌⊎◌, inl, inr, ℕ, zero, suc, ◌+◌, ◌-◌, ◌<◌, ◌≤◌, ◌==◌, Bool, true, false, not, cond, Result, Ok, Err, OnOk, IfOk, List, [], ◌∷◌, ◌++◌, length, slice_get, slice_set, get_or, Option, Some, None, IsSome, refl, sym, ap, ◌∙◌, subst, arith}
use Rattle.std.proofs.lemmas.Bool.Decides.{nat_tests}
use Rattle.std.proofs.lemmas.List.{length-set}
use Rattle.std.proofs.lemmas.Option.{slice_get-get_or}
use Rattle.hip_lines.specs.Laws.ItemLaws.{equal_or_not, some_same, get-set_same, get-set_other, get-there, get-push_other, on_ok_map}
use Rattle.hip_directory.specs.declared.directory.Directory.{Directory}
use Rattle.hip_directory.specs.Directories.{number_at}
use Rattle.hip_lines.specs.Laws.LooseLaws.{get-append_end}
use Rattle.hip_lines.specs.declared.part.Part.{Part}
use Rattle.hip_lines.specs.declared.queue.Queue.{Queue}
use Rattle.hip_lines.specs.declared.queues.Queues.{Queues}
use Rattle.hip_lines.specs.Pending.{Pending, none_pending, pending_fenced}
use Rattle.hip_lines.specs.Queues.{pending_in, QueueHasRoom}
use Rattle.hip_lines.specs.Places.{at_place, queue_in, QueuesArePlaced, KeepsOthers, ChangesPlace, IsFreshAt, IsFresh}
use Rattle.hip_lines.specs.Kept.{queue_at, count_of, pending_by, pending_at, HasRoomBy, HasRoomAt, AreBelow, ChangesLine, GivesQueue}

none_some : {A : Type 0} (x : A) (o : Option A) → o ≡ None → o ≡ Some x → ⊥
none_some x o e f = let z : ⊥ = cc in z

-- ---- lists of queues

pub changes-set : (f : Pending Part → Pending Part) (qs : List Queue) (place : ℕ) (q r : Queue) → place < length qs → slice_get qs place ≡ Some q → r.line ≡ q.line → pending_in r ≡ f (pending_in q) → ChangesPlace f place qs (slice_set qs place r)
changes-set f qs place q r lt e l p = record {
  others = λ k ne. get-set_other qs place k r ne;
  count = length-set qs place r;
  here = λ q' e'. let s : q ≡ q' = some_same q q' (sym e ∙ e') in (r, get-set_same qs place r lt, l ∙ ap (λ (x : Queue). x.line) s, p ∙ ap (λ (x : Queue). f (pending_in x)) s);
}

pub set-here : (qs : List Queue) (place : ℕ) (q r : Queue) → place < length qs → slice_get (slice_set qs place q) place ≡ Some r → q ≡ r
set-here qs place q r lt e = some_same q r (sym (get-set_same qs place q lt) ∙ e)

pub keeps-set : (qs : List Queue) (place : ℕ) (q : Queue) → KeepsOthers place qs (slice_set qs place q)
keeps-set qs place q = record { others = λ k ne. get-set_other qs place k q ne; least = omega (arith, length-set qs place q); most = omega (arith, length-set qs place q) }

pub fresh-set : (n : ℕ) (qs : List Queue) (place : ℕ) (q : Queue) → place < length qs → q.line ≡ n → pending_in q ≡ none_pending → QueueHasRoom q → IsFreshAt n place (slice_set qs place q)
fresh-set n qs place q lt l p r = record { queue = q; at = get-set_same qs place q lt; numbered = l; empty = p; room = r }

pub keeps-push : (qs : List Queue) (q : Queue) → KeepsOthers (length qs) qs (qs ++ q ∷ [])
keeps-push qs q = record { others = λ k ne. get-push_other qs k q ne; least = omega (arith, len qs); most = omega (arith, len qs) }
  where
    len : (qs : List Queue) → length (qs ++ q ∷ []) ≡ length qs + 1
    len [] = refl
    len (x ∷ qs) = omega (arith, len qs)

pub fresh-push : (n : ℕ) (qs : List Queue) (q : Queue) → q.line ≡ n → pending_in q ≡ none_pending → QueueHasRoom q → IsFreshAt n (length qs) (qs ++ q ∷ [])
fresh-push n qs q l p r = record { queue = q; at = get-append_end qs q; numbered = l; empty = p; room = r }

pub item-is : (qs : List Queue) (place : ℕ) (q r : Queue) → slice_get qs place ≡ Some q → slice_get qs place ≡ Some r → q ≡ r
item-is qs place q r e f = some_same q r (sym e ∙ f)

pub nothing-left : (q r : Queue) (b : Bool) → q ≡ r → (b ≡ true → pending_in q ≡ none_pending) → b ≡ true → pending_in r ≡ none_pending
nothing-left q r b e f g = subst (λ (x : Queue). pending_in x ≡ none_pending) e (f g)

pub not-equal : (a b : ℕ) → not (a == b) ≡ true → a ≢ b
not-equal a b e = grind (arith, nat_tests)

-- ---- the queue of a line

-- A place that is counted from 1.
pub at-counted : (qs : List Queue) (n : ℕ) → 0 < n → at_place qs n ≡ slice_get qs (n - 1)
at-counted qs zero h = absurd (omega arith)
at-counted qs (suc n) h = ap (slice_get qs) (let e : n ≡ suc n - 1 = omega arith in e)

pub at-same : (qs qs' : List Queue) (n : ℕ) → ((k : ℕ) → suc k ≡ n → slice_get qs' k ≡ slice_get qs k) → at_place qs' n ≡ at_place qs n
at-same qs qs' zero h = refl
at-same qs qs' (suc n) h = h n refl

-- The place of a line that has a queue.
pub has-place : (d : Directory) (qs : List Queue) (j : ℕ) → IsSome (queue_in d qs j) → 0 < number_at d j
has-place d qs j s = go (number_at d j) refl s
  where
    go : (n : ℕ) → number_at d j ≡ n → IsSome (at_place qs n) → 0 < number_at d j
    go zero e s = absurd (let z : ⊥ = cc in z)
    go (suc n) e s = omega (arith, e)

pub no-place : (d : Directory) (qs : List Queue) (j : ℕ) → number_at d j ≡ 0 → queue_in d qs j ≡ None
no-place d qs j e = ap (at_place qs) e

-- A line with a place has a queue there.
pub there : (d : Directory) (qs : List Queue) (j : ℕ) → QueuesArePlaced d qs → 0 < number_at d j → (q : Queue) × (slice_get qs (number_at d j - 1) ≡ Some q) × (queue_in d qs j ≡ Some q) × (q.line ≡ j)
there d qs j h p =
    let g = get-there qs (number_at d j - 1) (omega (arith, p, h.within j)) in
    let e : queue_in d qs j ≡ Some g.0 = at-counted qs (number_at d j) p ∙ g.1 in
    (g.0, g.1, e, h.numbered j g.0 e)

pub some-place : (m : Queues) (j : ℕ) → IsSome (queue_at m j) → 0 < number_at m.directory j
unfolding queue_at
some-place m j s = has-place m.directory m.queues.items j s

pub room-place : (m : Queues) (j : ℕ) → HasRoomAt m j → 0 < number_at m.directory j
room-place m j r = some-place m j (some (queue_at m j) r)
  where
    some : (o : Option Queue) → HasRoomBy o → IsSome o
    some None r = absurd r
    some (Some q) r = refl

pub some-number : (d : Directory) (j n : ℕ) → n ≡ number_at d j → n ≢ 0 → 0 < number_at d j
some-number d j n e ne = omega (arith, e, ne)

-- The queue at one place is changed.
module _ (f : Pending Part → Pending Part) (d : Directory) (qs qs' : List Queue) (line : ℕ) (h : QueuesArePlaced d qs) (p : 0 < number_at d line) (c : ChangesPlace f (number_at d line - 1) qs qs') where
  -- No other line has that place.
  pub other-place : (j : ℕ) → j ≢ line → number_at d j ≢ number_at d line
  other-place j ne e =
      let t = there d qs line h p in
      ne (sym (h.numbered j t.0 (ap (at_place qs) e ∙ t.2)) ∙ t.3)

  pub other-queue : (j : ℕ) → j ≢ line → queue_in d qs' j ≡ queue_in d qs j
  other-queue j ne = at-same qs qs' (number_at d j) (λ k e. c.others k (λ z. other-place j ne (omega (arith, e, z, p))))

  pub changed-queue : (r : Queue) × (queue_in d qs' line ≡ Some r) × (r.line ≡ line) × (pending_in r ≡ f (pending_by (queue_in d qs line)))
  changed-queue =
      let t = there d qs line h p in
      let x = c.here t.0 t.1 in
      (x.0, at-counted qs' (number_at d line) p ∙ x.1, x.2 ∙ t.3, x.3 ∙ ap (λ o. f (pending_by o)) (sym t.2))

  pub placed-changed : QueuesArePlaced d qs'
  placed-changed = record { within = λ j. omega (arith, c.count, h.within j); numbered = λ j q e. go j q e (equal_or_not j line) }
    where
      go : (j : ℕ) (q : Queue) → queue_in d qs' j ≡ Some q → (((j == line) ≡ true) × (j ≡ line)) ⊎ (((j == line) ≡ false) × (j ≢ line)) → q.line ≡ j
      go j q e (inl x) =
          let r = changed-queue in
          ap (λ (y : Queue). y.line) (some_same q r.0 (sym e ∙ ap (λ i. queue_in d qs' i) x.1 ∙ r.1)) ∙ r.2 ∙ sym x.1
      go j q e (inr x) = h.numbered j q (sym (other-queue j x.1) ∙ e)

-- If the queue at the place of a line changes, that line changes.
pub changes-line : (f : Pending Part → Pending Part) (m m' : Queues) (line : ℕ) → m'.directory ≡ m.directory → 0 < number_at m.directory line → ChangesPlace f (number_at m.directory line - 1) m.queues.items m'.queues.items → ChangesLine f line m m'
unfolding queue_at count_of
changes-line f m m' line d p c = record {
  here = ap (λ x. pending_by (queue_in x m'.queues.items line)) d ∙ ap pending_by r.1 ∙ r.3;
  others = λ j ne. others j ne;
  below = λ n b j s. below n b j s (equal_or_not j line);
  count = c.count;
}
  where
    r : (r : Queue) × (queue_in m.directory m'.queues.items line ≡ Some r) × (r.line ≡ line) × (pending_in r ≡ f (pending_by (queue_in m.directory m.queues.items line)))
    r = changed-queue f m.directory m.queues.items m'.queues.items line m.placed p c

    others : (j : ℕ) → j ≢ line → queue_in m'.directory m'.queues.items j ≡ queue_in m.directory m.queues.items j
    others j ne = ap (λ x. queue_in x m'.queues.items j) d ∙ other-queue f m.directory m.queues.items m'.queues.items line m.placed p c j ne

    below : (n : ℕ) → ((j : ℕ) → IsSome (queue_in m.directory m.queues.items j) → j < n) → (j : ℕ) → IsSome (queue_in m'.directory m'.queues.items j) → (((j == line) ≡ true) × (j ≡ line)) ⊎ (((j == line) ≡ false) × (j ≢ line)) → j < n
    below n b j s (inl x) = subst (λ i. i < n) (sym x.1) (b line (subst IsSome (sym (there m.directory m.queues.items line m.placed p).2) refl))
    below n b j s (inr x) = b j (subst IsSome (others j x.1) s)

-- If a change of the queue at a line's place keeps the pending parts, the line has room if that queue has room.
module _ (m m' : Queues) (line : ℕ) (d : m'.directory ≡ m.directory) (p : 0 < number_at m.directory line) (n : ℕ) (e : n ≡ number_at m.directory line) (c : ChangesPlace (λ w. w) (n - 1) m.queues.items m'.queues.items) where
  old_there : (q : Queue) × (slice_get m.queues.items (n - 1) ≡ Some q) × (queue_in m.directory m.queues.items line ≡ Some q)
  old_there = let t = there m.directory m.queues.items line m.placed p in (t.0, ap (λ k. slice_get m.queues.items (k - 1)) e ∙ t.1, t.2)

  new_there : (r : Queue) × (slice_get m'.queues.items (n - 1) ≡ Some r) × (queue_in m'.directory m'.queues.items line ≡ Some r)
  new_there =
      let x = c.here old_there.0 old_there.1 in
      (x.0, x.1, ap (λ y. queue_in y m'.queues.items line) d ∙ at-counted m'.queues.items (number_at m.directory line) p ∙ ap (λ k. slice_get m'.queues.items (k - 1)) (sym e) ∙ x.1)

  pub room-changed : ((q r : Queue) → slice_get m.queues.items (n - 1) ≡ Some q → slice_get m'.queues.items (n - 1) ≡ Some r → QueueHasRoom q → QueueHasRoom r) → HasRoomAt m line → HasRoomAt m' line
  unfolding queue_at
  room-changed k h = subst HasRoomBy (sym new_there.2) (k old_there.0 new_there.0 old_there.1 new_there.1 (subst HasRoomBy old_there.2 h))

  new-room : ((r : Queue) → slice_get m'.queues.items (n - 1) ≡ Some r → QueueHasRoom r) → HasRoomAt m' line
  unfolding queue_at
  new-room k = subst HasRoomBy (sym new_there.2) (k new_there.0 new_there.1)

pub room-made : {A E : Type 0} (x : Result A E) (m m' : Queues) (line : ℕ) → m'.directory ≡ m.directory → 0 < number_at m.directory line → (n : ℕ) → n ≡ number_at m.directory line → ChangesPlace (λ w. w) (n - 1) m.queues.items m'.queues.items → OnOk x ((r : Queue) → slice_get m'.queues.items (n - 1) ≡ Some r → QueueHasRoom r) → OnOk x (HasRoomAt m' line)
room-made x m m' line d p n e c k = on_ok_map x (new-room m m' line d p n e c) k

-- ---- a queue is given back

module _ (d d' : Directory) (qs : List Queue) (line : ℕ) (s : (j : ℕ) → number_at d' j ≡ cond (j == line) 0 (number_at d j)) where
  gone : (j : ℕ) → ((j ≡ line) × (number_at d' j ≡ 0)) ⊎ ((j ≢ line) × (number_at d' j ≡ number_at d j))
  gone j = go (equal_or_not j line)
    where
      go : (((j == line) ≡ true) × (j ≡ line)) ⊎ (((j == line) ≡ false) × (j ≢ line)) → ((j ≡ line) × (number_at d' j ≡ 0)) ⊎ ((j ≢ line) × (number_at d' j ≡ number_at d j))
      go (inl x) = inl (x.1, s j ∙ ap (λ b. cond b 0 (number_at d j)) x.0)
      go (inr x) = inr (x.1, s j ∙ ap (λ b. cond b 0 (number_at d j)) x.0)

  pub gone-here : queue_in d' qs line ≡ None
  gone-here = go (gone line)
    where
      go : ((line ≡ line) × (number_at d' line ≡ 0)) ⊎ ((line ≢ line) × (number_at d' line ≡ number_at d line)) → queue_in d' qs line ≡ None
      go (inl x) = no-place d' qs line x.1
      go (inr x) = absurd (x.0 refl)

  pub gone-other : (j : ℕ) → j ≢ line → queue_in d' qs j ≡ queue_in d qs j
  gone-other j ne = go (gone j)
    where
      go : ((j ≡ line) × (number_at d' j ≡ 0)) ⊎ ((j ≢ line) × (number_at d' j ≡ number_at d j)) → queue_in d' qs j ≡ queue_in d qs j
      go (inl x) = absurd (ne x.0)
      go (inr x) = ap (at_place qs) x.1

  pub placed-gone : QueuesArePlaced d qs → QueuesArePlaced d' qs
  placed-gone h = record { within = λ j. within j (gone j); numbered = λ j q e. numbered j q e (gone j) }
    where
      within : (j : ℕ) → ((j ≡ line) × (number_at d' j ≡ 0)) ⊎ ((j ≢ line) × (number_at d' j ≡ number_at d j)) → number_at d' j ≤ length qs
      within j (inl x) = omega (arith, x.1)
      within j (inr x) = omega (arith, x.1, h.within j)

      numbered : (j : ℕ) (q : Queue) → queue_in d' qs j ≡ Some q → ((j ≡ line) × (number_at d' j ≡ 0)) ⊎ ((j ≢ line) × (number_at d' j ≡ number_at d j)) → q.line ≡ j
      numbered j q e (inl x) = absurd (none_some q (queue_in d' qs j) (no-place d' qs j x.1) e)
      numbered j q e (inr x) = h.numbered j q (sym (ap (at_place qs) x.1) ∙ e)

-- If a fence leaves no part of a line, the line may give its queue back.
pub fenced-away : (m m' : Queues) (qs : List Queue) (line : ℕ) → m'.queues.items ≡ qs → 0 < number_at m.directory line → ChangesPlace pending_fenced (number_at m.directory line - 1) m.queues.items qs → ((r : Queue) → slice_get qs (number_at m.directory line - 1) ≡ Some r → pending_in r ≡ none_pending) → ((j : ℕ) → number_at m'.directory j ≡ cond (j == line) 0 (number_at m.directory j)) → ChangesLine pending_fenced line m m'
unfolding queue_at count_of
fenced-away m m' qs line e p c empty s = record {
  here = ap pending_by (ap (λ xs. queue_in m'.directory xs line) e ∙ gone-here m.directory m'.directory qs line s) ∙ nothing;
  others = λ j ne. others j ne;
  below = λ n b j t. below n b j t (equal_or_not j line);
  count = ap length e ∙ c.count;
}
  where
    others : (j : ℕ) → j ≢ line → queue_in m'.directory m'.queues.items j ≡ queue_in m.directory m.queues.items j
    others j ne = ap (λ xs. queue_in m'.directory xs j) e ∙ gone-other m.directory m'.directory qs line s j ne ∙ other-queue pending_fenced m.directory m.queues.items qs line m.placed p c j ne

    below : (n : ℕ) → ((j : ℕ) → IsSome (queue_in m.directory m.queues.items j) → j < n) → (j : ℕ) → IsSome (queue_in m'.directory m'.queues.items j) → (((j == line) ≡ true) × (j ≡ line)) ⊎ (((j == line) ≡ false) × (j ≢ line)) → j < n
    below n b j t (inl x) = subst (λ i. i < n) (sym x.1) (b line (subst IsSome (sym (there m.directory m.queues.items line m.placed p).2) refl))
    below n b j t (inr x) = b j (subst IsSome (others j x.1) t)

    nothing : none_pending ≡ pending_fenced (pending_by (queue_in m.directory m.queues.items line))
    nothing =
        let r = changed-queue pending_fenced m.directory m.queues.items qs line m.placed p c in
        sym (empty r.0 (sym (at-counted qs (number_at m.directory line) p) ∙ r.1)) ∙ r.3

-- ---- a queue is given to a line

-- A place that no line has may change.
pub unused : (d : Directory) (place : ℕ) (qs qs' : List Queue) → ((j : ℕ) → number_at d j ≢ place + 1) → KeepsOthers place qs qs' → (j : ℕ) → queue_in d qs' j ≡ queue_in d qs j
unused d place qs qs' free k j = at-same qs qs' (number_at d j) (λ i e. k.others i (λ z. free j (omega (arith, e, z))))

pub placed-unused : (d : Directory) (place : ℕ) (qs qs' : List Queue) → ((j : ℕ) → number_at d j ≢ place + 1) → KeepsOthers place qs qs' → QueuesArePlaced d qs → QueuesArePlaced d qs'
placed-unused d place qs qs' free k h = record { within = λ j. omega (arith, h.within j, k.least); numbered = λ j q e. h.numbered j q (sym (unused d place qs qs' free k j) ∙ e) }

-- No line has a place after the last.
pub unused-end : (d : Directory) (qs : List Queue) → QueuesArePlaced d qs → (j : ℕ) → number_at d j ≢ length qs + 1
unused-end d qs h j e = omega (arith, e, h.within j)

-- A place is free if the line of its queue has another place.
pub unused-checked : (d : Directory) (qs : List Queue) (place : ℕ) (q : Queue) → QueuesArePlaced d qs → slice_get qs place ≡ Some q → number_at d q.line ≢ place + 1 → (j : ℕ) → number_at d j ≢ place + 1
unused-checked d qs place q h e ne j f =
    let i : 0 < number_at d j = omega (arith, f) in
    let k : number_at d j - 1 ≡ place = omega (arith, f) in
    let l : q.line ≡ j = h.numbered j q (at-counted qs (number_at d j) i ∙ ap (slice_get qs) k ∙ e) in
    ne (ap (number_at d) l ∙ f)

module _ (d d' : Directory) (qs : List Queue) (line p : ℕ) (s : (j : ℕ) → number_at d' j ≡ cond (j == line) p (number_at d j)) (f : IsFresh d line p qs) where
  given : (j : ℕ) → ((j ≡ line) × (number_at d' j ≡ p)) ⊎ ((j ≢ line) × (number_at d' j ≡ number_at d j))
  given j = go (equal_or_not j line)
    where
      go : (((j == line) ≡ true) × (j ≡ line)) ⊎ (((j == line) ≡ false) × (j ≢ line)) → ((j ≡ line) × (number_at d' j ≡ p)) ⊎ ((j ≢ line) × (number_at d' j ≡ number_at d j))
      go (inl x) = inl (x.1, s j ∙ ap (λ b. cond b p (number_at d j)) x.0)
      go (inr x) = inr (x.1, s j ∙ ap (λ b. cond b p (number_at d j)) x.0)

  pub given-here : queue_in d' qs line ≡ Some f.fresh.queue
  given-here = go (given line)
    where
      go : ((line ≡ line) × (number_at d' line ≡ p)) ⊎ ((line ≢ line) × (number_at d' line ≡ number_at d line)) → queue_in d' qs line ≡ Some f.fresh.queue
      go (inl x) = ap (at_place qs) x.1 ∙ at-counted qs p f.some ∙ f.fresh.at
      go (inr x) = absurd (x.0 refl)

  pub given-other : (j : ℕ) → j ≢ line → queue_in d' qs j ≡ queue_in d qs j
  given-other j ne = go (given j)
    where
      go : ((j ≡ line) × (number_at d' j ≡ p)) ⊎ ((j ≢ line) × (number_at d' j ≡ number_at d j)) → queue_in d' qs j ≡ queue_in d qs j
      go (inl x) = absurd (ne x.0)
      go (inr x) = ap (at_place qs) x.1

  pub placed-given : QueuesArePlaced d qs → QueuesArePlaced d' qs
  placed-given h = record { within = λ j. within j (given j); numbered = λ j q e. numbered j q e (given j) }
    where
      bound : (xs : List Queue) (i : ℕ) (q : Queue) → slice_get xs i ≡ Some q → i < length xs
      bound [] i q e = absurd (let z : ⊥ = cc in z)
      bound (x ∷ xs) zero q e = omega arith
      bound (x ∷ xs) (suc i) q e = omega (arith, bound xs i q e)

      within : (j : ℕ) → ((j ≡ line) × (number_at d' j ≡ p)) ⊎ ((j ≢ line) × (number_at d' j ≡ number_at d j)) → number_at d' j ≤ length qs
      within j (inl x) = omega (arith, x.1, f.some, bound qs (p - 1) f.fresh.queue f.fresh.at)
      within j (inr x) = omega (arith, x.1, h.within j)

      numbered : (j : ℕ) (q : Queue) → queue_in d' qs j ≡ Some q → ((j ≡ line) × (number_at d' j ≡ p)) ⊎ ((j ≢ line) × (number_at d' j ≡ number_at d j)) → q.line ≡ j
      numbered j q e (inl x) = ap (λ (y : Queue). y.line) (some_same q f.fresh.queue (sym e ∙ ap (λ i. queue_in d' qs i) x.0 ∙ given-here)) ∙ f.fresh.numbered ∙ sym x.0
      numbered j q e (inr x) = h.numbered j q (sym (ap (at_place qs) x.1) ∙ e)

pub same-numbers : (d d' : Directory) (qs : List Queue) → ((j : ℕ) → number_at d' j ≡ number_at d j) → (j : ℕ) → queue_in d' qs j ≡ queue_in d qs j
same-numbers d d' qs s j = ap (at_place qs) (s j)

pub placed-same : (d d' : Directory) (qs : List Queue) → ((j : ℕ) → number_at d' j ≡ number_at d j) → QueuesArePlaced d qs → QueuesArePlaced d' qs
placed-same d d' qs s h = record { within = λ j. omega (arith, s j, h.within j); numbered = λ j q e. h.numbered j q (sym (same-numbers d d' qs s j) ∙ e) }

pub fresh-from : {E : Type 0} (r : Result ℕ E) (d : Directory) (n place : ℕ) (qs : List Queue) → ((j : ℕ) → number_at d j ≢ place + 1) → IfOk r (λ p. (p ≡ place + 1) × IsFreshAt n place qs) → IfOk r (λ p. IsFresh d n p qs)
fresh-from (Err e) d n place qs free h = tt
fresh-from (Ok p) d n place qs free h = record { some = omega (arith, h.0); free = λ j e. free j (e ∙ h.0); fresh = subst (λ i. IsFreshAt n i qs) (let z : place ≡ p - 1 = omega (arith, h.0) in z) h.1 }

pub gives-queue : (m m' : Queues) (d : Directory) (line p : ℕ) → ((j : ℕ) → number_at d j ≡ number_at m.directory j) → ((j : ℕ) → number_at m'.directory j ≡ cond (j == line) p (number_at d j)) → IsFresh d line p m'.queues.items → ((j : ℕ) → queue_in d m'.queues.items j ≡ queue_in d m.queues.items j) → GivesQueue line m m'
unfolding queue_at
gives-queue m m' d line p numbers s f same = record {
  queue = f.fresh.queue;
  here = given-here d m'.directory m'.queues.items line p s f;
  empty = f.fresh.empty;
  room = f.fresh.room;
  others = λ j ne. given-other d m'.directory m'.queues.items line p s f j ne ∙ same j ∙ same-numbers m.directory d m.queues.items numbers j;
}
