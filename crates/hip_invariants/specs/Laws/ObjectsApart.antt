-- At most one object contains an address, and it is the object that the address points into.
use Rattle.std.proofs.Common.{◌≡◌, ⊎_elim, ℕ, zero, suc, ◌+◌, ◌≤◌, ◌<◌, Bool, true, false, cond, nat_le, nat_lt, List, [], ◌∷◌, ◌++◌, Some, None, slice_get, option_map, refl, sym, ap, ◌∙◌, subst, arith, leb-true, ltb-true}
use Rattle.std.specs.Prelude.{if◌then◌else◌}
use Rattle.std.proofs.lemmas.Bool.{and_parts, cases_order}
use Rattle.std.proofs.lemmas.Option.{same_Some}
use Rattle.hip_types.specs.Layout.{shape}
use Rattle.hip_tree.specs.declared.program.GlobalVar.{GlobalVar}
use Rattle.hip_tree.specs.declared.program.Program.{Program}
use Rattle.hip_mem.specs.Memory.{range_contains}
use Rattle.hip_types.specs.Areas.{volatile_start, stack_start, stack_end}
use Rattle.hip_globals.specs.Addresses.{IsBase, start_of, is_persistent, address}
use Rattle.hip_sound.specs.Sound.{IsSound}
use Rattle.hip_runs.specs.declared.event.Object.TheVariants as objects
use Rattle.hip_runs.specs.declared.input.Input.{Input}
use Rattle.hip_runs.specs.Found.Objects.{global_from, slot_in, or_else, slot_at}
use Rattle.hip_runs.specs.State.{Slot, Frame}
use Rattle.hip_runs.specs.Step.{run}
use Rattle.hip_runs.specs.Validity.{IsValid}
use Rattle.hip_invariants.specs.ObjectsApart.{slots_of, GlobalHas, SlotHas, ObjectsAreApart}
use Rattle.hip_invariants.specs.StackShape.{lie_between, lie_in_order}
use Rattle.hip_invariants.specs.Laws.GlobalAddresses.{ends_before_end, starts_after, one_after_another}
use Rattle.hip_invariants.specs.Laws.StackShape.{higher, lower, stack_is_shaped}

-- The address is one of the addresses of a range.
record IsInside (at size a : ℕ) : Type 0 where
  from : at ≤ a
  to : a < at + size

inside : (at size a : ℕ) → range_contains at size a ≡ true → IsInside at size a
inside at size a e =
    let parts = and_parts (nat_le at a) (nat_lt a (at + size)) e in
    record { from = leb-true at a parts.0; to = ltb-true a (at + size) parts.1 }

-- ---- globals

module _ (P : Program) (s : IsSound P) (base : ℕ) (is_base : IsBase base) where
  -- A persistent global begins at or after the base, and a volatile one ends at or below the stack's start.
  record LiesWithin (persistent : Bool) (at size : ℕ) : Type 0 where
    high : persistent ≡ true → base ≤ at
    low : persistent ≡ false → at + size ≤ stack_start

  address_is : (k : ℕ) (persistent : Bool) → is_persistent P.globals k ≡ persistent
      → address P base k ≡
      (if persistent then start_of true base P.globals k else start_of false volatile_start P.globals k)
  address_is k persistent e =
      ap (λ b. if b then start_of true base P.globals k else start_of false volatile_start P.globals k) e

  lies_within : (k : ℕ) (g : GlobalVar) → slice_get P.globals k ≡ Some g
      → LiesWithin (is_persistent P.globals k) (address P base k) (shape g.ty).size
  lies_within k g q = go (is_persistent P.globals k) refl
    where
      go : (b : Bool) → is_persistent P.globals k ≡ b
          → LiesWithin b (if b then start_of true base P.globals k else start_of false volatile_start P.globals k)
          (shape g.ty).size
      go true e = record { high = λ t. starts_after true base P.globals k g q; low = λ t. cc }
      go false e = record {
        high = λ t. cc;
        low =
            λ t. omega (arith, ends_before_end false volatile_start P.globals k g q e, s.sizes.volatile);
      }

  -- If one of two globals contains an address, a later global does not contain it.
  not_later : (j k a : ℕ) (g h : GlobalVar) → j < k → GlobalHas P base j g a → GlobalHas P base k h a → ⊥
  not_later j k a g h lt x y = go (is_persistent P.globals j) (is_persistent P.globals k) refl refl
      (lies_within j g x.0) (lies_within k h y.0) (inside _ _ a x.1) (inside _ _ a y.1)
    where
      go : (b c : Bool) → is_persistent P.globals j ≡ b → is_persistent P.globals k ≡ c
          → LiesWithin (is_persistent P.globals j) (address P base j) (shape g.ty).size
          → LiesWithin (is_persistent P.globals k) (address P base k) (shape h.ty).size →
          IsInside (address P base j) (shape g.ty).size a → IsInside (address P base k) (shape h.ty).size a → ⊥
      go true true d e p q x' y' =
          let first = address_is j true d in
          let second = address_is k true e in
          let ordered = one_after_another true base P.globals j k g h x.0 y.0 d lt in
          let z : ⊥ = omega (arith, first, second, ordered, x'.to, y'.from) in z
      go false false d e p q x' y' =
          let first = address_is j false d in
          let second = address_is k false e in
          let ordered = one_after_another false volatile_start P.globals j k g h x.0 y.0 d lt in
          let z : ⊥ = omega (arith, first, second, ordered, x'.to, y'.from) in z
      go true false d e p q x' y' = let z : ⊥ = omega (arith, p.high d, q.low e, is_base.low, x'.from, y'.to) in z
      go false true d e p q x' y' = let z : ⊥ = omega (arith, p.low d, q.high e, is_base.low, x'.to, y'.from) in z

  globals_apart : (j k a : ℕ) (g h : GlobalVar) → GlobalHas P base j g a → GlobalHas P base k h a → j ≡ k
  globals_apart j k a g h x y = ⊎_elim (λ e. e)
      (λ o. ⊎_elim (λ lt. absurd (not_later j k a g h lt x y)) (λ lt. absurd (not_later k j a h g lt y x)) o)
      (cases_order j k)

  -- ---- the global that is found

  global_search : (a : ℕ) (gs : List GlobalVar) (n k m : ℕ) (g : GlobalVar) → m ≡ n + k
      → slice_get gs k ≡ Some g → range_contains (address P base m) (shape g.ty).size a ≡ true →
      ((j l : ℕ) (h : GlobalVar) → l ≡ n + j → slice_get gs j ≡ Some h
      → range_contains (address P base l) (shape h.ty).size a ≡ true → l ≡ m)
      → global_from P.globals base a n gs ≡ Some m
  global_search a [] n k m g e q c only = cc
  global_search a (x ∷ gs) n zero m g e q c only =
      let same : n ≡ m = omega (arith, e) in
      let found : range_contains (address P base n) (shape x.ty).size a ≡ true =
      subst (λ i. range_contains (address P base i) (shape x.ty).size a ≡ true) (sym same)
      (subst (λ (y : GlobalVar). range_contains (address P base m) (shape y.ty).size a ≡ true)
      (sym (same_Some x g q)) c) in
      ap (λ b. cond b (Some n) (global_from P.globals base a (suc n) gs)) found ∙ ap Some same
  global_search a (x ∷ gs) n (suc k) m g e q c only =
      go (range_contains (address P base n) (shape x.ty).size a) refl
      (global_search a gs (suc n) k m g (omega (arith, e)) q c
      (λ j l h r there d. only (suc j) l h (omega (arith, r)) there d))
    where
      go : (b : Bool) → range_contains (address P base n) (shape x.ty).size a ≡ b
          → global_from P.globals base a (suc n) gs ≡ Some m
          → cond b (Some n) (global_from P.globals base a (suc n) gs) ≡ Some m
      go true d rest = ap Some (only 0 n x (omega arith) refl d)
      go false d rest = rest

  none_found : (a : ℕ) (gs : List GlobalVar) (n : ℕ)
      → ((j l : ℕ) (h : GlobalVar) → l ≡ n + j → slice_get gs j ≡ Some h
      → range_contains (address P base l) (shape h.ty).size a ≡ true → ⊥)
      → global_from P.globals base a n gs ≡ None
  none_found a [] n none = refl
  none_found a (x ∷ gs) n none =
      go (range_contains (address P base n) (shape x.ty).size a) refl
      (none_found a gs (suc n) (λ j l h r there d. none (suc j) l h (omega (arith, r)) there d))
    where
      go : (b : Bool) → range_contains (address P base n) (shape x.ty).size a ≡ b
          → global_from P.globals base a (suc n) gs ≡ None
          → cond b (Some n) (global_from P.globals base a (suc n) gs) ≡ None
      go true d rest = absurd (none 0 n x (omega arith) refl d)
      go false d rest = rest

  -- A global is found at its number.
  at_number : (j l : ℕ) (h : GlobalVar) → l ≡ 0 + j → slice_get P.globals j ≡ Some h
      → slice_get P.globals l ≡ Some h
  at_number j l h r q = let same : j ≡ l = omega (arith, r) in subst (λ i. slice_get P.globals i ≡ Some h) same q

  global_is_found : (k a : ℕ) (g : GlobalVar) → GlobalHas P base k g a
      → global_from P.globals base a 0 P.globals ≡ Some k
  global_is_found k a g x = global_search a P.globals 0 k k g (omega arith) x.0 x.1
      (λ j l h r q c. globals_apart l k a h g (at_number j l h r q, c) x)

-- ---- blocks of the stack

-- Two lists of blocks that are in order, one below the other, are in order as one list.
joined : (low middle high : ℕ) (xs ys : List Slot) → lie_between middle high xs → lie_between low middle ys
    → lie_between low high (xs ++ ys)
joined low middle high [] ys b c = higher low middle high ys b c
joined low middle high (x ∷ xs) ys b c = (b.0, joined low middle x.addr xs ys b.1 c)

all_between : (mark : ℕ) (fs : List Frame) → lie_in_order mark fs → lie_between stack_start mark (slots_of fs)
all_between mark [] o = o
all_between mark (f ∷ fs) o = joined stack_start f.mark mark f.slots (slots_of fs) o.0 (all_between f.mark fs o.1)

slot_within : (low high : ℕ) (xs : List Slot) (j : ℕ) (x : Slot) → lie_between low high xs
    → slice_get xs j ≡ Some x → (low ≤ x.addr) × (x.addr + x.size ≤ high)
slot_within low high [] j x b q = cc
slot_within low high (y ∷ xs) zero x b q =
    subst (λ (z : Slot). (low ≤ z.addr) × (z.addr + z.size ≤ high)) (same_Some y x q)
    (lower low y.addr xs b.1, b.0)
slot_within low high (y ∷ xs) (suc j) x b q = let rest = slot_within low y.addr xs j x b.1 q in
    (rest.0, omega (arith, rest.1, b.0))

-- Of two blocks, the later one in the list is below the earlier one.
slot_below : (low high : ℕ) (xs : List Slot) (j k : ℕ) (x y : Slot) → lie_between low high xs
    → slice_get xs j ≡ Some x → slice_get xs k ≡ Some y → j < k → y.addr + y.size ≤ x.addr
slot_below low high [] j k x y b q r lt = cc
slot_below low high (z ∷ xs) j zero x y b q r lt = absurd (let no : ⊥ = omega (arith, lt) in no)
slot_below low high (z ∷ xs) zero (suc k) x y b q r lt =
    subst (λ (v : Slot). y.addr + y.size ≤ v.addr) (same_Some z x q) (slot_within low z.addr xs k y b.1 r).1
slot_below low high (z ∷ xs) (suc j) (suc k) x y b q r lt =
    slot_below low z.addr xs j k x y b.1 q r (omega (arith, lt))

slot_in_both : (a : ℕ) (xs ys : List Slot) → slot_in (xs ++ ys) a ≡ or_else (slot_in xs a) (slot_in ys a)
slot_in_both a [] ys = refl
slot_in_both a (x ∷ xs) ys = go (range_contains x.addr x.size a) (slot_in_both a xs ys)
  where
    go : (b : Bool) → slot_in (xs ++ ys) a ≡ or_else (slot_in xs a) (slot_in ys a)
        → cond b (Some (objects.Slot x.site)) (slot_in (xs ++ ys) a)
        ≡ or_else (cond b (Some (objects.Slot x.site)) (slot_in xs a)) (slot_in ys a)
    go true rest = refl
    go false rest = rest

pub slot_at_all : (a : ℕ) (fs : List Frame) → slot_at fs a ≡ slot_in (slots_of fs) a
slot_at_all a [] = refl
slot_at_all a (f ∷ fs) = ap (or_else (slot_in f.slots a)) (slot_at_all a fs)
    ∙ sym (slot_in_both a f.slots (slots_of fs))

slot_search : (a : ℕ) (xs : List Slot) (j : ℕ) (x : Slot) → slice_get xs j ≡ Some x
    → range_contains x.addr x.size a ≡ true →
    ((i : ℕ) (y : Slot) → slice_get xs i ≡ Some y → range_contains y.addr y.size a ≡ true → i ≡ j)
    → slot_in xs a ≡ Some (objects.Slot x.site)
slot_search a [] j x q c only = cc
slot_search a (y ∷ xs) zero x q c only =
    subst (λ (z : Slot). slot_in (y ∷ xs) a ≡ Some (objects.Slot z.site)) (same_Some y x q)
    (ap (λ b. cond b (Some (objects.Slot y.site)) (slot_in xs a))
    (subst (λ (z : Slot). range_contains z.addr z.size a ≡ true) (sym (same_Some y x q)) c))
slot_search a (y ∷ xs) (suc j) x q c only =
    go (range_contains y.addr y.size a) refl (slot_search a xs j x q c
    (λ i z r d. let same : suc i ≡ suc j = only (suc i) z r d in omega (arith, same)))
  where
    go : (b : Bool) → range_contains y.addr y.size a ≡ b → slot_in xs a ≡ Some (objects.Slot x.site)
        → cond b (Some (objects.Slot y.site)) (slot_in xs a) ≡ Some (objects.Slot x.site)
    go true d rest = absurd (let same : 0 ≡ suc j = only 0 y refl d in let z : ⊥ = omega (arith, same) in z)
    go false d rest = rest

module _ (mark : ℕ) (fs : List Frame) (order : lie_in_order mark fs) where
  not_below : (j k a : ℕ) (x y : Slot) → j < k → SlotHas fs j x a → SlotHas fs k y a → ⊥
  not_below j k a x y lt p q =
      let below = slot_below stack_start mark (slots_of fs) j k x y (all_between mark fs order) p.0 q.0 lt in
      let z : ⊥ = omega (arith, below, (inside x.addr x.size a p.1).from, (inside y.addr y.size a q.1).to) in z

  slots_apart : (j k a : ℕ) (x y : Slot) → SlotHas fs j x a → SlotHas fs k y a → j ≡ k
  slots_apart j k a x y p q = ⊎_elim (λ e. e)
      (λ o. ⊎_elim (λ lt. absurd (not_below j k a x y lt p q)) (λ lt. absurd (not_below k j a y x lt q p)) o)
      (cases_order j k)

  module _ (within : mark ≤ stack_end) (P : Program) (s : IsSound P) (base : ℕ) (is_base : IsBase base) where
    kinds_apart : (j k a : ℕ) (g : GlobalVar) (x : Slot) → GlobalHas P base k g a → ¬ SlotHas fs j x a
    kinds_apart j k a g x p q = go (is_persistent P.globals k) refl (lies_within P s base is_base k g p.0)
      where
        global : IsInside (address P base k) (shape g.ty).size a
        global = inside (address P base k) (shape g.ty).size a p.1

        slot : IsInside x.addr x.size a
        slot = inside x.addr x.size a q.1

        lies : (stack_start ≤ x.addr) × (x.addr + x.size ≤ mark)
        lies = slot_within stack_start mark (slots_of fs) j x (all_between mark fs order) q.0

        go : (b : Bool) → is_persistent P.globals k ≡ b
            → LiesWithin P s base is_base (is_persistent P.globals k) (address P base k) (shape g.ty).size → ⊥
        go true e w = let z : ⊥ = omega (arith, w.high e, is_base.low, within, global.from, slot.to, lies.1) in z
        go false e w = let z : ⊥ = omega (arith, w.low e, global.to, slot.from, lies.0) in z

    pub are_apart : ObjectsAreApart P base fs
    are_apart = record {
      globals = λ j k a g h x y. globals_apart P s base is_base j k a g h x y;
      slots = λ j k a x y p q. slots_apart j k a x y p q;
      kinds = λ j k a g x p q. kinds_apart j k a g x p q;
      global_found = λ k a g x. ap (λ o. or_else (option_map objects.Global o) (slot_at fs a))
          (global_is_found P s base is_base k a g x);
      slot_found = λ j a x p.
          ap (λ o. or_else (option_map objects.Global o) (slot_at fs a))
          (none_found P s base is_base a P.globals 0
          (λ i l h r q c. kinds_apart j l a h x (at_number P s base is_base i l h r q, c) p))
          ∙ slot_at_all a fs ∙ slot_search a (slots_of fs) j x p.0 p.1 (λ i y q c. slots_apart i j a y x (q, c) p);
    }

pub objects_apart : (P : Program) → IsSound P → (I : Input) → IsValid P I → (n : ℕ)
    → ObjectsAreApart P I.base (run P I n).frames
objects_apart P s I valid n =
    let shaped = (stack_is_shaped P I n).is in
    are_apart (run P I n).world.mark (run P I n).frames shaped.in_order shaped.within P s I.base valid.base
