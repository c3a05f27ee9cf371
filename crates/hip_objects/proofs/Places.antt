-- Where globals are, and which of them has a byte.
use Rattle.std.proofs.Common.{ℕ, zero, suc, ◌+◌, ◌<◌, ◌≤◌, ◌^◌, ◌≡◌, Bool, true, false, cond, nat_lt, List, [], ◌∷◌, ◌++◌, Some, drop, length, get_or, slice_index_or, append-nil, append_assoc, refl, sym, ap, ◌∙◌, arith, subst}
use Rattle.std.proofs.lemmas.List.{at_drop_more}
use mathlib.Core.Bool.{beq}
use Rattle.std.proofs.Math.ListN.{drop_of_length-le}
use Rattle.std.proofs.lemmas.Bool.{ltb-true, ltb-false}
use Rattle.std.specs.Int.{next_multiple_of}
use Rattle.std.specs.Prelude.{if◌then◌else◌}
use Rattle.hip_tree.specs.declared.program.Program.{Program}
use Rattle.hip_mem.specs.Memory.{range_contains}
use Rattle.hip_types.specs.Areas.{volatile_start}
use Rattle.hip_globals.specs.Laws.AddressLaws.{end_of-from}
use Rattle.hip_sound.specs.Laws.SpelledLaws.{spelled-divide}
use Rattle.hip_sound.specs.Sound.{IsSound}
use Rattle.hip_types.specs.Layout.{size_of}
use Rattle.hip_tree.specs.declared.program.GlobalVar.{GlobalVar}
use Rattle.hip_globals.specs.Addresses.{IsBase, end_of, start_of, is_persistent, address_in, global_start, same_truth}
use Rattle.hip_runs.specs.Found.Objects.{global_at, global_from}
use Rattle.hip_objects.specs.Globals.{AreLaid, number_at, place_of, places_from}
use Rattle.hip_objects.specs.declared.globals.GlobalRange.{GlobalRange}
use Rattle.hip_objects.proofs.Search.{contains-before, contains-past}

later : (b : Bool) (at : ℕ) (g : GlobalVar) → at ≤ (if b then global_start at g + size_of g.ty else at)
later true at g = omega arith
later false at g = omega arith

-- The globals do not end before the address from which they are laid.
end_of-ge : (kind : Bool) (at : ℕ) (gs : List GlobalVar) → at ≤ end_of kind at gs
end_of-ge kind at [] = omega arith
end_of-ge kind at (g ∷ gs) =
    let next = if same_truth g.persistent kind then global_start at g + size_of g.ty else at in
    omega (arith, later (same_truth g.persistent kind) at g, end_of-ge kind next gs)

-- ---- they lie in order

abbrev AllFrom : ℕ → List GlobalRange → Type 0
AllFrom at ps = (i : ℕ) (d : GlobalRange) → i < length ps → at ≤ (slice_index_or ps i d).start

from-cons : (at : ℕ) (p : GlobalRange) (ps : List GlobalRange) → at ≤ p.start → AllFrom at ps → AllFrom at (p ∷ ps)
from-cons at p ps first h zero d within = first
from-cons at p ps first h (suc i) d within = h i d (omega (arith, within))

from-lower : (at next : ℕ) (ps : List GlobalRange) → at ≤ next → AllFrom next ps → AllFrom at ps
from-lower at next ps low h i d within = let here = h i d within in omega (arith, low, here)

starts-from : (kind : Bool) (at n : ℕ) (gs : List GlobalVar) → AllFrom at (places_from kind at n gs)
starts-from kind at n [] = λ i d within. absurd (omega (arith, within))
starts-from kind at n (g ∷ gs) =
    go (same_truth g.persistent kind) (starts-from kind (global_start at g + size_of g.ty) (suc n) gs) (starts-from kind at (suc n) gs)
  where
    go : (b : Bool) → AllFrom (global_start at g + size_of g.ty) (places_from kind (global_start at g + size_of g.ty) (suc n) gs) → AllFrom at (places_from kind at (suc n) gs) →
        AllFrom at (cond b (place_of at g n ∷ places_from kind (global_start at g + size_of g.ty) (suc n) gs) (places_from kind at (suc n) gs))
    go true mine others = from-cons at (place_of at g n) _ (omega arith) (from-lower at (global_start at g + size_of g.ty) _ (omega arith) mine)
    go false mine others = others

laid-cons : (p : GlobalRange) (ps : List GlobalRange) → AllFrom (p.start + p.size) ps → AreLaid ps → AreLaid (p ∷ ps)
laid-cons p ps from laid = record { order = go }
  where
    go : (i j : ℕ) (d : GlobalRange) → i < j → j < length (p ∷ ps) → (slice_index_or (p ∷ ps) i d).start + (slice_index_or (p ∷ ps) i d).size ≤ (slice_index_or (p ∷ ps) j d).start
    go i zero d before within = absurd (omega (arith, before))
    go zero (suc j) d before within = from j d (omega (arith, within))
    go (suc i) (suc j) d before within = laid.order i j d (omega (arith, before)) (omega (arith, within))

pub are-laid : (kind : Bool) (at n : ℕ) (gs : List GlobalVar) → AreLaid (places_from kind at n gs)
are-laid kind at n [] = record { order = λ i j d before within. absurd (omega (arith, within)) }
are-laid kind at n (g ∷ gs) = go (same_truth g.persistent kind) (are-laid kind (global_start at g + size_of g.ty) (suc n) gs) (are-laid kind at (suc n) gs)
  where
    go : (b : Bool) → AreLaid (places_from kind (global_start at g + size_of g.ty) (suc n) gs) → AreLaid (places_from kind at (suc n) gs) →
        AreLaid (cond b (place_of at g n ∷ places_from kind (global_start at g + size_of g.ty) (suc n) gs) (places_from kind at (suc n) gs))
    go true mine others = laid-cons (place_of at g n) _ (starts-from kind (global_start at g + size_of g.ty) (suc n) gs) mine
    go false mine others = others

-- ---- the global that has a byte

-- From number n on, these are the globals that are left, the volatile ones laid from v on and the persistent ones
-- from p on.
pub record AreLeft (globals : List GlobalVar) (base n v p : ℕ) (gs : List GlobalVar) : Type 0 where
  pub at : (k : ℕ) → k < length gs → address_in globals base (n + k) ≡ (if is_persistent gs k then start_of true p gs k else start_of false v gs k)

next-left : (globals : List GlobalVar) (base n v p : ℕ) (g : GlobalVar) (gs : List GlobalVar) → AreLeft globals base n v p (g ∷ gs) →
    AreLeft globals base (suc n) (if same_truth g.persistent false then global_start v g + size_of g.ty else v) (if same_truth g.persistent true then global_start p g + size_of g.ty else p) gs
next-left globals base n v p g gs left = record {
  at = λ k within. ap (λ m. address_in globals base m) (let e : suc n + k ≡ n + suc k = omega arith in e) ∙ left.at (suc k) (omega (arith, within));
}

here-at : (globals : List GlobalVar) (base n v p : ℕ) (g : GlobalVar) (gs : List GlobalVar) → AreLeft globals base n v p (g ∷ gs) →
    address_in globals base n ≡ (if g.persistent then global_start p g else global_start v g)
here-at globals base n v p g gs left = ap (λ m. address_in globals base m) (let e : n ≡ n + 0 = omega arith in e) ∙ left.at 0 (omega arith)

-- An address before the persistent globals is in none of them: the search finds what it finds among the volatile ones.
pub volatile-found : (globals : List GlobalVar) (base a n v p : ℕ) (gs : List GlobalVar) → AreLeft globals base n v p gs → a < p →
    global_from globals base a n gs ≡ number_at a (places_from false v n gs)
volatile-found globals base a n v p [] left low = refl
volatile-found globals base a n v p (g ∷ gs) left low =
    ap (λ x. cond (range_contains x (size_of g.ty) a) (Some n) (global_from globals base a (suc n) gs)) (here-at globals base n v p g gs left)
    ∙ go g.persistent (volatile-found globals base a (suc n) _ _ gs (next-left globals base n v p g gs left) (let up = later (same_truth g.persistent true) p g in omega (arith, low, up)))
  where
    go : (b : Bool) →
        global_from globals base a (suc n) gs ≡ number_at a (places_from false (if same_truth b false then global_start v g + size_of g.ty else v) (suc n) gs) →
        cond (range_contains (if b then global_start p g else global_start v g) (size_of g.ty) a) (Some n) (global_from globals base a (suc n) gs)
        ≡ number_at a (cond (same_truth b false) (place_of v g n ∷ places_from false (global_start v g + size_of g.ty) (suc n) gs) (places_from false v (suc n) gs))
    go true e = ap (λ c. cond c (Some n) (global_from globals base a (suc n) gs)) (contains-before (global_start p g) (size_of g.ty) a (omega (arith, low))) ∙ e
    go false e = ap (λ x. cond (range_contains (global_start v g) (size_of g.ty) a) (Some n) x) e

-- An address at or after the end of the volatile globals is in none of them: the search finds what it finds among the
-- persistent ones.
pub persistent-found : (globals : List GlobalVar) (base a n v p : ℕ) (gs : List GlobalVar) → AreLeft globals base n v p gs → end_of false v gs ≤ a →
    global_from globals base a n gs ≡ number_at a (places_from true p n gs)
persistent-found globals base a n v p [] left high = refl
persistent-found globals base a n v p (g ∷ gs) left high =
    ap (λ x. cond (range_contains x (size_of g.ty) a) (Some n) (global_from globals base a (suc n) gs)) (here-at globals base n v p g gs left)
    ∙ go g.persistent high (persistent-found globals base a (suc n) _ _ gs (next-left globals base n v p g gs left) high)
  where
    go : (b : Bool) → end_of false (if same_truth b false then global_start v g + size_of g.ty else v) gs ≤ a →
        global_from globals base a (suc n) gs ≡ number_at a (places_from true (if same_truth b true then global_start p g + size_of g.ty else p) (suc n) gs) →
        cond (range_contains (if b then global_start p g else global_start v g) (size_of g.ty) a) (Some n) (global_from globals base a (suc n) gs)
        ≡ number_at a (cond (same_truth b true) (place_of p g n ∷ places_from true (global_start p g + size_of g.ty) (suc n) gs) (places_from true p (suc n) gs))
    go true end e = ap (λ x. cond (range_contains (global_start p g) (size_of g.ty) a) (Some n) x) e
    go false end e = ap (λ c. cond c (Some n) (global_from globals base a (suc n) gs))
        (contains-past (global_start v g) (size_of g.ty) a (let up = end_of-ge false (global_start v g + size_of g.ty) gs in omega (arith, end, up))) ∙ e

-- ---- the loop over the globals

-- The first i globals are laid, and the others are laid from `at` on.
pub record IsPlaced (kind : Bool) (start : ℕ) (gs : List GlobalVar) (i at : ℕ) (ps : List GlobalRange) : Type 0 where
  pub all : ps ++ places_from kind at i (drop i gs) ≡ places_from kind start 0 gs
  pub end : end_of kind at (drop i gs) ≡ end_of kind start gs

module _ {kind : Bool} {start : ℕ} {gs : List GlobalVar} {i at : ℕ} {ps : List GlobalRange} (placed : IsPlaced kind start gs i at ps) (g : GlobalVar) (within : i < length gs) (here : g ≡ get_or gs i g) where
  next : drop i gs ≡ g ∷ drop (suc i) gs
  next =
      at_drop_more (λ ys. ys) gs i g within ∙ ap (λ (x : GlobalVar). x ∷ drop (i + 1) gs) (sym here)
      ∙ ap (λ k. g ∷ drop k gs) (let e : i + 1 ≡ suc i = omega arith in e)

  pub ends-within : same_truth g.persistent kind ≡ true → global_start at g + size_of g.ty ≤ end_of kind start gs
  ends-within is =
      let rest : end_of kind at (drop i gs) ≡ end_of kind (global_start at g + size_of g.ty) (drop (suc i) gs) =
      ap (λ l. end_of kind at l) next ∙ ap (λ b. end_of kind (if b then global_start at g + size_of g.ty else at) (drop (suc i) gs)) is in
      omega (arith, rest, placed.end, end_of-ge kind (global_start at g + size_of g.ty) (drop (suc i) gs))

  counted : suc i ≡ i + 1
  counted = omega arith

  pub one-laid : same_truth g.persistent kind ≡ true → IsPlaced kind start gs (i + 1) (global_start at g + size_of g.ty) (ps ++ place_of at g i ∷ [])
  one-laid is = subst (λ k. IsPlaced kind start gs k (global_start at g + size_of g.ty) (ps ++ place_of at g i ∷ [])) counted (record {
    all = append_assoc ps (place_of at g i ∷ []) (places_from kind (global_start at g + size_of g.ty) (suc i) (drop (suc i) gs))
        ∙ ap (λ l. ps ++ l) (sym (ap (λ l. places_from kind at i l) next
        ∙ ap (λ b. cond b (place_of at g i ∷ places_from kind (global_start at g + size_of g.ty) (suc i) (drop (suc i) gs)) (places_from kind at (suc i) (drop (suc i) gs))) is))
        ∙ placed.all;
    end = sym (ap (λ l. end_of kind at l) next ∙ ap (λ b. end_of kind (if b then global_start at g + size_of g.ty else at) (drop (suc i) gs)) is) ∙ placed.end;
  })

  pub one-left-out : same_truth g.persistent kind ≡ false → IsPlaced kind start gs (i + 1) at ps
  one-left-out is = subst (λ k. IsPlaced kind start gs k at ps) counted (record {
    all = ap (λ l. ps ++ l) (sym (ap (λ l. places_from kind at i l) next
        ∙ ap (λ b. cond b (place_of at g i ∷ places_from kind (global_start at g + size_of g.ty) (suc i) (drop (suc i) gs)) (places_from kind at (suc i) (drop (suc i) gs))) is))
        ∙ placed.all;
    end = sym (ap (λ l. end_of kind at l) next ∙ ap (λ b. end_of kind (if b then global_start at g + size_of g.ty else at) (drop (suc i) gs)) is) ∙ placed.end;
  })

pub same-true : (b c : Bool) → beq b c ≡ true → same_truth b c ≡ true
same-true true true e = refl
same-true true false e = cc
same-true false true e = cc
same-true false false e = refl

pub same-false : (b c : Bool) → beq b c ≡ false → same_truth b c ≡ false
same-false true true e = cc
same-false true false e = refl
same-false false true e = refl
same-false false false e = cc

-- ---- a program's globals

pub none-left : {kind : Bool} {start : ℕ} {gs : List GlobalVar} {i at : ℕ} {ps : List GlobalRange} → IsPlaced kind start gs i at ps → length gs ≤ i → ps ≡ places_from kind start 0 gs
none-left {kind} {start} {gs} {i} {at} {ps} placed past =
    sym (append-nil ps) ∙ ap (λ l. ps ++ places_from kind at i l) (sym (drop_of_length-le gs past)) ∙ placed.all

pub all-left : (globals : List GlobalVar) (base : ℕ) → AreLeft globals base 0 volatile_start base globals
all-left globals base = record { at = λ k within. ap (λ n. address_in globals base n) (let e : 0 + k ≡ k = omega arith in e) }

rounded-up : (n : ℕ) → n ≤ next_multiple_of n 64
rounded-up n = omega arith

pub persistent-end : (P : Program) (base : ℕ) → IsSound P → IsBase base → end_of true base P.globals < 2 ^ 64
persistent-end P base sound is =
    let moved : end_of true (base + 0) P.globals ≡ base + end_of true 0 P.globals = end_of-from true base 0 P.globals is.page (spelled-divide P sound.spelled) in
    let zero_more : end_of true (base + 0) P.globals ≡ end_of true base P.globals = ap (λ n. end_of true n P.globals) (let e : base + 0 ≡ base = omega arith in e) in
    omega (arith, moved, zero_more, rounded-up (end_of true 0 P.globals), sound.sizes.region, is.high)

pub volatile-end : (P : Program) (base : ℕ) → IsSound P → IsBase base → end_of false volatile_start P.globals ≤ base
volatile-end P base sound is = omega (arith, sound.sizes.volatile, is.low)

pub found : (P : Program) (base : ℕ) → IsSound P → IsBase base → (a : ℕ) →
    cond (nat_lt a base) (number_at a (places_from false volatile_start 0 P.globals)) (number_at a (places_from true base 0 P.globals)) ≡ global_at P base a
found P base sound is a = go (nat_lt a base) refl
  where
    go : (b : Bool) → nat_lt a base ≡ b → cond b (number_at a (places_from false volatile_start 0 P.globals)) (number_at a (places_from true base 0 P.globals)) ≡ global_at P base a
    go true low = sym (volatile-found P.globals base a 0 volatile_start base P.globals (all-left P.globals base) (ltb-true a base low))
    go false high = sym (persistent-found P.globals base a 0 volatile_start base P.globals (all-left P.globals base)
        (let end = volatile-end P base sound is in let at = ltb-false a base high in omega (arith, end, at)))
