-- Globals of a kind are one after another, between the start and the end of all of them.
use Rattle.std.proofs.Common.{◌≡◌, ℕ, zero, suc, ◌+◌, ◌≤◌, ◌<◌, Bool, true, false, List, [], ◌∷◌, Some, slice_get, refl, subst, arith}
use Rattle.std.specs.Prelude.{if◌then◌else◌}
use Rattle.std.proofs.lemmas.Option.{same_Some}
use Rattle.hip_types.specs.Layout.{shape}
use Rattle.hip_types.specs.Laws.LayoutLaws.{next-le}
use Rattle.hip_tree.specs.declared.program.GlobalVar.{GlobalVar}
use Rattle.hip_globals.specs.Addresses.{same_truth, global_align, global_start, end_of, start_of, is_persistent}

-- The end of a global that begins at the next multiple of its alignment from an address on.
abbrev end_from : ℕ → GlobalVar → ℕ
end_from at g = global_start at g + (shape g.ty).size

pub later_end : (persistent : Bool) (at : ℕ) (gs : List GlobalVar) → at ≤ end_of persistent at gs
later_end persistent at [] = omega arith
later_end persistent at (g ∷ gs) = go (same_truth g.persistent persistent) (λ n. later_end persistent n gs)
  where
    go : (t : Bool) → ((n : ℕ) → n ≤ end_of persistent n gs)
        → at ≤ end_of persistent (if t then end_from at g else at) gs
    go true rest = omega (arith, rest (end_from at g), next-le at (global_align g))
    go false rest = rest at

same_self : (b c : Bool) → b ≡ c → same_truth b c ≡ true
same_self true true e = refl
same_self false false e = refl
same_self true false e = cc
same_self false true e = cc

-- A global begins before the end of all of its kind.
pub start_before_end : (persistent : Bool) (at : ℕ) (gs : List GlobalVar) (k : ℕ)
    → is_persistent gs k ≡ persistent → start_of persistent at gs k ≤ end_of persistent at gs
start_before_end persistent at [] k e = omega arith
start_before_end persistent at (g ∷ gs) zero e =
    go (same_truth g.persistent persistent) (same_self g.persistent persistent e)
  where
    go : (t : Bool) → t ≡ true → global_start at g ≤ end_of persistent (if t then end_from at g else at) gs
    go true h = omega (arith, later_end persistent (end_from at g) gs)
    go false h = cc
start_before_end persistent at (g ∷ gs) (suc k) e =
    start_before_end persistent (if same_truth g.persistent persistent then end_from at g else at) gs k e

-- A global ends at or before the end of all of its kind.
pub ends_before_end : (persistent : Bool) (at : ℕ) (gs : List GlobalVar) (k : ℕ) (g : GlobalVar)
    → slice_get gs k ≡ Some g → is_persistent gs k ≡ persistent
    → start_of persistent at gs k + (shape g.ty).size ≤ end_of persistent at gs
ends_before_end persistent at [] k g q e = cc
ends_before_end persistent at (x ∷ gs) zero g q e =
    subst (λ (y : GlobalVar). global_start at x + (shape y.ty).size ≤ end_of persistent at (x ∷ gs))
    (same_Some x g q) (go (same_truth x.persistent persistent) (same_self x.persistent persistent e))
  where
    go : (t : Bool) → t ≡ true → global_start at x + (shape x.ty).size
        ≤ end_of persistent (if t then end_from at x else at) gs
    go true h = later_end persistent (end_from at x) gs
    go false h = cc
ends_before_end persistent at (x ∷ gs) (suc k) g q e =
    ends_before_end persistent (if same_truth x.persistent persistent then end_from at x else at) gs k g q e

-- A global that exists begins at or after the start of all of its kind.
pub starts_after : (persistent : Bool) (at : ℕ) (gs : List GlobalVar) (k : ℕ) (g : GlobalVar)
    → slice_get gs k ≡ Some g → at ≤ start_of persistent at gs k
starts_after persistent at [] k g q = cc
starts_after persistent at (x ∷ gs) zero g q = next-le at (global_align x)
starts_after persistent at (x ∷ gs) (suc k) g q =
    go (same_truth x.persistent persistent) (λ n. starts_after persistent n gs k g q)
  where
    go : (t : Bool) → ((n : ℕ) → n ≤ start_of persistent n gs k)
        → at ≤ start_of persistent (if t then end_from at x else at) gs k
    go true rest = omega (arith, rest (end_from at x), next-le at (global_align x))
    go false rest = rest at

-- Of two globals of a kind, the later one begins at or after the end of the earlier one.
pub one_after_another : (persistent : Bool) (at : ℕ) (gs : List GlobalVar) (j k : ℕ) (g h : GlobalVar)
    → slice_get gs j ≡ Some g → slice_get gs k ≡ Some h → is_persistent gs j ≡ persistent → j < k →
    start_of persistent at gs j + (shape g.ty).size ≤ start_of persistent at gs k
one_after_another persistent at [] j k g h q r e lt = cc
one_after_another persistent at (x ∷ gs) j zero g h q r e lt = absurd (let z : ⊥ = omega (arith, lt) in z)
one_after_another persistent at (x ∷ gs) zero (suc k) g h q r e lt =
    subst (λ (y : GlobalVar). global_start at x + (shape y.ty).size ≤ start_of persistent at (x ∷ gs) (suc k))
    (same_Some x g q) (go (same_truth x.persistent persistent) (same_self x.persistent persistent e))
  where
    go : (t : Bool) → t ≡ true → global_start at x + (shape x.ty).size
        ≤ start_of persistent (if t then end_from at x else at) gs k
    go true s = starts_after persistent (end_from at x) gs k h r
    go false s = cc
one_after_another persistent at (x ∷ gs) (suc j) (suc k) g h q r e lt =
    one_after_another persistent (if same_truth x.persistent persistent then end_from at x else at) gs j k g h q r e
    (omega (arith, lt))
