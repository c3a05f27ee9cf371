-- Laws of slots: each name has one, and a frame of slots follows a frame of names.
use Rattle.std.specs.Prelude.{ℕ, ◌+◌, ◌<◌, ◌≤◌, ◌≡◌, Bool, true, false, cond, List, [], length, Some, unwrap_or, slice_index, slice_set}
use Rattle.std.specs.Str.{bytes_eq}
use Rattle.std.proofs.Common.{refl, sym, ap, ◌∙◌, subst, arith, get_or-set_same, get_or-set_other, length-set}
use Rattle.std.proofs.lemmas.Option.{same_Some, slice_get_within}
use Rattle.std.proofs.lemmas.Slice.Eq.{bytes_eq-Decides}
use Rattle.hip_names.specs.Names.{number_of}
use Rattle.hip_names.specs.Laws.NumberLaws.{number_of-there}
use Rattle.hip_runs.specs.Operands.{look_up, assigned}
use Rattle.hip_runs.specs.State.{Registers}
use Rattle.hip_code.specs.Frames.{is_assigned, HoldsFrame}
use Rattle.hip_code.specs.Moves.{name_at}

-- The slot of a name is below the number of names.
pub slot_within : (names : List (List ℕ)) (name : List ℕ) (slot : ℕ) → number_of names name ≡ Some slot
    → slot < length names
slot_within names name slot e = slice_get_within names slot name (number_of-there names name slot e)

-- The name at the slot of a name is that name.
pub name_there : (names : List (List ℕ)) (name : List ℕ) (slot : ℕ) → number_of names name ≡ Some slot
    → name_at names slot ≡ name
name_there names name slot e = ap (λ o. unwrap_or o []) (number_of-there names name slot e)

pub name_placed : (names : List (List ℕ)) (name : List ℕ) (slot : ℕ) → number_of names name ≡ Some slot
    → number_of names (name_at names slot) ≡ Some slot
name_placed names name slot e = subst (λ x. number_of names x ≡ Some slot) (sym (name_there names name slot e)) e

-- Two names with the same slot are equal.
one_name : (names : List (List ℕ)) (x y : List ℕ) (slot : ℕ) → number_of names x ≡ Some slot
    → number_of names y ≡ Some slot → x ≡ y
one_name names x y slot e f = sym (name_there names x slot e) ∙ name_there names y slot f

-- The slots still hold the registers after a register and its slot take a value.
pub holds_assigned : (names : List (List ℕ)) (slots : List ℕ) (base : ℕ) (rs : Registers) (name : List ℕ)
    (slot v : ℕ) →
    number_of names name ≡ Some slot → HoldsFrame names slots base rs
    → HoldsFrame names (slice_set slots (base + slot) v) base (assigned (Some name) v rs)
holds_assigned names slots base rs name slot v e h =
    record {
      room = subst (λ n. base + length names ≤ n) (sym (length-set slots (base + slot) v)) h.room;
      holds =
          here;
    }
  where
    other : (x : List ℕ) (k : ℕ) → number_of names x ≡ Some k → bytes_eq name x ≡ false → k ≡ slot
        → ⊥
    other x k n t same =
        let q : name ≡ x = one_name names name x slot e (n ∙ ap Some same) in
        let yes = (bytes_eq-Decides name x).1 q in let z : ⊥ = cc in z

    at_name : (b : Bool) (x : List ℕ) (k : ℕ) → bytes_eq name x ≡ b → number_of names x ≡ Some k
        → cond b true (is_assigned rs x) ≡ true → slice_index (slice_set slots (base + slot) v) (base + k)
        ≡ cond b v (look_up rs x)
    at_name true x k t n a =
        let q : name ≡ x = (bytes_eq-Decides name x).0 t in
        let same : slot ≡ k = same_Some slot k (sym e ∙ subst (λ y. number_of names y ≡ Some k) (sym q) n) in
        let below : base + slot < length slots = omega (arith, h.room, slot_within names name slot e) in
        subst (λ j. slice_index (slice_set slots (base + slot) v) (base + j) ≡ v) same
        (get_or-set_same slots (base + slot) v 0 below)
    at_name false x k t n a =
        let apart : base + k ≡ base + slot → ⊥ = λ z. other x k n t (omega (arith, z)) in
        get_or-set_other slots (base + slot) (base + k) v 0 apart ∙ h.holds x k n a

    here : (x : List ℕ) (k : ℕ) → number_of names x ≡ Some k
        → is_assigned (assigned (Some name) v rs) x ≡ true
        → slice_index (slice_set slots (base + slot) v) (base + k) ≡ look_up (assigned (Some name) v rs) x
    here x k n a = at_name (bytes_eq name x) x k refl n a

-- The slots hold the registers before any of these has a value.
pub holds_none : (names : List (List ℕ)) (slots : List ℕ) (base : ℕ) → base + length names ≤ length slots
    → HoldsFrame names slots base []
holds_none names slots base room = record { room = room; holds = λ name slot e a. absurd (let z : ⊥ = cc in z) }
