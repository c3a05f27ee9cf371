-- Slots that are written, and what they do to the frames that they hold.
use Rattle.std.proofs.Common.{◌≡◌, ℕ, suc, ◌+◌, ◌<◌, ◌≤◌, length, length-set, length-append, get_or-set_other, map, List, [], ◌∷◌, ◌++◌, Option, Some, None, slice_set, slice_index, refl, sym, ap, ◌∙◌, subst, arith, add-one}
use Rattle.std.proofs.lemmas.List.{same_from_push}
use Rattle.hip_tree.specs.declared.program.Program.{Program}
use Rattle.hip_runs.specs.Operands.{assigned}
use Rattle.hip_runs.specs.State.{Level, Registers, Frame}
use Rattle.hip_code.specs.Frames.{names_at, HoldsFrame}
use Rattle.hip_code.specs.Moves.{put}
use Rattle.hip_code.specs.Numbers.{OpNumbers, operand_value}
use Rattle.hip_code.specs.Resolved.{is_result}
use Rattle.hip_code.specs.Laws.Slots.{holds_assigned, slot_within}
use Rattle.hip_code.specs.declared.op.Move.{Move}
use Rattle.hip_core.specs.declared.core_parts.Activation.{Activation}
use Rattle.hip_core.specs.Acts.{IsLonger}
use Rattle.hip_core.specs.Below.{are_saved, AreSaved, EndsBefore}
use Rattle.hip_core.specs.Puts.{put_values, with_result}

-- ---- the slots alone

pub put_is : (n : OpNumbers) (base : ℕ) (ms : List Move) (xs : List ℕ) → put_values base ms (map (λ m. operand_value n m.value) ms) xs ≡ put n base ms xs
put_is n base [] xs = refl
put_is n base (m ∷ ms) xs = ap (λ ys. slice_set ys (base + m.dest) (operand_value n m.value)) (put_is n base ms xs)

-- ---- frames that stay

pub not_empty : (xs : List Activation) (x : Activation) → xs ++ x ∷ [] ≡ [] → ⊥
not_empty [] x e = cc
not_empty (y ∷ xs) x e = cc

-- The slots before a place keep their numbers.
pub record AreKept (from : ℕ) (old new : List ℕ) : Type 0 where
  pub longer : length old ≤ length new
  pub kept : (i : ℕ) → i < from → i < length old → slice_index new i ≡ slice_index old i

pub kept_longer : (from : ℕ) (old new : List ℕ) → IsLonger old new → AreKept from old new
kept_longer from old new l = record { longer = l.longer; kept = λ i b h. l.kept i h }

pub kept_set : (from : ℕ) (old : List ℕ) (k v : ℕ) → from ≤ k → AreKept from old (slice_set old k v)
kept_set from old k v past = record {
  longer = (let e = length-set old k v in omega (arith, e));
  kept = λ i b h. get_or-set_other old k i v 0 (λ z. let y : ⊥ = omega (arith, z, b, past) in y);
}

pub kept_then : (from : ℕ) (x y z : List ℕ) → AreKept from x y → AreKept from y z → AreKept from x z
kept_then from x y z a b = record {
  longer = omega (arith, a.longer, b.longer);
  kept = λ i p q. let l = a.longer in b.kept i p (omega (arith, q, l)) ∙ a.kept i p q;
}

pub kept_put : (n : OpNumbers) (from base : ℕ) (ms : List Move) (xs : List ℕ) → from ≤ base → AreKept from xs (put n base ms xs)
kept_put n from base [] xs h = record { longer = omega arith; kept = λ i b q. refl }
kept_put n from base (m ∷ ms) xs h =
    kept_then from xs (put n base ms xs) (slice_set (put n base ms xs) (base + m.dest) (operand_value n m.value)) (kept_put n from base ms xs h)
    (kept_set from (put n base ms xs) (base + m.dest) (operand_value n m.value) (omega (arith, h)))

pub kept_result : (from base v : ℕ) (slot : Option ℕ) (xs : List ℕ) → from ≤ base → AreKept from xs (with_result base slot v xs)
kept_result from base v None xs h = record { longer = omega arith; kept = λ i b q. refl }
kept_result from base v (Some slot) xs h = kept_set from xs (base + slot) v (omega (arith, h))

-- All slots of a frame end before the place after them.
pub all_before : (names : List (List ℕ)) (rs : Registers) (base : ℕ) → EndsBefore names rs base (base + length names)
all_before names rs base = record { at = λ name slot q a. let t = slot_within names name slot q in omega (arith, t) }

-- If the values of a frame are before the place, the frame stays the same.
pub holds_kept : (names : List (List ℕ)) (base : ℕ) (rs : Registers) (from : ℕ) (old new : List ℕ) → EndsBefore names rs base from → AreKept from old new → HoldsFrame names old base rs → HoldsFrame names new base rs
holds_kept names base rs from old new before k h = record {
  room = (let a = h.room in let b = k.longer in omega (arith, a, b));
  holds = λ name slot q a.
      let t = slot_within names name slot q in
      let r = h.room in
      k.kept (base + slot) (before.at name slot q a) (omega (arith, t, r)) ∙ h.holds name slot q a;
}

are_kept : (P : Program) (from : ℕ) (old new : List ℕ) → AreKept from old new → (base : ℕ) (slot : Option ℕ) (name : Option (List ℕ)) (level : Option Level) (saved : List Activation) (fs : List Frame) → base ≤ from →
    are_saved P old base slot name level saved fs → are_saved P new base slot name level saved fs
are_kept P from old new k base slot name level saved [] le a = a
are_kept P from old new k base slot name level saved (g ∷ gs) le a =
    let s = a.3 in
    let lower = s.lower in
    let before : EndsBefore (names_at P g.function) g.registers a.1.base from = record { at = λ n k q t. let b = s.apart.at n k q t in omega (arith, b, le) } in (
      a.0,
      a.1,
      a.2,
      record {
        placed = s.placed;
        registers = holds_kept (names_at P g.function) a.1.base g.registers from old new before k s.registers;
        lower = s.lower;
        apart = s.apart;
        result = s.result;
        mark = s.mark;
        blocks = s.blocks;
        call = s.call;
      },
      are_kept P from old new k a.1.base a.1.dest g.dest g.level a.0 gs (omega (arith, lower, le)) a.4,
    )

-- Frames below a base stay the same, if only slots from the base on change.
pub saved_kept : {P : Program} {from : ℕ} {old new : List ℕ} {base : ℕ} {slot : Option ℕ} {name : Option (List ℕ)} {level : Option Level} {saved : List Activation} {fs : List Frame} → base ≤ from → AreKept from old new →
    AreSaved P old base slot name level saved fs → AreSaved P new base slot name level saved fs
saved_kept {P} {from} {old} {new} {base} {slot} {name} {level} {saved} {fs} le k s = record { are = are_kept P from old new k base slot name level saved fs le s.are }

-- ---- results

-- The slot that a result goes to is there.
pub result_within : {P : Program} {slots : List ℕ} {base : ℕ} {to : Option ℕ} {name : Option (List ℕ)} {level : Option Level} {saved : List Activation} {fs : List Frame} → AreSaved P slots base to name level saved fs →
    (rest : List Activation) (x : Activation) (slot : ℕ) → saved ≡ rest ++ x ∷ [] → to ≡ Some slot → x.base + slot < length slots
result_within {P} {slots} {base} {to} {name} {level} {saved} {fs} s rest x slot is dest = at fs s.are
  where
    at : (gs : List Frame) → are_saved P slots base to name level saved gs → x.base + slot < length slots
    at [] a = absurd (let e : rest ++ x ∷ [] ≡ [] = sym is ∙ a in let z : ⊥ = not_empty rest x e in z)
    at (g ∷ gs) a =
        let same : a.1 ≡ x = (same_from_push a.0 rest a.1 x (sym a.2 ∙ is)).1 in
        subst (λ (y : Activation). y.base + slot < length slots) same (go name (subst (λ o. is_result (names_at P g.function) o name) dest a.3.result))
      where
        go : (o : Option (List ℕ)) → is_result (names_at P g.function) (Some slot) o → a.1.base + slot < length slots
        go None r = absurd r
        go (Some n) r = let room = a.3.registers.room in omega (arith, room, slot_within (names_at P g.function) n slot r)

pub holds_result : (names : List (List ℕ)) (slots : List ℕ) (base v : ℕ) (slot : Option ℕ) (name : Option (List ℕ)) (rs : Registers) → is_result names slot name → HoldsFrame names slots base rs →
    HoldsFrame names (with_result base slot v slots) base (assigned name v rs)
holds_result names slots base v None None rs g h = h
holds_result names slots base v (Some slot) (Some name) rs g h = holds_assigned names slots base rs name slot v g h
holds_result names slots base v None (Some name) rs g h = absurd g
holds_result names slots base v (Some slot) None rs g h = absurd g

-- ---- how many frames are kept

pub saved_length : {P : Program} {slots : List ℕ} {base : ℕ} {slot : Option ℕ} {name : Option (List ℕ)} {level : Option Level} {saved : List Activation} {fs : List Frame} → AreSaved P slots base slot name level saved fs → length saved ≡ length fs
saved_length {P} {slots} {base} {slot} {name} {level} {saved} {fs} s = go base slot name level saved fs s.are
  where
    go : (b : ℕ) (o : Option ℕ) (n : Option (List ℕ)) (l : Option Level) (xs : List Activation) (gs : List Frame) → are_saved P slots b o n l xs gs → length xs ≡ length gs
    go b o n l xs [] a = ap length a
    go b o n l xs (g ∷ gs) a = ap length a.2 ∙ length-append a.0 (a.1 ∷ []) ∙ add-one (length a.0) ∙ ap suc (go a.1.base a.1.dest g.dest g.level a.0 gs a.4)

-- If no activation is kept, there is no frame below.
pub no_frames : {P : Program} {slots : List ℕ} {base : ℕ} {slot : Option ℕ} {name : Option (List ℕ)} {level : Option Level} {saved : List Activation} {fs : List Frame} → AreSaved P slots base slot name level saved fs → saved ≡ [] → fs ≡ []
no_frames {P} {slots} {base} {slot} {name} {level} {saved} {fs} s none = go fs s.are
  where
    go : (gs : List Frame) → are_saved P slots base slot name level saved gs → gs ≡ []
    go [] a = refl
    go (g ∷ gs) a = absurd (let e : a.0 ++ a.1 ∷ [] ≡ [] = sym a.2 ∙ none in let z : ⊥ = not_empty a.0 a.1 e in z)
