-- The laws of moves: those of phis at an edge, and those of arguments at a call.
use Rattle.std.specs.Prelude.{ℕ, ◌+◌, ◌<◌, ◌≤◌, ◌≡◌, Bool, true, false, cond, List, [], ◌∷◌, length, map, Some, slice_get}
use Rattle.std.specs.Str.{bytes_eq}
use Rattle.std.proofs.Common.{zero, suc, refl, sym, ap, ap₂, ◌∙◌, subst, arith}
use Rattle.std.proofs.lemmas.Slice.Eq.{bytes_eq-Decides}
use Rattle.hip_tree.specs.declared.block.Edge.{Edge}
use Rattle.hip_tree.specs.declared.block.Phi.{Phi}
use Rattle.hip_tree.specs.declared.instr.Arg.{Arg}
use Rattle.hip_tree.specs.declared.instr.Operand as named
use Rattle.hip_tree.specs.declared.program.GlobalVar.{GlobalVar}
use Rattle.hip_tree.specs.declared.program.Param.{Param}
use Rattle.hip_sound.specs.Registers.{arg_uses}
use Rattle.hip_runs.specs.Actions.{after_phis, edge_value}
use Rattle.hip_runs.specs.Operands.{bound, value_of, values_of}
use Rattle.hip_runs.specs.State.{Registers}
use Rattle.hip_code.specs.Frames.{are_known, IsKnown, HoldsFrame}
use Rattle.hip_code.specs.Moves.{name_at, moved, put, AreRead, AreWritten}
use Rattle.hip_code.specs.Numbers.{OpNumbers, operand_value, is_within}
use Rattle.hip_code.specs.Resolved.{IsSlot, MovesPlaced}
use Rattle.hip_code.specs.Edges.{edge_from, are_moves, are_arguments}
use Rattle.hip_code.specs.Laws.Operands.{operand_same, operand_within}
use Rattle.hip_code.specs.Laws.Slots.{holds_assigned, name_there, name_placed, slot_within}
use Rattle.hip_code.specs.declared.op.Move.{Move}

-- ---- what holds of each move

read_none : (n : OpNumbers) → AreRead n []
read_none n = record { at = λ k m e. absurd (let z : ⊥ = cc in z) }

read_more : (n : OpNumbers) (m : Move) (ms : List Move) → is_within n m.value → AreRead n ms → AreRead n (m ∷ ms)
read_more n m ms h r = record { at = go }
  where
    go : (k : ℕ) (x : Move) → slice_get (m ∷ ms) k ≡ Some x → is_within n x.value
    go zero x e = let same : m ≡ x = cc in subst (λ (y : Move). is_within n y.value) same h
    go (suc k) x e = r.at k x e

written_none : (base size : ℕ) → AreWritten base size []
written_none base size = record { at = λ k m e. absurd (let z : ⊥ = cc in z) }

written_more : (base size : ℕ) (m : Move) (ms : List Move) → base + m.dest < size → AreWritten base size ms
    → AreWritten base size (m ∷ ms)
written_more base size m ms h r = record { at = go }
  where
    go : (k : ℕ) (x : Move) → slice_get (m ∷ ms) k ≡ Some x → base + x.dest < size
    go zero x e = let same : m ≡ x = cc in subst (λ (y : Move). base + y.dest < size) same h
    go (suc k) x e = r.at k x e

placed_none : (names : List (List ℕ)) → MovesPlaced names []
placed_none names = record { at = λ k m e. absurd (let z : ⊥ = cc in z) }

placed_more : (names : List (List ℕ)) (m : Move) (ms : List Move) → IsSlot names m.dest → MovesPlaced names ms
    → MovesPlaced names (m ∷ ms)
placed_more names m ms h r = record { at = go }
  where
    go : (k : ℕ) (x : Move) → slice_get (m ∷ ms) k ≡ Some x → IsSlot names x.dest
    go zero x e = let same : m ≡ x = cc in subst (λ (y : Move). IsSlot names y.dest) same h
    go (suc k) x e = r.at k x e

-- Moves read numbers that are there, and write slots of registers that are there.
pub record MovesAre (n : OpNumbers) (base size : ℕ) (names : List (List ℕ)) (ms : List Move) : Type 0 where
  pub read : AreRead n ms
  pub written : AreWritten base size ms
  pub placed : MovesPlaced names ms

none_are : (n : OpNumbers) (base size : ℕ) (names : List (List ℕ)) → MovesAre n base size names []
none_are n base size names = record { read = read_none n; written = written_none base size; placed = placed_none names }

more_are : (n : OpNumbers) (base size : ℕ) (names : List (List ℕ)) (m : Move) (ms : List Move) → is_within n m.value
    → base + m.dest < size → IsSlot names m.dest → MovesAre n base size names ms
    → MovesAre n base size names (m ∷ ms)
more_are n base size names m ms r w p rest =
    record {
      read = read_more n m ms r rest.read;
      written = written_more base size m ms w rest.written;
      placed = placed_more names m ms p rest.placed;
    }

-- The slots from a base on hold the registers after moves.
pub holds_moved : (n : OpNumbers) (base : ℕ) (names : List (List ℕ)) (slots : List ℕ) (rs : Registers)
    (ms : List Move)
    → MovesPlaced names ms → HoldsFrame names slots base rs →
    HoldsFrame names (put n base ms slots) base (moved names n ms rs)
holds_moved n base names slots rs [] p h = h
holds_moved n base names slots rs (m ∷ ms) p h =
    holds_assigned names (put n base ms slots) base (moved names n ms rs) (name_at names m.dest) m.dest
    (operand_value n m.value) (p.at 0 m refl)
    (holds_moved n base names slots rs ms (record { at = λ k x e. p.at (suc k) x e }) h)

-- ---- phis

from_edge : (globals : List GlobalVar) (region : ℕ) (rs : Registers) (from : List ℕ) (es : List Edge)
    (x : named.Operand) → edge_from es from ≡ Some x
    → value_of globals region rs x ≡ edge_value globals region rs es from
from_edge globals region rs from [] x e = cc
from_edge globals region rs from (d ∷ es) x e = go (bytes_eq d.label from) e (from_edge globals region rs from es x)
  where
    go : (b : Bool) → cond b (Some d.value) (edge_from es from) ≡ Some x
        → (edge_from es from ≡ Some x → value_of globals region rs x ≡ edge_value globals region rs es from) →
        value_of globals region rs x ≡ cond b (value_of globals region rs d.value)
        (edge_value globals region rs es from)
    go true q rest = let same : d.value ≡ x = cc in ap (value_of globals region rs) (sym same)
    go false q rest = rest q

-- The operand that a phi has for control from a label has a value, if the operand of each of its edges with that label
-- has one.
known_edge : (rs : Registers) (from : List ℕ) (es : List Edge) (x : named.Operand)
    → ((k : ℕ) (e : Edge) → slice_get es k ≡ Some e → e.label ≡ from → IsKnown rs e.value)
    → edge_from es from ≡ Some x
    → IsKnown rs x
known_edge rs from [] x all e = absurd (let z : ⊥ = cc in z)
known_edge rs from (d ∷ es) x all e =
    go (bytes_eq d.label from) refl e (λ q. known_edge rs from es x (λ k c s l. all (suc k) c s l) q)
  where
    go : (b : Bool) → bytes_eq d.label from ≡ b → cond b (Some d.value) (edge_from es from) ≡ Some x
        → (edge_from es from ≡ Some x → IsKnown rs x) → IsKnown rs x
    go true t q later =
        let same : d.value ≡ x = cc in subst (IsKnown rs) same (all 0 d refl ((bytes_eq-Decides d.label from).0 t))
    go false t q later = later q

module _ (globals : List GlobalVar) (region : ℕ) (names : List (List ℕ)) (n : OpNumbers) (rs : Registers)
    (h : HoldsFrame names n.slots n.base rs) (from : List ℕ) where
  -- The moves of an edge read and write what is there.
  pub phis_are : (ms : List Move) (ps : List Phi) → are_moves globals region names n.tables.constants from ms ps
      → MovesAre n n.base (length n.slots) names ms
  phis_are [] [] a = none_are n n.base (length n.slots) names
  phis_are [] (p ∷ ps) a = absurd a
  phis_are (m ∷ ms) [] a = absurd a
  phis_are (m ∷ ms) (p ∷ ps) a =
      more_are n n.base (length n.slots) names m ms
      (operand_within globals region names n rs m.value a.0.operand a.0.value h)
      (omega (arith, h.room, slot_within names p.dest m.dest a.0.dest))
      (name_placed names p.dest m.dest a.0.dest) (phis_are ms ps a.1)

  -- The moves give what the phis give.
  pub phis_move : (ms : List Move) (ps : List Phi) → are_moves globals region names n.tables.constants from ms ps →
      ((j k : ℕ) (p : Phi) (e : Edge) → slice_get ps j ≡ Some p → slice_get p.edges k ≡ Some e
      → e.label ≡ from
      → IsKnown rs e.value) →
      moved names n ms rs ≡ after_phis globals region rs from ps
  phis_move [] [] a known = refl
  phis_move [] (p ∷ ps) a known = absurd a
  phis_move (m ∷ ms) [] a known = absurd a
  phis_move (m ∷ ms) (p ∷ ps) a known =
      let k : IsKnown rs a.0.operand =
      known_edge rs from p.edges a.0.operand (λ i e s l. known 0 i p e refl s l) a.0.edge in
      let v = operand_same globals region names n rs m.value a.0.operand a.0.value h k in
      ap₂ (λ r rest. r ∷ rest) (ap₂ (λ x y. (x, y)) (name_there names p.dest m.dest a.0.dest)
      (v.same ∙ from_edge globals region rs from p.edges a.0.operand a.0.edge))
      (phis_move ms ps a.1 (λ j i q e s t l. known (suc j) i q e s t l))

-- ---- arguments

module _ (globals : List GlobalVar) (region : ℕ) (names called : List (List ℕ)) (n : OpNumbers) (rs : Registers)
    (h : HoldsFrame names n.slots n.base rs) where
  pub arguments_are : (size : ℕ) (ms : List Move) (ps : List Param) (args : List Arg) → size ≡ length called
      → are_arguments globals region names called n.tables.constants ms ps args → MovesAre n 0 size called ms
  arguments_are size [] ps args s a = none_are n 0 size called
  arguments_are size (m ∷ ms) [] args s a = absurd a
  arguments_are size (m ∷ ms) (p ∷ ps) [] s a = absurd a
  arguments_are size (m ∷ ms) (p ∷ ps) (x ∷ xs) s a =
      more_are n 0 size called m ms (operand_within globals region names n rs m.value x.value a.1 h)
      (omega (arith, s, slot_within called p.name m.dest a.0))
      (name_placed called p.name m.dest a.0) (arguments_are size ms ps xs s a.2)

  -- The moves take the arguments' values, where there is a parameter for each.
  pub arguments_pass : (ms : List Move) (ps : List Param) (args : List Arg)
      → are_arguments globals region names called n.tables.constants ms ps args → are_known rs (arg_uses args)
      → length args ≤ length ps →
      map (λ m. operand_value n m.value) ms ≡ values_of globals region rs args
  arguments_pass [] ps [] a k few = refl
  arguments_pass [] [] (x ∷ xs) a k few = absurd (omega (arith, few))
  arguments_pass [] (p ∷ ps) (x ∷ xs) a k few = absurd a
  arguments_pass (m ∷ ms) [] args a k few = absurd a
  arguments_pass (m ∷ ms) (p ∷ ps) [] a k few = absurd a
  arguments_pass (m ∷ ms) (p ∷ ps) (x ∷ xs) a k few =
      ap₂ (λ v vs. v ∷ vs) (operand_same globals region names n rs m.value x.value a.1 h k.0).same
      (arguments_pass ms ps xs a.2 k.1 (omega (arith, few)))

  -- The moves give each parameter its argument.
  pub arguments_move : (ms : List Move) (ps : List Param) (args : List Arg)
      → are_arguments globals region names called n.tables.constants ms ps args → are_known rs (arg_uses args) →
      moved called n ms [] ≡ bound ps (values_of globals region rs args)
  arguments_move [] [] args a k = refl
  arguments_move [] (p ∷ ps) [] a k = refl
  arguments_move [] (p ∷ ps) (x ∷ xs) a k = absurd a
  arguments_move (m ∷ ms) [] args a k = absurd a
  arguments_move (m ∷ ms) (p ∷ ps) [] a k = absurd a
  arguments_move (m ∷ ms) (p ∷ ps) (x ∷ xs) a k =
      let v = operand_same globals region names n rs m.value x.value a.1 h k.0 in
      ap₂ (λ r rest. r ∷ rest) (ap₂ (λ i j. (i, j)) (name_there called p.name m.dest a.0) v.same)
      (arguments_move ms ps xs a.2 k.1)
