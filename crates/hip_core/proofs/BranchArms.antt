-- What the code of a branch does to the state that the machine represents.
use Rattle.std.proofs.Common.{◌≡◌, ℕ, zero, suc, ◌+◌, ◌<◌, ◌≤◌, Bool, true, false, cond, nat_eq, length, List, [], ◌∷◌, Some, get_or, slice_get, refl, sym, ap, ◌∙◌, subst, arith, add-zero}
use Rattle.std.proofs.lemmas.Bool.Decides.{nat_tests}
use Rattle.std.specs.List.Sorted.{IsNonDecreasingBy}
use Rattle.std.specs.Prelude.{ltb, option_to_list}
use Rattle.hip_runs.specs.declared.event.Event.{Event}
use Rattle.hip_runs.specs.declared.event.Event.TheVariants as events
use Rattle.hip_runs.specs.State.{Frame}
use Rattle.hip_runs.specs.Step.{with_turn, perform}
use Rattle.hip_code.specs.Entries.{entry}
use Rattle.hip_code.specs.Frames.{names_at, HoldsFrame}
use Rattle.hip_code.specs.Moves.{moved, put, AreRead, AreWritten}
use Rattle.hip_code.specs.Numbers.{OpNumbers, entries_of, HasSpan}
use Rattle.hip_code.specs.Ops.{CasesWithin, EdgeWithin, case_edge, edge_action, edge_taken}
use Rattle.hip_code.specs.Laws.MoveLaws.{holds_moved}
use Rattle.hip_code.specs.declared.code.Code.{Code}
use Rattle.hip_code.specs.declared.op.EdgeCase.{EdgeCase}
use Rattle.hip_code.specs.declared.op.Control.TheVariants as controls
use Rattle.hip_code.specs.declared.op.OpEdge.{OpEdge}
use Rattle.hip_code.specs.declared.op.Go.{Go}
use Rattle.hip_code.specs.declared.op.Op.TheVariants as ops
use Rattle.hip_core.specs.declared.core_parts.Core.{Core}
use Rattle.hip_core.specs.Acts.{Acts, Follows, acted, numbers_of, seen_of}
use Rattle.hip_core.specs.Below.{AreSaved}
use Rattle.hip_core.specs.Stands.{Stands, Stepped}
use Rattle.hip_core.proofs.Arms.{counted_next, turn_next}
use Rattle.hip_core.proofs.Slots.{kept_put, saved_kept}

-- The moves of the edge are in the table, and what they read and write is there.
pub record EdgeIs (n : OpNumbers) (edge : OpEdge) : Type 0 where
  pub span : HasSpan edge.moves n.tables.moves
  pub read : AreRead n (entries_of edge.moves n.tables.moves)
  pub written : AreWritten n.base (length n.slots) (entries_of edge.moves n.tables.moves)

pub case_within : (n : OpNumbers) (v : ℕ) (cs : List EdgeCase) (other : ℕ) → CasesWithin n cs → EdgeWithin n other → EdgeWithin n (case_edge v cs other)
case_within n v [] other c w = w
case_within n v (x ∷ cs) other c w =
    go (nat_eq x.value v) (case_within n v cs other (record { ascend = λ i j d le lt. c.ascend (suc i) (suc j) d (omega (arith, le)) (omega (arith, lt)); at = λ k y e. c.at (suc k) y e }) w)
  where
    go : (b : Bool) → EdgeWithin n (case_edge v cs other) → EdgeWithin n (cond b x.edge (case_edge v cs other))
    go true later = c.at 0 x refl
    go false later = later

-- The first case whose value is not below the value that is looked for is the one that decides.
pub case_found : (v : ℕ) (cs : List EdgeCase) (other i : ℕ) → IsNonDecreasingBy (λ c. c.value) cs
    → ((k : ℕ) (d : EdgeCase) → k < i → k < length cs → ltb (get_or cs k d).value v ≡ true)
    → ((k : ℕ) (d : EdgeCase) → i ≤ k → k < length cs → ltb (get_or cs k d).value v ≡ false)
    → case_edge v cs other ≡ case_edge v (option_to_list (slice_get cs i)) other
case_found v [] other i up low high = refl
case_found v (x ∷ cs) other zero up low high = go (nat_eq x.value v) refl
  where
    least : v ≤ x.value
    least = let e = high 0 x (omega arith) (omega arith) in grind (arith, nat_tests)

    above : (xs : List EdgeCase) → ((k : ℕ) (d : EdgeCase) → k < length xs → v < (get_or xs k d).value) → case_edge v xs other ≡ other
    above [] far = refl
    above (y ∷ ys) far =
        let apart : nat_eq y.value v ≡ false = (let far_y = far 0 y (omega arith) in grind (arith, nat_tests)) in
        ap (λ t. cond t y.edge (case_edge v ys other)) apart ∙ above ys (λ k d lt. far (suc k) d (omega (arith, lt)))

    go : (t : Bool) → nat_eq x.value v ≡ t → cond t x.edge (case_edge v cs other) ≡ cond t x.edge other
    go true e = refl
    go false e =
        let over : v < x.value = (let r = least in grind (arith, nat_tests)) in
        above cs (λ k d lt. let rise = up 0 (suc k) d (omega arith) (omega (arith, lt)) in omega (arith, rise, over))
case_found v (x ∷ cs) other (suc i) up low high =
    let apart : nat_eq x.value v ≡ false = (let e = low 0 x (omega arith) (omega arith) in grind (arith, nat_tests)) in
    ap (λ t. cond t x.edge (case_edge v cs other)) apart
    ∙ case_found v cs other i (λ a b d le lt. up (suc a) (suc b) d (omega (arith, le)) (omega (arith, lt)))
    (λ k d lt within. low (suc k) d (omega (arith, lt)) (omega (arith, within)))
    (λ k d le within. high (suc k) d (omega (arith, le)) (omega (arith, within)))

-- Control goes along an edge, whose moves are made.
pub follows : {code : Code} {old new : Core} {number : ℕ} (mid : Core) (edge : OpEdge) → slice_get code.edges.items number ≡ Some edge →
    mid.slots.items ≡ put (numbers_of code old) old.top.base (entries_of edge.moves code.moves.items) old.slots.items →
    new ≡ record old { values = mid.values; slots = mid.slots; top = record old.top { place = edge.target; entry = edge.target; block = edge.block }; taken = old.taken + 1; turns = old.turns + 1 } →
    Follows code old new events.Quiet number
unfolding perform entry
follows {code} {old} {new} {number} mid edge here made is = record {
  follows = λ m b placed.
      let s = b.stands in
      let n = numbers_of code old in
      let names = names_at m.program m.top.function in
      let ms = entries_of edge.moves code.moves.items in
      let e = placed.placed edge here in
      let after : Frame = record m.top { block = edge.block; place = 0; registers = moved names n ms m.top.registers } in
      let begins = e.begins in
      subst (λ o. Stepped m.program m.input new events.Quiet (acted m true (edge_action names n m.top.registers o)) (seen_of m (edge_action names n m.top.registers o))) (sym here) (record {
        stands = subst (λ (c : Core). Stands m.program m.input c (with_turn m.world) after m.rest m.after.steps) (sym is) (record {
          limit = s.limit;
          turns = turn_next _ _ s.turns;
          taken = counted_next _ _ _ s.taken b.counted;
          ending = s.ending;
          left = s.left;
          placed = record { stands = begins; begins = begins.is ∙ add-zero _; function = s.placed.function; block = refl };
          registers = subst (λ xs. HoldsFrame names xs old.top.base (moved names n ms m.top.registers)) (sym made) (holds_moved n old.top.base names old.slots.items m.top.registers ms e.moved s.registers);
          mark = s.mark;
          saved = subst (λ xs. AreSaved m.program xs old.top.base old.top.dest m.top.dest m.top.level old.saved.items m.rest) (sym made)
              (let same : old.top.base ≤ old.top.base = omega arith in saved_kept same (kept_put n old.top.base old.top.base ms old.slots.items same) s.saved);
          blocks = s.blocks;
          storage = s.storage;
        });
        event = refl;
      });
}

-- The op is a branch along that edge.
pub acts_branch : {code : Code} {old new : Core} {e : Event} {go : Go} (number : ℕ) → number ≡ edge_taken (numbers_of code old) go → Follows code old new e number → Acts code old new e (ops.Control (controls.Go go))
acts_branch {code} {old} {new} {e} {go} number is f = record { acts = λ m b placed past. (subst (Follows code old new e) is f).follows m b placed.0 }
