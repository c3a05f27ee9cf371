-- What the code of an op that ends the run, gives a value or returns does to the state that the machine represents.
use Rattle.std.proofs.Common.{◌≡◌, ℕ, suc, ◌+◌, ◌≤◌, true, cond, length, List, [], ◌∷◌, ◌++◌, take, reverse, Some, Ok, Err, slice_set, refl, sym, ap, ◌∙◌, subst, arith, add-one}
use Rattle.std.proofs.Math.Seq.{take-append_seam}
use Rattle.std.proofs.lemmas.List.{same_from_push}
use Rattle.hip_types.specs.Numbers.{bits, signed}
use Rattle.hip_types.specs.declared.number.Width.TheVariants.{W32}
use Rattle.hip_tree.specs.declared.program.Program.{Program}
use Rattle.hip_num.specs.declared.arithmetic.NumTrap.{NumTrap}
use Rattle.hip_types.specs.Areas.{stack_start}
use Rattle.hip_runs.specs.Operands.{assigned}
use Rattle.hip_runs.specs.declared.event.Ending.{Ending}
use Rattle.hip_runs.specs.declared.event.Ending.TheVariants.{Stop, Trap}
use Rattle.hip_runs.specs.declared.event.Event.{Event}
use Rattle.hip_runs.specs.declared.event.Event.TheVariants as events
use Rattle.hip_runs.specs.declared.event.TrapKind.{TrapKind}
use Rattle.hip_runs.specs.declared.event.TrapKind.TheVariants as traps_of
use Rattle.hip_runs.specs.Actions.{Traps, Assigns, Returns, trap_of}
use Rattle.hip_runs.specs.State.{Frame, Slot}
use Rattle.hip_runs.specs.Step.{with_turn, is_bottom, perform, leave}
use Rattle.hip_invariants.specs.StackShape.{lie_in_order, HasShape}
use Rattle.hip_invariants.specs.Laws.StackShape.{lower}
use Rattle.hip_code.specs.Entries.{PlaceStandsAt}
use Rattle.hip_code.specs.Frames.{names_at, HoldsFrame}
use Rattle.hip_code.specs.Moves.{name_at}
use Rattle.hip_code.specs.Numbers.{operand_value}
use Rattle.hip_code.specs.Ops.{gave}
use Rattle.hip_code.specs.Resolved.{IsSlot}
use Rattle.hip_code.specs.Values.{value_result}
use Rattle.hip_code.specs.Laws.Slots.{holds_assigned}
use Rattle.hip_code.specs.declared.code.Code.{Code}
use Rattle.hip_code.specs.declared.op.Control.TheVariants as controls
use Rattle.hip_code.specs.declared.op.Exit.TheVariants as exits
use Rattle.hip_code.specs.declared.op.OpOperand.{OpOperand}
use Rattle.hip_code.specs.declared.op.Op.TheVariants as ops
use Rattle.hip_code.specs.declared.op.Value.{Value}
use Rattle.hip_core.specs.declared.core_parts.Activation.{Activation}
use Rattle.hip_core.specs.declared.core_parts.Core.{Core}
use Rattle.hip_core.specs.Acts.{Acts, Before, DoesAction, HasNext, Moment, acted, numbers_of, seen_of}
use Rattle.hip_core.specs.Below.{are_saved, AreSaved}
use Rattle.hip_core.specs.Blocks.{blocks_of, HoldsBlocks}
use Rattle.hip_objects.specs.Blocks.{nonempty}
use Rattle.hip_storage.specs.Contents.{after_pop}
use Rattle.hip_storage.specs.Laws.ActionLaws.{pop_holds}
use Rattle.hip_storage.specs.Represented.{HoldsRun}
use Rattle.hip_core.specs.Placed.{OpIsPlaced}
use Rattle.hip_core.specs.Puts.{with_result}
use Rattle.hip_core.specs.Stands.{Stands, Stepped}
use Rattle.hip_core.proofs.Slots.{holds_result, kept_result, kept_set, no_frames, not_empty, saved_kept}

pub counted_next : (m n k : ℕ) → m ≡ n → k ≡ suc n → m + 1 ≡ k
counted_next m n k e f = omega arith

pub turn_next : (m n : ℕ) → m ≡ n → m + 1 ≡ suc n
turn_next m n e = omega arith

pub placed_next : {P : Program} {place first i j g b k : ℕ} → OpIsPlaced P place first i j g b k → PlaceStandsAt P (suc place) g b (suc k) → OpIsPlaced P (place + 1) first i j g b (suc k)
placed_next {P} {place} {first} {i} {j} {g} {b} {k} p next =
    record { stands = subst (λ n. PlaceStandsAt P n g b (suc k)) (sym (add-one place)) next; begins = p.begins; function = p.function; block = p.block }

-- ---- the end of the run

module _ {old : Core} {m : Moment} where
  -- The run ends in a turn.
  pub stops : (new : Core) (e : Ending) → new ≡ record old { ending = Some e; taken = old.taken + 1; turns = old.turns + 1 } → Before old m →
      Stands m.program m.input new (record (with_turn m.world) { ending = Some e }) m.top m.rest m.after.steps
  stops new e is b = let s = b.stands in subst (λ (c : Core). Stands m.program m.input c (record (with_turn m.world) { ending = Some e }) m.top m.rest m.after.steps) (sym is) (record {
    limit = s.limit;
    turns = turn_next _ _ s.turns;
    taken = counted_next _ _ _ s.taken b.counted;
    ending = refl;
    left = s.left;
    placed = s.placed;
    registers = s.registers;
    mark = s.mark;
    saved = s.saved;
    blocks = s.blocks;
    storage = s.storage;
  })

  -- The run ends in no turn.
  pub stops_still : (new : Core) (e : Ending) → new ≡ record old { ending = Some e; taken = old.taken + 1 } → Before old m →
      Stands m.program m.input new (record m.world { ending = Some e }) m.top m.rest m.after.steps
  stops_still new e is b = let s = b.stands in subst (λ (c : Core). Stands m.program m.input c (record m.world { ending = Some e }) m.top m.rest m.after.steps) (sym is) (record {
    limit = s.limit;
    turns = s.turns;
    taken = counted_next _ _ _ s.taken b.counted;
    ending = refl;
    left = s.left;
    placed = s.placed;
    registers = s.registers;
    mark = s.mark;
    saved = s.saved;
    blocks = s.blocks;
    storage = s.storage;
  })

  -- A slot takes a value, and so does the register of its name.
  pub assigns : (new : Core) (slot v : ℕ) →
      new ≡ record old { slots = new.slots; top = record old.top { place = old.top.place + 1 }; taken = old.taken + 1; turns = old.turns + 1 } → new.slots.items ≡ slice_set old.slots.items (old.top.base + slot) v →
      IsSlot (names_at m.program m.top.function) slot → HasNext old m → Before old m →
      Stepped m.program m.input new events.Quiet (acted m true (Assigns (Some (name_at (names_at m.program m.top.function) slot)) v)) events.Quiet
  unfolding perform
  assigns new slot v is slots placed next b =
      let s = b.stands in
      let name = name_at (names_at m.program m.top.function) slot in
      let after : Frame = record m.top { place = suc m.top.place; registers = (name, v) ∷ m.top.registers } in
      record {
        stands = subst (λ (c : Core). Stands m.program m.input c (with_turn m.world) after m.rest m.after.steps) (sym is) (record {
          limit = s.limit;
          turns = turn_next _ _ s.turns;
          taken = counted_next _ _ _ s.taken b.counted;
          ending = s.ending;
          left = s.left;
          placed = placed_next s.placed next;
          registers = subst (λ xs. HoldsFrame (names_at m.program m.top.function) xs old.top.base ((name, v) ∷ m.top.registers)) (sym slots) (holds_assigned _ _ _ _ name slot v placed s.registers);
          mark = s.mark;
          saved = subst (λ xs. AreSaved m.program xs old.top.base old.top.dest m.top.dest m.top.level old.saved.items m.rest) (sym slots)
              (let le : old.top.base ≤ old.top.base + slot = omega arith in let same : old.top.base ≤ old.top.base = omega arith in saved_kept same (kept_set old.top.base old.slots.items (old.top.base + slot) v le) s.saved);
          blocks = s.blocks;
          storage = s.storage;
        });
        event = refl;
      }

pub traps : {old : Core} (new : Core) (kind : TrapKind) → new ≡ record old { ending = Some (Trap kind); taken = old.taken + 1; turns = old.turns + 1 } → DoesAction old new (events.End (Trap kind)) true (λ m. Traps kind)
unfolding perform
traps new kind is = record { does = λ m b. record { stands = stops new (Trap kind) is b; event = refl } }

-- ---- values

pub acts_value : {code : Code} {old new : Core} {dest : ℕ} {value : Value} (v : ℕ) → value_result (numbers_of code old) value ≡ Ok v →
    new ≡ record old { slots = new.slots; top = record old.top { place = old.top.place + 1 }; taken = old.taken + 1; turns = old.turns + 1 } → new.slots.items ≡ slice_set old.slots.items (old.top.base + dest) v →
    Acts code old new events.Quiet (ops.Value dest value)
acts_value {code} {old} {new} {dest} {value} v gives is slots = record {
  acts = λ m b placed next.
      let name = name_at (names_at m.program m.top.function) dest in
      subst (λ r. Stepped m.program m.input new events.Quiet (acted m true (gave name r)) (seen_of m (gave name r))) (sym gives) (assigns new dest v is slots placed.0 (next refl) b);
}

pub acts_value_trap : {code : Code} {old new : Core} {dest : ℕ} {value : Value} {e : Event} (trap : NumTrap) → value_result (numbers_of code old) value ≡ Err trap → e ≡ events.End (Trap (trap_of trap)) →
    new ≡ record old { ending = Some (Trap (trap_of trap)); taken = old.taken + 1; turns = old.turns + 1 } → Acts code old new e (ops.Value dest value)
acts_value_trap {code} {old} {new} {dest} {value} {e} trap gives is stop = record {
  acts = λ m b placed next.
      let name = name_at (names_at m.program m.top.function) dest in
      subst (λ r. Stepped m.program m.input new e (acted m true (gave name r)) (seen_of m (gave name r))) (sym gives)
      (subst (λ x. Stepped m.program m.input new x (acted m true (Traps (trap_of trap))) (seen_of m (Traps (trap_of trap)))) (sym is) ((traps new (trap_of trap) stop).does m b));
}

-- ---- returns

-- The bottom frame returns.
pub finishes_bottom : {old new : Core} (mid : Core) (v : ℕ) (e : Event) → old.saved.items ≡ [] → mid.saved.items ≡ [] → e ≡ events.End (Stop (signed W32 (bits W32 v).value)) →
    new ≡ record old { saved = mid.saved; ending = Some (Stop (signed W32 (bits W32 v).value)); taken = old.taken + 1; turns = old.turns + 1 } → DoesAction old new e true (λ m. Returns v)
unfolding perform leave
finishes_bottom {old} {new} mid v e none still is stop = record {
  does = λ m b.
      let s = b.stands in
      let end = Stop (signed W32 (bits W32 v).value) in
      let bottom : m.rest ≡ [] = no_frames s.saved none in
      let saved = subst (λ xs. AreSaved m.program old.slots.items old.top.base old.top.dest m.top.dest m.top.level xs m.rest) (none ∙ sym still) s.saved in
      let stands = subst (λ (c : Core). Stands m.program m.input c (record (with_turn m.world) { ending = Some end }) m.top m.rest m.after.steps) (sym stop) (record {
        limit = s.limit;
        turns = turn_next _ _ s.turns;
        taken = counted_next _ _ _ s.taken b.counted;
        ending = refl;
        left = s.left;
        placed = s.placed;
        registers = s.registers;
        mark = s.mark;
        saved = saved;
        blocks = s.blocks;
        storage = s.storage;
      }) in
      subst (λ gs. Stepped m.program m.input new e (leave v (with_turn m.world) m.top gs m.lines m.after) (cond (is_bottom gs) (events.End end) events.Quiet)) (sym bottom)
      (record { stands = subst (λ gs. Stands m.program m.input new (record (with_turn m.world) { ending = Some end }) m.top gs m.after.steps) bottom stands; event = is });
}

-- The blocks of the frames below are left.
blocks_left : (blocks new : List Slot) (count : ℕ) (g : Frame) (gs : List Frame) (own : List Slot) → blocks ≡ blocks_of (g ∷ gs) ++ own → count ≡ length (blocks_of (g ∷ gs)) → new ≡ take count blocks → new ≡ blocks_of (g ∷ gs)
blocks_left blocks new count g gs own are below is = is ∙ ap (λ n. take n blocks) below ∙ ap (λ bs. take (length (blocks_of (g ∷ gs))) bs) are ∙ take-append_seam (blocks_of (g ∷ gs)) own

-- The marks of frames are in the stack.
low_mark : (mark : ℕ) (fs : List Frame) → lie_in_order mark fs → stack_start ≤ mark
low_mark mark [] h = h
low_mark mark (f ∷ fs) h = let a = low_mark f.mark fs h.1 in let b = lower f.mark mark f.slots h.0 in omega (arith, a, b)

pub mark_is_low : {mark : ℕ} {f : Frame} {fs : List Frame} → HasShape mark (f ∷ fs) → stack_start ≤ f.mark
mark_is_low {mark} {f} {fs} h = low_mark f.mark fs h.in_order.1

pub mark_is_high : {mark : ℕ} {f : Frame} {fs : List Frame} → HasShape mark (f ∷ fs) → f.mark ≤ mark
mark_is_high {mark} {f} {fs} h = lower f.mark mark f.slots h.in_order.0

-- The frame of the caller is on top again, whatever it keeps about the call.
pub finishes_call : {old new : Core} (mid : Core) (v : ℕ) (caller : Activation) (unused : ℕ) → old.saved.items ≡ mid.saved.items ++ caller ∷ [] →
    new ≡ record old { saved = mid.saved; top = record caller { left = unused }; slots = new.slots; blocks = new.blocks; storage = new.storage; taken = old.taken + 1; turns = old.turns + 1 } →
    new.slots.items ≡ with_result caller.base old.top.dest v old.slots.items → new.blocks ≡ take old.top.blocks old.blocks → new.storage ≡ after_pop old.top.mark old.storage → DoesAction old new events.Quiet true (λ m. Returns v)
unfolding perform leave
finishes_call {old} {new} mid v caller unused popped is put cleared pop = record { does = λ m b. go m b m.rest refl }
  where
    go : (m : Moment) → Before old m → (fs : List Frame) → m.rest ≡ fs → Stepped m.program m.input new events.Quiet (acted m true (Returns v)) (seen_of m (Returns v))
    go m b [] below =
        let a = subst (λ gs. are_saved m.program old.slots.items old.top.base old.top.dest m.top.dest m.top.level old.saved.items gs) below b.stands.saved.are in
        absurd (let e : mid.saved.items ++ caller ∷ [] ≡ [] = sym popped ∙ a in let z : ⊥ = not_empty mid.saved.items caller e in z)
    go m b (g ∷ gs) below =
        let P = m.program in
        let f = m.top in
        let s = b.stands in
        let a = subst (λ hs. are_saved P old.slots.items old.top.base old.top.dest f.dest f.level old.saved.items hs) below s.saved.are in
        let x = a.1 in
        let kept = a.3 in
        let same = same_from_push a.0 mid.saved.items x caller (sym a.2 ∙ popped) in
        let is_it = is ∙ ap (λ (y : Activation). record old { saved = mid.saved; top = record y { left = unused }; slots = new.slots; blocks = new.blocks; storage = new.storage; taken = old.taken + 1; turns = old.turns + 1 }) (sym same.1) in
        let put_it : new.slots.items ≡ with_result x.base old.top.dest v old.slots.items = put ∙ ap (λ (y : Activation). with_result y.base old.top.dest v old.slots.items) (sym same.1) in
        let blocks = subst (λ hs. HoldsBlocks old.blocks old.top.blocks f.slots hs) below s.blocks in
        let mark : old.top.mark ≡ f.mark = s.mark in
        let low : stack_start ≤ old.top.mark = (let l = mark_is_low b.shaped in omega (arith, mark, l)) in
        let high : old.top.mark ≤ m.world.mark = (let h = mark_is_high b.shaped in omega (arith, mark, h)) in
        let after : Frame = record g { registers = assigned f.dest v g.registers } in
        let lower_kept : x.base ≤ x.base = omega arith in
        let stands = subst (λ (c : Core). Stands P m.input c (record (with_turn m.world) { mark = f.mark }) after gs m.after.steps) (sym is_it) (record {
          limit = s.limit;
          turns = turn_next _ _ s.turns;
          taken = counted_next _ _ _ s.taken b.counted;
          ending = s.ending;
          left = s.left;
          placed = kept.placed;
          registers = subst (λ xs. HoldsFrame (names_at P g.function) xs x.base (assigned f.dest v g.registers)) (sym put_it)
              (holds_result (names_at P g.function) old.slots.items x.base v old.top.dest f.dest g.registers kept.result kept.registers);
          mark = kept.mark;
          saved = subst (λ xs. AreSaved P xs x.base x.dest g.dest g.level mid.saved.items gs) (sym put_it)
              (saved_kept lower_kept (kept_result x.base x.base v old.top.dest old.slots.items lower_kept) (record { are = subst (λ ys. are_saved P old.slots.items x.base x.dest g.dest g.level ys gs) same.0 a.4 }));
          blocks = record { are = blocks_left old.blocks new.blocks old.top.blocks g gs (nonempty (reverse f.slots)) blocks.are blocks.below cleared; below = kept.blocks };
          storage = subst (λ y. HoldsRun P m.input y m.world.writes f.mark) (sym pop) (subst (λ k. HoldsRun P m.input (after_pop old.top.mark old.storage) m.world.writes k) mark (pop_holds s.storage old.top.mark low high));
        }) in
        subst (λ hs. Stepped P m.input new events.Quiet (leave v (with_turn m.world) f hs m.lines m.after) (cond (is_bottom hs) (events.End (Stop (signed W32 (bits W32 v).value))) events.Quiet)) (sym below)
        (record { stands = stands; event = refl })

-- ---- the ops

pub acts_exit_value : {code : Code} {old new : Core} {e : Event} {operand : OpOperand} (v : ℕ) → v ≡ operand_value (numbers_of code old) operand → DoesAction old new e true (λ m. Returns v) → Acts code old new e (ops.Control (controls.Exit (exits.Value operand)))
acts_exit_value {code} {old} {new} {e} {operand} v is d = record {
  acts = λ m b placed next. subst (λ n. Stepped m.program m.input new e (acted m true (Returns n)) (seen_of m (Returns n))) is (d.does m b);
}

pub acts_exit_nothing : {code : Code} {old new : Core} {e : Event} → DoesAction old new e true (λ m. Returns 0) → Acts code old new e (ops.Control (controls.Exit exits.Nothing))
acts_exit_nothing d = record { acts = λ m b placed next. d.does m b }

pub acts_unreachable : {code : Code} {old new : Core} {e : Event} → DoesAction old new e true (λ m. Traps traps_of.Unreachable) → Acts code old new e (ops.Control (controls.Exit exits.Unreachable))
acts_unreachable d = record { acts = λ m b placed next. d.does m b }

pub none_left : {A : Type 0} (xs ys : List A) → xs ≡ ys ++ [] → length xs ≡ 0 → (xs ≡ []) × (ys ≡ [])
none_left [] [] e z = (refl, refl)
none_left [] (y ∷ ys) e z = cc
none_left (x ∷ xs) ys e z = absurd (omega (arith, z))
