-- What the code of a call does to the state that the machine represents.
use Rattle.std.proofs.Common.{◌≡◌, OnErr, ℕ, ◌+◌, ◌-◌, ◌<◌, ◌≤◌, true, false, cond, nat_lt, lt-ltb, le-ltb, length, map, List, [], ◌∷◌, ◌++◌, Option, Some, None, Result, Ok, Err, refl, sym, ap, ap₂, ◌∙◌, subst, arith, add-zero}
use Rattle.std.proofs.lemmas.List.{append-nil}
use Rattle.hip_mem.specs.Areas.{mark_of}
use Rattle.hip_runs.specs.declared.event.Event.{Event}
use Rattle.hip_runs.specs.declared.event.Event.TheVariants as events
use Rattle.hip_runs.specs.declared.event.TrapKind.TheVariants as trap_kinds
use Rattle.hip_runs.specs.declared.limits.TheConstants.{MOST_FRAMES}
use Rattle.hip_runs.specs.Actions.{Calls, Traps}
use Rattle.hip_runs.specs.State.{Frame, Level, site_of}
use Rattle.hip_runs.specs.Step.{next, with_turn, perform}
use Rattle.hip_code.specs.Frames.{names_at, HoldsFrame}
use Rattle.hip_code.specs.Moves.{moved, put}
use Rattle.hip_code.specs.Numbers.{entries_of, operand_value}
use Rattle.hip_code.specs.Ops.{result_name}
use Rattle.hip_code.specs.Resolved.{is_result, result_placed}
use Rattle.hip_code.specs.Laws.MoveLaws.{holds_moved}
use Rattle.hip_code.specs.Laws.Slots.{holds_none}
use Rattle.hip_code.specs.declared.code.Code.{Code}
use Rattle.hip_code.specs.declared.op.Call.{Call}
use Rattle.hip_code.specs.declared.op.Control.TheVariants as controls
use Rattle.hip_code.specs.declared.op.Move.{Move}
use Rattle.hip_code.specs.declared.op.Op.TheVariants as ops
use Rattle.hip_core.specs.declared.core_parts.Core.{Core}
use Rattle.hip_core.specs.Acts.{Acts, DoesAction, IsLonger, KeepsStates, acted, numbers_of, seen_of}
use Rattle.hip_core.specs.Below.{AreSaved, EndsBefore}
use Rattle.hip_core.specs.Puts.{put_values}
use Rattle.hip_core.specs.Stands.{Stands, Stepped}
use Rattle.hip_core.proofs.Arms.{counted_next, turn_next, placed_next}
use Rattle.hip_core.proofs.Slots.{all_before, holds_kept, kept_longer, kept_put, kept_then, put_is, saved_kept, saved_length}

-- Longer slots hold the same state, whatever is kept for moves.
pub keeps_longer : {old : Core} (read mid : Core) → read ≡ record old { values = read.values } → IsLonger read.slots.items mid.slots.items → mid.saved.items ≡ read.saved.items → KeepsStates old (record read { slots = mid.slots; saved = mid.saved })
keeps_longer {old} read mid same l kept =
    subst (λ (k : Core). IsLonger k.slots.items mid.slots.items → mid.saved.items ≡ k.saved.items → KeepsStates old (record k { slots = mid.slots; saved = mid.saved })) (sym same) here l kept
  where
    here : IsLonger old.slots.items mid.slots.items → mid.saved.items ≡ old.saved.items → KeepsStates old (record old { values = read.values; slots = mid.slots; saved = mid.saved })
    here l kept = record {
      keeps = λ P I w f fs n s.
          let low : old.top.base ≤ old.top.base = omega arith in
          let room = old.top.base + length (names_at P f.function) in
          let high = all_before (names_at P f.function) f.registers old.top.base in
          record {
            limit = s.limit;
            turns = s.turns;
            taken = s.taken;
            ending = s.ending;
            left = s.left;
            placed = s.placed;
            registers = holds_kept (names_at P f.function) old.top.base f.registers room old.slots.items mid.slots.items high (kept_longer room old.slots.items mid.slots.items l) s.registers;
            mark = s.mark;
            saved = subst (λ xs. AreSaved P mid.slots.items old.top.base old.top.dest f.dest f.level xs fs) (sym kept) (saved_kept low (kept_longer old.top.base old.slots.items mid.slots.items l) s.saved);
            blocks = s.blocks;
            storage = s.storage;
          };
      taken = refl;
    }

pub result_goes : (names : List (List ℕ)) (slot : Option ℕ) → result_placed names slot → is_result names slot (result_name names slot)
result_goes names None r = tt
result_goes names (Some slot) r = r

-- A call that would make more than 16,384 frames traps.
pub acts_too_deep : {code : Code} {old new : Core} {e : Event} {call : Call} → MOST_FRAMES - 1 ≤ length old.saved.items → DoesAction old new e true (λ m. Traps trap_kinds.Depth) → Acts code old new e (ops.Control (controls.Call call))
acts_too_deep {code} {old} {new} {e} {call} many d = record {
  acts = λ m b placed past.
      let count = saved_length b.stands.saved in
      let deep : nat_lt (length m.rest) (MOST_FRAMES - 1) ≡ false = le-ltb _ _ (omega (arith, many, count)) in
      let calls = Calls call.function (moved (names_at m.program call.function) (numbers_of code old) (entries_of call.arguments code.moves.items) []) (result_name (names_at m.program m.top.function) call.dest) in
      subst (λ t. Stepped m.program m.input new e (acted m true (cond t calls (Traps trap_kinds.Depth))) (seen_of m (cond t calls (Traps trap_kinds.Depth)))) (sym deep) (d.does m b);
}

-- The frame of a call is in slots after those of its caller, whatever the frame keeps about a call of its own.
pub acts_call : {code : Code} {old new : Core} {call : Call} (unused : ℕ) (longer : List ℕ) (mid : Core) → length old.saved.items < MOST_FRAMES - 1 →
    IsLonger old.slots.items longer → old.top.base + call.frame + call.size ≤ length longer →
    mid.saved.items ≡ old.saved.items ++ record old.top { place = old.top.place + 1; left = old.taken } ∷ [] →
    mid.slots.items ≡ put (numbers_of code old) (old.top.base + call.frame) (entries_of call.arguments code.moves.items) longer →
    new ≡ record old { values = mid.values; slots = mid.slots; saved = mid.saved; top = record { place = call.target; entry = call.target; base = old.top.base + call.frame; mark = mark_of old.storage.areas; blocks = length old.blocks; function = call.function; block = 0; dest = call.dest; left = unused }; taken = old.taken + 1; turns = old.turns + 1 } →
    Acts code old new events.Quiet (ops.Control (controls.Call call))
unfolding perform
acts_call {code} {old} {new} {call} unused longer mid few l room pushed made is = record {
  acts = λ m b placed past.
      let s = b.stands in
      let n = numbers_of code old in
      let P = m.program in
      let names = names_at P m.top.function in
      let called = names_at P call.function in
      let ms = entries_of call.arguments code.moves.items in
      let base = old.top.base + call.frame in
      let count = saved_length s.saved in
      let shallow : nat_lt (length m.rest) (MOST_FRAMES - 1) ≡ true = lt-ltb _ _ (omega (arith, few, count)) in
      let size = placed.0.size in
      let begins = placed.0.begins in
      let born : ℕ → Option Level = λ birth. Some (record { call = site_of m.top; birth = birth }) in
      let level = born m.before.steps in
      let registers = moved called n ms [] in
      let name = result_name names call.dest in
      let callee : Frame = record { function = call.function; block = 0; place = 0; registers = registers; mark = m.world.mark; slots = []; dest = name; level = level } in
      let low : old.top.base ≤ base = omega arith in
      let before : EndsBefore names m.top.registers old.top.base base = record { at = λ name slot q a. let b = placed.1.at name slot q a in omega (arith, b) } in
      let same : base ≤ base = omega arith in
      let changed = kept_then base old.slots.items longer (put n base ms longer) (kept_longer base old.slots.items longer l) (kept_put n base base ms longer same) in
      let changed_low = kept_then old.top.base old.slots.items longer (put n base ms longer) (kept_longer old.top.base old.slots.items longer l) (kept_put n old.top.base base ms longer low) in
      let long : base + length called ≤ length longer = omega (arith, room, size) in
      subst (λ t. Stepped P m.input new events.Quiet (acted m true (cond t (Calls call.function registers name) (Traps trap_kinds.Depth))) (seen_of m (cond t (Calls call.function registers name) (Traps trap_kinds.Depth)))) (sym shallow) (record {
        stands = subst (λ (c : Core). Stands P m.input c (with_turn m.world) callee (next m.top ∷ m.rest) m.after.steps) (sym is) (record {
          limit = s.limit;
          turns = turn_next _ _ s.turns;
          taken = counted_next _ _ _ s.taken b.counted;
          ending = s.ending;
          left = s.left;
          placed = record { stands = begins; begins = begins.is ∙ add-zero _; function = refl; block = refl };
          registers = subst (λ xs. HoldsFrame called xs base registers) (sym made) (holds_moved n base called longer [] ms placed.0.arguments (holds_none called longer base long));
          mark = s.storage.memory.mark_is;
          saved = record {
            are = (
              old.saved.items,
              record old.top { place = old.top.place + 1; left = old.taken },
              pushed,
              record {
                placed = placed_next s.placed (past refl);
                registers = subst (λ xs. HoldsFrame names xs old.top.base m.top.registers) (sym made) (holds_kept names old.top.base m.top.registers base old.slots.items (put n base ms longer) before changed s.registers);
                lower = low;
                apart = before;
                result = result_goes names call.dest placed.0.result;
                mark = s.mark;
                blocks = s.blocks.below;
                call = record { index = m.top.place; past = refl; is = ap born (sym s.taken) };
              },
              (subst (λ xs. AreSaved P xs old.top.base old.top.dest m.top.dest m.top.level old.saved.items m.rest) (sym made) (saved_kept (let z : old.top.base ≤ old.top.base = omega arith in z) changed_low s.saved)).are,
            );
          };
          blocks = record { are = s.blocks.are ∙ sym (append-nil _); below = ap length s.blocks.are };
          storage = s.storage;
        });
        event = refl;
      });
}

-- A call does its action, from the core after the arguments were read.
pub acts_call_from : {code : Code} {old new : Core} {call : Call} (read : Core) (longer : List ℕ) (kept mid : Core) (ms : List Move) → length old.saved.items < MOST_FRAMES - 1 →
    read ≡ record old { values = read.values } → ms ≡ entries_of call.arguments code.moves.items → read.values.items ≡ map (λ m. operand_value (numbers_of code old) m.value) ms →
    IsLonger read.slots.items longer → read.top.base + call.frame + call.size ≤ length longer →
    kept.saved.items ≡ read.saved.items ++ record read.top { place = read.top.place + 1; left = read.taken } ∷ [] →
    mid.slots.items ≡ put_values (read.top.base + call.frame) ms read.values.items longer → mid ≡ record read { slots = mid.slots; saved = kept.saved } →
    new ≡ record mid { top = record { place = call.target; entry = call.target; base = mid.top.base + call.frame; mark = mark_of mid.storage.areas; blocks = length mid.blocks; function = call.function; block = 0; dest = call.dest; left = 0 }; taken = mid.taken + 1; turns = mid.turns + 1 } →
    Acts code old new events.Quiet (ops.Control (controls.Call call))
acts_call_from {code} {old} {new} {call} read longer kept mid ms few same are values l room pushed put_in stays is =
    let n = numbers_of code old in
    let entered = λ (k : Core). record k { top = record { place = call.target; entry = call.target; base = k.top.base + call.frame; mark = mark_of k.storage.areas; blocks = length k.blocks; function = call.function; block = 0; dest = call.dest; left = 0 }; taken = k.taken + 1; turns = k.turns + 1 } in
    acts_call 0 longer (record old { values = read.values; slots = mid.slots; saved = kept.saved }) few
    (subst (λ (k : Core). IsLonger k.slots.items longer) same l)
    (subst (λ (k : Core). k.top.base + call.frame + call.size ≤ length longer) same room)
    (pushed ∙ ap (λ (k : Core). k.saved.items ++ record k.top { place = k.top.place + 1; left = k.taken } ∷ []) same)
    (put_in ∙ ap₂ (λ (k : Core) vs. put_values (k.top.base + call.frame) ms vs longer) same values ∙ put_is n (old.top.base + call.frame) ms longer ∙ ap (λ xs. put n (old.top.base + call.frame) xs longer) are)
    (is ∙ ap entered stays ∙ ap (λ (k : Core). entered (record k { slots = mid.slots; saved = kept.saved })) same)

pub on_err : {A E : Type 0} {P : Type 0} (r : Result A E) → P → OnErr r P
on_err (Ok x) p = tt
on_err (Err e) p = p
