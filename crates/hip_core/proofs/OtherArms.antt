-- What the code of an op on cache lines or on the outside does to the state that the machine represents.
use Rattle.std.proofs.Common.{◌≡◌, ℕ, zero, suc, ◌+◌, ◌<◌, ◌≤◌, Bool, true, false, cond, length, List, [], ◌∷◌, drop, get_or, Option, Some, ℤ, refl, sym, ap, ◌∙◌, subst, arith, add-one, drop-cons}
use Rattle.hip_types.specs.Numbers.{signed, wrapped}
use Rattle.hip_types.specs.declared.number.Width.TheVariants.{W64}
use Rattle.hip_runs.specs.Actions.{Action, Traps, Flushes, Persists, Fences, Asserts, Prints, flushing, in_region, read_next}
use Rattle.hip_runs.specs.Operands.{assigned}
use Rattle.hip_runs.specs.State.{Frame}
use Rattle.hip_runs.specs.Step.{perform, with_left, with_output, with_turn}
use Rattle.hip_runs.specs.declared.event.Ending.TheVariants.{Trap}
use Rattle.hip_runs.specs.declared.event.Event.{Event}
use Rattle.hip_runs.specs.declared.event.Event.TheVariants as events
use Rattle.hip_runs.specs.declared.event.TrapKind.{TrapKind}
use Rattle.hip_runs.specs.declared.event.TrapKind.TheVariants as traps
use Rattle.hip_runs.specs.declared.input.Input.{Input}
use Rattle.hip_code.specs.declared.code.Code.{Code}
use Rattle.hip_code.specs.declared.op.Effect.TheVariants as effects
use Rattle.hip_code.specs.declared.op.Memory.TheVariants as memories
use Rattle.hip_code.specs.declared.op.Op.TheVariants as ops
use Rattle.hip_code.specs.declared.op.OpOperand.{OpOperand}
use Rattle.hip_code.specs.declared.op.Outside.TheVariants as outsides
use Rattle.hip_code.specs.declared.op.Persistence.TheVariants as persistences
use Rattle.hip_code.specs.Frames.{names_at, HoldsFrame}
use Rattle.hip_code.specs.Numbers.{operand_value}
use Rattle.hip_code.specs.Ops.{result_name}
use Rattle.hip_storage.specs.Calls.{ShowsFlush, ShowsPersist}
use Rattle.hip_storage.specs.Contents.{lies_in_region, range_trap}
use Rattle.hip_storage.specs.Laws.ActionLaws.{assert_done, assert_refused, fence_done, flush_done, persist_done, range_refused}
use Rattle.hip_core.specs.declared.core_parts.Core.{Core}
use Rattle.hip_core.specs.Acts.{Acts, ActsOn, DoesAction, DoesNext, acted, numbers_of, seen_of}
use Rattle.hip_core.specs.Below.{AreSaved}
use Rattle.hip_core.specs.Puts.{with_result}
use Rattle.hip_core.specs.Stands.{Stands, Stepped}
use Rattle.hip_core.proofs.Arms.{counted_next, placed_next, turn_next}
use Rattle.hip_core.proofs.CallArms.{result_goes}
use Rattle.hip_core.proofs.MemoryArms.{halts, passes, point_of, refused, stands_next}
use Rattle.hip_core.proofs.Slots.{holds_result, kept_result, saved_kept}

-- ---- flushes and fences

pub flushes : {old new : Core} {e : Event} (a n : ℕ) → ShowsFlush old.storage e a n → new ≡ record old { top = record old.top { place = old.top.place + 1 }; taken = old.taken + 1 } →
    DoesNext old new e false (λ m. flushing m.program m.input m.world a n (Flushes a n))
flushes {old} {new} {e} a n x is = record { does = λ m b past. passes {turn = false} (Flushes a n) old.storage tt (flush_done (point_of m false) b.stands.storage x) is b past }

pub persists : {old new : Core} {e : Event} (a n : ℕ) → ShowsPersist old.storage e a n → new ≡ record old { top = record old.top { place = old.top.place + 1 }; taken = old.taken + 1 } →
    DoesNext old new e false (λ m. flushing m.program m.input m.world a n (Persists a n))
persists {old} {new} {e} a n x is = record { does = λ m b past. passes {turn = false} (Persists a n) old.storage tt (persist_done (point_of m false) b.stands.storage x) is b past }

pub fences : {old new : Core} → new ≡ record old { top = record old.top { place = old.top.place + 1 }; taken = old.taken + 1 } → DoesNext old new events.Fence false (λ m. Fences)
fences {old} {new} is = record { does = λ m b past. passes {turn = false} Fences old.storage tt (fence_done (point_of m false) b.stands.storage) is b past }

-- A flush of a range with a byte that is not valid ends the run.
pub range_halts : {old new : Core} {e : Event} (a n : ℕ) (kind : TrapKind) (go : Action) → range_trap old.storage a n ≡ Some kind → e ≡ events.End (Trap kind) →
    new ≡ record old { ending = Some (Trap kind); taken = old.taken + 1 } → DoesNext old new e false (λ m. flushing m.program m.input m.world a n go)
range_halts {old} {new} {e} a n kind go trapped event stops = halts old.storage kind refl (λ m b. (range_refused (point_of m false) b.stands.storage {new = old.storage} a n kind go trapped refl).is) event stops

pub acts_flush : {code : Code} {old new : Core} {e : Event} {addr : OpOperand} (a : ℕ) → a ≡ operand_value (numbers_of code old) addr → DoesNext old new e false (λ m. flushing m.program m.input m.world a 1 (Flushes a 1)) →
    Acts code old new e (ops.Memory (memories.Effect (effects.Persistence (persistences.Flush addr))))
acts_flush {code} {old} {new} {e} {addr} a is d = record {
  acts = λ m b placed past.
      subst (λ k. let x = flushing m.program m.input m.world k 1 (Flushes k 1) in Stepped m.program m.input new e (acted m false x) (seen_of m x)) is (d.does m b (past refl));
}

pub acts_fence : {code : Code} {old new : Core} {e : Event} → DoesNext old new e false (λ m. Fences) → Acts code old new e (ops.Memory (memories.Effect (effects.Persistence persistences.Fence)))
acts_fence d = record { acts = λ m b placed past. d.does m b (past refl) }

pub acts_range : {code : Code} {old new : Core} {e : Event} {addr size : OpOperand} {fence : Bool} (a n : ℕ) → a ≡ operand_value (numbers_of code old) addr → n ≡ operand_value (numbers_of code old) size →
    DoesNext old new e false (λ m. flushing m.program m.input m.world a n (cond fence (Persists a n) (Flushes a n))) →
    Acts code old new e (ops.Memory (memories.Effect (effects.Persistence (persistences.Range addr size fence))))
acts_range {code} {old} {new} {e} {addr} {size} {fence} a n is_a is_n d = record {
  acts = λ m b placed past.
      let step = λ (k j : ℕ). let x = flushing m.program m.input m.world k j (cond fence (Persists k j) (Flushes k j)) in Stepped m.program m.input new e (acted m false x) (seen_of m x) in
      subst (λ k. step k (operand_value (numbers_of code old) size)) is_a (subst (λ j. step a j) is_n (d.does m b (past refl)));
}

-- ---- the outside

pub asserts : {old new : Core} (a n : ℕ) → lies_in_region old.storage a n ≡ true → new ≡ record old { top = record old.top { place = old.top.place + 1 }; taken = old.taken + 1; turns = old.turns + 1 } →
    DoesNext old new (events.Assert a n) true (λ m. cond (in_region m.input a n) (Asserts a n) (Traps traps.Address))
asserts {old} {new} a n inside is = record { does = λ m b past. passes {turn = true} (Asserts a n) old.storage tt (assert_done (point_of m true) b.stands.storage a n inside refl) is b past }

pub assert_traps : {old new : Core} {e : Event} (a n : ℕ) → lies_in_region old.storage a n ≡ false → DoesAction old new e true (λ m. Traps traps.Address) →
    DoesNext old new e true (λ m. cond (in_region m.input a n) (Asserts a n) (Traps traps.Address))
assert_traps {old} {new} {e} a n outside d = record {
  does = λ m b past. refused old.storage traps.Address refl d (assert_refused (point_of m true) b.stands.storage {new = old.storage} a n outside refl).is b;
}

pub prints : {old new : Core} {e : Event} (z : ℤ) → e ≡ events.Print z → new ≡ record old { top = record old.top { place = old.top.place + 1 }; taken = old.taken + 1; turns = old.turns + 1 } → DoesNext old new e true (λ m. Prints z)
unfolding perform
prints {old} {new} {e} z shown is = record {
  does = λ m b past.
      let s = b.stands in
      record { stands = stands_next true old.storage (with_output z (with_turn m.world)) is b past (turn_next _ _ s.turns) s.ending s.left s.storage; event = shown };
}

pub acts_assert : {I : Input} {code : Code} {old new : Core} {e : Event} {addr size : OpOperand} (a n : ℕ) → a ≡ operand_value (numbers_of code old) addr → n ≡ operand_value (numbers_of code old) size →
    DoesNext old new e true (λ m. cond (in_region m.input a n) (Asserts a n) (Traps traps.Address)) → ActsOn I code old new e (ops.Memory (memories.Effect (effects.Outside (outsides.Assert addr size))))
acts_assert {I} {code} {old} {new} {e} {addr} {size} a n is_a is_n d = record {
  acts = λ m same b placed past.
      let step = λ (k j : ℕ). let x = cond (in_region m.input k j) (Asserts k j) (Traps traps.Address) in Stepped m.program m.input new e (acted m true x) (seen_of m x) in
      subst (λ k. step k (operand_value (numbers_of code old) size)) is_a (subst (λ j. step a j) is_n (d.does m b (past refl)));
}

pub acts_print : {I : Input} {code : Code} {old new : Core} {e : Event} {value : OpOperand} (v : ℕ) → v ≡ operand_value (numbers_of code old) value → DoesNext old new e true (λ m. Prints (signed W64 v)) →
    ActsOn I code old new e (ops.Memory (memories.Effect (effects.Outside (outsides.Print value))))
acts_print {I} {code} {old} {new} {e} {value} v is d = record {
  acts = λ m same b placed past.
      subst (λ u. let x = Prints (signed W64 u) in Stepped m.program m.input new e (acted m true x) (seen_of m x)) is (d.does m b (past refl));
}

-- ---- input numbers

none_past : {A : Type 0} (xs : List A) (k : ℕ) → length xs ≤ k → drop k xs ≡ []
none_past [] zero h = refl
none_past [] (suc k) h = refl
none_past (x ∷ xs) zero h = absurd (omega arith)
none_past (x ∷ xs) (suc k) h = none_past xs k (omega arith)

pub acts_read : {I : Input} {old new : Core} {e : Event} {dest : Option ℕ} (d z : ℤ) → old.read < length I.numbers → z ≡ get_or I.numbers old.read d → e ≡ events.Quiet →
    new ≡ record old { slots = new.slots; read = old.read + 1; top = record old.top { place = old.top.place + 1 }; taken = old.taken + 1; turns = old.turns + 1 } →
    new.slots.items ≡ with_result old.top.base dest (wrapped W64 z) old.slots.items → (code : Code) → ActsOn I code old new e (ops.Memory (memories.Effect (effects.Outside (outsides.Read dest))))
unfolding perform
acts_read {I} {old} {new} {e} {dest} d z there number quiet is slots code = record {
  acts = λ m same b placed past.
      let s = b.stands in
      let P = m.program in
      let names = names_at P m.top.function in
      let name = result_name names dest in
      let v = wrapped W64 z in
      let rest = drop (suc old.read) m.input.numbers in
      let within : old.read < length m.input.numbers = subst (λ (J : Input). old.read < length J.numbers) (sym same) there in
      let here : z ≡ get_or m.input.numbers old.read d = subst (λ (J : Input). z ≡ get_or J.numbers old.read d) (sym same) number in
      let left : m.world.left ≡ z ∷ rest = sym s.left ∙ drop-cons m.input.numbers old.read d within ∙ ap (λ x. x ∷ rest) (sym here) in
      let low : old.top.base ≤ old.top.base = omega arith in
      let world = with_left rest (with_turn m.world) in
      let after : Frame = record m.top { place = suc m.top.place; registers = assigned name v m.top.registers } in
      subst (λ zs. let x = read_next name zs in Stepped P m.input new e (acted m true x) (seen_of m x)) (sym left) (record {
        stands = subst (λ (c : Core). Stands P m.input c world after m.rest m.after.steps) (sym is) (record {
          limit = s.limit;
          turns = turn_next _ _ s.turns;
          taken = counted_next _ _ _ s.taken b.counted;
          ending = s.ending;
          left = ap (λ k. drop k m.input.numbers) (add-one old.read);
          placed = placed_next s.placed (past refl);
          registers = subst (λ xs. HoldsFrame names xs old.top.base (assigned name v m.top.registers)) (sym slots) (holds_result names old.slots.items old.top.base v dest name m.top.registers (result_goes names dest placed.0) s.registers);
          mark = s.mark;
          saved = subst (λ xs. AreSaved P xs old.top.base old.top.dest m.top.dest m.top.level old.saved.items m.rest) (sym slots) (saved_kept low (kept_result old.top.base old.top.base v dest old.slots.items low) s.saved);
          blocks = s.blocks;
          storage = s.storage;
        });
        event = quiet;
      });
}
