-- What the code of an op on memory, on cache lines or on the outside does to the state that the machine represents.
use Rattle.std.proofs.Common.{◌≡◌, inl, inr, ℕ, suc, ◌+◌, ◌-◌, ◌%◌, ◌<◌, ◌≤◌, Bool, true, false, cond, length, List, [], ◌∷◌, ◌++◌, drop, reverse, Option, Some, slice_set, ℤ, refl, sym, ap, ap₂, ◌∙◌, subst, arith, append_assoc}
use Rattle.std.proofs.lemmas.List.{reverse-append, take_at}
use Rattle.std.proofs.lemmas.List.Elements.{All-weaker}
use Rattle.hip_tree.specs.declared.site.Site.{Site}
use Rattle.hip_types.specs.Numbers.{modulus}
use Rattle.hip_types.specs.Widths.{bytes_of}
use Rattle.hip_types.specs.declared.number.Width.{Width}
use Rattle.hip_types.specs.declared.number.Width.TheVariants.{W1, W8, W16, W32, W64}
use Rattle.hip_mem.specs.Areas.{block_address, mark_of}
use Rattle.hip_types.specs.Bytes.{little_endian}
use Rattle.hip_types.specs.Bytes as bytes
use Rattle.hip_mem.specs.Laws.AreasLaws.{mark-le-block, mark_of-after_push}
use Rattle.hip_mem.specs.Memory.{bytes_at}
use Rattle.hip_types.specs.Areas.{stack_start}
use Rattle.hip_runs.specs.Actions.{Action, Traps, Assigns, Allocates, Stores, Flushes, Persists, Fences, Asserts, Prints, Reads, Calls, Jumps, Returns, accessed, memory_of}
use Rattle.hip_runs.specs.State.{Frame, Slot, World, site_of}
use Rattle.hip_runs.specs.Step.{next, perform, with_block, with_bytes, with_turn}
use Rattle.hip_runs.specs.declared.event.Ending.{Ending}
use Rattle.hip_runs.specs.declared.event.Ending.TheVariants.{Trap}
use Rattle.hip_runs.specs.declared.event.Event.{Event}
use Rattle.hip_runs.specs.declared.event.Event.TheVariants as events
use Rattle.hip_runs.specs.declared.event.TrapKind.{TrapKind}
use Rattle.hip_code.specs.declared.code.Code.{Code}
use Rattle.hip_code.specs.declared.op.Effect.TheVariants as effects
use Rattle.hip_code.specs.declared.op.Memory.TheVariants as memories
use Rattle.hip_code.specs.declared.op.Op.TheVariants as ops
use Rattle.hip_code.specs.declared.op.OpOperand.{OpOperand}
use Rattle.hip_code.specs.Frames.{names_at, HoldsFrame}
use Rattle.hip_code.specs.Laws.Slots.{holds_assigned}
use Rattle.hip_code.specs.Moves.{name_at}
use Rattle.hip_code.specs.Numbers.{operand_value}
use Rattle.hip_code.specs.Ops.{IsSize}
use Rattle.hip_objects.specs.Blocks.{IsPast, nonempty}
use Rattle.hip_objects.proofs.Stacks.{nonempty-append}
use Rattle.hip_storage.specs.Calls.{HasLoaded, HasPushed, HasStored}
use Rattle.hip_storage.specs.Contents.{Contents, access_trap, after_pop, block_trap}
use Rattle.hip_storage.specs.Laws.ActionLaws.{access_refused, block_refused, load_done, push_done, store_done}
use Rattle.hip_storage.specs.Represented.{HasDone, HoldsRun, Point}
use Rattle.hip_core.specs.declared.core_parts.Core.{Core}
use Rattle.hip_core.specs.Acts.{Acts, Before, DoesAction, DoesNext, HasNext, KeepsStates, Moment, acted, numbers_of, seen_of}
use Rattle.hip_core.specs.Below.{AreSaved}
use Rattle.hip_core.specs.Blocks.{blocks_of}
use Rattle.hip_core.specs.Stands.{Stands, Stepped}
use Rattle.hip_core.proofs.Arms.{assigns, counted_next, placed_next, stops_still, turn_next}
use Rattle.hip_core.proofs.Slots.{kept_set, saved_kept}

-- The site of the op that is next in the machine's top frame, by its index in its block.
abbrev pub site_here : Core → Site
site_here c = record { function = c.top.function; block = c.top.block; index = c.top.place - c.top.entry }

pub size_some : (n : ℕ) → IsSize n → 0 < n
size_some n (inl e) = omega (arith, e)
size_some n (inr (inl e)) = omega (arith, e)
size_some n (inr (inr (inl e))) = omega (arith, e)
size_some n (inr (inr (inr e))) = omega (arith, e)

pub width_some : (w : Width) → 0 < bytes_of w
width_some W1 = omega arith
width_some W8 = omega arith
width_some W16 = omega arith
width_some W32 = omega arith
width_some W64 = omega arith

pub width_few : (w : Width) → bytes_of w ≤ 8
width_few W1 = omega arith
width_few W8 = omega arith
width_few W16 = omega arith
width_few W32 = omega arith
width_few W64 = omega arith

-- ---- the next state

abbrev pub point_of : Moment → Bool → Point
point_of m turn = record { world = m.world; frame = m.top; frames = m.rest; lines = m.lines; before = m.before; after = m.after; turn = turn }

-- The number of turns after a step that is a turn or not.
abbrev pub turns_after : Bool → ℕ → ℕ
turns_after true n = n + 1
turns_after false n = n

turns_turned : (turn : Bool) (n : ℕ) (w : World) → n ≡ w.turns → turns_after turn n ≡ (cond turn (with_turn w) w).turns
turns_turned true n w e = turn_next n w.turns e
turns_turned false n w e = e

ending_turned : (turn : Bool) (o : Option Ending) (w : World) → o ≡ w.ending → o ≡ (cond turn (with_turn w) w).ending
ending_turned true o w e = e
ending_turned false o w e = e

left_turned : (turn : Bool) (zs : List ℤ) (w : World) → zs ≡ w.left → zs ≡ (cond turn (with_turn w) w).left
left_turned true zs w e = e
left_turned false zs w e = e

-- The frame after its instruction, in a world with other memory.
pub stands_next : {old new : Core} {m : Moment} (turn : Bool) (st : Contents) (w : World) →
    new ≡ record old { storage = st; top = record old.top { place = old.top.place + 1 }; taken = old.taken + 1; turns = turns_after turn old.turns } → Before old m → HasNext old m →
    turns_after turn old.turns ≡ w.turns → old.ending ≡ w.ending → drop old.read m.input.numbers ≡ w.left → HoldsRun m.program m.input st w.writes w.mark →
    Stands m.program m.input new w (next m.top) m.rest m.after.steps
stands_next {old} {new} {m} turn st w is b past t e l h = let s = b.stands in subst (λ (c : Core). Stands m.program m.input c w (next m.top) m.rest m.after.steps) (sym is) (record {
  limit = s.limit;
  turns = t;
  taken = counted_next _ _ _ s.taken b.counted;
  ending = e;
  left = l;
  placed = placed_next s.placed past;
  registers = s.registers;
  mark = s.mark;
  saved = s.saved;
  blocks = s.blocks;
  storage = h;
})

-- The action leaves all registers as they are.
abbrev pub leaves : Action → Type 0
leaves (Stores a bytes) = Unit {0}
leaves (Flushes a n) = Unit {0}
leaves (Persists a n) = Unit {0}
leaves Fences = Unit {0}
leaves (Asserts a n) = Unit {0}
leaves _ = ⊥

pub passes : {old new : Core} {turn : Bool} {e : Event} {m : Moment} {action : Action} (done : Action) (st : Contents) → leaves done → HasDone m.program m.input (point_of m turn) st e action done →
    new ≡ record old { storage = st; top = record old.top { place = old.top.place + 1 }; taken = old.taken + 1; turns = turns_after turn old.turns } → Before old m → HasNext old m →
    Stepped m.program m.input new e (acted m turn action) (seen_of m action)
unfolding perform
passes {old} {new} {turn} {e} {m} {action} done st ok d is b past = subst (λ x. Stepped m.program m.input new e (acted m turn x) (seen_of m x)) (sym d.is) (go done ok d)
  where
    at : (w : World) → w.turns ≡ (cond turn (with_turn m.world) m.world).turns → w.ending ≡ (cond turn (with_turn m.world) m.world).ending → w.left ≡ (cond turn (with_turn m.world) m.world).left → HoldsRun m.program m.input st w.writes w.mark →
        Stands m.program m.input new w (next m.top) m.rest m.after.steps
    at w t g l h =
        let s = b.stands in
        stands_next turn st w is b past (turns_turned turn old.turns m.world s.turns ∙ sym t) (ending_turned turn old.ending m.world s.ending ∙ sym g) (left_turned turn (drop old.read m.input.numbers) m.world s.left ∙ sym l) h

    go : (x : Action) → leaves x → HasDone m.program m.input (point_of m turn) st e action x → Stepped m.program m.input new e (acted m turn x) (seen_of m x)
    go (Stores a bs) ok d = record { stands = at (with_bytes a bs (cond turn (with_turn m.world) m.world)) refl refl refl d.holds; event = d.seen }
    go (Flushes a n) ok d = record { stands = at (cond turn (with_turn m.world) m.world) refl refl refl d.holds; event = d.seen }
    go (Persists a n) ok d = record { stands = at (cond turn (with_turn m.world) m.world) refl refl refl d.holds; event = d.seen }
    go Fences ok d = record { stands = at (cond turn (with_turn m.world) m.world) refl refl refl d.holds; event = d.seen }
    go (Asserts a n) ok d = record { stands = at (cond turn (with_turn m.world) m.world) refl refl refl d.holds; event = d.seen }
    go (Traps kind) ok d = absurd ok
    go (Assigns dest v) ok d = absurd ok
    go (Allocates dest a n) ok d = absurd ok
    go (Prints z) ok d = absurd ok
    go (Reads dest z rest) ok d = absurd ok
    go (Calls g rs dest) ok d = absurd ok
    go (Jumps g rs) ok d = absurd ok
    go (Returns v) ok d = absurd ok

-- ---- traps

-- If the storage refuses an action and stays as it is, the step is the trap of this action.
pub refused : {old new : Core} {e : Event} {m : Moment} {action : Action} (st : Contents) (kind : TrapKind) → st ≡ old.storage → DoesAction (record old { storage = st }) new e true (λ m. Traps kind) → action ≡ Traps kind → Before old m →
    Stepped m.program m.input new e (acted m true action) (seen_of m action)
refused {old} {new} {e} {m} {action} st kind same d is b =
    let here = subst (λ (x : Contents). DoesAction (record old { storage = x }) new e true (λ m. Traps kind)) same d in
    subst (λ x. Stepped m.program m.input new e (acted m true x) (seen_of m x)) (sym is) (here.does m b)

-- If the storage refuses an action that is not a turn and stays as it is, the run ends in the trap of this action.
pub halts : {old new : Core} {e : Event} {x : Moment → Action} (st : Contents) (kind : TrapKind) → st ≡ old.storage → ((m : Moment) → Before old m → x m ≡ Traps kind) → e ≡ events.End (Trap kind) →
    new ≡ record old { storage = st; ending = Some (Trap kind); taken = old.taken + 1 } → DoesNext old new e false x
unfolding perform
halts {old} {new} {e} {x} st kind same is event stops = record {
  does = λ m b past.
      let core = stops ∙ ap (λ (y : Contents). record old { storage = y; ending = Some (Trap kind); taken = old.taken + 1 }) same in
      subst (λ y. Stepped m.program m.input new e (acted m false y) (seen_of m y)) (sym (is m b)) (record {
        stands = stops_still new (Trap kind) core b;
        event = event;
      });
}

pub keeps_storage : {old : Core} (st : Contents) → st ≡ old.storage → KeepsStates old (record old { storage = st })
keeps_storage {old} st same = subst (λ (x : Contents). KeepsStates old (record old { storage = x })) (sym same) (record { keeps = λ P I w f fs n s. s; taken = refl })

-- ---- loads and stores

pub acts_load : {code : Code} {old new : Core} {dest align : ℕ} {width : Width} {addr : OpOperand} (a n value v : ℕ) → a ≡ operand_value (numbers_of code old) addr → n ≡ bytes_of width → HasLoaded old.storage a n align value → v ≡ value % modulus width →
    new ≡ record old { slots = new.slots; top = record old.top { place = old.top.place + 1 }; taken = old.taken + 1; turns = old.turns + 1 } → new.slots.items ≡ slice_set old.slots.items (old.top.base + dest) v →
    Acts code old new events.Quiet (ops.Memory (memories.Load dest width align addr))
acts_load {code} {old} {new} {dest} {align} {width} {addr} a n value v at_a is_n loaded is_v is slots = record {
  acts = λ m b placed past.
      let P = m.program in
      let name = name_at (names_at P m.top.function) dest in
      let some : 0 < n = subst (λ k. 0 < k) (sym is_n) (width_some width) in
      let done = load_done (point_of m true) b.stands.storage {dest = Some name} (modulus width) some loaded refl in
      let of : ℕ → ℕ → Action = λ k j. accessed P m.input m.world k j align (Assigns (Some name) (little_endian (bytes_at (memory_of P m.input m.world) k j) % modulus width)) in
      let step = λ (x : Action). Stepped P m.input new events.Quiet (acted m true x) (seen_of m x) in
      subst (λ k. step (of k (bytes_of width))) at_a (subst (λ j. step (of a j)) is_n (subst step (sym done.is) (subst (λ u. step (Assigns (Some name) u)) is_v (assigns new dest v is slots placed.0 (past refl) b))));
}

pub acts_load_trap : {code : Code} {old new : Core} {e : Event} {dest align : ℕ} {width : Width} {addr : OpOperand} (a n : ℕ) (kind : TrapKind) → a ≡ operand_value (numbers_of code old) addr → n ≡ bytes_of width → access_trap old.storage a n align ≡ Some kind →
    DoesAction old new e true (λ m. Traps kind) → Acts code old new e (ops.Memory (memories.Load dest width align addr))
acts_load_trap {code} {old} {new} {e} {dest} {align} {width} {addr} a n kind at_a is_n trapped d = record {
  acts = λ m b placed past.
      let P = m.program in
      let name = name_at (names_at P m.top.function) dest in
      let some : 0 < n = subst (λ k. 0 < k) (sym is_n) (width_some width) in
      let of : ℕ → ℕ → Action = λ k j. accessed P m.input m.world k j align (Assigns (Some name) (little_endian (bytes_at (memory_of P m.input m.world) k j) % modulus width)) in
      let done = access_refused (point_of m true) b.stands.storage {new = old.storage} a n align kind (Assigns (Some name) (little_endian (bytes_at (memory_of P m.input m.world) a n) % modulus width)) some trapped refl in
      let step = λ (x : Action). Stepped P m.input new e (acted m true x) (seen_of m x) in
      subst (λ k. step (of k (bytes_of width))) at_a (subst (λ j. step (of a j)) is_n (subst step (sym done.is) (d.does m b)));
}

pub acts_store : {code : Code} {old new : Core} {e : Event} {size align : ℕ} {value addr : OpOperand} (st : Contents) (a v : ℕ) → a ≡ operand_value (numbers_of code old) addr → v ≡ operand_value (numbers_of code old) value → IsSize size →
    HasStored old.storage st e a size align v →
    new ≡ record old { storage = st; top = record old.top { place = old.top.place + 1 }; taken = old.taken + 1; turns = old.turns + 1 } →
    Acts code old new e (ops.Memory (memories.Store size align value addr))
acts_store {code} {old} {new} {e} {size} {align} {value} {addr} st a v at_a is_v sizes stored is = record {
  acts = λ m b placed past.
      let done = store_done (point_of m true) b.stands.storage (size_some size sizes) stored in
      let step = λ (k u : ℕ). let x = accessed m.program m.input m.world k size align (Stores k (bytes.bytes_of size u)) in Stepped m.program m.input new e (acted m true x) (seen_of m x) in
      subst (λ k. step k (operand_value (numbers_of code old) value)) at_a (subst (λ u. step a u) is_v (passes {turn = true} (Stores a (bytes.bytes_of size v)) st tt done is b (past refl)));
}

pub acts_store_trap : {code : Code} {old new : Core} {e : Event} {size align : ℕ} {value addr : OpOperand} (st : Contents) (a v : ℕ) (kind : TrapKind) → a ≡ operand_value (numbers_of code old) addr → v ≡ operand_value (numbers_of code old) value → IsSize size →
    access_trap old.storage a size align ≡ Some kind → st ≡ old.storage → DoesAction (record old { storage = st }) new e true (λ m. Traps kind) →
    Acts code old new e (ops.Memory (memories.Store size align value addr))
acts_store_trap {code} {old} {new} {e} {size} {align} {value} {addr} st a v kind at_a is_v sizes trapped same d = record {
  acts = λ m b placed past.
      let done = access_refused (point_of m true) b.stands.storage {new = st} a size align kind (Stores a (bytes.bytes_of size v)) (size_some size sizes) trapped same in
      let step = λ (k u : ℕ). let x = accessed m.program m.input m.world k size align (Stores k (bytes.bytes_of size u)) in Stepped m.program m.input new e (acted m true x) (seen_of m x) in
      subst (λ k. step k (operand_value (numbers_of code old) value)) at_a (subst (λ u. step a u) is_v (refused st kind same d done.is b));
}

-- ---- blocks on the stack

block_added : (all older : List Slot) (ss : List Slot) (s : Slot) → all ≡ older ++ nonempty (reverse ss) → all ++ nonempty (s ∷ []) ≡ older ++ nonempty (reverse (s ∷ ss))
block_added all older ss s e =
    ap (λ xs. xs ++ nonempty (s ∷ [])) e ∙ append_assoc older (nonempty (reverse ss)) (nonempty (s ∷ []))
    ∙ ap (λ xs. older ++ xs) (sym (nonempty-append (reverse ss) (s ∷ [])) ∙ ap nonempty (sym (reverse-append (s ∷ []) ss)))

pub past_block : {x st : Contents} {block size align : ℕ} (xs : List Slot) → HasPushed x st block size align → IsPast (mark_of x.areas) xs → IsPast block xs
past_block {x} {st} {block} {size} {align} xs p h =
    let up = mark-le-block x.areas align in
    let at_block = p.address in
    All-weaker (λ (y : Slot). y.addr + y.size ≤ mark_of x.areas) (λ (y : Slot). y.addr + y.size ≤ block) (λ y le. omega (arith, le, up, at_block)) xs h

pub mark_rises : {x st : Contents} {block size align : ℕ} → HasPushed x st block size align → mark_of x.areas ≤ mark_of st.areas
mark_rises {x} {st} {block} {size} {align} p =
    let up = mark-le-block x.areas align in
    let above : mark_of x.areas ≤ block_address x.areas align + size = omega (arith, up) in
    let new = mark_of-after_push (block_address x.areas align + size) x.areas above in
    let is = ap (λ (y : Contents). mark_of y.areas) p.contents in
    omega (arith, above, new, is)

-- A block that is made and then removed leaves the storage as it is.
pub taken_back : {x st : Contents} {block size align : ℕ} → HasPushed x st block size align → after_pop (mark_of x.areas) st ≡ x
taken_back {x} {st} {block} {size} {align} p =
    let short : length x.areas.stack ≡ mark_of x.areas - stack_start = omega arith in
    ap (after_pop (mark_of x.areas)) p.contents ∙ ap (λ xs. record x { areas = record x.areas { stack = xs } }) (take_at x.areas.stack _ (mark_of x.areas - stack_start) short)

pub acts_alloca : {old new : Core} {dest size align : ℕ} (st : Contents) (a : ℕ) → HasPushed old.storage st a size align →
    new ≡ record old { storage = st; blocks = old.blocks ++ nonempty (record { addr = a; size = size; site = site_here old } ∷ []); slots = new.slots; top = record old.top { place = old.top.place + 1 }; taken = old.taken + 1; turns = old.turns + 1 } →
    new.slots.items ≡ slice_set old.slots.items (old.top.base + dest) a → (code : Code) → Acts code old new events.Quiet (ops.Memory (memories.Effect (effects.Alloca dest size align)))
unfolding perform
acts_alloca {old} {new} {dest} {size} {align} st a pushed is slots code = record {
  acts = λ m b placed past.
      let s = b.stands in
      let P = m.program in
      let names = names_at P m.top.function in
      let name = name_at names dest in
      let done = push_done (point_of m true) s.storage {dest = name} pushed in
      let slot : Slot = record { addr = a; size = size; site = site_of m.top } in
      let after : Frame = record m.top { place = suc m.top.place; registers = (name, a) ∷ m.top.registers; slots = slot ∷ m.top.slots } in
      let world = with_block a size (with_turn m.world) in
      let at_place = s.placed.stands.is in
      let at_entry = s.placed.begins in
      let index : old.top.place - old.top.entry ≡ m.top.place = omega (arith, at_place, at_entry) in
      let site : site_here old ≡ site_of m.top = ap₂ (λ g k. record { function = g; block = old.top.block; index = k }) s.placed.function index ∙ ap (λ j. record { function = m.top.function; block = j; index = m.top.place }) s.placed.block in
      let same : old.top.base ≤ old.top.base = omega arith in
      let high : old.top.base ≤ old.top.base + dest = omega arith in
      subst (λ x. Stepped P m.input new events.Quiet (acted m true x) (seen_of m x)) (sym done.is) (record {
        stands = subst (λ (c : Core). Stands P m.input c world after m.rest m.after.steps) (sym is) (record {
          limit = s.limit;
          turns = turn_next _ _ s.turns;
          taken = counted_next _ _ _ s.taken b.counted;
          ending = s.ending;
          left = s.left;
          placed = placed_next s.placed (past refl);
          registers = subst (λ xs. HoldsFrame names xs old.top.base ((name, a) ∷ m.top.registers)) (sym slots) (holds_assigned names old.slots.items old.top.base m.top.registers name dest a placed.0 s.registers);
          mark = s.mark;
          saved = subst (λ xs. AreSaved P xs old.top.base old.top.dest m.top.dest m.top.level old.saved.items m.rest) (sym slots) (saved_kept same (kept_set old.top.base old.slots.items (old.top.base + dest) a high) s.saved);
          blocks = record {
            are = ap (λ x. old.blocks ++ nonempty (record { addr = a; size = size; site = x } ∷ [])) site ∙ block_added old.blocks (blocks_of m.rest) m.top.slots slot s.blocks.are;
            below = s.blocks.below;
          };
          storage = done.holds;
        });
        event = refl;
      });
}

pub acts_alloca_trap : {old new : Core} {e : Event} {dest size align : ℕ} (st : Contents) (kind : TrapKind) → block_trap old.storage size align ≡ Some kind → st ≡ old.storage → DoesAction (record old { storage = st }) new e true (λ m. Traps kind) →
    (code : Code) → Acts code old new e (ops.Memory (memories.Effect (effects.Alloca dest size align)))
acts_alloca_trap {old} {new} {e} {dest} {size} {align} st kind trapped same d code = record {
  acts = λ m b placed past.
      let name = name_at (names_at m.program m.top.function) dest in
      refused st kind same d (block_refused (point_of m true) b.stands.storage {new = st} name size align kind trapped same).is b;
}
