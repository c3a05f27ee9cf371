-- The op at the machine's place is that of what comes next in the run, and a step of the machine is a step of the run.
use Rattle.std.proofs.Common.{◌≡◌, ℕ, zero, suc, ◌+◌, ◌<◌, ◌≤◌, Bool, true, false, cond, not, ◌&&◌, nat_lt, List, [], ◌∷◌, ◌++◌, length, drop, reverse, Some, None, slice_get, refl, sym, ap, ap₂, ◌∙◌, subst, arith, lt-ltb, le-ltb}
use Rattle.std.proofs.lemmas.List.{reverse-append}
use Rattle.std.proofs.lemmas.List.Elements.{All-nil, All-cons, All-filter, All-same, All-append, All-weaker}
use Rattle.std.proofs.lemmas.Option.{same_Some}
use Rattle.hip_tree.specs.declared.instr.Instr.{Instr}
use Rattle.hip_tree.specs.declared.program.Program.{Program}
use Rattle.hip_runs.specs.declared.event.Ending.TheVariants.{Cut}
use Rattle.hip_runs.specs.declared.event.Event.{Event}
use Rattle.hip_runs.specs.declared.event.Event.TheVariants as events
use Rattle.hip_runs.specs.declared.input.Input.{Input}
use Rattle.hip_runs.specs.Actions.{Action, Deed, deed_of}
use Rattle.hip_runs.specs.Places.{body_of, body_at, end_of, code_at, end_at}
use Rattle.hip_runs.specs.State.{Frame, Slot, State}
use Rattle.hip_runs.specs.Step.{event_at, stop, is_cut, carry_out, deed_at, counted, on_frames, on_ending, step, event_on_frames, event_on_ending, event}
use Rattle.hip_invariants.specs.NeverStuck.{ReadsAssigned}
use Rattle.hip_invariants.specs.Reached.{top_is_reached}
use Rattle.hip_invariants.specs.StackShape.{lie_between, lie_in_order, HasShape}
use Rattle.hip_invariants.specs.Laws.StackShape.{lower}
use Rattle.hip_objects.specs.Blocks.{IsPast, nonempty}
use Rattle.hip_core.specs.Blocks.{blocks_of}
use Rattle.hip_mem.specs.Areas.{mark_of}
use Rattle.hip_code.specs.declared.code.Code.{Code}
use Rattle.hip_code.specs.Entries.{PlaceStandsAt, entry}
use Rattle.hip_code.specs.Numbers.{tables_of}
use Rattle.hip_code.specs.Ops.{op_turn, is_end, OpWithin}
use Rattle.hip_code.specs.Frames.{names_at}
use Rattle.hip_code.specs.Whole.{IsCodeOf}
use Rattle.hip_code.specs.declared.op.Op.{Op}
use Rattle.hip_core.specs.declared.core_parts.Core.{Core}
use Rattle.hip_core.specs.Acts.{Acts, ActsOn, Before, CarriesOutOp, CarriesHere, Fits, HasNext, IsLaid, IsReady, KeepsStates, Moment, action_here, acted, carried, numbers_of, seen_at, seen_of}
use Rattle.hip_core.specs.Stands.{Stands, StandsOn, StandsFor, Stepped}
use Rattle.hip_core.proofs.Arms.{mark_is_high, mark_is_low, stops_still}
use Rattle.hip_core.proofs.Known.{all_known, end_keeps, phis_known, values_kept}
use Rattle.hip_core.proofs.Slots.{result_within}

-- ---- turns

-- A step that is not cut does its action.
uncut : (m : Moment) (new : Core) (e : Event) (turn : Bool) (x : Action) → Stepped m.program m.input new e (acted m turn x) (seen_of m x) → is_cut m.input m.world (record { turn = turn; action = x }) ≡ false →
    Stepped m.program m.input new e (carried m turn x) (seen_at m turn x)
unfolding carry_out
uncut m new e turn x d cut =
    subst (λ b. Stepped m.program m.input new e (cond b (stop Cut m.world (m.top ∷ m.rest) m.lines m.after) (acted m turn x)) (cond b (events.End Cut) (seen_of m x))) (sym cut) d

module _ {I : Input} {code : Code} {old new : Core} {e : Event} {o : Op} where
  -- An op that acts on any input acts on this one.
  pub on_input : Acts code old new e o → ActsOn I code old new e o
  on_input a = record { acts = λ m same b placed past. a.acts m b placed past }

  -- While the limit allows it, an op does its action in a turn.
  pub carries_turn : op_turn o ≡ true → old.turns < old.limit → ActsOn I code old new e o → CarriesOutOp I code old new e o
  carries_turn t below a = record {
    carries = λ m same b placed past.
        let turns = b.stands.turns in
        let limit = b.stands.limit in
        let allowed : nat_lt m.world.turns m.input.limit ≡ true = lt-ltb _ _ (omega (arith, below, turns, limit)) in
        uncut m new e (op_turn o) (action_here code old o m) (a.acts m same b placed past) (ap₂ (λ t n. t && not n) t allowed);
  }

  -- A step that is not a turn is never cut.
  pub carries_still : op_turn o ≡ false → Acts code old new e o → CarriesOutOp I code old new e o
  carries_still t a = record {
    carries = λ m same b placed past.
        uncut m new e (op_turn o) (action_here code old o m) (a.acts m b placed past) (ap (λ t. t && not (nat_lt m.world.turns m.input.limit)) t);
  }

-- At the limit the run is cut.
pub carries_cut : {I : Input} {code : Code} {old new : Core} {e : Event} {o : Op} → op_turn o ≡ true → old.limit ≤ old.turns → e ≡ events.End Cut → new ≡ record old { ending = Some Cut; taken = old.taken + 1 } → CarriesOutOp I code old new e o
unfolding carry_out
carries_cut {I} {code} {old} {new} {e} {o} t above is stops = record {
  carries = λ m same b placed past.
      let turns = b.stands.turns in
      let limit = b.stands.limit in
      let passed : nat_lt m.world.turns m.input.limit ≡ false = le-ltb _ _ (omega (arith, above, turns, limit)) in
      let x = action_here code old o m in
      let cut : is_cut m.input m.world (record { turn = op_turn o; action = x }) ≡ true = ap₂ (λ t n. t && not n) t passed in
      subst (λ b. Stepped m.program m.input new e (cond b (stop Cut m.world (m.top ∷ m.rest) m.lines m.after) (acted m (op_turn o) x)) (cond b (events.End Cut) (seen_of m x))) (sym cut) (record { stands = stops_still new Cut stops b; event = is });
}

-- ---- what comes next

got_next : {A : Type 0} (xs : List A) (k : ℕ) (x : A) (ys : List A) → drop k xs ≡ x ∷ ys → (slice_get xs k ≡ Some x) × (suc k ≤ length xs)
got_next [] zero x ys e = cc
got_next [] (suc k) x ys e = cc
got_next (z ∷ xs) zero x ys e = ((let q : z ≡ x = cc in ap Some q), omega arith)
got_next (z ∷ xs) (suc k) x ys e = let r = got_next xs k x ys e in (r.0, omega (arith, r.1))

got_last : {A : Type 0} (xs : List A) (k : ℕ) → drop k xs ≡ [] → length xs ≤ k
got_last [] k e = omega arith
got_last (z ∷ xs) zero e = cc
got_last (z ∷ xs) (suc k) e = let r = got_last xs k e in omega (arith, r)

-- What is known of the op at the machine's place.
pub record Fetched (code : Code) (c : Core) (m : Moment) : Type 0 where
  pub op : Op
  pub here : slice_get code.ops.items c.top.place ≡ Some op
  pub within : OpWithin (numbers_of code c) op
  pub fits : Fits code c m op
  pub next : is_end op ≡ false → HasNext c m
  pub deed : record { turn = op_turn op; action = action_here code c op m } ≡ deed_at m.program m.input m.world m.top m.rest

abbrev deed : Bool → Action → Deed
deed t x = record { turn = t; action = x }

module _ (code : Code) (c : Core) (m : Moment) (whole : IsCodeOf m.program m.input code.ops.items (tables_of code)) (s : Stands m.program m.input c m.world m.top m.rest m.before.steps) where
  pub fetched : ReadsAssigned m.program m.top → top_is_reached m.program m.top → Fetched code c m
  fetched reads reached = go (code_at m.program m.top) refl
    where
      at : PlaceStandsAt m.program c.top.place m.top.function m.top.block m.top.place
      at = s.placed.stands

      body_is : body_at m.program m.top.function m.top.block ≡ at.block.body
      body_is = ap body_of at.here

      end_at_is : end_at m.program m.top ≡ Some at.block.end
      end_at_is = ap end_of at.here

      go : (is : List Instr) → code_at m.program m.top ≡ is → Fetched code c m
      go [] e =
          let long = got_last at.block.body m.top.place (ap (drop m.top.place) (sym body_is) ∙ e) in
          let within = at.within in
          let k : m.top.place ≡ length at.block.body = omega (arith, long, within) in
          let o = whole.last m.top.function m.top.block at.block at.here in
          let a = o.resolves.acts m.world (length m.rest) m.top c.slots.items c.top.base refl refl s.registers (all_known m.top.registers _ (reads.last at.block.end e end_at_is)) (phis_known m.program m.top reads e) in
          record {
            op = o.op;
            here = ap (slice_get code.ops.items) (at.is ∙ ap (λ n. entry m.program m.top.function m.top.block + n) k) ∙ o.here;
            within = a.within;
            fits = (a.placed, end_keeps (names_at m.program m.top.function) m.top.registers o.op o.end_is);
            next = λ z. absurd (let y = o.end_is in let q : ⊥ = cc in q);
            deed = ap₂ deed a.turn a.acts ∙ sym (ap₂ (λ z is. deed_of m.program m.input m.world (length m.rest) m.top z is) end_at_is e);
          }
      go (i ∷ rest) e =
          let got = got_next at.block.body m.top.place i rest (ap (drop m.top.place) (sym body_is) ∙ e) in
          let o = whole.body m.top.function m.top.block m.top.place at.block i at.here got.0 in
          let a = o.resolves.acts m.world (length m.rest) c.slots.items c.top.base m.top.registers s.registers (all_known m.top.registers _ (reads.body i rest e)) in
          record {
            op = o.op;
            here = ap (slice_get code.ops.items) at.is ∙ o.here;
            within = a.within;
            fits = (a.placed, values_kept m.program m.top.function m.top.block m.top.place m.top.registers o.op reached o.extent);
            next = λ z. record { block = at.block; here = at.here; within = got.1; is = (let q = at.is in omega (arith, q)) };
            deed = ap₂ deed a.turn a.acts ∙ sym (ap (λ is. deed_of m.program m.input m.world (length m.rest) m.top (end_at m.program m.top) is) e);
          }

-- ---- steps

-- The blocks of frames end below the mark.
slots_past : (low high : ℕ) (ss : List Slot) → lie_between low high ss → IsPast high (reverse ss)
slots_past low high [] h = All-nil _
slots_past low high (x ∷ ss) h =
    let older = slots_past low x.addr ss h.1 in
    let Ends : Slot → Type 0 = λ y. y.addr + y.size ≤ high in
    All-same Ends (reverse (x ∷ ss)) (reverse ss ++ x ∷ []) (reverse-append (x ∷ []) ss)
    (All-append Ends (reverse ss) (x ∷ []) (All-weaker (λ (y : Slot). y.addr + y.size ≤ x.addr) Ends (λ y le. let a = h.0 in omega (arith, le, a)) (reverse ss) older) (All-cons Ends x [] h.0 (All-nil Ends)))

kept_past : (low high : ℕ) (ss : List Slot) → lie_between low high ss → IsPast high (nonempty (reverse ss))
kept_past low high ss h = All-filter (λ (y : Slot). nat_lt 0 y.size) (λ (y : Slot). y.addr + y.size ≤ high) (reverse ss) (slots_past low high ss h)

all_past : (mark : ℕ) (f : Frame) (fs : List Frame) → lie_in_order mark (f ∷ fs) → IsPast mark (blocks_of (f ∷ fs))
all_past mark f [] h = kept_past f.mark mark f.slots h.0
all_past mark f (g ∷ fs) h =
    let older = all_past f.mark g fs h.1 in
    let le = lower f.mark mark f.slots h.0 in
    All-append (λ (y : Slot). y.addr + y.size ≤ mark) (blocks_of (g ∷ fs)) (nonempty (reverse f.slots))
    (All-weaker (λ (y : Slot). y.addr + y.size ≤ f.mark) (λ (y : Slot). y.addr + y.size ≤ mark) (λ y q. omega (arith, q, le)) (blocks_of (g ∷ fs)) older) (kept_past f.mark mark f.slots h.0)

laid : (c : Core) (m : Moment) → Before c m → IsLaid c
laid c m b =
    let s = b.stands in
    let mark = s.mark in
    let low = mark_is_low b.shaped in
    let high = mark_is_high b.shaped in
    let now = s.storage.memory.mark_is in
    let begins = s.placed.begins in
    let stands = s.placed.stands.is in
    let all = all_past m.world.mark m.top m.rest b.shaped.in_order in
    record {
      past = subst (λ xs. IsPast (mark_of c.storage.areas) xs) (sym s.blocks.are) (subst (λ a. IsPast a (blocks_of (m.top ∷ m.rest))) (sym now) all);
      low = omega (arith, mark, low);
      high = omega (arith, mark, high, now);
      entry = omega (arith, begins, stands);
      result = λ rest x slot is dest. result_within s.saved rest x slot is dest;
    }

-- What is known of a state of a run before the next step.
pub record IsSteady (P : Program) (I : Input) (s : State) : Type 0 where
  pub reads : (f : Frame) (fs : List Frame) → s.world.ending ≡ None → s.frames ≡ f ∷ fs → ReadsAssigned P f
  pub reached : (f : Frame) (fs : List Frame) → s.world.ending ≡ None → s.frames ≡ f ∷ fs → top_is_reached P f
  pub shaped : HasShape s.world.mark s.frames

module _ (P : Program) (I : Input) (code : Code) (whole : IsCodeOf P I code.ops.items (tables_of code)) where
  moment : State → Frame → List Frame → Moment
  moment s f fs = record { program = P; input = I; world = s.world; top = f; rest = fs; lines = s.lines; before = s.counts; after = counted (event_at I s.world fs (deed_at P I s.world f fs)) s.counts }

  -- The op that comes next is there.
  pub ready : (c : Core) (s : State) → IsSteady P I s → StandsFor P I c s → s.world.ending ≡ None → IsReady code c
  unfolding moment
  ready c s steady stands going = go s.frames refl stands
    where
      go : (fs : List Frame) → s.frames ≡ fs → StandsOn P I c s.world fs s.counts.steps → IsReady code c
      go [] q x = absurd x
      go (f ∷ fs) q x =
          let m = moment s f fs in
          let a = fetched code c m whole x (steady.reads f fs going q) (steady.reached f fs going q) in
          let before : Before c m = record { going = going; counted = refl; stands = x; shaped = subst (HasShape s.world.mark) q steady.shaped } in
          record { op = a.op; here = a.here; within = a.within; laid = laid c m before }

  -- A step of the machine is a step of the run.
  pub stepped : (old new : Core) (e : Event) (s : State) → IsSteady P I s → StandsFor P I old s → s.world.ending ≡ None → CarriesHere I code old new e → Stepped P I new e (step P I s) (event P I s)
  unfolding step event on_ending on_frames moment
  stepped old new e s steady stands going c = subst (λ o. Stepped P I new e (on_ending P I s o) (event_on_ending P I s o)) (sym going) (go s.frames refl stands)
    where
      go : (fs : List Frame) → s.frames ≡ fs → StandsOn P I old s.world fs s.counts.steps → Stepped P I new e (on_frames P I s.world s.lines s.counts fs) (event_on_frames P I s.world fs)
      go [] q x = absurd x
      go (f ∷ fs) q x =
          let m = moment s f fs in
          let a = fetched code old m whole x (steady.reads f fs going q) (steady.reached f fs going q) in
          let same : c.op ≡ a.op = same_Some _ _ (sym c.here ∙ a.here) in
          let carried_out = subst (λ (o : Op). CarriesOutOp I code old new e o) same c.carries in
          let before : Before old m = record { going = going; counted = refl; stands = x; shaped = subst (HasShape s.world.mark) q steady.shaped } in
          subst (λ d. Stepped P I new e (carry_out I s.world f fs s.lines s.counts m.after d) (event_at I s.world fs d)) a.deed (carried_out.carries m refl before a.fits a.next)

-- ---- the run

module _ (P : Program) (I : Input) (c : Core) (s : State) where
  -- A frame stands.
  pub stands_on : {Q : Type 0} → ((f : Frame) (fs : List Frame) → s.frames ≡ f ∷ fs → Stands P I c s.world f fs s.counts.steps → Q) → StandsFor P I c s → Q
  stands_on {Q} k stands = go s.frames refl stands
    where
      go : (fs : List Frame) → s.frames ≡ fs → StandsOn P I c s.world fs s.counts.steps → Q
      go [] q x = absurd x
      go (f ∷ fs) q x = k f fs q x

  pub ending_same : StandsFor P I c s → c.ending ≡ s.world.ending
  ending_same stands = stands_on (λ f fs q x. x.ending) stands

  pub turns_same : StandsFor P I c s → c.turns ≡ s.world.turns
  turns_same stands = stands_on (λ f fs q x. x.turns) stands

  pub taken_same : StandsFor P I c s → c.taken ≡ s.counts.steps
  taken_same stands = stands_on (λ f fs q x. x.taken) stands

  pub kept : (new : Core) → KeepsStates c new → StandsFor P I c s → StandsFor P I new s
  kept new k stands = go s.frames stands
    where
      go : (fs : List Frame) → StandsOn P I c s.world fs s.counts.steps → StandsOn P I new s.world fs s.counts.steps
      go [] x = absurd x
      go (f ∷ fs) x = k.keeps P I s.world f fs s.counts.steps x
