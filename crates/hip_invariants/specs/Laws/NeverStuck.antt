-- The machine never gets stuck, at any step of any run.
use Rattle.std.proofs.Common.{◌≡◌, ℕ, Bool, true, false, cond, List, [], ◌∷◌, ◌++◌, drop, length, Option, Some, slice_get, refl, sym, ap, ◌∙◌, subst}
use Rattle.std.specs.Prelude.{All}
use Rattle.std.proofs.lemmas.Bool.{both_ways}
use Rattle.std.proofs.lemmas.List.Elements.{All-weaker}
use Rattle.hip_tree.specs.declared.block.End.{End}
use Rattle.hip_tree.specs.declared.program.Function.{Function}
use Rattle.hip_tree.specs.declared.program.Program.{Program}
use Rattle.hip_types.specs.Bytes.{little_endian}
use Rattle.hip_names.specs.Laws.NameLaws.{among-sound, among-whole}
use Rattle.hip_names.specs.Names.{IsAmong, is_among, AllDiffer}
use Rattle.hip_sound.specs.Laws.Decided.{all-at}
use Rattle.hip_sound.specs.Laws.GivenLaws.{sound-phis}
use Rattle.hip_sound.specs.Places.{edge_labels}
use Rattle.hip_sound.specs.Paths.{IsAssigned}
use Rattle.hip_sound.specs.Registers.{instr_uses, end_uses, end_labels, operand_registers, used_registers}
use Rattle.hip_sound.specs.Sound.{IsSound, IsBlockAt, EdgeIsAssigned, names_in_function, label_number}
use Rattle.hip_sound.specs.declared.point.Point.TheVariants.{Before, AtEnd}
use Rattle.hip_runs.specs.declared.event.Ending.TheVariants.{Trap, Cut}
use Rattle.hip_runs.specs.declared.event.Event.{Event}
use Rattle.hip_runs.specs.declared.event.Event.TheVariants as events
use Rattle.hip_runs.specs.declared.event.TrapKind.TheVariants as traps
use Rattle.hip_runs.specs.declared.input.Input.{Input}
use Rattle.hip_runs.specs.Actions.{Action, Traps, Assigns, Allocates, Stores, Flushes, Persists, Fences, Asserts, Prints, Reads, Calls, Jumps, Returns, in_region}
use Rattle.hip_runs.specs.StoredParts.Persistence.{flushes_lines}
use Rattle.hip_runs.specs.Places.{blocks_in, block_at, body_of, end_of, label_of, body_at, code_at, end_at}
use Rattle.hip_runs.specs.State.{Frame, State}
use Rattle.hip_runs.specs.Step.{first_line, lines_size, event_of, is_cut, event_at, deed_at, event_on_frames, event_on_ending, event, run}
use Rattle.hip_runs.specs.Laws.StepLaws.{IsTop, standing-frame}
use Rattle.hip_runs.specs.Laws.Members.{get_drop}
use Rattle.hip_invariants.specs.Laws.Places.{first_frame}
use Rattle.hip_invariants.specs.Reached.{assigned_names, top_is_reached, StandsAtUnreachable}
use Rattle.hip_invariants.specs.Laws.AssignedPaths.{at_end}
use Rattle.hip_invariants.specs.Laws.Entry.{own_number}
use Rattle.hip_invariants.specs.Laws.Reached.{has_now, deed_keeps}
use Rattle.hip_invariants.specs.NeverStuck.{ReadsAssigned, IsNeverStuck}
use Rattle.hip_invariants.specs.Laws.ReachedAlways.{all_reached, top_reached}
use Rattle.hip_invariants.specs.Laws.FittingOperands.{operands_fit_at}
use Rattle.std.proofs.lemmas.Option.{same_Some}

module _ (P : Program) (s : IsSound P) where
  -- ---- reads

  module _ (f : Frame) (r : top_is_reached P f) where
    assigned_at_place : (q : List ℕ) → IsAssigned r.fn f.block (Before f.place) q
        → IsAmong (assigned_names f.registers) q
    assigned_at_place q a = go (is_among (assigned_names f.registers) q) refl
      where
        go : (b : Bool) → is_among (assigned_names f.registers) q ≡ b → IsAmong (assigned_names f.registers) q
        go true e = among-sound (assigned_names f.registers) q e
        go false e = absurd (a (r.earlier ++ f.block ∷ [])
            (record {
              leads = r.leads;
              earlier = r.earlier;
              is = refl;
              none =
                  λ h. both_ways _ e (among-whole (assigned_names f.registers) q
                  (has_now P f.registers q (r.among q h)));
            }))

    assigned_at_end : drop f.place r.block.body ≡ [] → (q : List ℕ) → IsAssigned r.fn f.block AtEnd q
        → IsAmong (assigned_names f.registers) q
    assigned_at_end done q a = go (is_among (assigned_names f.registers) q) refl
      where
        go : (b : Bool) → is_among (assigned_names f.registers) q ≡ b → IsAmong (assigned_names f.registers) q
        go true e = among-sound (assigned_names f.registers) q e
        go false e =
            absurd (a (r.earlier ++ f.block ∷ [])
            (record {
              leads = r.leads;
              earlier = r.earlier;
              is = refl;
              none =
                  λ h. both_ways _ e (among-whole (assigned_names f.registers) q
                  (has_now P f.registers q (r.among q (at_end r.fn r.earlier f.block f.place r.block q r.at done h))));
            }))

    block_here : block_at P f.function f.block ≡ Some r.block
    block_here = ap (λ (o : Option Function). slice_get (blocks_in o) f.block) r.here ∙ r.at

    body_here : body_at P f.function f.block ≡ r.block.body
    body_here = ap body_of block_here

    where_here : IsBlockAt P f.function f.block r.fn r.block
    where_here = record { function = r.here; block_is = r.at }

    done_here : code_at P f ≡ [] → drop f.place r.block.body ≡ []
    done_here e = ap (drop f.place) (sym body_here) ∙ e

    reads_there : ReadsAssigned P f
    reads_there = record {
      body = λ i rest e.
          All-weaker (IsAssigned r.fn f.block (Before f.place)) (IsAmong (assigned_names f.registers)) assigned_at_place
          (used_registers (instr_uses i))
          ((s.assigned f.function f.block r.fn r.block where_here).body f.place i
          (get_drop r.block.body f.place i rest (ap (drop f.place) (sym body_here) ∙ e)));
      last = λ e done h.
          let same : r.block.end ≡ e = end_same e h in
          subst (λ (x : End). All (IsAmong (assigned_names f.registers)) (used_registers (end_uses x))) same
          (All-weaker (IsAssigned r.fn f.block AtEnd) (IsAmong (assigned_names f.registers))
          (assigned_at_end (done_here done)) (used_registers (end_uses r.block.end))
          (s.assigned f.function f.block r.fn r.block where_here).last);
      phis = λ c j m to p e done there ph ed labelled.
          let to_at : slice_get r.fn.blocks c ≡ Some to =
          ap (λ (o : Option Function). slice_get (blocks_in o) c) (sym r.here) ∙ there in
          let edges : All (EdgeIsAssigned r.fn) p.edges =
          all-at (λ p. All (EdgeIsAssigned r.fn) p.edges) to.phis j p
          (s.assigned f.function c r.fn to (record { function = r.here; block_is = to_at })).phis ph in
          let edge : EdgeIsAssigned r.fn e = all-at (EdgeIsAssigned r.fn) p.edges m e edges ed in
          let label : e.label ≡ r.block.label = labelled ∙ ap label_of block_here in
          let differ : AllDiffer (names_in_function r.fn) =
          all-at (λ g. AllDiffer (names_in_function g)) P.functions f.function r.fn s.inner_names_differ r.here in
          let number : label_number r.fn e.label ≡ Some f.block = ap (label_number r.fn) label
          ∙ own_number r.fn f.block r.block differ r.at in
          All-weaker (IsAssigned r.fn f.block AtEnd) (IsAmong (assigned_names f.registers))
          (assigned_at_end (done_here done)) (operand_registers e.value) (edge f.block number);
      edges = λ e c j to p h there named ph.
          let to_at : slice_get r.fn.blocks c ≡ Some to =
          ap (λ (o : Option Function). slice_get (blocks_in o) c) (sym r.here) ∙ there in
          let leads : IsAmong (end_labels r.block.end) to.label =
          subst (λ (x : End). IsAmong (end_labels x) to.label) (sym (end_same e h)) named in
          subst (λ l. IsAmong (edge_labels p.edges) l) (sym (ap label_of block_here))
          (sound-phis P s f.function c f.block j r.fn to r.block p
          (record { function = r.here; block_is = to_at }) where_here leads ph);
    }
      where
        end_same : (e : End) → end_at P f ≡ Some e → r.block.end ≡ e
        end_same e h = let is : Some r.block.end ≡ Some e = sym (ap (λ o. end_of o) block_here) ∙ h in cc

  -- ---- runs

  module _ (I : Input) where
    -- ---- traps

    trapped : (fs : List Frame) (x : Action) → event_of I fs x ≡ events.End (Trap traps.Unreachable)
        → x ≡ Traps traps.Unreachable
    trapped fs (Traps kind) e = let same : kind ≡ traps.Unreachable = cc in ap Traps same
    trapped fs (Assigns dest v) e = cc
    trapped fs (Allocates dest a n) e = cc
    trapped fs (Stores a bytes) e = go (in_region I a (length bytes)) e
      where
        go : (b : Bool) → cond b (events.Store a (little_endian bytes) (length bytes)) events.Quiet
            ≡ events.End (Trap traps.Unreachable) → Stores a bytes ≡ Traps traps.Unreachable
        go true e = cc
        go false e = cc
    trapped fs (Flushes a n) e = go (flushes_lines I a n) e
      where
        go : (b : Bool) → cond b (events.Flush (first_line I a) (lines_size I a n)) events.Quiet
            ≡ events.End (Trap traps.Unreachable) → Flushes a n ≡ Traps traps.Unreachable
        go true e = cc
        go false e = cc
    trapped fs (Persists a n) e = go (flushes_lines I a n) e
      where
        go : (b : Bool) → cond b (events.Persist (first_line I a) (lines_size I a n)) events.Fence
            ≡ events.End (Trap traps.Unreachable) → Persists a n ≡ Traps traps.Unreachable
        go true e = cc
        go false e = cc
    trapped fs Fences e = cc
    trapped fs (Asserts a n) e = cc
    trapped fs (Prints z) e = cc
    trapped fs (Reads dest z rest) e = cc
    trapped fs (Calls g rs dest) e = cc
    trapped fs (Jumps b rs) e = cc
    trapped [] (Returns v) e = cc
    trapped (f ∷ fs) (Returns v) e = cc

    event_is : (st : State) (f : Frame) (fs : List Frame) → IsTop st f fs
        → event P I st ≡ event_at I st.world fs (deed_at P I st.world f fs)
    unfolding event
    event_is st f fs t = ap (event_on_ending P I st) t.going ∙ ap (event_on_frames P I st.world) t.frames

    uncut : (b : Bool) (x : Event) → cond b (events.End Cut) x ≡ events.End (Trap traps.Unreachable)
        → x ≡ events.End (Trap traps.Unreachable)
    uncut true x e = cc
    uncut false x e = e

    traps_there : (n : ℕ) (f : Frame) (fs : List Frame) → IsTop (run P I n) f fs
        → event P I (run P I n) ≡ events.End (Trap traps.Unreachable) → StandsAtUnreachable P f
    traps_there n f fs t e =
        (deed_keeps P s I (run P I n).world f (top_reached P s I n f fs t) (length fs) (code_at P f) refl).trap
        (trapped fs _ (uncut (is_cut I (run P I n).world (deed_at P I (run P I n).world f fs)) _
        (sym (event_is (run P I n) f fs t) ∙ e)))

    pub never_stuck : (n : ℕ) → IsNeverStuck P I n
    never_stuck n = record {
      frame = first_frame (run P I n).frames (standing-frame P I n);
      frames = all_reached P s I n;
      assigned = λ f fs fn name t here a. let r = top_reached P s I n f fs t in
          assigned_at_place f r name (subst (λ (x : Function). IsAssigned x f.block (Before f.place) name)
          (same_Some fn r.fn (sym here ∙ r.here)) a);
      reads = λ f fs t. reads_there f (top_reached P s I n f fs t);
      fit = λ valid f fs t. operands_fit_at P s I valid n f fs t;
      traps = λ f fs t e. traps_there n f fs t e;
    }
