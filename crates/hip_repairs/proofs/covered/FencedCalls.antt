-- After the fence that follows a call of a clone all that was stored under the call is durable.
use Rattle.std.proofs.Common.{◌≡◌, inl, inr, ℕ, zero, suc, ◌+◌, ◌<◌, ◌≤◌, Bool, false, not, List, [], ◌∷◌, ◌++◌, length, drop, Option, Some, None, slice_get, refl, sym, ap, ◌∙◌, subst, arith}
use Rattle.std.specs.List.{drop-map}
use Rattle.hip_tree.specs.declared.instr.Instr.{Instr}
use Rattle.hip_tree.specs.declared.instr.Instr.TheVariants.{Binary, Compare, Select, Cast, Alloca, Load, Store, Gep, Call}
use Rattle.hip_tree.specs.declared.program.Program.{Program}
use Rattle.hip_tree.specs.declared.site.Site.{Site}
use Rattle.hip_lines.specs.Line.{Line}
use Rattle.hip_externs.specs.Externs.{call_of}
use Rattle.hip_sound.specs.Rules.{PassesVerifier}
use Rattle.hip_externs.specs.declared.call.ExternCall.{ExternCall}
use Rattle.hip_externs.specs.declared.call.ExternCall.TheVariants as calls
use Rattle.hip_runs.specs.declared.input.Input.{Input}
use Rattle.hip_runs.specs.Actions.{Flushes, Fences, instr_action, call_action, is_turn, is_flush_or_fence, deed_of}
use Rattle.hip_runs.specs.Operands.{values_of}
use Rattle.hip_runs.specs.StoredParts.Parts.{In, PartOf}
use Rattle.hip_runs.specs.Laws.PartLaws.{part-fenced}
use Rattle.hip_runs.specs.StoredParts.Persistence.{fence_line, fenced_lines}
use Rattle.hip_runs.specs.Places.{body_at, end_at, code_at}
use Rattle.hip_runs.specs.State.{Registers, Level, Flush, StorePart, Frame, World, Counts, State, site_of}
use Rattle.hip_runs.specs.Step.{perform, carry_out, event_at, counted, on_frames, on_ending, step, run}
use Rattle.hip_runs.specs.Validity.{IsValid}
use Rattle.hip_repairs.specs.declared.plan.Plan.{Plan}
use Rattle.hip_repairs.specs.Covered.{is_fence, IsFenceCall, IsCallOf, IsAfterCloneCall, IsLastBefore, IsAtCall, CallsClone, IsCovered}
use Rattle.hip_repairs.specs.Harmless.{marked_body, matched}
use Rattle.hip_repairs.specs.StayOutside.{StayOutside}
use Rattle.hip_repairs.specs.Repaired.{Marked, wanted_by, clones_of, repaired, instrs_of, repaired_body}
use Rattle.hip_repairs.proofs.functions.Blocks.{body_twin}
use Rattle.hip_repairs.proofs.covered.CalledClones.{calls_clone_there}
use Rattle.hip_repairs.proofs.covered.CloneFlushed.{AreFlushed, IsFlushed, AllFlushed, all_fenced, CloneFlushed, clone_flushed}
use Rattle.hip_repairs.proofs.simulation.Facts.{Lines}
use Rattle.hip_repairs.proofs.functions.Lookup.{sound_callable, clone_calls}
use Rattle.hip_repairs.proofs.covered.Moves.{instr_here}
use Rattle.hip_repairs.proofs.simulation.Pairs.{nothing, fence, Ready, quiet, flush, Tied, tied, Related, related, pending_lines}
use Rattle.hip_repairs.proofs.simulation.Sim.{Follows, follows, get_in}
use Rattle.hip_repairs.specs.Laws.Callable.{IsCallable}
use Rattle.hip_repairs.proofs.covered.SinceCall.{SinceClones, going, last_before, since_call}

-- ---- a fence

-- What a call of a fence does.
record ActsFence (Q : Program) (i : Instr) : Type 0 where
  no_turn : is_turn i ≡ false
  fences : (I : Input) (w : World) (below : ℕ) (regs : Registers) → instr_action Q I w below regs i ≡ Fences

module _ (Q : Program) where
  acts_fence : (i : Instr) → IsFenceCall (Some i) → ActsFence Q i
  unfolding instr_action
  acts_fence (Call dest ret callee args) h = go (call_of callee) refl h
    where
      by : (x : ExternCall) → call_of callee ≡ Some x → not (is_flush_or_fence (Some x)) ≡ false → ((I : Input) (w : World) (below : ℕ) (values : List ℕ) → call_action Q I w below (Some x) callee values dest ≡ Fences) → ActsFence Q (Call dest ret callee args)
      by x q turn fences = record {
        no_turn = ap (λ o. not (is_flush_or_fence o)) q ∙ turn;
        fences = λ I w below regs. ap (λ o. call_action Q I w below o callee (values_of Q.globals I.base regs args) dest) q ∙ fences I w below (values_of Q.globals I.base regs args);
      }

      go : (o : Option ExternCall) → call_of callee ≡ o → is_fence o → ActsFence Q (Call dest ret callee args)
      go (Some calls.Sfence) q f = by calls.Sfence q refl (λ I w below values. refl)
      go (Some calls.Mfence) q f = by calls.Mfence q refl (λ I w below values. refl)
      go _ q f = absurd f
  acts_fence (Binary dest op flags width x y) h = absurd h
  acts_fence (Compare dest pred ty x y) h = absurd h
  acts_fence (Select dest test ty x y) h = absurd h
  acts_fence (Cast dest op from x to) h = absurd h
  acts_fence (Alloca dest ty align) h = absurd h
  acts_fence (Load dest ty addr align) h = absurd h
  acts_fence (Store ty value addr align) h = absurd h
  acts_fence (Gep dest inbounds ty base indices) h = absurd h

  -- The lines after a fence.
  carry_fence : (I : Input) (w : World) (f : Frame) (fs : List Frame) (ls : Lines) (c d : Counts) (i : Instr) → ActsFence Q i → (carry_out I w f fs ls c d (record { turn = is_turn i; action = instr_action Q I w (length fs) f.registers i })).lines ≡ fenced_lines ls
  unfolding carry_out perform
  carry_fence I w f fs ls c d i a = rw (a.no_turn, a.fences I w (length fs) f.registers) refl

  fence_step : (I : Input) (s : State) (f : Frame) (fs : List Frame) (i : Instr) (is : List Instr) → s.world.ending ≡ None → s.frames ≡ f ∷ fs → code_at Q f ≡ i ∷ is → ActsFence Q i → (step Q I s).lines ≡ fenced_lines s.lines
  unfolding step on_ending on_frames
  fence_step I s f fs i is e h q a =
      ap (λ o. (on_ending Q I s o).lines) e
      ∙ ap (λ gs. (on_frames Q I s.world s.lines s.counts gs).lines) h
      ∙ ap (λ code. (carry_out I s.world f fs s.lines s.counts (counted (event_at I s.world fs (deed_of Q I s.world (length fs) f (end_at Q f) code)) s.counts) (deed_of Q I s.world (length fs) f (end_at Q f) code)).lines) q
      ∙ carry_fence I s.world f fs s.lines s.counts (counted (event_at I s.world fs (deed_of Q I s.world (length fs) f (end_at Q f) (i ∷ is))) s.counts) i a

-- ---- places in lists

-- An item of a list, and the items after it.
record IsAt {A : Type 0} (xs : List A) (k : ℕ) (o : Option A) : Type 0 where
  item : A
  after : List A
  is : o ≡ Some item
  at : drop k xs ≡ item ∷ after

fence_at : (xs : List Instr) (k : ℕ) → IsFenceCall (slice_get xs k) → IsAt xs k (slice_get xs k)
fence_at [] k h = absurd h
fence_at (y ∷ xs) zero h = record { item = y; after = xs; is = refl; at = refl }
fence_at (y ∷ xs) (suc k) h = let r = fence_at xs k h in record { item = r.item; after = r.after; is = r.is; at = r.at }

flushed_at : (N p j k : ℕ) (xs : List StorePart) (x : StorePart) → AreFlushed N p j xs → slice_get xs k ≡ Some x → N ≤ x.site.function → j + k < p
flushed_at N p j k [] x a e h = absurd (let z : ⊥ = cc in z)
flushed_at N p j zero (y ∷ xs) x a e h = let z : y ≡ x = cc in let r = a.0 (subst (λ (u : StorePart). N ≤ u.site.function) (sym z) h) in omega arith
flushed_at N p j (suc k) (y ∷ xs) x a e h = let r = flushed_at N p (suc j) k xs x a.1 e h in omega arith

-- A line after a fence.
record IsFenced (N : ℕ) (ls : Lines) (l : Line StorePart) : Type 0 where
  flushed : IsFlushed N l
  durable : l.durable ≡ l.flushed
  parts : (x : StorePart) → In x l.parts → PartOf ls x

line_at : (N : ℕ) (ls : Lines) (m : ℕ) (l : Line StorePart) → AllFlushed N (fenced_lines ls) → slice_get (fenced_lines ls) m ≡ Some l → IsFenced N (fenced_lines ls) l
line_at N [] m l a e = absurd (let z : ⊥ = cc in z)
line_at N (y ∷ ls) zero l a e = let z : fence_line y ≡ l = cc in subst (IsFenced N (fenced_lines (y ∷ ls))) z (record { flushed = a.0; durable = refl; parts = λ x i. inl i })
line_at N (y ∷ ls) (suc m) l a e = let r = line_at N ls m l a.1 e in record { flushed = r.flushed; durable = r.durable; parts = λ x i. inr (r.parts x i) }

since_fenced : (N j : ℕ) (ls : Lines) → SinceClones N j ls → SinceClones N j (fenced_lines ls)
since_fenced N j ls s x i le =
    let r = part-fenced ls x i in
    let step = ap (λ (y : StorePart). y.step) r.2 in
    let site = ap (λ (y : StorePart). y.site.function) r.2 in
    subst (λ y. N ≤ y) (sym site) (s r.0 r.1 (subst (λ y. j ≤ y) step le))

-- ---- the repaired program

module _ (P : Program) (plan : Plan) (skip : Site → Bool) (good : IsCallable P) where
  abbrev Q : Program
  Q = repaired P plan skip

  abbrev N : ℕ
  N = length P.functions

  calls_clones : (f : Frame) (h : ℕ) → N ≤ f.function → IsCallOf Q h (instr_here Q f) → N ≤ h
  calls_clones f h big called = go (instr_here Q f) refl called
    where
      go : (o : Option Instr) → instr_here Q f ≡ o → IsCallOf Q h o → N ≤ h
      go (Some (Call dest ret callee args)) q e = clone_calls P plan skip good f.function f.block f.place dest ret callee args h big q e
      go (Some (Binary dest op flags width x y)) q e = absurd e
      go (Some (Compare dest pred ty x y)) q e = absurd e
      go (Some (Select dest test ty x y)) q e = absurd e
      go (Some (Cast dest op from x to)) q e = absurd e
      go (Some (Alloca dest ty align)) q e = absurd e
      go (Some (Load dest ty addr align)) q e = absurd e
      go (Some (Store ty value addr align)) q e = absurd e
      go (Some (Gep dest inbounds ty base indices)) q e = absurd e
      go None q e = absurd e

  module _ (I : Input) (Holds : List Level → Lines → Lines → Type 0) where
    frames_there : (n : ℕ) (s s' : State) → Related P plan skip I Holds n s s' → (f : Frame) × (fs : List Frame) × (s'.frames ≡ f ∷ fs)
    frames_there n s s' (related {f' = f'} {fs' = fs'} t r b a h le) = (f', fs', refl)

  -- The code from a frame's place on: the inserted instructions that come next, and then more.
  code_there : {clone : Bool} {pend : List Marked} (f f' : Frame) → Tied P plan skip clone pend f f' → (more : List Marked) × (code_at Q f' ≡ instrs_of (pend ++ more))
  code_there f f' (tied {clone = clone} {f = g} {f' = g'} {b = b} {k = k} {k' = k'} rest tw e e' same) = (
    repaired_body (clones_of P plan) (wanted_by plan skip) clone g b k rest,
    ap (drop k') (body_twin P plan skip clone g g' tw b) ∙ drop-map (λ (x : Marked). x.0) k' (marked_body P (clones_of P plan) (wanted_by plan skip) clone g b) ∙ ap instrs_of e',
  )

  module _ (I : Input) (still : StayOutside P skip) where
    -- At a fence, the lines after it.
    flushed_pending : (w : World) (regs : Registers) (pend more : List Marked) (range : Option (ℕ × ℕ)) (fenced : Bool) (site : Flush) (ls : Lines) (i : Instr) (is : List Instr) → Ready P plan skip I w regs pend range fenced → AllFlushed N (pending_lines I site range fenced ls) →
        instrs_of (pend ++ more) ≡ i ∷ is → ActsFence Q i → AllFlushed N (fenced_lines ls)
    flushed_pending w regs pend more range fenced site ls i is (quiet nothing) h e a = all_fenced N ls h
    flushed_pending w regs pend more range fenced site ls i is (quiet fence) h e a = h
    flushed_pending w regs pend more range fenced site ls i is (flush j from size no_turn acts q) h e a =
        let same : j ≡ i = cc in
        let act : Flushes from size ≡ Fences = sym (acts 0) ∙ ap (instr_action Q I w 0 regs) same ∙ a.fences I w 0 regs in
        absurd (let z : ⊥ = cc in z)

    flushed_there : (n : ℕ) (s s' : State) → Related P plan skip I (CloneFlushed P plan skip I) n s s' → (f : Frame) (fs : List Frame) → s'.frames ≡ f ∷ fs → (i : Instr) (is : List Instr) → code_at Q f ≡ i ∷ is → ActsFence Q i → AllFlushed N (fenced_lines s'.lines)
    flushed_there n s s' (related {w = w} {f = g} {f' = g'} {ls' = ls'} {c' = c'} {pend = pend} {range = range} {fenced = fenced} t r b a h le) f fs e i is code act =
        let z : f ≡ g' = cc in
        let x = code_there g g' t in
        flushed_pending w g.registers pend x.0 range fenced (record { step = c'.steps; site = site_of g' }) ls' i is r (h still) (sym x.1 ∙ subst (λ (u : Frame). code_at Q u ≡ i ∷ is) z code) act

    module _ (valid : IsValid P I) where
      pairs : (n : ℕ) → Follows P plan skip I good valid (CloneFlushed P plan skip I) (clone_flushed P plan skip I) n
      pairs n = follows P plan skip I good valid (CloneFlushed P plan skip I) (clone_flushed P plan skip I) n

      full : (n : ℕ) → (f : Frame) × (fs : List Frame) × ((run Q I n).frames ≡ f ∷ fs)
      full n = let r = pairs n in frames_there I (CloneFlushed P plan skip I) r.size (run P I (matched P plan skip I n)) (run Q I n) r.pair

      covered_run : (j n : ℕ) → IsAfterCloneCall Q N (run Q I n) → IsLastBefore Q I j n →
          (m : ℕ) (l : Line StorePart) → slice_get (run Q I (suc n)).lines m ≡ Some l →
          (k : ℕ) (p : StorePart) → slice_get l.parts k ≡ Some p → j ≤ p.step → k < l.durable
      unfolding run
      covered_run j n after last m l e k p h since =
          let s = run Q I n in
          let f = after.frame in
          let at = fence_at (body_at Q f.function f.block) (suc after.at) after.fence in
          let act = acts_fence Q at.item (subst IsFenceCall at.is after.fence) in
          let code : code_at Q f ≡ at.item ∷ at.after = ap (λ (q : ℕ). drop q (body_at Q f.function f.block)) after.after ∙ at.at in
          let lines = fence_step Q I s f after.others at.item at.after after.going after.frames code act in
          let r = pairs n in
          let flushed = flushed_there r.size (run P I (matched P plan skip I n)) s r.pair f after.others after.frames at.item at.after code act in
          let top = full j in
          let made = since_fenced N j s.lines (since_call Q I full N calls_clones j n last after.going top.0 top.1 top.2 after).made in
          let line = line_at N s.lines m l flushed (sym (ap (λ ls. slice_get ls m) lines) ∙ e) in
          let big = made p (line.parts p (get_in l.parts k p h)) since in
          let below = flushed_at N l.flushed 0 k l.parts p line.flushed.parts h big in
          let durable = line.durable in
          omega arith

      call_found : (n : ℕ) (after : IsAfterCloneCall Q N (run Q I n)) → (j : ℕ) × IsLastBefore Q I j n × IsAtCall after.frame after.others after.at (run Q I j)
      call_found n after =
          let r = last_before Q I full N calls_clones n after in
          let top = full r.0 in
          let since = since_call Q I full N calls_clones r.0 n r.1 after.going top.0 top.1 top.2 after in
          (r.0, r.1, record { top = top.0; frames = since.below; function = since.function; block = since.block; place = since.place })

      clone_called : (j n : ℕ) → IsAfterCloneCall Q N (run Q I n) → IsLastBefore Q I j n → (i : ℕ) × CallsClone P Q (run P I i) (run Q I j)
      clone_called j n after last =
          let top = full j in
          let r = pairs j in
          let since = since_call Q I full N calls_clones j n last after.going top.0 top.1 top.2 after in
          let before = last.before in
          let i = matched P plan skip I j in
          (i, calls_clone_there P plan skip good I (CloneFlushed P plan skip I) r.size (run P I i) (run Q I j) r.pair (going Q I j n (omega arith) after.going) top.0 top.1 top.2 since.call)

pub covered : (P : Program) (plan : Plan) (skip : Site → Bool) → PassesVerifier P → StayOutside P skip → IsCovered P (repaired P plan skip)
covered P plan skip sound still = record {
  call = λ I valid. call_found P plan skip (sound_callable P sound) I still valid;
  clone = λ I valid. clone_called P plan skip (sound_callable P sound) I still valid;
  durable = λ I valid. covered_run P plan skip (sound_callable P sound) I still valid;
}
