-- The steps of a repaired program: those of the program, and those at inserted instructions.
use Rattle.std.proofs.Common.{◌≡◌, inl, inr, ℕ, zero, suc, Bool, true, false, cond, ◌||◌, List, [], ◌∷◌, ◌++◌, drop, Option, Some, None, refl, sym, ap, ◌∙◌, subst}
use Rattle.std.specs.List.{drop-map}
use Rattle.hip_types.specs.declared.number.Scalar.{Scalar}
use Rattle.hip_tree.specs.declared.instr.Instr.{Instr}
use Rattle.hip_tree.specs.declared.instr.Instr.TheVariants.{Binary, Compare, Select, Cast, Alloca, Load, Store, Gep, Call}
use Rattle.hip_tree.specs.declared.instr.Operand.{Operand}
use Rattle.hip_tree.specs.declared.program.Program.{Program}
use Rattle.hip_tree.specs.declared.site.Site.{Site}
use Rattle.hip_sound.specs.Laws.SoundExact.{sound-passes}
use Rattle.hip_sound.specs.Sound.{IsSound}
use Rattle.hip_runs.specs.Places.{body_at}
use Rattle.hip_runs.specs.State.{Frame, Registers, State, World}
use Rattle.hip_runs.specs.Step.{run}
use Rattle.hip_runs.specs.declared.event.Ending.{Ending}
use Rattle.hip_runs.specs.declared.input.Input.{Input}
use Rattle.hip_repairs.specs.Harmless.{inserted_on, is_inserted, marked_at, marked_body, matched, stands_inserted}
use Rattle.hip_repairs.specs.Repaired.{Clone, Marked, Wanted, clones_of, flush_of, instrs_of, repaired, repaired_body, the_fence, wanted_by}
use Rattle.hip_repairs.specs.declared.plan.Plan.{Plan}
use Rattle.hip_repairs.proofs.functions.Blocks.{body_twin, end_twin}
use Rattle.hip_repairs.proofs.functions.Lookup.{sound_callable}
use Rattle.hip_repairs.proofs.simulation.Harm.{nothing_held, nothing_kept}
use Rattle.hip_repairs.proofs.simulation.Pairs.{nothing, fence, Ready, quiet, flush, Tied, tied, Related, related}
use Rattle.hip_repairs.proofs.simulation.Sim.{follows}
use Rattle.hip_histories.specs.SameSteps.{HaveSameNext, IsFlushOrFence, IsSameNext, StandsAtFlushOrFence, TakesSameSteps}

-- ---- what is inserted in a body

-- One more instruction before a body.
shifted : (i : Instr) (body : List Instr) (j : ℕ) → IsFlushOrFence body j → IsFlushOrFence (i ∷ body) (suc j)
shifted i body j (inl h) = inl (record {
  at = suc h.at;
  after = ap suc h.after;
  ty = h.ty;
  value = h.value;
  addr = h.addr;
  align = h.align;
  store = h.store;
  flush = h.flush;
})
shifted i body j (inr e) = inr e

-- Each inserted instruction of these is a flush for the store directly before it, or a fence.
abbrev Known : List Marked → Type 0
Known ms = (j : ℕ) → is_inserted (drop j ms) ≡ true → IsFlushOrFence (instrs_of ms) j

no_more : Known []
no_more zero h = absurd (let z : ⊥ = cc in z)
no_more (suc j) h = absurd (let z : ⊥ = cc in z)

-- An instruction of the program, and then a fence if one is inserted.
after_any : (i : Instr) (fenced : Bool) (rest : List Marked) → Known rest
    → Known ((i, false) ∷ (cond fenced ((the_fence, true) ∷ []) [] ++ rest))
after_any i fenced rest known zero h = absurd (let z : ⊥ = cc in z)
after_any i true rest known (suc zero) h = inr refl
after_any i true rest known (suc (suc j)) h =
    shifted i (the_fence ∷ instrs_of rest) (suc j) (shifted the_fence (instrs_of rest) j (known j h))
after_any i false rest known (suc j) h = shifted i (instrs_of rest) j (known j h)

-- A store, then a flush if one is inserted, and then a fence if one is inserted.
after_store : (ty : Scalar) (value addr : Operand) (align : Option ℕ) (flushed fenced : Bool) (rest : List Marked)
    → Known rest
    → Known ((Store ty value addr align, false)
    ∷ (cond flushed ((flush_of ty addr align, true) ∷ []) [] ++ cond fenced ((the_fence, true) ∷ []) [] ++ rest))
after_store ty value addr align flushed fenced rest known zero h = absurd (let z : ⊥ = cc in z)
after_store ty value addr align true fenced rest known (suc zero) h = inl (record {
  at = 0;
  after = refl;
  ty = ty;
  value = value;
  addr = addr;
  align = align;
  store = refl;
  flush = refl;
})
after_store ty value addr align true true rest known (suc (suc zero)) h = inr refl
after_store ty value addr align true true rest known (suc (suc (suc j))) h =
    shifted (Store ty value addr align) (flush_of ty addr align ∷ the_fence ∷ instrs_of rest) (suc (suc j))
    (shifted (flush_of ty addr align) (the_fence ∷ instrs_of rest) (suc j)
    (shifted the_fence (instrs_of rest) j (known j h)))
after_store ty value addr align true false rest known (suc (suc j)) h =
    shifted (Store ty value addr align) (flush_of ty addr align ∷ instrs_of rest) (suc j)
    (shifted (flush_of ty addr align) (instrs_of rest) j (known j h))
after_store ty value addr align false true rest known (suc zero) h = inr refl
after_store ty value addr align false true rest known (suc (suc j)) h =
    shifted (Store ty value addr align) (the_fence ∷ instrs_of rest) (suc j)
    (shifted the_fence (instrs_of rest) j (known j h))
after_store ty value addr align false false rest known (suc j) h =
    shifted (Store ty value addr align) (instrs_of rest) j (known j h)

module _ (clones : List Clone) (w : Wanted) (clone : Bool) (f b : ℕ) where
  after_instr : (k : ℕ) (i : Instr) (is : List Instr) → Known (repaired_body clones w clone f b (suc k) is)
      → Known (repaired_body clones w clone f b k (i ∷ is))
  after_instr k (Store ty value addr align) is known = after_store ty value addr align _ _ _ known
  after_instr k (Binary to op flags width x y) is known = after_any (Binary to op flags width x y) _ _ known
  after_instr k (Compare to pred ty x y) is known = after_any (Compare to pred ty x y) _ _ known
  after_instr k (Select to test ty x y) is known = after_any (Select to test ty x y) _ _ known
  after_instr k (Cast to op from x ty) is known = after_any (Cast to op from x ty) _ _ known
  after_instr k (Alloca to ty align) is known = after_any (Alloca to ty align) _ _ known
  after_instr k (Load to ty addr align) is known = after_any (Load to ty addr align) _ _ known
  after_instr k (Gep to inbounds ty pointer indices) is known = after_any (Gep to inbounds ty pointer indices) _ _ known
  after_instr k (Call to ret callee args) is known = after_any _ _ _ known

  known_body : (k : ℕ) (is : List Instr) → Known (repaired_body clones w clone f b k is)
  known_body k [] = no_more
  known_body k (i ∷ is) = after_instr k i is (known_body (suc k) is)

-- ---- the frames

module _ (P : Program) (plan : Plan) (skip : Site → Bool) where
  abbrev Q : Program
  Q = repaired P plan skip

  abbrev bodies : Bool → ℕ → ℕ → ℕ → List Instr → List Marked
  bodies clone f b k is = repaired_body (clones_of P plan) (wanted_by plan skip) clone f b k is

  -- At no inserted instruction, none comes next.
  none_pending : {I : Input} {w : World} {regs : Registers} {pend more ms : List Marked} {range : Option (ℕ × ℕ)}
      {fenced : Bool} → Ready P plan skip I w regs pend range fenced → ms ≡ pend ++ more → is_inserted ms ≡ false
      → ms ≡ more
  none_pending (quiet nothing) e h = e
  none_pending (quiet fence) e h = absurd (let z : true ≡ false = sym (ap is_inserted e) ∙ h in let no : ⊥ = cc in no)
  none_pending (flush i a n t acts q) e h =
      absurd (let z : true ≡ false = sym (ap is_inserted e) ∙ h in let no : ⊥ = cc in no)

  next_of : (clone : Bool) (f b k : ℕ) (rest : List Instr)
      → IsSameNext (clones_of P plan) rest (instrs_of (bodies clone f b k rest))
  next_of clone f b k [] = tt
  next_of clone f b k (i ∷ is) = (clone || (wanted_by plan skip).hoist (record { function = f; block = b; index = k }), refl)

  same_frame : {I : Input} {w : World} {clone : Bool} {pend : List Marked} {range : Option (ℕ × ℕ)} {fenced : Bool}
      {f f' : Frame} (fs fs' : List Frame) → Tied P plan skip clone pend f f'
      → Ready P plan skip I w f.registers pend range fenced
      → is_inserted (drop f'.place (marked_at P plan skip f'.function f'.block)) ≡ false
      → HaveSameNext P Q (clones_of P plan) None (f ∷ fs) (f' ∷ fs')
  same_frame fs fs' (tied {clone = clone} {f = f} {f' = f'} {b = b} {k = k} {k' = k'} rest tw e e' same) ready h =
      let marked = marked_body P (clones_of P plan) (wanted_by plan skip) clone f b in
      let here : is_inserted (drop k' marked) ≡ false = ap (λ ms. is_inserted (drop k' ms)) (sym (tw.marked b)) ∙ h in
      let left : drop k' marked ≡ bodies clone f b k rest = none_pending ready e' here in
      let code : drop k' (body_at Q f' b) ≡ instrs_of (bodies clone f b k rest) =
      ap (drop k') (body_twin P plan skip clone f f' tw b) ∙ drop-map (λ (x : Marked). x.0) k' marked
      ∙ ap instrs_of left in (
        subst (λ (is : List Instr). IsSameNext (clones_of P plan) is (drop k' (body_at Q f' b))) (sym e)
            (subst (λ (is : List Instr). IsSameNext (clones_of P plan) rest is) (sym code) (next_of clone f b k rest)),
        end_twin P plan skip clone f f' tw b,
      )

  same_on : (o : Option Ending) {I : Input} {w : World} {clone : Bool} {pend : List Marked} {range : Option (ℕ × ℕ)}
      {fenced : Bool} {f f' : Frame} (fs fs' : List Frame) → Tied P plan skip clone pend f f'
      → Ready P plan skip I w f.registers pend range fenced → inserted_on P plan skip o (f' ∷ fs') ≡ false
      → HaveSameNext P Q (clones_of P plan) o (f ∷ fs) (f' ∷ fs')
  same_on (Some ending) fs fs' t ready h = tt
  same_on None fs fs' t ready h = same_frame fs fs' t ready h

  other_frame : {clone : Bool} {pend : List Marked} {f f' : Frame} → Tied P plan skip clone pend f f'
      → is_inserted (drop f'.place (marked_at P plan skip f'.function f'.block)) ≡ true
      → IsFlushOrFence (body_at Q f'.function f'.block) f'.place
  other_frame (tied {clone = clone} {f = f} {f' = f'} {b = b} {k = k} {k' = k'} rest tw e e' same) h =
      let here = ap (λ ms. is_inserted (drop k' ms)) (sym (tw.marked b)) ∙ h in
      subst (λ (is : List Instr). IsFlushOrFence is k') (sym (body_twin P plan skip clone f f' tw b))
      (known_body (clones_of P plan) (wanted_by plan skip) clone f b 0 (body_at P f b) k' here)

  other_on : (o : Option Ending) {clone : Bool} {pend : List Marked} {f f' : Frame} (fs' : List Frame)
      → Tied P plan skip clone pend f f' → inserted_on P plan skip o (f' ∷ fs') ≡ true → StandsAtFlushOrFence Q (f' ∷ fs')
  other_on (Some ending) fs' t h = absurd (let z : ⊥ = cc in z)
  other_on None fs' t h = other_frame t h

  module _ (I : Input) where
    same_pair : (n : ℕ) (s s' : State) → Related P plan skip I nothing_held n s s'
        → stands_inserted P plan skip s' ≡ false
        → HaveSameNext P Q (clones_of P plan) s'.world.ending s.frames s'.frames
    same_pair n s s' (related {w = w} {fs = fs} {fs' = fs'} t r below a kept le) h = same_on w.ending fs fs' t r h

    other_pair : (n : ℕ) (s s' : State) → Related P plan skip I nothing_held n s s'
        → stands_inserted P plan skip s' ≡ true → StandsAtFlushOrFence Q s'.frames
    other_pair n s s' (related {w = w} {fs = fs} {fs' = fs'} t r below a kept le) h = other_on w.ending fs' t h

pub same_steps : (P : Program) (plan : Plan) (skip : Site → Bool) → IsSound P → TakesSameSteps P plan skip
same_steps P plan skip sound =
    let good = sound_callable P (sound-passes P sound) in
    record {
      same = λ I valid n h.
          let f = follows P plan skip I good valid nothing_held (nothing_kept P plan skip I) n in
          same_pair P plan skip I f.size (run P I (matched P plan skip I n)) (run (repaired P plan skip) I n) f.pair h;
      other = λ I valid n h.
          let f = follows P plan skip I good valid nothing_held (nothing_kept P plan skip I) n in
          other_pair P plan skip I f.size (run P I (matched P plan skip I n)) (run (repaired P plan skip) I n) f.pair h;
    }
