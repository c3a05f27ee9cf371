-- What one step of a program does to the frames and to the parts of stores.
use Rattle.std.proofs.Common.{◌≡◌, ◌⊎◌, inl, inr, ℕ, suc, ◌-◌, ◌%◌, Bool, true, false, cond, nat_lt, nat_eq, List, [], ◌∷◌, length, Option, Some, None, slice_get, refl, sym, ap, ◌∙◌, subst}
use Rattle.hip_types.specs.Numbers.{bits, signed}
use Rattle.hip_types.specs.declared.number.Scalar.{Scalar}
use Rattle.hip_types.specs.declared.number.Width.TheVariants.{W32}
use Rattle.hip_tree.specs.declared.instr.Arg.{Arg}
use Rattle.hip_tree.specs.declared.instr.Instr.{Instr}
use Rattle.hip_tree.specs.declared.instr.Instr.TheVariants.{Binary, Compare, Select, Cast, Alloca, Load, Store, Gep, Call}
use Rattle.hip_tree.specs.declared.program.Function.{Function}
use Rattle.hip_tree.specs.declared.program.Program.{Program}
use Rattle.hip_lines.specs.Line.{stored}
use Rattle.hip_externs.specs.Externs.{call_of}
use Rattle.hip_sound.specs.NumberedNames.{function_number}
use Rattle.hip_externs.specs.declared.call.ExternCall.{ExternCall}
use Rattle.hip_runs.specs.declared.event.Ending.{Ending}
use Rattle.hip_runs.specs.declared.event.Ending.TheVariants.{Stop, Cut}
use Rattle.hip_runs.specs.declared.event.Event.{Event}
use Rattle.hip_runs.specs.declared.event.TrapKind.TheVariants as traps
use Rattle.hip_runs.specs.declared.input.Input.{Input}
use Rattle.hip_runs.specs.Actions.{Action, Traps, Assigns, Allocates, Stores, Flushes, Persists, Fences, Asserts, Prints, Reads, Calls, Jumps, Returns, Deed, in_region, are_valid, accessed, entered, numbered_call, call_action, instr_action, deed_of}
use Rattle.hip_runs.specs.StoredParts.Parts.{PartOf}
use Rattle.hip_runs.specs.Laws.PartLaws.{IsFlushedFrom, part-fenced, part-flushed, part-stored}
use Rattle.hip_runs.specs.StoredParts.Persistence.{part_of_store, stored_lines, flushed_lines, fenced_lines}
use Rattle.hip_runs.specs.Places.{body_at, code_at, end_at}
use Rattle.hip_runs.specs.State.{Flush, StorePart, Frame, World, Counts, State, levels_of, site_of}
use Rattle.hip_runs.specs.Step.{stop, with_turn, with_register, next, leave, perform, is_cut, carry_out, deed_at, on_frames, on_ending, step, event_at, counted}
use Rattle.hip_runs.specs.Laws.Members.{get_drop}
use Rattle.hip_repairs.specs.Covered.{IsCallOf}
use Rattle.hip_repairs.proofs.simulation.Facts.{Lines}
use Rattle.hip_repairs.proofs.simulation.Sim.{IsPlain, plain_calculated, plain_allocated, plain_extern, plain_load, is_end, end_is}

-- The instruction at a frame's place.
abbrev pub instr_here : Program → Frame → Option Instr
instr_here Q f = slice_get (body_at Q f.function f.block) f.place

abbrev pub IsCall : Option Instr → Type 0
IsCall (Some (Call dest ret callee args)) = Unit {0}
IsCall _ = ⊥

-- ---- actions and the instruction that they are of

abbrev fits : Program → Frame → Action → Type 0
fits Q f (Stores a bytes) = ¬ IsCall (instr_here Q f)
fits Q f (Calls g rs dest) = IsCallOf Q g (instr_here Q f)
fits Q f _ = Unit {0}

record Fits (Q : Program) (f : Frame) (x : Action) : Type 0 where
  is : fits Q f x

module _ (Q : Program) (f : Frame) where
  plain_fits : (x : Action) → IsPlain x → Fits Q f x
  plain_fits (Traps kind) p = record { is = tt }
  plain_fits (Assigns dest v) p = record { is = tt }
  plain_fits (Allocates dest a n) p = record { is = tt }
  plain_fits (Stores a bytes) p = absurd p.is
  plain_fits (Flushes a n) p = record { is = tt }
  plain_fits (Persists a n) p = record { is = tt }
  plain_fits Fences p = record { is = tt }
  plain_fits (Asserts a n) p = record { is = tt }
  plain_fits (Prints z) p = record { is = tt }
  plain_fits (Reads dest z rest) p = record { is = tt }
  plain_fits (Calls g rs dest) p = absurd p.is
  plain_fits (Jumps b rs) p = absurd p.is
  plain_fits (Returns v) p = absurd p.is

  end_fits : (x : Action) → is_end x → Fits Q f x
  end_fits (Traps kind) p = record { is = tt }
  end_fits (Jumps b rs) p = record { is = tt }
  end_fits (Returns v) p = record { is = tt }
  end_fits (Assigns dest v) p = absurd p
  end_fits (Allocates dest a n) p = absurd p
  end_fits (Stores a bytes) p = absurd p
  end_fits (Flushes a n) p = absurd p
  end_fits (Persists a n) p = absurd p
  end_fits Fences p = absurd p
  end_fits (Asserts a n) p = absurd p
  end_fits (Prints z) p = absurd p
  end_fits (Reads dest z rest) p = absurd p
  end_fits (Calls g rs dest) p = absurd p

  fits_cond : (b : Bool) (x y : Action) → Fits Q f x → Fits Q f y → Fits Q f (cond b x y)
  fits_cond true x y p q = p
  fits_cond false x y p q = q

  fits_accessed : (I : Input) (w : World) (a n align : ℕ) (x : Action) → Fits Q f x → Fits Q f (accessed Q I w a n align x)
  unfolding accessed
  fits_accessed I w a n align x p = fits_cond (nat_eq (a % align) 0) _ (Traps traps.Misaligned) (fits_cond (are_valid Q I w a n) x (Traps traps.Address) p (record { is = tt })) (record { is = tt })

  module _ (dest : Option (List ℕ)) (ret : Option Scalar) (callee : List ℕ) (args : List Arg) (here : instr_here Q f ≡ Some (Call dest ret callee args)) where
    fits_numbered : (values : List ℕ) (o : Option ℕ) → function_number Q callee ≡ o → Fits Q f (numbered_call Q o values dest)
    fits_numbered values None e = record { is = tt }
    fits_numbered values (Some g) e = go (slice_get Q.functions g) refl
      where
        called : IsCallOf Q g (instr_here Q f)
        called = subst (IsCallOf Q g) (sym here) e

        go : (o : Option Function) → slice_get Q.functions g ≡ o → Fits Q f (numbered_call Q (Some g) values dest)
        go None q = rw q (record { is = tt })
        go (Some h) q = rw q (record { is = called })

    fits_entered : (below : ℕ) (values : List ℕ) → Fits Q f (entered Q below callee values dest)
    unfolding entered
    fits_entered below values = fits_cond (nat_lt below 16383) _ _ (fits_numbered values (function_number Q callee) refl) (record { is = tt })

    fits_call : (I : Input) (w : World) (below : ℕ) (values : List ℕ) (o : Option ExternCall) → Fits Q f (call_action Q I w below o callee values dest)
    fits_call I w below values None = fits_entered below values
    fits_call I w below values (Some x) = plain_fits _ (plain_extern Q I w x values dest)

  instr_fits : (I : Input) (w : World) (below : ℕ) (i : Instr) → instr_here Q f ≡ Some i → Fits Q f (instr_action Q I w below f.registers i)
  unfolding instr_action
  instr_fits I w below (Binary dest op flags width x y) here = plain_fits _ (plain_calculated dest _)
  instr_fits I w below (Compare dest pred ty x y) here = record { is = tt }
  instr_fits I w below (Select dest test ty x y) here = record { is = tt }
  instr_fits I w below (Cast dest op from x to) here = record { is = tt }
  instr_fits I w below (Alloca dest ty align) here = plain_fits _ (plain_allocated w dest _ _)
  instr_fits I w below (Load dest ty addr align) here = plain_fits _ (plain_load Q I w below f.registers dest ty addr align)
  instr_fits I w below (Store ty value addr align) here = fits_accessed I w _ _ _ _ (record { is = λ c. subst IsCall here c })
  instr_fits I w below (Gep dest inbounds ty base indices) here = record { is = tt }
  instr_fits I w below (Call dest ret callee args) here = fits_call dest ret callee args here I w below _ (call_of callee)

-- ---- the frames and the parts after a step

-- The frames and the ending after a step.
pub data Moves (Q : Program) (f : Frame) (fs : List Frame) : List Frame → Option Ending → Type 0 where
  ends : {e : Ending} → Moves Q f fs (f ∷ fs) (Some e)
  goes_on : {o : Option Ending} (g : Frame) → g.function ≡ f.function → g.block ≡ f.block → g.place ≡ suc f.place → Moves Q f fs (g ∷ fs) o
  jumps : {o : Option Ending} (g : Frame) → g.function ≡ f.function → g.place ≡ 0 → Moves Q f fs (g ∷ fs) o
  enters : {o : Option Ending} (h : Frame) → IsCallOf Q h.function (instr_here Q f) → h.place ≡ 0 → Moves Q f fs (h ∷ next f ∷ fs) o
  returns : {o : Option Ending} (g : Frame) (gs : List Frame) (dest : Option (List ℕ)) (v : ℕ) → fs ≡ g ∷ gs → Moves Q f fs (with_register dest v g ∷ gs) o

-- The lines had this part before, though a flush or a fence may have met it since.
pub record IsOld (ls : Lines) (x : StorePart) : Type 0 where
  pub part : StorePart
  pub there : PartOf ls part
  pub step : x.step ≡ part.step
  pub site : x.site ≡ part.site

-- The part is of the store of this step.
pub record IsNew (f : Frame) (n : ℕ) (x : StorePart) : Type 0 where
  pub step : x.step ≡ n
  pub site : x.site ≡ site_of f

pub record Out (Q : Program) (f : Frame) (fs : List Frame) (ls : Lines) (n : ℕ) (s : State) : Type 0 where
  pub moves : Moves Q f fs s.frames s.world.ending
  pub steps : s.counts.steps ≡ suc n
  pub parts : (x : StorePart) → PartOf s.lines x → IsOld ls x ⊎ IsNew f n x
  pub called : IsCall (instr_here Q f) → (x : StorePart) → PartOf s.lines x → IsOld ls x

old_same : (ls : Lines) (x : StorePart) → PartOf ls x → IsOld ls x
old_same ls x i = record { part = x; there = i; step = refl; site = refl }

old_fenced : (ls : Lines) (x : StorePart) → PartOf (fenced_lines ls) x → IsOld ls x
old_fenced ls x i = let r = part-fenced ls x i in record { part = r.0; there = r.1; step = ap (λ (y : StorePart). y.step) r.2; site = ap (λ (y : StorePart). y.site) r.2 }

old_flushed : (I : Input) (flush : Flush) (a n : ℕ) (ls : Lines) (x : StorePart) → PartOf (flushed_lines I flush a n ls) x → IsOld ls x
old_flushed I flush a n ls x i = let r = part-flushed I flush a n ls x i in go r.0 r.1 r.2
  where
    go : (y : StorePart) → PartOf ls y → IsFlushedFrom flush x y → IsOld ls x
    go y j (inl e) = record { part = y; there = j; step = ap (λ (z : StorePart). z.step) e; site = ap (λ (z : StorePart). z.site) e }
    go y j (inr e) = record { part = y; there = j; step = ap (λ (z : StorePart). z.step) e; site = ap (λ (z : StorePart). z.site) e }

old_persisted : (I : Input) (flush : Flush) (a n : ℕ) (ls : Lines) (x : StorePart) → PartOf (fenced_lines (flushed_lines I flush a n ls)) x → IsOld ls x
old_persisted I flush a n ls x i =
    let r = old_fenced (flushed_lines I flush a n ls) x i in
    let q = old_flushed I flush a n ls r.part r.there in
    record { part = q.part; there = q.there; step = r.step ∙ q.step; site = r.site ∙ q.site }

module _ (Q : Program) (I : Input) (f : Frame) (fs : List Frame) (ls : Lines) (c : Counts) where
  old_stored : (a : ℕ) (bytes : List ℕ) (x : StorePart) → PartOf (stored_lines I c (site_of f) (levels_of (f ∷ fs)) a bytes ls) x → IsOld ls x ⊎ IsNew f c.steps x
  old_stored a bytes x i = go (in_region I a (length bytes)) i
    where
      part : ℕ → StorePart
      part j = part_of_store c (site_of f) (levels_of (f ∷ fs)) (a - I.base) bytes j

      by : PartOf ls x ⊎ ((k : ℕ) × (x ≡ part k)) → IsOld ls x ⊎ IsNew f c.steps x
      by (inl j) = inl (old_same ls x j)
      by (inr k) = inr (record { step = ap (λ (y : StorePart). y.step) k.1; site = ap (λ (y : StorePart). y.site) k.1 })

      go : (b : Bool) → PartOf (cond b (stored (part_of_store c (site_of f) (levels_of (f ∷ fs)) (a - I.base) bytes) (a - I.base) (length bytes) ls) ls) x → IsOld ls x ⊎ IsNew f c.steps x
      go true j = by (part-stored (part_of_store c (site_of f) (levels_of (f ∷ fs)) (a - I.base) bytes) (a - I.base) (length bytes) ls x j)
      go false j = inl (old_same ls x j)

  -- A step that adds no part.
  out : (s : State) → Moves Q f fs s.frames s.world.ending → s.counts.steps ≡ suc c.steps → ((x : StorePart) → PartOf s.lines x → IsOld ls x) → Out Q f fs ls c.steps s
  out s moves steps old = record { moves = moves; steps = steps; parts = λ x i. inl (old x i); called = λ _. old }

  leave_out : (v : ℕ) (w : World) (e : Event) (gs : List Frame) → fs ≡ gs → Out Q f fs ls c.steps (leave v w f gs ls (counted e c))
  unfolding leave
  leave_out v w e [] q = out _ (subst (λ (hs : List Frame). Moves Q f fs (f ∷ hs) (Some (Stop (signed W32 (bits W32 v).value)))) q ends) refl (old_same ls)
  leave_out v w e (g ∷ gs) q = out _ (returns g gs f.dest v q) refl (old_same ls)

  perform_out : (w : World) (e : Event) (x : Action) → Fits Q f x → Out Q f fs ls c.steps (perform I w f fs ls c (counted e c) x)
  unfolding perform
  perform_out w e (Traps kind) p = out _ ends refl (old_same ls)
  perform_out w e (Assigns dest v) p = out _ (goes_on _ refl refl refl) refl (old_same ls)
  perform_out w e (Allocates dest a n) p = out _ (goes_on _ refl refl refl) refl (old_same ls)
  perform_out w e (Stores a bytes) p = record { moves = goes_on _ refl refl refl; steps = refl; parts = old_stored a bytes; called = λ is_call. absurd (p.is is_call) }
  perform_out w e (Flushes a n) p = out _ (goes_on _ refl refl refl) refl (old_flushed I _ a n ls)
  perform_out w e (Persists a n) p = out _ (goes_on _ refl refl refl) refl (old_persisted I _ a n ls)
  perform_out w e Fences p = out _ (goes_on _ refl refl refl) refl (old_fenced ls)
  perform_out w e (Asserts a n) p = out _ (goes_on _ refl refl refl) refl (old_same ls)
  perform_out w e (Prints z) p = out _ (goes_on _ refl refl refl) refl (old_same ls)
  perform_out w e (Reads dest z rest) p = out _ (goes_on _ refl refl refl) refl (old_same ls)
  perform_out w e (Calls g rs dest) p = out _ (enters _ p.is refl) refl (old_same ls)
  perform_out w e (Jumps b rs) p = out _ (jumps _ refl refl) refl (old_same ls)
  perform_out w e (Returns v) p = leave_out v w e fs refl

  carry_out_out : (w : World) (e : Event) (d : Deed) → Fits Q f d.action → Out Q f fs ls c.steps (carry_out I w f fs ls c (counted e c) d)
  unfolding carry_out
  carry_out_out w e d p = go (is_cut I w d)
    where
      go : (b : Bool) → Out Q f fs ls c.steps (cond b (stop Cut w (f ∷ fs) ls (counted e c)) (perform I (cond d.turn (with_turn w) w) f fs ls c (counted e c) d.action))
      go true = out _ ends refl (old_same ls)
      go false = perform_out (cond d.turn (with_turn w) w) e d.action p

  deed_fits : (w : World) (code : List Instr) → code_at Q f ≡ code → Fits Q f (deed_of Q I w (length fs) f (end_at Q f) code).action
  deed_fits w [] e = end_fits Q f _ (end_is Q I f (end_at Q f))
  deed_fits w (i ∷ rest) e = instr_fits Q f I w (length fs) i (get_drop (body_at Q f.function f.block) f.place i rest e)

  frames_out : (w : World) → Out Q f fs ls c.steps (on_frames Q I w ls c (f ∷ fs))
  unfolding on_frames
  frames_out w = carry_out_out w (event_at I w fs (deed_at Q I w f fs)) (deed_at Q I w f fs) (deed_fits w (code_at Q f) refl)

-- A step of a run that has not ended.
pub step_out : (Q : Program) (I : Input) (s : State) (f : Frame) (fs : List Frame) → s.world.ending ≡ None → s.frames ≡ f ∷ fs → Out Q f fs s.lines s.counts.steps (step Q I s)
unfolding step on_ending
step_out Q I s f fs e h =
    subst (λ (o : Option Ending). Out Q f fs s.lines s.counts.steps (on_ending Q I s o)) (sym e)
    (subst (λ (gs : List Frame). Out Q f fs s.lines s.counts.steps (on_frames Q I s.world s.lines s.counts gs)) (sym h) (frames_out Q I f fs s.lines s.counts s.world))
