-- A repair does no harm.
use Rattle.std.proofs.Common.{◌≡◌, ◌⊎◌, inl, inr, ℕ, ◌+◌, ◌*◌, Bool, true, false, List, ◌∷◌, length, Option, Some, slice_get, refl, arith}
use Rattle.hip_tree.specs.declared.program.Program.{Program}
use Rattle.hip_tree.specs.declared.site.Site.{Site}
use Rattle.hip_sound.specs.Rules.{PassesVerifier}
use Rattle.hip_runs.specs.declared.input.Input.{Input}
use Rattle.hip_runs.specs.State.{Level, Frame, State}
use Rattle.hip_runs.specs.Step.{run}
use Rattle.hip_repairs.specs.declared.plan.Plan.{Plan}
use Rattle.hip_repairs.specs.Harmless.{SameFrame, SameFrames, Matches, IsHarmless, matched}
use Rattle.hip_repairs.specs.Repaired.{Marked, cloned, repaired}
use Rattle.hip_repairs.proofs.simulation.Ahead.{ahead_contents, ahead_images}
use Rattle.hip_repairs.proofs.simulation.Facts.{Lines, Keeps}
use Rattle.hip_repairs.proofs.functions.Lookup.{sound_callable}
use Rattle.hip_repairs.proofs.simulation.Pairs.{Tied, tied, Below, bottom, on, Related, related}
use Rattle.hip_repairs.proofs.simulation.Sim.{follows}
use Rattle.hip_repairs.proofs.functions.Twins.{Twin}

-- No fact about the lines.
abbrev pub nothing_held : List Level → Lines → Lines → Type 0
nothing_held up ls ls' = Unit {0}

pub nothing_kept : (P : Program) (plan : Plan) (skip : Site → Bool) (I : Input) → Keeps P plan skip I nothing_held
nothing_kept P plan skip I = record {
  start = λ _. tt;
  fence = λ _ _ _ _. tt;
  more_fence = λ _ _ _ _. tt;
  more_flush = λ _ _ _ _ _ _ _. tt;
  flush = λ _ _ _ _ _ _ _ _ _ _ _. tt;
  persist = λ _ _ _ _ _ _ _ _. tt;
  store = λ _ _ _ _ _ _ _ _ _ _ _ _ _ _ _ _ _ _ _ _. tt;
  call = λ _ _ _ _ _. tt;
  return = λ _ _ _ _ _ _. tt;
  fenced_return = λ _ _ _ _ _. tt;
}

module _ (P : Program) (plan : Plan) (skip : Site → Bool) where
  same_function : (clone : Bool) (f f' : ℕ) → Twin P plan skip clone f f' → (f' ≡ f) ⊎ ((k : ℕ) × (f' ≡ length P.functions + k) × (slice_get (cloned P plan) k ≡ Some f))
  same_function false f f' t = inl (t.plain refl).0
  same_function true f f' t = inr (t.high refl)

  same_frame : {clone : Bool} {pend : List Marked} {f f' : Frame} → Tied P plan skip clone pend f f' → SameFrame (length P.functions) (cloned P plan) f f'
  same_frame (tied {clone = clone} {f = f} {f' = f'} rest tw e e' same) = record { function = same_function clone f f' tw; block = refl; registers = refl; mark = refl; slots = same }

  same_below : {clone : Bool} {lvl lvl' : Option Level} {fs fs' : List Frame} → Below P plan skip clone lvl lvl' fs fs' → SameFrames (length P.functions) (cloned P plan) fs fs'
  same_below bottom = tt
  same_below (on t q u h b) = (same_frame t, same_below b)

  matches : (I : Input) (n : ℕ) (s s' : State) → Related P plan skip I nothing_held n s s' → Matches (length P.functions) (cloned P plan) I s s'
  matches I n s s' (related {w = w} {f = f} {f' = f'} {fs = fs} {fs' = fs'} {ls = ls} {ls' = ls'} {c = c} {c' = c'} t r b a kept le) = record {
    world = refl;
    lines = ahead_contents ls ls' a;
    frames = (same_frame t, same_below b);
    images = λ content. ahead_images I (record { world = w; frames = f ∷ fs; lines = ls; counts = c }) (record { world = w; frames = f' ∷ fs'; lines = ls'; counts = c' }) content a;
  }

pub harmless : (P : Program) (plan : Plan) (skip : Site → Bool) → PassesVerifier P → IsHarmless P plan skip
harmless P plan skip sound =
    let good = sound_callable P sound in
    record {
      matches = λ I valid n. let f = follows P plan skip I good valid nothing_held (nothing_kept P plan skip I) n in matches P plan skip I f.size (run P I (matched P plan skip I n)) (run (repaired P plan skip) I n) f.pair;
      progress = λ I valid n. let f = follows P plan skip I good valid nothing_held (nothing_kept P plan skip I) (3 * n) in omega (arith, f.enough);
    }
