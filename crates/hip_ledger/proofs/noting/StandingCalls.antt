-- The standing calls after some steps of a run, compared with those after fewer steps: two calls with one birth, at the
-- same distance from the bottom, are the same call, and have the same calls outside of them.
use Rattle.std.proofs.Common.{◌≡◌, ℕ, zero, suc, ◌+◌, ◌-◌, ◌≤◌, ◌<◌, List, [], ◌∷◌, length, drop, Option, Some, None, slice_get, refl, sym, ap, ◌∙◌, subst, arith}
use Rattle.std.proofs.lemmas.Option.{same_Some}
use Rattle.hip_tree.specs.declared.program.Program.{Program}
use Rattle.hip_runs.specs.declared.input.Input.{Input}
use Rattle.hip_runs.specs.Frames.{IsSameCall, FramesMove, rests, stays, calls, returns}
use Rattle.hip_runs.specs.Laws.CallLaws.{run_moves}
use Rattle.hip_runs.specs.Laws.HistoryLaws.{calls_descend}
use Rattle.hip_runs.specs.State.{Frame, Level, State, level_list, levels_of, site_of}
use Rattle.hip_runs.specs.Step.{run}
use Rattle.hip_runs.specs.StoredParts.History.{AreDescending}

-- ---- what a step does to the calls

-- The calls before and after a step that has this number of steps before it: they stay, a new call is inside of them,
-- or the innermost one ends.
data CallsMove (steps : ℕ) (ls ls' : List Level) : Type 0 where
  stay : ls' ≡ ls → CallsMove steps ls ls'
  enter : (l : Level) → l.birth ≡ steps → ls' ≡ l ∷ ls → CallsMove steps ls ls'
  end : (l : Level) → ls ≡ l ∷ ls' → CallsMove steps ls ls'

same_level : (f f' : Frame) (fs : List Frame) → IsSameCall f f' → levels_of (f' ∷ fs) ≡ levels_of (f ∷ fs)
same_level f f' fs k = ap (λ (o : Option Level). level_list o (levels_of fs)) k.level

calls_move : (P : Program) (s s' : State) → FramesMove P s s' → CallsMove s.counts.steps (levels_of s.frames) (levels_of s'.frames)
calls_move P s s' (rests e) = stay (ap (λ (t : State). levels_of t.frames) e)
calls_move P s s' (stays f f' fs p q k c) = stay (ap levels_of q ∙ same_level f f' fs k ∙ sym (ap levels_of p))
calls_move P s s' (calls f g fs p q d l c) =
    enter (record { call = site_of f; birth = s.counts.steps }) refl
    (ap levels_of q ∙ ap (λ (o : Option Level). level_list o (levels_of (f ∷ fs))) l
    ∙ ap (λ (x : List Level). record { call = site_of f; birth = s.counts.steps } ∷ x) (sym (ap levels_of p)))
calls_move P s s' (returns f g g' fs p q k c) = go f.level refl
  where
    after : levels_of s'.frames ≡ levels_of (g ∷ fs)
    after = ap levels_of q ∙ same_level g g' fs k

    before : (o : Option Level) → f.level ≡ o → levels_of s.frames ≡ level_list o (levels_of (g ∷ fs))
    before o e = ap levels_of p ∙ ap (λ (x : Option Level). level_list x (levels_of (g ∷ fs))) e

    go : (o : Option Level) → f.level ≡ o → CallsMove s.counts.steps (levels_of s.frames) (levels_of s'.frames)
    go None e = stay (after ∙ sym (before None e))
    go (Some l) e = end l (before (Some l) e ∙ ap (λ (x : List Level). l ∷ x) (sym after))

-- ---- calls of one birth

-- Two calls with one birth, one in each list, at the same distance from the ends, are the same call, and have the same
-- calls after them.
abbrev pub SameOnes : List Level → List Level → Type 0
SameOnes old new = (a b : ℕ) (l m : Level) → length old + b ≡ length new + a → slice_get old a ≡ Some l
    → slice_get new b ≡ Some m → l.birth ≡ m.birth → drop a old ≡ drop b new

-- Each of these calls began before that number of steps.
abbrev AreBefore : ℕ → List Level → Type 0
AreBefore steps ls = (k : ℕ) (l : Level) → slice_get ls k ≡ Some l → l.birth < steps

before_all : (ls : List Level) (steps : ℕ) → AreDescending ls steps → AreBefore steps ls
before_all [] steps h k l e = absurd (let z : ⊥ = cc in z)
before_all (x ∷ ls) steps h zero l e = subst (λ (y : Level). y.birth < steps) (same_Some x l e) h.0
before_all (x ∷ ls) steps h (suc k) l e =
    let lt = before_all ls x.birth h.1 k l e in let first = h.0 in omega (arith, lt, first)

same_ones : (ls : List Level) → SameOnes ls ls
same_ones ls a b l m d p q e = ap (λ k. drop k ls) (let z : a ≡ b = omega (arith, d) in z)

none_left : (ls : List Level) → drop (length ls) ls ≡ []
none_left [] = refl
none_left (x ∷ ls) = none_left ls

-- Nothing is left of either list after all its calls.
pub same_bottom : (old new : List Level) → drop (length old) old ≡ drop (length new) new
same_bottom old new = none_left old ∙ sym (none_left new)

-- A call that began after all old ones is none of them.
ones_enter : (old new : List Level) (start : ℕ) → AreBefore start old → (x : Level) → start ≤ x.birth → SameOnes old new
    → SameOnes old (x ∷ new)
ones_enter old new start h x late k a zero l m d p q e =
    let lt = h a l p in
    let same = ap (λ (y : Level). y.birth) (same_Some x m q) in
    absurd (omega (arith, lt, late, same, e))
ones_enter old new start h x late k a (suc b) l m d p q e =
    k a b l m (let z : length old + b ≡ length new + a = omega (arith, d) in z) p q e

ones_end : (old new : List Level) (x : Level) → SameOnes old (x ∷ new) → SameOnes old new
ones_end old new x k a b l m d p q e =
    k a (suc b) l m (let z : length old + suc b ≡ suc (length new) + a = omega (arith, d) in z) p q e

ones_next : (old new new' : List Level) (start steps : ℕ) → AreBefore start old → start ≤ steps → CallsMove steps new new'
    → SameOnes old new → SameOnes old new'
ones_next old new new' start steps h le (stay e) k = subst (SameOnes old) (sym e) k
ones_next old new new' start steps h le (enter x b e) k =
    subst (SameOnes old) (sym e) (ones_enter old new start h x (omega (arith, le, b)) k)
ones_next old new new' start steps h le (end x e) k = ones_end old new' x (subst (SameOnes old) e k)

steps_rise : (P : Program) (s s' : State) → FramesMove P s s' → s.counts.steps ≤ s'.counts.steps
steps_rise P s s' (rests e) = let q = ap (λ (t : State). t.counts.steps) e in omega (arith, q)
steps_rise P s s' (stays f f' fs p q k c) = omega (arith, c)
steps_rise P s s' (calls f g fs p q d l c) = omega (arith, c)
steps_rise P s s' (returns f g g' fs p q k c) = omega (arith, c)

module _ (P : Program) (I : Input) (then : ℕ) where
  abbrev Old : List Level
  Old = levels_of (run P I then).frames

  -- What holds after n steps.
  record Later (n : ℕ) : Type 0 where
    steps : (run P I then).counts.steps ≤ (run P I n).counts.steps
    ones : SameOnes Old (levels_of (run P I n).frames)

  later : (more n : ℕ) → n ≡ more + then → Later n
  later zero n e =
      subst Later (let z : then ≡ n = omega (arith, e) in z) (record { steps = omega arith; ones = same_ones Old })
  later (suc more) zero e = absurd (omega (arith, e))
  later (suc more) (suc n) e =
      let h = later more n (omega (arith, e)) in
      let moves = run_moves P I n in
      let rise = steps_rise P (run P I n) (run P I (suc n)) moves in
      let few = h.steps in
      record {
        steps = omega (arith, few, rise);
        ones =
            ones_next Old (levels_of (run P I n).frames) (levels_of (run P I (suc n)).frames)
            (run P I then).counts.steps (run P I n).counts.steps
            (before_all Old (run P I then).counts.steps (calls_descend P I then)) few
            (calls_move P (run P I n) (run P I (suc n)) moves) h.ones;
      }

  -- Two calls with one birth, one after some steps and the other after more, at the same distance from the bottom, are
  -- the same call, and have the same calls outside of them.
  pub same_birth : (n : ℕ) → then ≤ n → SameOnes Old (levels_of (run P I n).frames)
  same_birth n le = (later (n - then) n (let z : n ≡ n - then + then = omega (arith, le) in z)).ones
