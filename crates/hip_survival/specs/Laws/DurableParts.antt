-- In each crash image, a byte that a durable part covers has the value of that part, or of a later one of its line.
use Rattle.std.proofs.Common.{◌≡◌, ◌⊎◌, inl, inr, ℕ, zero, suc, ◌/◌, ◌<◌, ◌≤◌, Bool, true, cond, List, [], ◌∷◌, take, Option, Some, None, slice_get, slice_index, refl, sym, ap, ◌∙◌, subst, arith}
use Rattle.hip_tree.specs.declared.program.Program.{Program}
use Rattle.hip_lines.specs.Image.{byte_after}
use Rattle.hip_lines.specs.Line.{Line}
use Rattle.hip_lines.specs.Loose.{IsLastOver, last_over}
use Rattle.hip_lines.specs.Laws.LooseLaws.{Finds, last_over-finds}
use Rattle.hip_runs.specs.Crash.{covers, byte_of, IsCrashImage}
use Rattle.hip_runs.specs.Laws.LineOrder.{in_lines}
use Rattle.hip_runs.specs.Laws.OrderLaws.{stated_durable}
use Rattle.hip_runs.specs.State.{StorePart}
use Rattle.hip_runs.specs.Step.{run}
use Rattle.hip_runs.specs.StoredParts.Since.{IsPartIn, IsPartAt, IsDurableIn, IsDurableAt, IsFlushedThenFenced}
use Rattle.hip_runs.specs.declared.input.Input.{Input}
use Rattle.hip_survival.specs.Survival.{IsFromPartOn}
use Rattle.hip_survival.specs.Laws.CutParts.{bare_byte}

-- ---- first parts of a list

get-of_take : {A : Type 0} (q : ℕ) (xs : List A) (k : ℕ) (x : A) → slice_get (take q xs) k ≡ Some x
    → slice_get xs k ≡ Some x
get-of_take zero xs k x e = absurd (let z : ⊥ = cc in z)
get-of_take (suc q) [] k x e = absurd (let z : ⊥ = cc in z)
get-of_take (suc q) (y ∷ xs) zero x e = e
get-of_take (suc q) (y ∷ xs) (suc k) x e = get-of_take q xs k x e

get-take : {A : Type 0} (q : ℕ) (xs : List A) (k : ℕ) (x : A) → k < q → slice_get xs k ≡ Some x
    → slice_get (take q xs) k ≡ Some x
get-take zero xs k x lt e = absurd (omega arith)
get-take (suc q) [] k x lt e = e
get-take (suc q) (y ∷ xs) zero x lt e = e
get-take (suc q) (y ∷ xs) (suc k) x lt e = get-take q xs k x (omega arith) e

module _ {P : Type 0} (covering : P → ℕ → Bool) (value : P → ℕ → ℕ) where
  -- A byte after parts has the value of the last part over it.
  pub last_value : (ps : List P) (b k : ℕ) (x : P) (first : ℕ) → IsLastOver covering ps b k x
      → byte_after covering value ps b first ≡ value x b
  last_value [] b k x first h = absurd (let e = h.at in let z : ⊥ = cc in z)
  last_value (p ∷ ps) b zero x first h =
      let same : p ≡ x = (let e = h.at in let z : p ≡ x = cc in z) in
      sym (bare_byte covering value ps b (cond (covering p b) (value p b) first)
      (λ j y e. h.last (suc j) y (omega arith) e))
      ∙ ap (λ c. cond c (value p b) first) (ap (λ y. covering y b) same ∙ h.over)
      ∙ ap (λ y. value y b) same
  last_value (p ∷ ps) b (suc k) x first h =
      last_value ps b k x (cond (covering p b) (value p b) first)
      (record { at = h.at; over = h.over; last = λ j y lt e. h.last (suc j) y (omega (arith, lt)) e })

  not_before : (j k : ℕ) → (j < k) ⊎ (k ≤ j)
  not_before j k = grind arith

  -- The last part over a byte is not before another part that covers it.
  not_sooner : (ps : List P) (b k : ℕ) (x : P) → slice_get ps k ≡ Some x → covering x b ≡ true
      → (o : Option (ℕ × P)) → Finds covering ps b o
      → (j : ℕ) × (y : P) × (k ≤ j) × IsLastOver covering ps b j y
  not_sooner ps b k x e c None h = absurd (let f = h k x e in let z : ⊥ = cc in z)
  not_sooner ps b k x e c (Some (j, y)) h = go (not_before j k)
    where
      go : (j < k) ⊎ (k ≤ j) → (i : ℕ) × (z : P) × (k ≤ i) × IsLastOver covering ps b i z
      go (inl lt) = absurd (let f = h.last k x lt e in let z : ⊥ = cc in z)
      go (inr le) = (j, y, le, h)

-- ---- in a crash image

pub durable_in_image : (P : Program) (I : Input) (n line place : ℕ) (part : StorePart)
    → IsDurableAt (run P I n) line place part → (content : List ℕ) → IsCrashImage I (run P I n) content
    → (b : ℕ) → covers part b ≡ true → IsFromPartOn (run P I n) line place content b
durable_in_image P I n line place part d content image b c = go (slice_get (run P I n).lines line) refl d
  where
    go : (o : Option (Line StorePart)) → slice_get (run P I n).lines line ≡ o → IsDurableIn o place part
        → IsFromPartOn (run P I n) line place content b
    go None e h = absurd h
    go (Some l) e h =
        let i = image.lines line l e in
        let at : b / 64 ≡ line = in_lines P I n line l place part e h.0 b c in
        let first = get-take i.0 l.parts place part (omega (arith, h.1, i.1.least)) h.0 in
        let r = not_sooner covers byte_of (take i.0 l.parts) b place part first c
        (last_over covers b (take i.0 l.parts)) (last_over-finds covers b (take i.0 l.parts)) in
        record {
          later = r.0;
          part = r.1;
          from = r.2;
          there = subst (λ o. IsPartIn o r.0 r.1) (sym e) (get-of_take i.0 l.parts r.0 r.1 r.3.at);
          over = r.3.over;
          value = i.1.bytes b (omega (arith, at)) (omega (arith, at))
              ∙ last_value covers byte_of (take i.0 l.parts) b r.0 r.1 (slice_index I.image b) r.3;
        }

pub fenced_in_image : (P : Program) (I : Input) (n line place : ℕ) (part : StorePart)
    → IsPartAt (run P I n) line place part → IsFlushedThenFenced P I line part.step n
    → (content : List ℕ) → IsCrashImage I (run P I n) content
    → (b : ℕ) → covers part b ≡ true → IsFromPartOn (run P I n) line place content b
fenced_in_image P I n line place part there f =
    durable_in_image P I n line place part (stated_durable P I n line place part there f)
