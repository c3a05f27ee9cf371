-- Laws of pending parts: they follow the lines through store, flush and fence, and have all that the test for loose
-- bytes needs.
use Rattle.std.proofs.Common.{◌≡◌, ℕ, zero, suc, ◌+◌, ◌-◌, ◌<◌, ◌≤◌, Bool, true, false, cond, List, [], ◌∷◌, ◌++◌, length, map, drop, Option, Some, None, MatchOption, refl, sym, ap, ap₂, ◌∙◌, arith, length-drop}
use Rattle.hip_lines.specs.Line.{Line, IsOrdered, AreOrdered, with_part, flushed_line, fenced_line, has_bytes, change_from, fenced}
use Rattle.hip_lines.specs.Loose.{IsLooseBy, IsLoose, last_over}
use Rattle.hip_lines.specs.Laws.LooseLaws.{last_over-finds, Finds, loose-drop, drop-loose}
use Rattle.hip_lines.specs.Pending.{Pending, pending_of, pending_with, pending_flushed, pending_fenced}

drop-append : {A : Type 0} (g : ℕ) (xs ys : List A) → g ≤ length xs → drop g (xs ++ ys) ≡ drop g xs ++ ys
drop-append zero xs ys h = refl
drop-append (suc g) [] ys h = absurd (omega arith)
drop-append (suc g) (x ∷ xs) ys h = drop-append g xs ys (omega arith)

drop-drop : {A : Type 0} (g k : ℕ) (xs : List A) → drop k (drop g xs) ≡ drop (g + k) xs
drop-drop zero k xs = ap (λ n. drop n xs) (let e : k ≡ 0 + k = omega arith in e)
drop-drop (suc g) k [] = drop-nil k ∙ sym (drop-nil (suc g + k))
  where
    drop-nil : {A : Type 0} (k : ℕ) → drop {A = A} k [] ≡ []
    drop-nil zero = refl
    drop-nil (suc k) = refl
drop-drop (suc g) k (x ∷ xs) =
    drop-drop g k xs ∙ ap (λ n. drop n (x ∷ xs)) (let e : suc (g + k) ≡ suc g + k = omega arith in e)

pub pending-with_part : {P : Type 0} (x : P) (l : Line P) → IsOrdered l
    → pending_of (with_part x l) ≡ pending_with x (pending_of l)
pending-with_part x l h =
    ap (λ ps. record { parts = ps; flushed = l.flushed - l.durable })
    (drop-append l.durable l.parts (x ∷ []) (omega (arith, h.durable, h.flushed)))

pub pending-flushed_line : {P : Type 0} (l : Line P) → pending_of (flushed_line l) ≡ pending_flushed (pending_of l)
pending-flushed_line l =
    ap (λ n. record { parts = drop l.durable l.parts; flushed = n }) (sym (length-drop l.durable l.parts))

pub pending-fenced_line : {P : Type 0} (l : Line P) → IsOrdered l
    → pending_of (fenced_line l) ≡ pending_fenced (pending_of l)
pending-fenced_line l h =
    ap₂ (λ ps n. record { parts = ps; flushed = n })
    (ap (λ n. drop n l.parts) (let d = h.durable in
    let e : l.flushed ≡ l.durable + (l.flushed - l.durable) = omega arith in e)
    ∙ sym (drop-drop l.durable (l.flushed - l.durable) l.parts))
    (let e : l.flushed - l.flushed ≡ 0 = omega arith in e)

-- If a change of each line is matched by a change of its pending parts, this holds for the changed lines of a range
-- too.
pub pending-change_from : {P : Type 0} (f : ℕ → Line P → Line P) (f' : ℕ → Pending P → Pending P)
    (o n : ℕ)
    → ((j : ℕ) (l : Line P) → IsOrdered l → pending_of (f j l) ≡ f' j (pending_of l))
    → (j : ℕ) (ls : List (Line P))
    → AreOrdered ls → map pending_of (change_from f o n j ls) ≡ change_from f' o n j (map pending_of ls)
pending-change_from f f' o n h j [] a = refl
pending-change_from f f' o n h j (l ∷ ls) a =
    ap₂ (λ w ws. w ∷ ws) (here (has_bytes j o n)) (pending-change_from f f' o n h (suc j) ls a.1)
  where
    here : (b : Bool) → pending_of (cond b (f j l) l) ≡ cond b (f' j (pending_of l)) (pending_of l)
    here true = h j l a.0
    here false = refl

pub pending-fenced : {P : Type 0} (ls : List (Line P)) → AreOrdered ls
    → map pending_of (fenced ls) ≡ map pending_fenced (map pending_of ls)
pending-fenced [] a = refl
pending-fenced (l ∷ ls) a = ap₂ (λ w ws. w ∷ ws) (pending-fenced_line l a.0) (pending-fenced ls a.1)

module _ {P : Type 0} (covers : P → ℕ → Bool) where
  -- The last pending part over a byte is the part that makes it loose. If no pending part covers the byte, it is not
  -- loose.
  pub pending-loose : (l : Line P) (b : ℕ) → MatchOption (last_over covers b (pending_of l).parts)
      (IsLoose covers l b → ⊥) (λ f. IsLooseBy covers l b (l.durable + f.0) f.1)
  pending-loose l b =
      go (last_over covers b (drop l.durable l.parts)) (last_over-finds covers b (drop l.durable l.parts))
    where
      go : (o : Option (ℕ × P)) → Finds covers (drop l.durable l.parts) b o
          → MatchOption o (IsLoose covers l b → ⊥) (λ f. IsLooseBy covers l b (l.durable + f.0) f.1)
      go None h =
          λ x. let d = drop-loose covers l b x.0 x.1 x.2 in let e = h (x.0 - l.durable) x.1 d.at in let o =
          d.over in let z : ⊥ = cc in z
      go (Some (k, x)) h = loose-drop covers l b k x h

  -- The part is flushed among the pending parts exactly if it is flushed in its line.
  pub pending-flushed : (l : Line P) (k : ℕ) → IsOrdered l
      → (k < (pending_of l).flushed → l.durable + k < l.flushed)
      × (l.durable + k < l.flushed → k < (pending_of l).flushed)
  pending-flushed l k h = (λ c. omega (arith, h.durable), λ c. omega (arith, h.durable))
