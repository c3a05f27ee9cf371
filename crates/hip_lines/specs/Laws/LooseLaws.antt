-- Laws of loose bytes: there is one last part over a byte, `last_over` finds it, and what store, flush and fence do to
-- looseness.
use Rattle.std.proofs.Common.{◌≡◌, ◌⊎◌, inl, inr, ℕ, zero, suc, ◌+◌, ◌-◌, ◌<◌, ◌≤◌, Bool, true, false, cond, List, [], ◌∷◌, ◌++◌, length, map, drop, Option, Some, None, slice_get, refl, sym, ap, ◌∙◌, subst, arith, length-append}
use Rattle.hip_lines.specs.Line.{Line, IsOrdered, with_part, flushed_line, fenced_line, map_line}
use Rattle.hip_lines.specs.Loose.{IsLastOver, IsLooseBy, IsLoose, later, last_over}

some_same : {A : Type 0} (x y : A) (o : Option A) → o ≡ Some x → o ≡ Some y → x ≡ y
some_same x y o p q = cc

-- The items of two appended lists, by their places.
pub get-append_left : {A : Type 0} (xs ys : List A) (k : ℕ) → k < length xs
    → slice_get (xs ++ ys) k ≡ slice_get xs k
get-append_left [] ys k h = absurd (omega arith)
get-append_left (x ∷ xs) ys zero h = refl
get-append_left (x ∷ xs) ys (suc k) h = get-append_left xs ys k (omega arith)

pub get-append_end : {A : Type 0} (xs : List A) (y : A) → slice_get (xs ++ y ∷ []) (length xs) ≡ Some y
get-append_end [] y = refl
get-append_end (x ∷ xs) y = get-append_end xs y

pub get-below : {A : Type 0} (xs : List A) (k : ℕ) (x : A) → slice_get xs k ≡ Some x → k < length xs
get-below [] k x e = absurd (let h : ⊥ = cc in h)
get-below (y ∷ xs) zero x e = omega arith
get-below (y ∷ xs) (suc k) x e = omega (arith, get-below xs k x e)

pub get-drop : {A : Type 0} (g : ℕ) (xs : List A) (k : ℕ) → slice_get (drop g xs) k ≡ slice_get xs (g + k)
get-drop zero xs k = ap (slice_get xs) (let e : k ≡ 0 + k = omega arith in e)
get-drop (suc g) [] k = refl
get-drop (suc g) (x ∷ xs) k =
    get-drop g xs k ∙ ap (slice_get (x ∷ xs)) (let e : suc (g + k) ≡ suc g + k = omega arith in e)

module _ {P : Type 0} (covers : P → ℕ → Bool) where
  -- ---- the last part over a byte is one

  pub last_over-place : (ps : List P) (b k k' : ℕ) (x x' : P) → IsLastOver covers ps b k x
      → IsLastOver covers ps b k' x' → k ≡ k'
  last_over-place ps b k k' x x' h h' = which (three k k')
    where
      three : (k k' : ℕ) → (k < k') ⊎ ((k ≡ k') ⊎ (k' < k))
      three k k' = grind arith

      which : (k < k') ⊎ ((k ≡ k') ⊎ (k' < k)) → k ≡ k'
      which (inl lt) = absurd (let e = h.last k' x' lt h'.at in let f = h'.over in let z : ⊥ = cc in z)
      which (inr (inl e)) = e
      which (inr (inr gt)) = absurd (let e = h'.last k x gt h.at in let f = h.over in let z : ⊥ = cc in z)

  pub last_over-part : (ps : List P) (b k k' : ℕ) (x x' : P) → IsLastOver covers ps b k x
      → IsLastOver covers ps b k' x'
      → x ≡ x'
  last_over-part ps b k k' x x' h h' =
      some_same x x' (slice_get ps k) h.at (ap (slice_get ps) (last_over-place ps b k k' x x' h h') ∙ h'.at)

  -- ---- `last_over` finds it

  -- No part of the list covers the byte.
  abbrev pub IsBare : List P → ℕ → Type 0
  IsBare ps b = (j : ℕ) (y : P) → slice_get ps j ≡ Some y → covers y b ≡ false

  -- The result of a search is right: it is the last part over the byte, or `None` if no part covers the byte.
  abbrev pub Finds : List P → ℕ → Option (ℕ × P) → Type 0
  Finds ps b None = IsBare ps b
  Finds ps b (Some (k, x)) = IsLastOver covers ps b k x

  pub last_over-finds : (b : ℕ) (ps : List P) → Finds ps b (last_over covers b ps)
  last_over-finds b [] = λ j y e. absurd (let h : ⊥ = cc in h)
  last_over-finds b (p ∷ ps) = join (covers p b) refl (last_over covers b ps) (last_over-finds b ps)
    where
      bare : covers p b ≡ false → IsBare ps b → IsBare (p ∷ ps) b
      bare c h zero y e = let f : p ≡ y = some_same p y (Some p) refl e in subst (λ z. covers z b ≡ false) f c
      bare c h (suc j) y e = h j y e

      head : covers p b ≡ true → IsBare ps b → IsLastOver covers (p ∷ ps) b 0 p
      head c h = record { at = refl; over = c; last = after }
        where
          after : (j : ℕ) (y : P) → 0 < j → slice_get (p ∷ ps) j ≡ Some y → covers y b ≡ false
          after zero y lt e = absurd (omega arith)
          after (suc j) y lt e = h j y e

      tail : (k : ℕ) (x : P) → IsLastOver covers ps b k x → IsLastOver covers (p ∷ ps) b (suc k) x
      tail k x h = record { at = h.at; over = h.over; last = after }
        where
          after : (j : ℕ) (y : P) → suc k < j → slice_get (p ∷ ps) j ≡ Some y → covers y b ≡ false
          after zero y lt e = absurd (omega arith)
          after (suc j) y lt e = h.last j y (omega arith) e

      join : (c : Bool) → covers p b ≡ c → (o : Option (ℕ × P)) → Finds ps b o
          → Finds (p ∷ ps) b (later covers (cond c (Some (0, p)) None) o)
      join true c None h = head c h
      join false c None h = bare c h
      join c e (Some (k, x)) h = tail k x h

  -- The last part over a byte, after one more part.
  pub last_over-append : (b : ℕ) (ps : List P) (p : P)
      → last_over covers b (ps ++ p ∷ []) ≡ cond (covers p b) (Some (length ps, p)) (last_over covers b ps)
  last_over-append b [] p = here (covers p b)
    where
      here : (c : Bool) → later covers (cond c (Some (0, p)) None) None ≡ cond c (Some (0, p)) None
      here c = refl
  last_over-append b (q ∷ ps) p =
      ap (later covers (cond (covers q b) (Some (0, q)) None)) (last_over-append b ps p) ∙ here (covers p b)
    where
      here : (c : Bool) → later covers (cond (covers q b) (Some (0, q)) None)
          (cond c (Some (length ps, p)) (last_over covers b ps))
          ≡ cond c (Some (suc (length ps), p)) (later covers (cond (covers q b) (Some (0, q)) None)
          (last_over covers b ps))
      here true = refl
      here false = refl

  -- A byte is loose exactly if one of the parts that are not durable covers it. The place of the last such part is
  -- counted from the durable number.
  pub loose-drop : (l : Line P) (b k : ℕ) (x : P) → IsLastOver covers (drop l.durable l.parts) b k x
      → IsLooseBy covers l b (l.durable + k) x
  loose-drop l b k x h =
      record {
        last_over = record { at = sym (get-drop l.durable l.parts k) ∙ h.at; over = h.over; last = after };
        not_durable = omega arith;
      }
    where
      after : (j : ℕ) (y : P) → l.durable + k < j → slice_get l.parts j ≡ Some y → covers y b ≡ false
      after j y lt e =
          h.last (j - l.durable) y (omega arith) (get-drop l.durable l.parts (j - l.durable)
          ∙ ap (slice_get l.parts) (let f : l.durable + (j - l.durable) ≡ j = omega arith in f) ∙ e)

  pub drop-loose : (l : Line P) (b k : ℕ) (x : P) → IsLooseBy covers l b k x
      → IsLastOver covers (drop l.durable l.parts) b (k - l.durable) x
  drop-loose l b k x h =
      let nd = h.not_durable in record {
        at = get-drop l.durable l.parts (k - l.durable)
            ∙ ap (slice_get l.parts) (let f : l.durable + (k - l.durable) ≡ k = omega arith in f)
            ∙ h.last_over.at;
        over =
            h.last_over.over;
        last = after;
      }
    where
      after : (j : ℕ) (y : P) → k - l.durable < j → slice_get (drop l.durable l.parts) j ≡ Some y
          → covers y b ≡ false
      after j y lt e =
          let nd = h.not_durable in h.last_over.last (l.durable + j) y (omega arith)
          (sym (get-drop l.durable l.parts j) ∙ e)

  -- ---- a store

  -- Where the new part covers the byte, that part makes the byte loose.
  pub loose-with_part_over : (x : P) (l : Line P) (b : ℕ) → IsOrdered l → covers x b ≡ true
      → IsLooseBy covers (with_part x l) b (length l.parts) x
  loose-with_part_over x l b h c =
      record {
        last_over = record { at = get-append_end l.parts x; over = c; last = after };
        not_durable = let d = h.durable in let f = h.flushed in omega arith;
      }
    where
      after : (j : ℕ) (y : P) → length l.parts < j → slice_get (l.parts ++ x ∷ []) j ≡ Some y
          → covers y b ≡ false
      after j y lt e = absurd (omega (arith, get-below (l.parts ++ x ∷ []) j y e, length-append l.parts (x ∷ [])))

  -- If the new part does not cover the byte, the byte is loose as before, by the same part.
  pub loose-with_part_beside : (x : P) (l : Line P) (b k : ℕ) (y : P) → covers x b ≡ false
      → IsLooseBy covers l b k y
      → IsLooseBy covers (with_part x l) b k y
  loose-with_part_beside x l b k y c h =
      record {
        last_over = record {
          at = get-append_left l.parts (x ∷ []) k (get-below l.parts k y h.last_over.at)
              ∙ h.last_over.at;
          over = h.last_over.over;
          last = after;
        };
        not_durable = h.not_durable;
      }
    where
      split : (j : ℕ) → (j < length l.parts) ⊎ ((j ≡ length l.parts) ⊎ (length l.parts < j))
      split j = grind arith

      go : (j : ℕ) (z : P) → k < j → slice_get (l.parts ++ x ∷ []) j ≡ Some z → (j < length l.parts)
          ⊎ ((j ≡ length l.parts) ⊎ (length l.parts < j)) → covers z b ≡ false
      go j z lt e (inl m) = h.last_over.last j z lt (sym (get-append_left l.parts (x ∷ []) j m) ∙ e)
      go j z lt e (inr (inl m)) =
          let f : x ≡ z = some_same x z (slice_get (l.parts ++ x ∷ []) j)
          (ap (slice_get (l.parts ++ x ∷ [])) m ∙ get-append_end l.parts x) e in
          subst (λ w. covers w b ≡ false) f c
      go j z lt e (inr (inr m)) =
          absurd (omega (arith, get-below (l.parts ++ x ∷ []) j z e, length-append l.parts (x ∷ [])))

      after : (j : ℕ) (z : P) → k < j → slice_get (l.parts ++ x ∷ []) j ≡ Some z → covers z b ≡ false
      after j z lt e = go j z lt e (split j)

  pub with_part_beside-loose : (x : P) (l : Line P) (b k : ℕ) (y : P) → covers x b ≡ false
      → IsLooseBy covers (with_part x l) b k y → IsLooseBy covers l b k y
  with_part_beside-loose x l b k y c h =
      record {
        last_over = record { at = here (split k); over = h.last_over.over; last = after };
        not_durable = h.not_durable;
      }
    where
      split : (j : ℕ) → (j < length l.parts) ⊎ ((j ≡ length l.parts) ⊎ (length l.parts < j))
      split j = grind arith

      here : (k < length l.parts) ⊎ ((k ≡ length l.parts) ⊎ (length l.parts < k))
          → slice_get l.parts k ≡ Some y
      here (inl m) = sym (get-append_left l.parts (x ∷ []) k m) ∙ h.last_over.at
      here (inr (inl m)) =
          absurd (let f : x ≡ y = some_same x y (slice_get (l.parts ++ x ∷ []) k)
          (ap (slice_get (l.parts ++ x ∷ [])) m ∙ get-append_end l.parts x) h.last_over.at in let o =
          h.last_over.over in let z : ⊥ = cc in z)
      here (inr (inr m)) =
          absurd (omega (arith, get-below (l.parts ++ x ∷ []) k y h.last_over.at, length-append l.parts (x ∷ [])))

      after : (j : ℕ) (z : P) → k < j → slice_get l.parts j ≡ Some z → covers z b ≡ false
      after j z lt e = h.last_over.last j z lt (get-append_left l.parts (x ∷ []) j (get-below l.parts j z e) ∙ e)

  -- ---- a flush leaves the loose bytes as they are

  pub loose-flushed_line : (l : Line P) (b k : ℕ) (x : P) → IsLooseBy covers l b k x
      → IsLooseBy covers (flushed_line l) b k x
  loose-flushed_line l b k x h = record { last_over = h.last_over; not_durable = h.not_durable }

  pub flushed_line-loose : (l : Line P) (b k : ℕ) (x : P) → IsLooseBy covers (flushed_line l) b k x
      → IsLooseBy covers l b k x
  flushed_line-loose l b k x h = record { last_over = h.last_over; not_durable = h.not_durable }

  -- ---- a fence leaves exactly those bytes loose whose last part is not flushed

  pub loose-fenced_line : (l : Line P) (b k : ℕ) (x : P) → IsLooseBy covers l b k x → l.flushed ≤ k
      → IsLooseBy covers (fenced_line l) b k x
  loose-fenced_line l b k x h f = record { last_over = h.last_over; not_durable = f }

  pub fenced_line-loose : (l : Line P) (b k : ℕ) (x : P) → IsOrdered l → IsLooseBy covers (fenced_line l) b k x
      → IsLooseBy covers l b k x × (l.flushed ≤ k)
  fenced_line-loose l b k x o h = (
    record { last_over = h.last_over; not_durable = let d = o.durable in let n = h.not_durable in omega arith },
    h.not_durable,
  )

  -- ---- a fence right after a flush leaves no loose byte in the line

  pub not_loose-after_flush_and_fence : (l : Line P) (b : ℕ) → IsLoose covers (fenced_line (flushed_line l)) b
      → ⊥
  not_loose-after_flush_and_fence l b h = omega (arith, h.2.not_durable, get-below l.parts h.0 h.1 h.2.last_over.at)

-- ---- parts seen through a function

pub get-map : {A B : Type 0} (f : A → B) (xs : List A) (k : ℕ) (x : A) → slice_get xs k ≡ Some x
    → slice_get (map f xs) k ≡ Some (f x)
get-map f [] k x e = absurd (let h : ⊥ = cc in h)
get-map f (y ∷ xs) zero x e = let h : y ≡ x = some_same y x (Some y) refl e in ap (λ z. Some (f z)) h
get-map f (y ∷ xs) (suc k) x e = get-map f xs k x e

pub get-of_map : {A B : Type 0} (f : A → B) (xs : List A) (k : ℕ) (y : B) → slice_get (map f xs) k ≡ Some y
    → (x : A)
    × (slice_get xs k ≡ Some x) × (f x ≡ y)
get-of_map f [] k y e = absurd (let h : ⊥ = cc in h)
get-of_map f (x ∷ xs) zero y e = (x, refl, some_same (f x) y (Some (f x)) refl e)
get-of_map f (x ∷ xs) (suc k) y e = get-of_map f xs k y e

-- A part makes a byte loose exactly where the part's image under the function does.
pub loose-map_line : {P Q : Type 0} (f : P → Q) (covers : Q → ℕ → Bool) (l : Line P) (b k : ℕ) (x : P)
    → IsLooseBy (λ p. covers (f p)) l b k x → IsLooseBy covers (map_line f l) b k (f x)
loose-map_line {P} {Q} f covers l b k x h =
    record {
      last_over = record { at = get-map f l.parts k x h.last_over.at; over = h.last_over.over; last = after };
      not_durable = h.not_durable;
    }
  where
    after : (j : ℕ) (z : Q) → k < j → slice_get (map f l.parts) j ≡ Some z → covers z b ≡ false
    after j z lt e =
        let m = get-of_map f l.parts j z e in subst (λ w. covers w b ≡ false) m.2 (h.last_over.last j m.0 lt m.1)

pub map_line-loose : {P Q : Type 0} (f : P → Q) (covers : Q → ℕ → Bool) (l : Line P) (b k : ℕ) (y : Q)
    → IsLooseBy covers (map_line f l) b k y → (x : P) × IsLooseBy (λ p. covers (f p)) l b k x × (f x ≡ y)
map_line-loose f covers l b k y h =
    let m = get-of_map f l.parts k y h.last_over.at in (
      m.0,
      record {
        last_over = record {
          at = m.1;
          over = subst (λ w. covers w b ≡ true) (sym m.2) h.last_over.over;
          last = λ j z lt e. h.last_over.last j (f z) lt (get-map f l.parts j z e);
        };
        not_durable = h.not_durable;
      },
      m.2,
    )
