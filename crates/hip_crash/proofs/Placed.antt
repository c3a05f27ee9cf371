-- Kept lines by their places.
use Rattle.std.proofs.Common.{◌≡◌, ◌≢◌, ◌⊎◌, inl, inr, ℕ, zero, suc, ◌+◌, ◌-◌, ◌<◌, ◌≤◌, ◌==◌, true, false, cond, Result, Ok, Err, OnOk, OnErr, List, [], ◌∷◌, ◌++◌, length, length-append, slice_get, slice_set, Option, Some, None, IsSome, option_map, refl, sym, ap, ◌∙◌, subst, arith}
use Rattle.std.proofs.lemmas.List.{length-set}
use Rattle.hip_lines.specs.Laws.ItemLaws.{equal_or_not, some_same, get-set_same, get-set_other, get-there, get-push_other}
use Rattle.hip_directory.specs.declared.directory.Directory.{Directory}
use Rattle.hip_directory.specs.Directories.{number_at}
use Rattle.hip_lines.specs.Laws.LooseLaws.{get-append_end}
use Rattle.hip_crash.specs.Kept.{Kept, kept_in}
use Rattle.hip_crash.specs.KeptLines.{line_at, kept_at, ChangesKeptLine, GivesLine}
use Rattle.hip_crash.specs.Places.{at_place, line_in, KeptLinesArePlaced, ChangesKeptPlace}
use Rattle.hip_crash.specs.declared.kept_line.KeptLine.{KeptLine}
use Rattle.hip_crash.specs.declared.kept_lines.KeptLines.{KeptLines}

pub changes-set : (f : Kept → Kept) (xs : List KeptLine) (place : ℕ) (x y : KeptLine) → place < length xs → slice_get xs place ≡ Some x → y.line ≡ x.line → kept_in y ≡ f (kept_in x) → ChangesKeptPlace f place xs (slice_set xs place y)
changes-set f xs place x y lt e l p = record {
  others = λ k ne. get-set_other xs place k y ne;
  count = length-set xs place y;
  here = λ x' e'. let s : x ≡ x' = some_same x x' (sym e ∙ e') in (y, get-set_same xs place y lt, l ∙ ap (λ (z : KeptLine). z.line) s, p ∙ ap (λ (z : KeptLine). f (kept_in z)) s);
}

pub on_err_map : {A E P Q : Type 0} (r : Result A E) → (P → Q) → OnErr r P → OnErr r Q
on_err_map (Ok x) f p = tt
on_err_map (Err e) f p = f p

-- ---- the kept line of a cache line

at-counted : (xs : List KeptLine) (n : ℕ) → 0 < n → at_place xs n ≡ slice_get xs (n - 1)
at-counted xs zero h = absurd (omega arith)
at-counted xs (suc n) h = ap (slice_get xs) (let e : n ≡ suc n - 1 = omega arith in e)

at-same : (xs xs' : List KeptLine) (n : ℕ) → ((k : ℕ) → suc k ≡ n → slice_get xs' k ≡ slice_get xs k) → at_place xs' n ≡ at_place xs n
at-same xs xs' zero h = refl
at-same xs xs' (suc n) h = h n refl

pub has-place : (d : Directory) (xs : List KeptLine) (j : ℕ) → IsSome (line_in d xs j) → 0 < number_at d j
has-place d xs j s = go (number_at d j) refl s
  where
    go : (n : ℕ) → number_at d j ≡ n → IsSome (at_place xs n) → 0 < number_at d j
    go zero e s = absurd (let z : ⊥ = cc in z)
    go (suc n) e s = omega (arith, e)

there : (d : Directory) (xs : List KeptLine) (j : ℕ) → KeptLinesArePlaced d xs → 0 < number_at d j → (x : KeptLine) × (slice_get xs (number_at d j - 1) ≡ Some x) × (line_in d xs j ≡ Some x) × (x.line ≡ j)
there d xs j h p =
    let g = get-there xs (number_at d j - 1) (omega (arith, p, h.within j)) in
    let e : line_in d xs j ≡ Some g.0 = at-counted xs (number_at d j) p ∙ g.1 in
    (g.0, g.1, e, h.numbered j g.0 e)

pub some-place : (m : KeptLines) (j : ℕ) → IsSome (line_at m j) → 0 < number_at m.directory j
unfolding line_at
some-place m j s = has-place m.directory m.lines.items j s

-- The kept line at a place is that of the cache line.
pub at-place : (m : KeptLines) (j : ℕ) (x : KeptLine) → 0 < number_at m.directory j → slice_get m.lines.items (number_at m.directory j - 1) ≡ Some x → (line_at m j ≡ Some x) × (x.line ≡ j)
unfolding line_at
at-place m j x p e =
    let f : line_in m.directory m.lines.items j ≡ Some x = at-counted m.lines.items (number_at m.directory j) p ∙ e in
    (f, m.placed.numbered j x f)

-- What is kept at one place is changed.
module _ (f : Kept → Kept) (d : Directory) (xs xs' : List KeptLine) (line : ℕ) (h : KeptLinesArePlaced d xs) (p : 0 < number_at d line) (c : ChangesKeptPlace f (number_at d line - 1) xs xs') where
  other-place : (j : ℕ) → j ≢ line → number_at d j ≢ number_at d line
  other-place j ne e =
      let t = there d xs line h p in
      ne (sym (h.numbered j t.0 (ap (at_place xs) e ∙ t.2)) ∙ t.3)

  other-line : (j : ℕ) → j ≢ line → line_in d xs' j ≡ line_in d xs j
  other-line j ne = at-same xs xs' (number_at d j) (λ k e. c.others k (λ z. other-place j ne (omega (arith, e, z, p))))

  changed-line : (y : KeptLine) × (line_in d xs' line ≡ Some y) × (y.line ≡ line) × (Some (kept_in y) ≡ option_map f (option_map kept_in (line_in d xs line)))
  changed-line =
      let t = there d xs line h p in
      let x = c.here t.0 t.1 in
      (x.0, at-counted xs' (number_at d line) p ∙ x.1, x.2 ∙ t.3, ap (λ k. Some k) x.3 ∙ ap (λ o. option_map f (option_map kept_in o)) (sym t.2))

  pub placed-changed : KeptLinesArePlaced d xs'
  placed-changed = record { within = λ j. omega (arith, c.count, h.within j); numbered = λ j x e. go j x e (equal_or_not j line) }
    where
      go : (j : ℕ) (x : KeptLine) → line_in d xs' j ≡ Some x → (((j == line) ≡ true) × (j ≡ line)) ⊎ (((j == line) ≡ false) × (j ≢ line)) → x.line ≡ j
      go j x e (inl s) =
          let r = changed-line in
          ap (λ (y : KeptLine). y.line) (some_same x r.0 (sym e ∙ ap (λ i. line_in d xs' i) s.1 ∙ r.1)) ∙ r.2 ∙ sym s.1
      go j x e (inr s) = h.numbered j x (sym (other-line j s.1) ∙ e)

pub changes-line : (f : Kept → Kept) (m m' : KeptLines) (line : ℕ) → m'.directory ≡ m.directory → 0 < number_at m.directory line → ChangesKeptPlace f (number_at m.directory line - 1) m.lines.items m'.lines.items → ChangesKeptLine f line m m'
unfolding line_at
changes-line f m m' line d p c = record {
  here = ap (λ x. option_map kept_in (line_in x m'.lines.items line)) d ∙ ap (option_map kept_in) r.1 ∙ r.3;
  others = λ j ne. ap (option_map kept_in) (others j ne);
}
  where
    r : (y : KeptLine) × (line_in m.directory m'.lines.items line ≡ Some y) × (y.line ≡ line) × (Some (kept_in y) ≡ option_map f (option_map kept_in (line_in m.directory m.lines.items line)))
    r = changed-line f m.directory m.lines.items m'.lines.items line m.placed p c

    others : (j : ℕ) → j ≢ line → line_in m'.directory m'.lines.items j ≡ line_in m.directory m.lines.items j
    others j ne = ap (λ x. line_in x m'.lines.items j) d ∙ other-line f m.directory m.lines.items m'.lines.items line m.placed p c j ne

-- If the change of a line changes nothing, what is kept stays the same.
pub changes-nothing : (m m' : KeptLines) (line : ℕ) → ChangesKeptLine (λ k. k) line m m' → (j : ℕ) → kept_at m' j ≡ kept_at m j
changes-nothing m m' line c j = go (equal_or_not j line)
  where
    same : (o : Option Kept) → option_map (λ k. k) o ≡ o
    same None = refl
    same (Some k) = refl

    go : (((j == line) ≡ true) × (j ≡ line)) ⊎ (((j == line) ≡ false) × (j ≢ line)) → kept_at m' j ≡ kept_at m j
    go (inl s) = ap (kept_at m') s.1 ∙ c.here ∙ same (kept_at m line) ∙ ap (kept_at m) (sym s.1)
    go (inr s) = c.others j s.1

-- ---- a line is added

module _ (d d' : Directory) (xs : List KeptLine) (line : ℕ) (x : KeptLine) (h : KeptLinesArePlaced d xs) (l : x.line ≡ line)
    (s : (j : ℕ) → number_at d' j ≡ cond (j == line) (length xs + 1) (number_at d j)) where
  given : (j : ℕ) → ((j ≡ line) × (number_at d' j ≡ length xs + 1)) ⊎ ((j ≢ line) × (number_at d' j ≡ number_at d j))
  given j = go (equal_or_not j line)
    where
      go : (((j == line) ≡ true) × (j ≡ line)) ⊎ (((j == line) ≡ false) × (j ≢ line)) → ((j ≡ line) × (number_at d' j ≡ length xs + 1)) ⊎ ((j ≢ line) × (number_at d' j ≡ number_at d j))
      go (inl t) = inl (t.1, s j ∙ ap (λ b. cond b (length xs + 1) (number_at d j)) t.0)
      go (inr t) = inr (t.1, s j ∙ ap (λ b. cond b (length xs + 1) (number_at d j)) t.0)

  here_by : (j : ℕ) → number_at d' j ≡ length xs + 1 → line_in d' (xs ++ x ∷ []) j ≡ Some x
  here_by j e = ap (at_place (xs ++ x ∷ [])) e ∙ at-counted (xs ++ x ∷ []) (length xs + 1) (omega arith) ∙ ap (slice_get (xs ++ x ∷ [])) (let z : length xs + 1 - 1 ≡ length xs = omega arith in z) ∙ get-append_end xs x

  other_by : (j : ℕ) → number_at d' j ≡ number_at d j → line_in d' (xs ++ x ∷ []) j ≡ line_in d xs j
  other_by j e = ap (at_place (xs ++ x ∷ [])) e ∙ at-same xs (xs ++ x ∷ []) (number_at d j) (λ k q. get-push_other xs k x (λ z. absurd (omega (arith, z, q, h.within j))))

  pub added-here : line_in d' (xs ++ x ∷ []) line ≡ Some x
  added-here = go (given line)
    where
      go : ((line ≡ line) × (number_at d' line ≡ length xs + 1)) ⊎ ((line ≢ line) × (number_at d' line ≡ number_at d line)) → line_in d' (xs ++ x ∷ []) line ≡ Some x
      go (inl t) = here_by line t.1
      go (inr t) = absurd (t.0 refl)

  pub added-other : (j : ℕ) → j ≢ line → line_in d' (xs ++ x ∷ []) j ≡ line_in d xs j
  added-other j ne = go (given j)
    where
      go : ((j ≡ line) × (number_at d' j ≡ length xs + 1)) ⊎ ((j ≢ line) × (number_at d' j ≡ number_at d j)) → line_in d' (xs ++ x ∷ []) j ≡ line_in d xs j
      go (inl t) = absurd (ne t.0)
      go (inr t) = other_by j t.1

  pub placed-added : KeptLinesArePlaced d' (xs ++ x ∷ [])
  placed-added = record { within = λ j. within j (given j); numbered = λ j y e. numbered j y e (given j) }
    where
      within : (j : ℕ) → ((j ≡ line) × (number_at d' j ≡ length xs + 1)) ⊎ ((j ≢ line) × (number_at d' j ≡ number_at d j)) → number_at d' j ≤ length (xs ++ x ∷ [])
      within j (inl t) = omega (arith, t.1, length-append xs (x ∷ []))
      within j (inr t) = omega (arith, t.1, h.within j, length-append xs (x ∷ []))

      numbered : (j : ℕ) (y : KeptLine) → line_in d' (xs ++ x ∷ []) j ≡ Some y → ((j ≡ line) × (number_at d' j ≡ length xs + 1)) ⊎ ((j ≢ line) × (number_at d' j ≡ number_at d j)) → y.line ≡ j
      numbered j y e (inl t) = ap (λ (z : KeptLine). z.line) (some_same y x (sym e ∙ here_by j t.1)) ∙ l ∙ sym t.0
      numbered j y e (inr t) = h.numbered j y (sym (other_by j t.1) ∙ e)

pub placed-same : (d d' : Directory) (xs : List KeptLine) → ((j : ℕ) → number_at d' j ≡ number_at d j) → KeptLinesArePlaced d xs → KeptLinesArePlaced d' xs
placed-same d d' xs s h = record { within = λ j. omega (arith, s j, h.within j); numbered = λ j x e. h.numbered j x (sym (ap (at_place xs) (s j)) ∙ e) }

pub gives-line : (m m' : KeptLines) (d : Directory) (line : ℕ) (x : KeptLine) (k : Kept) → kept_in x ≡ k → ((j : ℕ) → number_at d j ≡ number_at m.directory j)
    → ((j : ℕ) → number_at m'.directory j ≡ cond (j == line) (length m.lines.items + 1) (number_at d j)) → x.line ≡ line → m'.lines.items ≡ m.lines.items ++ x ∷ []
    → GivesLine k line m m'
unfolding line_at
gives-line m m' d line x k q same s l e = record {
  here = ap (λ xs. option_map kept_in (line_in m'.directory xs line)) e ∙ ap (option_map kept_in) (added-here d m'.directory m.lines.items line x placed l s) ∙ ap (λ y. Some y) q;
  others = λ j ne. ap (λ xs. option_map kept_in (line_in m'.directory xs j)) e ∙ ap (option_map kept_in) (added-other d m'.directory m.lines.items line x placed l s j ne ∙ ap (at_place m.lines.items) (same j));
}
  where
    placed : KeptLinesArePlaced d m.lines.items
    placed = placed-same m.directory d m.lines.items same m.placed

-- The lines stay at their places, whether the answer is a success or an error.
pub placed-either : {A E : Type 0} (r : Result A E) (f g : Kept → Kept) (d : Directory) (xs xs' : List KeptLine) (line n : ℕ) → KeptLinesArePlaced d xs → 0 < number_at d line → n ≡ number_at d line
    → OnOk r (ChangesKeptPlace f (n - 1) xs xs') → OnErr r (ChangesKeptPlace g (n - 1) xs xs') → KeptLinesArePlaced d xs'
placed-either (Ok a) f g d xs xs' line n h p e o w = placed-changed f d xs xs' line h p (subst (λ i. ChangesKeptPlace f (i - 1) xs xs') e o)
placed-either (Err a) f g d xs xs' line n h p e o w = placed-changed g d xs xs' line h p (subst (λ i. ChangesKeptPlace g (i - 1) xs xs') e w)
