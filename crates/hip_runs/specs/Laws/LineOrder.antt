-- What is true of each line in every run: its parts are in it, their steps ascend, and the parts that are not flushed
-- have no first flush. A part is fenced exactly if a fence came after its store.
use Rattle.std.proofs.Common.{◌≡◌, ◌⊎◌, inl, inr, ℕ, zero, suc, ◌+◌, ◌-◌, ◌/◌, ◌<◌, ◌≤◌, Bool, true, false, cond, List, [], ◌∷◌, ◌++◌, length, map, take, drop, Option, Some, None, option_map, slice_get, refl, sym, ap, ◌∙◌, subst, arith, length-append, length-drop}
use Rattle.std.proofs.lemmas.List.{length-map, length-take-le}
use Rattle.hip_tree.specs.declared.program.Program.{Program}
use Rattle.hip_tree.specs.declared.site.Site.{Site}
use Rattle.hip_lines.specs.Line.{Line, IsOrdered, with_part, start_in, end_in, has_bytes, stored}
use Rattle.hip_lines.specs.Laws.LineLaws.{byte-of_part, slice_get-change_range, ordered-at}
use Rattle.hip_lines.specs.Laws.LooseLaws.{get-append_left, get-append_end, get-below, get-of_map}
use Rattle.hip_runs.specs.declared.input.Input.{Input}
use Rattle.hip_runs.specs.Crash.{covers}
use Rattle.hip_runs.specs.Laws.HistoryLaws.{has_history, line_of_fresh, lines_ordered}
use Rattle.hip_runs.specs.StoredParts.Order.{HasOrder, last_fence, is_before}
use Rattle.hip_runs.specs.StoredParts.After.{flushed_by}
use Rattle.hip_runs.specs.StoredParts.Persistence.{part_of_store, noted_flush, noted_fence, flush_line, fence_line, fenced_lines}
use Rattle.hip_runs.specs.Laws.SinceLaws.{line_of_start, below, fence_stated, stated_by_fence}
use Rattle.hip_runs.specs.State.{Level, Flush, StorePart, Counts, site_of, levels_of}
use Rattle.hip_runs.specs.Step.{run, step, event}
use Rattle.hip_runs.specs.Laws.StepLaws.{Cases, step-cases, counted-steps}
use Rattle.hip_runs.specs.Laws.Found.LooseBytes.{AreInLines, true_over}
use Rattle.hip_runs.specs.StoredParts.Parts.{PartOf}
use Rattle.hip_runs.specs.StoredParts.Since.{fences, FencedSince}
use Rattle.hip_runs.specs.Laws.Members.{lt_true, true_lt}
use Rattle.std.specs.Cmp.{both_ways}

-- What is true of line m of a state after n steps.
pub record IsWell (n m : ℕ) (l : Line StorePart) : Type 0 where
  -- The bytes that the line's parts cover are in the line.
  pub inside : (k : ℕ) (x : StorePart) → slice_get l.parts k ≡ Some x → (b : ℕ) → covers x b ≡ true
      → b / 64 ≡ m
  pub line : (k : ℕ) (x : StorePart) → slice_get l.parts k ≡ Some x → x.offset / 64 ≡ m
  -- Its parts are in the order of their stores' steps.
  pub made : (k : ℕ) (x : StorePart) → slice_get l.parts k ≡ Some x → x.step < n
  pub ascend : (j k : ℕ) (x y : StorePart) → slice_get l.parts j ≡ Some x → slice_get l.parts k ≡ Some y
      → j < k
      → x.step < y.step
  -- A part that is not flushed has no first flush.
  pub unflushed : (k : ℕ) (x : StorePart) → slice_get l.parts k ≡ Some x → l.flushed ≤ k
      → x.first_flush ≡ None

later : (n m : ℕ) (l : Line StorePart) → IsWell n m l → IsWell (suc n) m l
later n m l h =
    record {
      inside = h.inside;
      line = h.line;
      made = λ k x e. omega (arith, h.made k x e);
      ascend = h.ascend;
      unflushed = h.unflushed;
    }

well_flush : (n m : ℕ) (flush : Flush) (l : Line StorePart) → IsWell n m l → IsWell n m (flush_line flush l)
well_flush n m flush l h = record {
  inside =
      λ k x e b c. let r = get-of_map (noted_flush flush) l.parts k x e in
      h.inside k r.0 r.1 b (subst (λ (y : StorePart). covers y b ≡ true) (sym r.2) c);
  line =
      λ k x e. let r = get-of_map (noted_flush flush) l.parts k x e in sym (ap (λ (y : StorePart). y.offset / 64) r.2)
      ∙ h.line k r.0 r.1;
  made =
      λ k x e. let r = get-of_map (noted_flush flush) l.parts k x e in
      subst (λ (y : StorePart). y.step < n) r.2 (h.made k r.0 r.1);
  ascend =
      λ j k x y e g lt. let r = get-of_map (noted_flush flush) l.parts j x e in let q =
      get-of_map (noted_flush flush) l.parts k y g in
      subst (λ (z : StorePart). x.step < z.step) q.2
      (subst (λ (z : StorePart). z.step < q.0.step) r.2 (h.ascend j k r.0 q.0 r.1 q.1 lt));
  unflushed =
      λ k x e le. absurd (omega (
        arith,
        get-below (map (noted_flush flush) l.parts) k x e,
        le,
        length-map l.parts (noted_flush flush),
      ));
}

well_fence : (n m : ℕ) (l : Line StorePart) → IsWell n m l → IsWell n m (fence_line l)
well_fence n m l h = record {
  inside =
      λ k x e b c. let r = get-of_map noted_fence l.parts k x e in
      h.inside k r.0 r.1 b (subst (λ (y : StorePart). covers y b ≡ true) (sym r.2) c);
  line =
      λ k x e. let r = get-of_map noted_fence l.parts k x e in sym (ap (λ (y : StorePart). y.offset / 64) r.2)
      ∙ h.line k r.0 r.1;
  made =
      λ k x e. let r = get-of_map noted_fence l.parts k x e in
      subst (λ (y : StorePart). y.step < n) r.2 (h.made k r.0 r.1);
  ascend =
      λ j k x y e g lt. let r = get-of_map noted_fence l.parts j x e in let q =
      get-of_map noted_fence l.parts k y g in subst (λ (z : StorePart). x.step < z.step) q.2
      (subst (λ (z : StorePart). z.step < q.0.step) r.2 (h.ascend j k r.0 q.0 r.1 q.1 lt));
  unflushed =
      λ k x e le. let r = get-of_map noted_fence l.parts k x e in sym (ap (λ (y : StorePart). y.first_flush) r.2)
      ∙ h.unflushed k r.0 r.1 le;
}

-- The place is a place of the list, or the place of one more item at its end.
data Place {A : Type 0} (xs : List A) (y : A) (k : ℕ) (x : A) : Type 0 where
  before : k < length xs → slice_get xs k ≡ Some x → Place xs y k x
  last : k ≡ length xs → x ≡ y → Place xs y k x

place : {A : Type 0} (xs : List A) (y : A) (k : ℕ) (x : A) → slice_get (xs ++ y ∷ []) k ≡ Some x
    → Place xs y k x
place xs y k x e = go (split k (length xs)
    (omega (arith, get-below (xs ++ y ∷ []) k x e, length-append xs (y ∷ []))))
  where
    split : (j n : ℕ) → j < n + 1 → (j < n) ⊎ (j ≡ n)
    split j n h = grind arith

    go : (k < length xs) ⊎ (k ≡ length xs) → Place xs y k x
    go (inl lt) = before lt (sym (get-append_left xs (y ∷ []) k lt) ∙ e)
    go (inr q) =
        last q (let g : Some y ≡ Some x = sym (get-append_end xs y) ∙ ap (slice_get (xs ++ y ∷ [])) (sym q)
        ∙ e in
        let z : x ≡ y = cc in z)

-- The new part of a store lies in its line.
part_inside : (counts : Counts) (site : Site) (levels : List Level) (o : ℕ) (bytes : List ℕ) (m b : ℕ)
    → covers (part_of_store counts site levels o bytes m) b ≡ true → b / 64 ≡ m
part_inside counts site levels o bytes m b h =
    let n : length (take (end_in m o (length bytes) - start_in m o) (drop (start_in m o - o) bytes))
    ≡ end_in m o (length bytes) - start_in m o =
    length-take-le (end_in m o (length bytes) - start_in m o) (drop (start_in m o - o) bytes)
    (let e = length-drop (start_in m o - o) bytes in omega (arith, e)) in
    let r = true_over (part_of_store counts site levels o bytes m) b h in
    (byte-of_part o (length bytes) m b r.0 (bound (start_in m o) (end_in m o (length bytes)) _ b n r.0 r.1)).2
  where
    bound : (s e len b : ℕ) → len ≡ e - s → s ≤ b → b < s + len → b < e
    bound s e len b q le lt = omega (arith, q, le, lt)

well_store : (n m : ℕ) (y : StorePart) (l : Line StorePart) → IsOrdered l
    → ((b : ℕ) → covers y b ≡ true → b / 64 ≡ m)
    → y.offset / 64 ≡ m → y.step ≡ n → y.first_flush ≡ None → IsWell n m l
    → IsWell (suc n) m (with_part y l)
well_store n m y l o inside at_line step none h = record {
  inside = λ k x e. in_it k x (place l.parts y k x e);
  line = λ k x e. on_line k x (place l.parts y k x e);
  made = λ k x e. made_it k x (place l.parts y k x e);
  ascend = λ j k x z e g lt. two j k x z (place l.parts y j x e) (place l.parts y k z g) lt;
  unflushed = λ k x e le. not_it k x (place l.parts y k x e) le;
}
  where
    in_it : (k : ℕ) (x : StorePart) → Place l.parts y k x → (b : ℕ) → covers x b ≡ true → b / 64 ≡ m
    in_it k x (before lt e) b c = h.inside k x e b c
    in_it k x (last q e) b c = inside b (subst (λ (z : StorePart). covers z b ≡ true) e c)

    on_line : (k : ℕ) (x : StorePart) → Place l.parts y k x → x.offset / 64 ≡ m
    on_line k x (before lt e) = h.line k x e
    on_line k x (last q e) = ap (λ (z : StorePart). z.offset / 64) e ∙ at_line

    made_it : (k : ℕ) (x : StorePart) → Place l.parts y k x → x.step < suc n
    made_it k x (before lt e) = omega (arith, h.made k x e)
    made_it k x (last q e) = let s : x.step ≡ n = ap (λ (z : StorePart). z.step) e ∙ step in omega (arith, s)

    two : (j k : ℕ) (x z : StorePart) → Place l.parts y j x → Place l.parts y k z → j < k → x.step < z.step
    two j k x z (before lt e) (before lu g) less = h.ascend j k x z e g less
    two j k x z (before lt e) (last q g) less =
        let s : z.step ≡ n = ap (λ (w : StorePart). w.step) g ∙ step in omega (arith, s, h.made j x e)
    two j k x z (last q e) (before lu g) less = absurd (omega (arith, q, lu, less))
    two j k x z (last q e) (last r g) less = absurd (omega (arith, q, r, less))

    not_it : (k : ℕ) (x : StorePart) → Place l.parts y k x → l.flushed ≤ k → x.first_flush ≡ None
    not_it k x (before lt e) le = h.unflushed k x e le
    not_it k x (last q e) le = ap (λ (z : StorePart). z.first_flush) e ∙ none

-- ---- all lines

-- Each of these lines is a line of a state after n steps; the first of them is line 0.
abbrev pub AreWell : ℕ → List (Line StorePart) → Type 0
AreWell n ls = (m : ℕ) (l : Line StorePart) → slice_get ls m ≡ Some l → IsWell n m l

all_later : (n : ℕ) (ls : List (Line StorePart)) → AreWell n ls → AreWell (suc n) ls
all_later n ls h m l e = later n m l (h m l e)

all_fence : (n : ℕ) (ls : List (Line StorePart)) → AreWell n ls → AreWell n (fenced_lines ls)
all_fence n ls h m l e =
    let r = get-of_map fence_line ls m l e in subst (IsWell n m) r.2 (well_fence n m r.0 (h m r.0 r.1))

all_flush : (n : ℕ) (I : Input) (flush : Flush) (a size : ℕ) (ls : List (Line StorePart)) → AreWell n ls
    → AreWell n (flushed_by I flush a size ls)
all_flush n I flush a size ls h m l e =
    go (has_bytes m (a - I.base) size) (slice_get ls m) (λ x q. h m x q)
    (sym (slice_get-change_range (λ _ l. flush_line flush l) (a - I.base) size ls m) ∙ e)
  where
    go : (b : Bool) (o : Option (Line StorePart)) → ((x : Line StorePart) → o ≡ Some x → IsWell n m x)
        → option_map (λ l. cond b (flush_line flush l) l) o ≡ Some l → IsWell n m l
    go b None k q = absurd (let z : ⊥ = cc in z)
    go true (Some x) k q =
        let z : flush_line flush x ≡ l = cc in subst (IsWell n m) z (well_flush n m flush x (k x refl))
    go false (Some x) k q = k l q

all_store : (n : ℕ) (counts : Counts) (site : Site) (levels : List Level) (o : ℕ) (bytes : List ℕ)
    (ls : List (Line StorePart)) → counts.steps ≡ n
    → ((m : ℕ) (l : Line StorePart) → slice_get ls m ≡ Some l → IsOrdered l) → AreWell n ls →
    AreWell (suc n) (stored (part_of_store counts site levels o bytes) o (length bytes) ls)
all_store n counts site levels o bytes ls at ordered h m l e =
    go (has_bytes m o (length bytes)) refl (slice_get ls m) (λ x q. ordered m x q) (λ x q. h m x q)
    (sym (slice_get-change_range (λ j l. with_part (part_of_store counts site levels o bytes j) l) o
    (length bytes) ls m) ∙ e)
  where
    part : StorePart
    part = part_of_store counts site levels o bytes m

    go : (b : Bool) → has_bytes m o (length bytes) ≡ b → (w : Option (Line StorePart))
        → ((x : Line StorePart) → w ≡ Some x → IsOrdered x)
        → ((x : Line StorePart) → w ≡ Some x → IsWell n m x) →
        option_map (λ l. cond b (with_part (part_of_store counts site levels o bytes m) l) l) w ≡ Some l
        → IsWell (suc n) m l
    go b t None p k q = absurd (let z : ⊥ = cc in z)
    go true t (Some x) p k q =
        let z : with_part (part_of_store counts site levels o bytes m) x ≡ l = cc in
        subst (IsWell (suc n) m) z (well_store n m (part_of_store counts site levels o bytes m) x (p x refl)
        (λ b c. part_inside counts site levels o bytes m b c) (line_of_start o (length bytes) m t) at refl
        (k x refl))
    go false t (Some x) p k q = later n m l (k l q)

well_cases : (P : Program) (I : Input) (n : ℕ) → AreWell n (run P I n).lines
    → Cases I (run P I n) (λ e ls. AreWell (suc n) ls)
well_cases P I n h = record {
  plain = λ e p. all_later n _ h;
  store =
      λ f fs t a bytes e w. all_store n (run P I n).counts (site_of f) (levels_of (f ∷ fs)) (a - I.base) bytes _
      (counted-steps P I n t.going) (λ m l q. ordered-at (run P I n).lines m l (lines_ordered P I n) q) h;
  flush = λ f fs t a m e. all_later n _ (all_flush n I _ a m _ h);
  persist = λ f fs t a m e. all_later n _ (all_fence n _ (all_flush n I _ a m _ h));
  fence = all_later n _ (all_fence n _ h);
}

empty_well : (m k : ℕ) (l : Line StorePart) → l.parts ≡ [] → IsWell k m l
empty_well m k l none = record {
  inside = λ j x g b c. absurd (never j x g);
  line = λ j x g. absurd (never j x g);
  made = λ j x g. absurd (never j x g);
  ascend = λ i j x y g q lt. absurd (never i x g);
  unflushed = λ j x g le. absurd (never j x g);
}
  where
    never : (j : ℕ) (x : StorePart) → slice_get l.parts j ≡ Some x → ⊥
    never j x g =
        let q : slice_get [] j ≡ Some x = sym (ap (λ (ps : List StorePart). slice_get ps j) none) ∙ g in
        let z : ⊥ =
        cc in z

pub lines_well : (P : Program) (I : Input) (n : ℕ) → AreWell n (run P I n).lines
unfolding run
lines_well P I zero = λ m l e. empty_well m 0 l (line_of_fresh P _ m l e)
lines_well P I (suc n) = step-cases P I (run P I n) (λ e ls. AreWell (suc n) ls) (well_cases P I n (lines_well P I n))

-- Every part lies in its line.
pub in_lines : (P : Program) (I : Input) (n : ℕ) → AreInLines (run P I n).lines
in_lines P I n m l k x e g = (lines_well P I n m l e).inside k x g

pub has_order : (P : Program) (I : Input) (n : ℕ) → HasOrder (run P I n)
has_order P I n = record {
  ascend = λ m l j k x y e. (lines_well P I n m l e).ascend j k x y;
  flushed = λ m l k x. (has_history P I n).flushed m k l x;
  by_flush = λ m l k x f e g q. by m l k x f e g q (which k l.flushed);
  inside = in_lines P I n;
}
  where
    which : (a b : ℕ) → (a < b) ⊎ (b ≤ a)
    which a b = grind arith

    by : (m : ℕ) (l : Line StorePart) (k : ℕ) (x : StorePart) (f : Flush)
        → slice_get (run P I n).lines m ≡ Some l
        → slice_get l.parts k ≡ Some x → x.first_flush ≡ Some f → (k < l.flushed) ⊎ (l.flushed ≤ k)
        → k < l.flushed
    by m l k x f e g q (inl lt) = lt
    by m l k x f e g q (inr le) =
        absurd (let z : None ≡ Some f = sym ((lines_well P I n m l e).unflushed k x g le) ∙ q in let w : ⊥ = cc in
        w)

-- ---- the last fence

module _ (P : Program) (I : Input) (from : ℕ) where
  fenced_before : (n : ℕ) → FencedSince P I from n → is_before from (last_fence P I n) ≡ true
  unfolding last_fence
  fenced_before zero s = absurd (omega (arith, s.2))
  fenced_before (suc n) s = go (λ t. fenced_before n t) (fences (event P I (run P I n))) refl (below s.0 n s.2)
    where
      go : (FencedSince P I from n → is_before from (last_fence P I n) ≡ true) → (b : Bool)
          → fences (event P I (run P I n)) ≡ b → (s.0 < n) ⊎ (s.0 ≡ n)
          → is_before from (cond b (Some n) (last_fence P I n)) ≡ true
      go next true e (inl lt) = true_lt from n (omega (arith, s.1, lt))
      go next true e (inr q) = true_lt from n (omega (arith, s.1, q))
      go next false e (inl lt) = next (s.0, s.1, lt, s.3)
      go next false e (inr q) =
          absurd (let h : fences (event P I (run P I n))
          ≡ true = subst (λ m. fences (event P I (run P I m)) ≡ true) q s.3 in let b : false ≡ true =
          sym e ∙ h in let z : ⊥ = cc in z)

  before_fenced : (n : ℕ) → is_before from (last_fence P I n) ≡ true → FencedSince P I from n
  unfolding last_fence
  before_fenced zero h = absurd (let z : ⊥ = cc in z)
  before_fenced (suc n) h = go (λ t. before_fenced n t) (fences (event P I (run P I n))) refl h
    where
      go : (is_before from (last_fence P I n) ≡ true → FencedSince P I from n) → (b : Bool)
          → fences (event P I (run P I n)) ≡ b → is_before from (cond b (Some n) (last_fence P I n)) ≡ true
          → FencedSince P I from (suc n)
      go next true e g = (n, lt_true from n g, omega arith, e)
      go next false e g = let r = next g in (r.0, r.1, omega (arith, r.2), r.3)

pub fenced_by_last : (P : Program) (I : Input) (n : ℕ) (x : StorePart) → PartOf (run P I n).lines x
    → x.fenced ≡ is_before x.step (last_fence P I n)
fenced_by_last P I n x i =
    both_ways _ _ (λ e. fenced_before P I x.step n (fence_stated P I n x i e))
    (λ e. stated_by_fence P I n x i (before_fenced P I x.step n e))
