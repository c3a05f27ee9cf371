-- A plan that has what was reported leaves nothing to report.
use Rattle.std.proofs.Common.{◌≡◌, ◌⊎◌, inl, inr, ℕ, zero, suc, ◌+◌, ◌<◌, ◌≤◌, Bool, true, false, cond, not, ◌&&◌, ◌||◌, nat_lt, nat_le, nat_eq, List, [], ◌∷◌, ◌++◌, map, length, Option, Some, None, option_map, slice_get, refl, sym, ap, ap₂, ◌∙◌, subst, arith, le-leb, leb-true}
use Rattle.std.specs.List.{list_any, range_with_len}
use Rattle.std.proofs.lemmas.Bool.Decides.{nat_tests}
use Rattle.hip_tree.specs.Sites.{has_site}
use Rattle.hip_tree.specs.declared.program.Program.{Program}
use Rattle.hip_tree.specs.declared.site.Site.{Site}
use Rattle.hip_lines.specs.Line.{Line}
use Rattle.hip_runs.specs.declared.report.Kind.TheVariants.{MissingFlush}
use Rattle.hip_runs.specs.declared.report.Report.{Report}
use Rattle.hip_runs.specs.Crash.{covers}
use Rattle.hip_runs.specs.StoredParts.History.{HasHistory}
use Rattle.hip_runs.specs.StoredParts.Parts.{In, PartOf}
use Rattle.hip_runs.specs.Laws.PartLaws.{in-append, append-left, append-right}
use Rattle.hip_runs.specs.Found.Reports.{LoosePart, Range, shows, is_last, loose_from, loose_in, loose_parts, all_flushed, latest_flush, later_flush, kind_of, flush_site_of, is_open, report_by, report_of, check_reports}
use Rattle.hip_runs.specs.State.{Level, Flush, StorePart, State, levels_of}
use Rattle.hip_repairs.specs.declared.plan.Plan.{Plan}
use Rattle.hip_repairs.specs.Mending.{FencesFlush, FlushesStore, HoistsCall, Mends}
use Rattle.hip_repairs.specs.Harmless.{Content}
use Rattle.hip_repairs.proofs.clean.Asked.{returned_at, in_open, in_range, in_flat}
use Rattle.hip_repairs.proofs.simulation.Ahead.{Ahead}
use Rattle.hip_repairs.proofs.simulation.Facts.{Lines, Known}
use Rattle.hip_repairs.proofs.clean.Kept.{Safe, AllSafe, AllKept}

-- ---- the latest of the first flushes

record IsLatest (ps : List LoosePart) (f : Flush) : Type 0 where
  of : (p : LoosePart) × In p ps × (p.part.first_flush ≡ Some f)
  last : (p : LoosePart) (g : Flush) → In p ps → p.part.first_flush ≡ Some g → g.step ≤ f.step

abbrev LatestOf : List LoosePart → Option Flush → Type 0
LatestOf ps None = (p : LoosePart) (g : Flush) → In p ps → p.part.first_flush ≡ Some g → ⊥
LatestOf ps (Some f) = IsLatest ps f

some_same : {A : Type 0} (x y : A) (o : Option A) → o ≡ Some x → o ≡ Some y → x ≡ y
some_same x y o e f = let h : Some x ≡ Some y = sym e ∙ f in cc

none_some : {A : Type 0} (x : A) (o : Option A) → o ≡ None → o ≡ Some x → ⊥
none_some x o e f = let h : None ≡ Some x = sym e ∙ f in let z : ⊥ = cc in z

first_of : (p q : LoosePart) (o : Option Flush) → p ≡ q → p.part.first_flush ≡ o → q.part.first_flush ≡ o
first_of p q o e f = sym (ap (λ (x : LoosePart). x.part.first_flush) e) ∙ f

latest_with : (q : LoosePart) (ps : List LoosePart) (own o : Option Flush) → q.part.first_flush ≡ own → LatestOf ps o → LatestOf (q ∷ ps) (later_flush own o)
latest_with q ps None None e l = after
  where
    after : (p : LoosePart) (g : Flush) → In p (q ∷ ps) → p.part.first_flush ≡ Some g → ⊥
    after p g (inl same) f = none_some g q.part.first_flush e (first_of p q (Some g) same f)
    after p g (inr i) f = l p g i f
latest_with q ps None (Some b) e l = record { of = (l.of.0, inr l.of.1, l.of.2); last = after }
  where
    after : (p : LoosePart) (g : Flush) → In p (q ∷ ps) → p.part.first_flush ≡ Some g → g.step ≤ b.step
    after p g (inl same) f = absurd (none_some g q.part.first_flush e (first_of p q (Some g) same f))
    after p g (inr i) f = l.last p g i f
latest_with q ps (Some a) None e l = record { of = (q, inl refl, e); last = after }
  where
    after : (p : LoosePart) (g : Flush) → In p (q ∷ ps) → p.part.first_flush ≡ Some g → g.step ≤ a.step
    after p g (inl same) f = let z = some_same g a q.part.first_flush (first_of p q (Some g) same f) e in subst (λ (x : Flush). x.step ≤ a.step) (sym z) (omega arith)
    after p g (inr i) f = absurd (l p g i f)
latest_with q ps (Some a) (Some b) e l = go (nat_lt a.step b.step) refl
  where
    own_is : (p : LoosePart) (g : Flush) → p ≡ q → p.part.first_flush ≡ Some g → g ≡ a
    own_is p g same f = some_same g a q.part.first_flush (first_of p q (Some g) same f) e

    go : (t : Bool) → nat_lt a.step b.step ≡ t → LatestOf (q ∷ ps) (cond t (Some b) (Some a))
    go true h = record { of = (l.of.0, inr l.of.1, l.of.2); last = after }
      where
        after : (p : LoosePart) (g : Flush) → In p (q ∷ ps) → p.part.first_flush ≡ Some g → g.step ≤ b.step
        after p g (inl same) f = let le : a.step ≤ b.step = grind (arith, nat_tests) in subst (λ (x : Flush). x.step ≤ b.step) (sym (own_is p g same f)) le
        after p g (inr i) f = l.last p g i f
    go false h = record { of = (q, inl refl, e); last = after }
      where
        after : (p : LoosePart) (g : Flush) → In p (q ∷ ps) → p.part.first_flush ≡ Some g → g.step ≤ a.step
        after p g (inl same) f = subst (λ (x : Flush). x.step ≤ a.step) (sym (own_is p g same f)) (omega arith)
        after p g (inr i) f = let le : b.step ≤ a.step = grind (arith, nat_tests) in omega (arith, l.last p g i f)

latest_is : (ps : List LoosePart) → LatestOf ps (latest_flush ps)
latest_is [] = λ p g i f. i
latest_is (q ∷ ps) = latest_with q ps q.part.first_flush (latest_flush ps) refl (latest_is ps)

latest_there : (ps : List LoosePart) (p : LoosePart) (g : Flush) → In p ps → p.part.first_flush ≡ Some g → (f : Flush) × (latest_flush ps ≡ Some f) × IsLatest ps f
latest_there ps p g i e = go (latest_flush ps) refl (latest_is ps)
  where
    go : (o : Option Flush) → latest_flush ps ≡ o → LatestOf ps o → (f : Flush) × (latest_flush ps ≡ Some f) × IsLatest ps f
    go None h l = absurd (l p g i e)
    go (Some f) h l = (f, h, l)

-- ---- loose parts

and_true : (a b : Bool) → a && b ≡ true → (a ≡ true) × (b ≡ true)
and_true true b e = (refl, e)
and_true false b e = absurd (let z : ⊥ = cc in z)

-- A loose part is a part of the lines, and its step is the given one.
loose_from_part : (o n made g p k : ℕ) (xs : List StorePart) (q : LoosePart) → In q (loose_from o n made g p k xs) → In q.part xs × (q.part.step ≡ made)
loose_from_part o n made g p k [] q i = absurd i
loose_from_part o n made g p k (x ∷ xs) q i = go (nat_eq x.step made && (nat_le g k && is_last o n x xs)) refl (λ j. loose_from_part o n made g p (suc k) xs q j) i
  where
    go : (t : Bool) → nat_eq x.step made && (nat_le g k && is_last o n x xs) ≡ t → (In q (loose_from o n made g p (suc k) xs) → In q.part xs × (q.part.step ≡ made)) →
        In q (cond t (record { part = x; flushed = nat_lt k p } ∷ loose_from o n made g p (suc k) xs) (loose_from o n made g p (suc k) xs)) → In q.part (x ∷ xs) × (q.part.step ≡ made)
    go true e rest (inl same) =
        let part : q.part ≡ x = ap (λ (y : LoosePart). y.part) same in
        let step : nat_eq x.step made ≡ true = (and_true (nat_eq x.step made) (nat_le g k && is_last o n x xs) e).0 in
        let is : x.step ≡ made = grind (arith, nat_tests) in
        (inl part, ap (λ (y : StorePart). y.step) part ∙ is)
    go true e rest (inr j) = let r = rest j in (inr r.0, r.1)
    go false e rest j = let r = rest j in (inr r.0, r.1)

loose_part : (o n made : ℕ) (ls : Lines) (q : LoosePart) → In q (loose_parts o n ls made) → PartOf ls q.part × (q.part.step ≡ made)
loose_part o n made [] q i = absurd i
loose_part o n made (l ∷ ls) q i = go (in-append (loose_in o n made l) (loose_parts o n ls made) q i) (λ j. loose_part o n made ls q j)
  where
    go : In q (loose_in o n made l) ⊎ In q (loose_parts o n ls made) → (In q (loose_parts o n ls made) → PartOf ls q.part × (q.part.step ≡ made)) → PartOf (l ∷ ls) q.part × (q.part.step ≡ made)
    go (inl j) rest = let r = loose_from_part o n made l.durable l.flushed 0 l.parts q j in (inl r.0, r.1)
    go (inr j) rest = let r = rest j in (inr r.0, r.1)

-- Whether a part is the last one over a byte depends on contents alone.
abbrev content_of : StorePart → Content
content_of p = record { offset = p.offset; bytes = p.bytes }

abbrev content_covers : Content → ℕ → Bool
content_covers c b = nat_le c.offset b && nat_lt b (c.offset + length c.bytes)

any_content : (xs : List StorePart) (b : ℕ) → list_any (λ q. covers q b) xs ≡ list_any (λ c. content_covers c b) (map content_of xs)
any_content [] b = refl
any_content (x ∷ xs) b = ap (λ t. covers x b || t) (any_content xs b)

shows_same : (o n count b : ℕ) (xs xs' : List StorePart) → map content_of xs' ≡ map content_of xs → shows o n count b xs' ≡ shows o n count b xs
shows_same o n zero b xs xs' e = refl
shows_same o n (suc count) b xs xs' e =
    ap₂ (λ x y. (nat_le o b && (nat_lt b (o + n) && not x)) || y) (any_content xs' b ∙ ap (list_any (λ c. content_covers c b)) e ∙ sym (any_content xs b)) (shows_same o n count (suc b) xs xs' e)

last_same : (o n : ℕ) (x x' : StorePart) (xs xs' : List StorePart) → content_of x' ≡ content_of x → map content_of xs' ≡ map content_of xs → is_last o n x' xs' ≡ is_last o n x xs
last_same o n x x' xs xs' e f = ap (λ (c : Content). shows o n (length c.bytes) c.offset xs') e ∙ shows_same o n (length x.bytes) x.offset xs xs' f

head_same : {A : Type 0} (x y : A) (xs ys : List A) → x ∷ xs ≡ y ∷ ys → (x ≡ y) × (xs ≡ ys)
head_same x y xs ys e = (cc, cc)

cons_not : {A : Type 0} (x : A) (xs : List A) → x ∷ xs ≡ [] → ⊥
cons_not x xs e = cc

nil_not : {A : Type 0} (x : A) (xs : List A) → [] ≡ x ∷ xs → ⊥
nil_not x xs e = cc

-- The facts about a part at place k of a line, where the repaired program's line has g' durable and p' flushed parts.
module _ (plan : Plan) (up : List Level) (F : Flush → Type 0) (o n : ℕ) (Whole : ℕ → LoosePart → Type 0) where
  abbrev Cured : ℕ → ℕ → ℕ → Type 0
  Cured p g' p' = (x : StorePart) (k : ℕ) → Whole x.step (record { part = x; flushed = nat_lt k p }) → Safe plan up F g' p' k x → (k < p → (f : Flush) × (x.first_flush ≡ Some f)) → k < g'

  none_from : (g p g' p' k : ℕ) (xs xs' : List StorePart) → g ≤ g' → map content_of xs' ≡ map content_of xs → AllSafe plan up F g' p' k xs →
      ((j : ℕ) (x : StorePart) → slice_get xs j ≡ Some x → k + j < p → (f : Flush) × (x.first_flush ≡ Some f)) →
      ((made : ℕ) (q : LoosePart) → In q (loose_from o n made g p k xs) → Whole made q) → Cured p g' p' → (made : ℕ) → loose_from o n made g' p' k xs' ≡ []
  none_from g p g' p' k [] [] le e s noted within cured made = refl
  none_from g p g' p' k (x ∷ xs) (x' ∷ xs') le e s noted within cured made =
      let same = head_same (content_of x') (content_of x) (map content_of xs') (map content_of xs) e in
      go (nat_eq x'.step made && (nat_le g' k && is_last o n x' xs')) refl same.0 same.1
      (none_from g p g' p' (suc k) xs xs' le same.1 s.1 (λ j y at lt. noted (suc j) y at (omega arith)) (λ m q i. within m q (later m q i)) cured made)
    where
      later : (m : ℕ) (q : LoosePart) → In q (loose_from o n m g p (suc k) xs) → In q (loose_from o n m g p k (x ∷ xs))
      later m q i = put (nat_eq x.step m && (nat_le g k && is_last o n x xs))
        where
          put : (t : Bool) → In q (cond t (record { part = x; flushed = nat_lt k p } ∷ loose_from o n m g p (suc k) xs) (loose_from o n m g p (suc k) xs))
          put true = inr i
          put false = i

      here : nat_le g' k ≡ true → is_last o n x xs ≡ true → k < g'
      here low last = cured x k (within x.step (record { part = x; flushed = nat_lt k p }) (subst (λ (t : Bool). In (record { part = x; flushed = nat_lt k p }) (cond t (record { part = x; flushed = nat_lt k p } ∷ loose_from o n x.step g p (suc k) xs) (loose_from o n x.step g p (suc k) xs))) (sym passes) (inl refl))) s.0 (λ lt. noted 0 x refl (omega arith))
        where
          passes : nat_eq x.step x.step && (nat_le g k && is_last o n x xs) ≡ true
          passes =
              let a : nat_eq x.step x.step ≡ true = grind (arith, nat_tests) in
              let h : g' ≤ k = leb-true g' k low in
              let b : nat_le g k ≡ true = le-leb g k (omega arith) in
              rw (a, b, last) refl

      go : (t : Bool) → nat_eq x'.step made && (nat_le g' k && is_last o n x' xs') ≡ t → content_of x' ≡ content_of x → map content_of xs' ≡ map content_of xs → loose_from o n made g' p' (suc k) xs' ≡ [] →
          cond t (record { part = x'; flushed = nat_lt k p' } ∷ loose_from o n made g' p' (suc k) xs') (loose_from o n made g' p' (suc k) xs') ≡ []
      go false q c d rest = rest
      go true q c d rest =
          let both = (and_true (nat_eq x'.step made) (nat_le g' k && is_last o n x' xs') q).1 in
          let low = (and_true (nat_le g' k) (is_last o n x' xs') both).0 in
          let last = (and_true (nat_le g' k) (is_last o n x' xs') both).1 in
          let lt = here low (sym (last_same o n x x' xs xs' c d) ∙ last) in
          let h : g' ≤ k = leb-true g' k low in
          absurd (omega arith)
  none_from g p g' p' k [] (x' ∷ xs') le e s noted within cured made = absurd (cons_not (content_of x') (map content_of xs') e)
  none_from g p g' p' k (x ∷ xs) [] le e s noted within cured made = absurd (nil_not (content_of x) (map content_of xs) e)

  none_of_lines : (ls ls' : Lines) → Ahead ls ls' → AllKept plan up F ls ls' →
      ((m j : ℕ) (l : Line StorePart) (x : StorePart) → slice_get ls m ≡ Some l → slice_get l.parts j ≡ Some x → j < l.flushed → (f : Flush) × (x.first_flush ≡ Some f)) →
      ((made : ℕ) (q : LoosePart) → In q (loose_parts o n ls made) → Whole made q) → ((p g' p' : ℕ) → Cured p g' p') → (made : ℕ) → loose_parts o n ls' made ≡ []
  none_of_lines [] [] a k noted within cured made = refl
  none_of_lines (l ∷ ls) (l' ∷ ls') a k noted within cured made =
      ap₂ (λ xs ys. xs ++ ys)
      (none_from l.durable l.flushed l'.durable l'.flushed 0 l.parts l'.parts a.0.durable a.0.parts k.0.safe (λ j x at lt. noted 0 j l x refl at (omega arith)) (λ m q i. within m q (in_left m q i)) (cured l.flushed l'.durable l'.flushed) made)
      (none_of_lines ls ls' a.1 k.1 (λ m j y x e at lt. noted (suc m) j y x e at lt) (λ m q i. within m q (in_right m q i)) cured made)
    where
      in_left : (m : ℕ) (q : LoosePart) → In q (loose_in o n m l) → In q (loose_parts o n (l ∷ ls) m)
      in_left m q i = append-left (loose_in o n m l) (loose_parts o n ls m) q i

      in_right : (m : ℕ) (q : LoosePart) → In q (loose_parts o n ls m) → In q (loose_parts o n (l ∷ ls) m)
      in_right m q i = append-right (loose_in o n m l) (loose_parts o n ls m) q i
  none_of_lines [] (l' ∷ ls') a k noted within cured made = absurd a
  none_of_lines (l ∷ ls) [] a k noted within cured made = absurd a

-- ---- a check of the program, and the line across

module _ (P : Program) (plan : Plan) (s : State) (history : HasHistory P s) (range : Range) (mends : (r : Report) → In r (check_reports s (Some range)) → Mends plan r) where
  abbrev up : List Level
  up = levels_of s.frames

  abbrev loose : ℕ → List LoosePart
  loose made = loose_parts range.offset range.size s.lines made

  abbrev report : LoosePart → List LoosePart → Report
  report p ps = report_by up (suc s.counts.entries) p.part (p ∷ ps)

  -- The report of a store that has loose parts is one of the check.
  report_there : (made : ℕ) (p : LoosePart) (ps : List LoosePart) → loose made ≡ p ∷ ps → made < s.counts.steps → In (report p ps) (check_reports s (Some range))
  report_there made p ps e lt =
      in_flat (λ m. report_of up (suc s.counts.entries) (loose m)) (range_with_len 0 s.counts.steps) made (report p ps) (in_range 0 s.counts.steps made (omega arith) (omega arith))
      (subst (λ (qs : List LoosePart). In (report p ps) (report_of up (suc s.counts.entries) qs)) (sym e) (inl refl))

  -- A loose part x at place k of a line; g' parts of the repaired program's line are durable, and p' are flushed.
  module _ (x : StorePart) (k p g' p' : ℕ) (safe : Safe plan up (Known s.lines) g' p' k x) (noted : k < p → (f : Flush) × (x.first_flush ≡ Some f)) (made : PartOf s.lines x) where
    abbrev here : LoosePart
    here = record { part = x; flushed = nat_lt k p }

    module _ (q : LoosePart) (qs : List LoosePart) (e : loose x.step ≡ q ∷ qs) (is_loose : In here (q ∷ qs)) where
      q_in : PartOf s.lines q.part × (q.part.step ≡ x.step)
      q_in = loose_part range.offset range.size x.step s.lines q (subst (In q) (sym e) (inl refl))

      mended : Mends plan (report q qs)
      mended = mends (report q qs) (report_there x.step q qs e (history.made x made))

      same_site_as : q.part.site ≡ x.site
      same_site_as = history.site q.part x q_in.0 made q_in.1

      same_levels : q.part.levels ≡ x.levels
      same_levels = history.levels q.part x q_in.0 made q_in.1

      same_fenced : q.part.fenced ≡ x.fenced
      same_fenced = history.fenced q.part x q_in.0 made q_in.1

      -- All loose parts are flushed, and a fence comes after the flush that is named.
      by_fence : FencesFlush plan (report q qs) → k < g'
      by_fence h = go (all_flushed (q ∷ qs)) refl h.at
        where
          all_in : (ps : List LoosePart) → In here ps → all_flushed ps ≡ true → k < p
          all_in [] i h = absurd i
          all_in (y ∷ ps) (inl same) h = let f : nat_lt k p ≡ true = ap (λ (z : LoosePart). z.flushed) same ∙ (and_true y.flushed (all_flushed ps) h).0 in grind (arith, nat_tests)
          all_in (y ∷ ps) (inr i) h = all_in ps i (and_true y.flushed (all_flushed ps) h).1

          site_is : (f : Flush) (site : Site) (o : Option Flush) → o ≡ Some f → option_map (λ (f : Flush). f.site) o ≡ Some site → f.site ≡ site
          site_is f site o t e = let z : Some f.site ≡ Some site = sym (ap (option_map (λ (f : Flush). f.site)) t) ∙ e in cc

          go : (t : Bool) → all_flushed (q ∷ qs) ≡ t → flush_site_of t (q ∷ qs) ≡ Some h.site → k < g'
          go false all e = absurd (let z : ⊥ = cc in z)
          go true all at =
              let lt : k < p = all_in (q ∷ qs) is_loose all in
              let f1 = noted lt in
              let l = latest_there (q ∷ qs) here f1.0 is_loose f1.1 in
              let from = loose_part range.offset range.size x.step s.lines l.2.of.0 (subst (In l.2.of.0) (sym e) l.2.of.1) in
              safe.fences f1.0 l.0 f1.1 (l.2.of.0.part, from.0, l.2.of.2) (l.2.last here f1.0 is_loose f1.1)
              (subst (λ (t : Site). has_site plan.fence_after t ≡ true) (sym (site_is l.0 h.site (latest_flush (q ∷ qs)) l.1 at)) h.planned)

      -- The store itself is repaired.
      by_flush : FlushesStore plan (report q qs) → k < g'
      by_flush h = go h.fence
        where
          head_is : (a b : Site) → Some a ≡ Some b → a ≡ b
          head_is a b e = cc

          site_is : h.site ≡ x.site
          site_is = sym (head_is q.part.site h.site h.at) ∙ same_site_as

          x_flush : has_site plan.flush_after x.site ≡ true
          x_flush = subst (λ (t : Site). has_site plan.flush_after t ≡ true) site_is h.planned

          fenced_of : (all fenced : Bool) → kind_of all fenced ≡ MissingFlush → fenced ≡ true
          fenced_of true fenced e = absurd (let z : ⊥ = cc in z)
          fenced_of false true e = refl
          fenced_of false false e = absurd (let z : ⊥ = cc in z)

          go : ((report q qs).kind ≡ MissingFlush) ⊎ (has_site plan.fence_after h.site ≡ true) → k < g'
          go (inl kind) = safe.fenced x_flush (sym same_fenced ∙ fenced_of (all_flushed (q ∷ qs)) q.part.fenced kind)
          go (inr fence) = safe.both x_flush (subst (λ (t : Site). has_site plan.fence_after t ≡ true) site_is fence)

      -- A call that has returned is hoisted.
      by_hoist : HoistsCall plan (report q qs) → k < g'
      by_hoist h =
          let v = returned_at up q.part.levels (history.split q.part q_in.0) h.number h.returned in
          durable v.call v.closed (safe.closed v.call (subst (In v.call) same_levels v.of)
          (subst (λ (t : Site). has_site plan.hoist t ≡ true) (call_is v.call.call h.site _ v.at h.at) h.planned))
        where
          call_is : (a b : Site) (o : Option Site) → o ≡ Some a → o ≡ Some b → b ≡ a
          call_is a b o e f = let z : Some b ≡ Some a = sym f ∙ e in cc

          durable : (v : Level) → is_open up v ≡ false → (k < g') ⊎ In v up → k < g'
          durable v closed (inl lt) = lt
          durable v closed (inr i) = let z = in_open up v i in absurd (let y : ⊥ = cc in y)

      cured_here : k < g'
      cured_here = go mended
        where
          go : Mends plan (report q qs) → k < g'
          go (inl h) = by_fence h
          go (inr (inl h)) = by_flush h
          go (inr (inr h)) = by_hoist h

    cured_part : In here (loose x.step) → k < g'
    cured_part i = go (loose x.step) refl i
      where
        go : (ps : List LoosePart) → loose x.step ≡ ps → In here ps → k < g'
        go [] e j = absurd j
        go (q ∷ qs) e j = cured_here q qs e j

  -- So no part is loose in the lines of the repaired program.
  pub none_loose : (ls' : Lines) → Ahead s.lines ls' → AllKept plan up (Known s.lines) s.lines ls' → (made : ℕ) → loose_parts range.offset range.size ls' made ≡ []
  none_loose ls' ahead kept made =
      none_of_lines plan up (Known s.lines) range.offset range.size (λ m q. In q (loose m)) s.lines ls' ahead kept history.flushed (λ m q i. i)
      (λ p g' p' x k whole safe noted. cured_part x k p g' p' safe noted (loose_part range.offset range.size x.step s.lines (record { part = x; flushed = nat_lt k p }) whole).0 whole) made
