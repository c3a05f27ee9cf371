-- What the bytes of a line show after a store, a flush and a fence.
use Rattle.std.proofs.Common.{◌≡◌, ◌⊎◌, inl, inr, ℕ, zero, suc, ◌+◌, ◌-◌, ◌*◌, ◌/◌, ◌%◌, ◌<◌, ◌≤◌, Bool, true, false, cond, nat_lt, nat_le, ◌&&◌, List, [], ◌∷◌, ◌++◌, length, drop, take, Option, Some, None, option_map, get_or, slice_index, refl, sym, ap, subst, ◌∙◌, arith, length-append, length-drop, replicate}
use Rattle.std.proofs.lemmas.Bool.Decides.{nat_tests}
use Rattle.hip_lines.specs.declared.part.Part.{Part}
use Rattle.hip_lines.specs.declared.part.LooseByte.{LooseByte}
use Rattle.hip_lines.specs.Pending.{Pending, none_pending, pending_with, pending_flushed, pending_fenced}
use Rattle.hip_lines.specs.Loose.{later, last_over}
use Rattle.hip_lines.specs.Laws.LooseLaws.{last_over-append, get-below, last_over-finds, Finds}
use Rattle.hip_lines.specs.Parts.{part_covers, loose_in, loose_by}
use Rattle.hip_lines.specs.Shown.{shown_by, shown, kept_at, Shows, AreNumbers, IsRenumbered}
use Rattle.hip_lines.specs.Uses.{AreUses}

lt_true : (m n : ℕ) → m < n → nat_lt m n ≡ true
lt_true m n h = grind (arith, nat_tests)

lt_false : (m n : ℕ) → n ≤ m → nat_lt m n ≡ false
lt_false m n h = grind (arith, nat_tests)

lt_suc : (m n : ℕ) → nat_lt (suc m) (suc n) ≡ nat_lt m n
lt_suc m n = grind (arith, nat_tests)

-- What is shown after all parts are flushed.
abbrev as_flushed : ℕ × Bool → ℕ × Bool
as_flushed s = (s.0, true)

abbrev if_unflushed : ℕ → Bool → Option (ℕ × Bool)
if_unflushed tag true = None
if_unflushed tag false = Some (tag, false)

abbrev unflushed : Option (ℕ × Bool) → Option (ℕ × Bool)
unflushed None = None
unflushed (Some (tag, b)) = if_unflushed tag b

-- ---- by all pending parts

shown-with : (w : Pending Part) (p : Part) (b : ℕ) → w.flushed ≤ length w.parts → shown (pending_with p w) b ≡ cond (part_covers p b) (Some (p.tag, false)) (shown w b)
shown-with w p b h = ap (option_map (shown_by w.flushed)) (last_over-append part_covers b w.parts p) ∙ go (part_covers p b)
  where
    go : (c : Bool) → option_map (shown_by w.flushed) (cond c (Some (length w.parts, p)) (last_over part_covers b w.parts)) ≡ cond c (Some (p.tag, false)) (shown w b)
    go true = ap (λ l. Some (p.tag, l)) (lt_false (length w.parts) w.flushed h)
    go false = refl

shown-flushed : (w : Pending Part) (b : ℕ) → shown (pending_flushed w) b ≡ option_map as_flushed (shown w b)
shown-flushed w b = go (last_over part_covers b w.parts) (last_over-finds part_covers b w.parts)
  where
    go : (o : Option (ℕ × Part)) → Finds part_covers w.parts b o → option_map (shown_by (length w.parts)) o ≡ option_map as_flushed (option_map (shown_by w.flushed) o)
    go None f = refl
    go (Some (k, x)) f = ap (λ l. Some (x.tag, l)) (lt_true k (length w.parts) (get-below w.parts k x f.at))

shown-drop : (b n : ℕ) (ps : List Part) → option_map (shown_by 0) (last_over part_covers b (drop n ps)) ≡ unflushed (option_map (shown_by n) (last_over part_covers b ps))
shown-drop b zero ps = go (last_over part_covers b ps)
  where
    go : (o : Option (ℕ × Part)) → option_map (shown_by 0) o ≡ unflushed (option_map (shown_by 0) o)
    go None = refl
    go (Some (k, x)) = ap (λ l. Some (x.tag, l)) z ∙ sym (ap (if_unflushed x.tag) z)
      where
        z : nat_lt k 0 ≡ false
        z = lt_false k 0 (omega arith)
shown-drop b (suc n) [] = refl
shown-drop b (suc n) (p ∷ ps) = shown-drop b n ps ∙ go (part_covers p b) (last_over part_covers b ps)
  where
    go : (c : Bool) (o : Option (ℕ × Part)) → unflushed (option_map (shown_by n) o) ≡ unflushed (option_map (shown_by (suc n)) (later part_covers (cond {A = Option (ℕ × Part)} c (Some (0, p)) None) o))
    go true None = sym (ap (if_unflushed p.tag) (lt_true 0 (suc n) (omega arith)))
    go false None = refl
    go c (Some (k, x)) = ap (if_unflushed x.tag) (sym (lt_suc k n))

shown-fenced : (w : Pending Part) (b : ℕ) → shown (pending_fenced w) b ≡ unflushed (shown w b)
shown-fenced w b = shown-drop b w.flushed w.parts

-- ---- by the kept tags

index-append_left : (xs : List ℕ) (y k : ℕ) → k < length xs → slice_index (xs ++ y ∷ []) k ≡ slice_index xs k
index-append_left [] y k h = absurd (omega arith)
index-append_left (x ∷ xs) y zero h = refl
index-append_left (x ∷ xs) y (suc k) h = index-append_left xs y k (omega arith)

index-append_end : (xs : List ℕ) (y : ℕ) → slice_index (xs ++ y ∷ []) (length xs) ≡ y
index-append_end [] y = refl
index-append_end (x ∷ xs) y = index-append_end xs y

index-drop : (n k : ℕ) (xs : List ℕ) → slice_index (drop n xs) k ≡ slice_index xs (n + k)
index-drop zero k xs = ap (slice_index xs) (let e : k ≡ 0 + k = omega arith in e)
index-drop (suc n) k [] = refl
index-drop (suc n) k (x ∷ xs) = index-drop n k xs ∙ ap (slice_index (x ∷ xs)) (let e : suc (n + k) ≡ suc n + k = omega arith in e)

kept-append : (tags : List ℕ) (t f m : ℕ) → m ≤ length tags → kept_at (tags ++ t ∷ []) f m ≡ kept_at tags f m
kept-append tags t f zero h = refl
kept-append tags t f (suc k) h = ap (λ x. Some (x, nat_lt k f)) (index-append_left tags t k (omega arith))

kept-last : (tags : List ℕ) (t f n : ℕ) → n ≡ length tags + 1 → f ≤ length tags → kept_at (tags ++ t ∷ []) f n ≡ Some (t, false)
kept-last tags t f n e h = ap (kept_at (tags ++ t ∷ []) f) (let z : n ≡ suc (length tags) = omega (arith, e) in z) ∙ ap (λ x. Some (x, nat_lt (length tags) f)) (index-append_end tags t) ∙ ap (λ l. Some (t, l)) (lt_false (length tags) f h)

kept-flushed : (tags : List ℕ) (f n m : ℕ) → n ≡ length tags → m ≤ length tags → kept_at tags n m ≡ option_map as_flushed (kept_at tags f m)
kept-flushed tags f n zero e h = refl
kept-flushed tags f n (suc k) e h = ap (λ l. Some (slice_index tags k, l)) (lt_true k n (omega (arith, e, h)))

kept-drop : (tags : List ℕ) (f m : ℕ) → kept_at (drop f tags) 0 (m - f) ≡ unflushed (kept_at tags f m)
kept-drop tags f zero = ap (kept_at (drop f tags) 0) (let e : 0 - f ≡ 0 = omega arith in e)
kept-drop tags f (suc k) = go (split k f)
  where
    split : (k f : ℕ) → (k < f) ⊎ (f ≤ k)
    split k f = grind arith

    go : (k < f) ⊎ (f ≤ k) → kept_at (drop f tags) 0 (suc k - f) ≡ if_unflushed (slice_index tags k) (nat_lt k f)
    go (inl lt) = ap (kept_at (drop f tags) 0) (let e : suc k - f ≡ 0 = omega arith in e) ∙ sym (ap (if_unflushed (slice_index tags k)) (lt_true k f lt))
    go (inr ge) =
        ap (kept_at (drop f tags) 0) (let e : suc k - f ≡ suc (k - f) = omega arith in e)
        ∙ ap (λ l. Some (slice_index (drop f tags) (k - f), l)) (lt_false (k - f) 0 (omega arith))
        ∙ ap (λ x. Some (x, false)) (index-drop f (k - f) tags ∙ ap (slice_index tags) (let e : f + (k - f) ≡ k = omega arith in e))
        ∙ sym (ap (if_unflushed (slice_index tags k)) (lt_false k f ge))

-- ---- what a queue keeps

pub zero_index : (n i : ℕ) → slice_index (replicate n 0) i ≡ 0
zero_index zero i = refl
zero_index (suc n) zero = refl
zero_index (suc n) (suc i) = zero_index n i

pub numbers-none : (count n : ℕ) → AreNumbers count (replicate n 0)
numbers-none count n i = subst (λ m. m ≤ count) (sym (zero_index n i)) (omega arith)

pub numbers-pushed : (count count' number : ℕ) (numbers numbers' : List ℕ) (test : ℕ → Bool) → number ≤ count' → count ≤ count' → ((i : ℕ) → slice_index numbers' i ≡ cond (test i) number (slice_index numbers i)) → AreNumbers count numbers → AreNumbers count' numbers'
numbers-pushed count count' number numbers numbers' test n c e h i = subst (λ m. m ≤ count') (sym (e i)) (go (test i))
  where
    go : (b : Bool) → cond b number (slice_index numbers i) ≤ count'
    go true = n
    go false = omega (arith, h i, c)

pub numbers-lowered : (tags tags' numbers numbers' : List ℕ) (by : ℕ) → tags' ≡ drop by tags → ((i : ℕ) → slice_index numbers' i ≡ slice_index numbers i - by) → AreNumbers (length tags) numbers → AreNumbers (length tags') numbers'
numbers-lowered tags tags' numbers numbers' by t e h i = omega (arith, e i, h i, ap length t, length-drop by tags)

pub cleared-numbers : (numbers : List ℕ) (n count by : ℕ) → by ≡ count → AreNumbers count numbers → (i : ℕ) → slice_index (replicate n 0) i ≡ slice_index numbers i - by
cleared-numbers numbers n count by e h i = zero_index n i ∙ (let z : 0 ≡ slice_index numbers i - by = omega (arith, e, h i) in z)

-- Nothing is pending.
pub shows-none : (tags numbers : List ℕ) (line : ℕ) (w : Pending Part) → tags ≡ [] → ((i : ℕ) → slice_index numbers i ≡ 0) → w ≡ none_pending → Shows tags 0 numbers line w
shows-none tags numbers line w t n e = record {
  bytes = λ b _. ap (kept_at tags 0) (n (b % 64)) ∙ sym (ap (λ v. shown v b) e);
  some = λ _. ap (λ (v : Pending Part). v.flushed) e;
  none = λ _. refl;
  all = λ _. ap (λ (v : Pending Part). v.flushed) e ∙ sym (ap (λ (v : Pending Part). length v.parts) e);
  not_all = λ _. sym (ap length t);
  ordered = omega (arith, ap (λ (v : Pending Part). v.flushed) e);
}

module _ (tags : List ℕ) (flushed : ℕ) (numbers : List ℕ) (line : ℕ) (w : Pending Part) (numbered : AreNumbers (length tags) numbers) (within : flushed ≤ length tags) (h : Shows tags flushed numbers line w) where
  -- One more part, whose bytes have the next number.
  pub shows-pushed : (tags' numbers' : List ℕ) (w' : Pending Part) (p : Part) (n : ℕ) → tags' ≡ tags ++ p.tag ∷ [] → n ≡ length tags + 1 → ((b : ℕ) → b / 64 ≡ line → slice_index numbers' (b % 64) ≡ cond (part_covers p b) n (slice_index numbers (b % 64))) → w' ≡ pending_with p w → Shows tags' flushed numbers' line w'
  shows-pushed tags' numbers' w' p n t e s x = record {
    bytes = λ b i. ap (kept_at tags' flushed) (s b i) ∙ ap (λ ts. kept_at ts flushed (cond (part_covers p b) n (slice_index numbers (b % 64)))) t ∙ go b (part_covers p b) (h.bytes b i) ∙ sym (ap (λ v. shown v b) x ∙ shown-with w p b h.ordered);
    some = λ z. ap (λ (v : Pending Part). v.flushed) x ∙ h.some z;
    none = λ z. h.none (sym (ap (λ (v : Pending Part). v.flushed) x) ∙ z);
    all = λ z. absurd (omega (arith, within, z, ap length t, length-append tags (p.tag ∷ [])));
    not_all = λ z. absurd (omega (arith, h.ordered, z, ap (λ (v : Pending Part). v.flushed) x, ap (λ (v : Pending Part). length v.parts) x, length-append w.parts (p ∷ [])));
    ordered = omega (arith, h.ordered, ap (λ (v : Pending Part). v.flushed) x, ap (λ (v : Pending Part). length v.parts) x, length-append w.parts (p ∷ []));
  }
    where
      go : (b : ℕ) (c : Bool) → kept_at tags flushed (slice_index numbers (b % 64)) ≡ shown w b → kept_at (tags ++ p.tag ∷ []) flushed (cond c n (slice_index numbers (b % 64))) ≡ cond c (Some (p.tag, false)) (shown w b)
      go b true i = kept-last tags p.tag flushed n e within
      go b false i = kept-append tags p.tag flushed (slice_index numbers (b % 64)) (numbered (b % 64)) ∙ i

  -- All parts are flushed.
  pub shows-flushed : (n : ℕ) (w' : Pending Part) → n ≡ length tags → w' ≡ pending_flushed w → Shows tags n numbers line w'
  shows-flushed n w' e x = record {
    bytes = λ b i. kept-flushed tags flushed n (slice_index numbers (b % 64)) e (numbered (b % 64)) ∙ ap (option_map as_flushed) (h.bytes b i) ∙ sym (ap (λ v. shown v b) x ∙ shown-flushed w b);
    some = λ z. let f : flushed ≡ 0 = omega (arith, within, z, e) in ap (λ (v : Pending Part). v.flushed) x ∙ sym (h.all (omega (arith, f, z, e))) ∙ h.some f;
    none = λ z.
        let y : length w.parts ≡ 0 = sym (ap (λ (v : Pending Part). v.flushed) x) ∙ z in
        let f : w.flushed ≡ 0 = omega (arith, h.ordered, y) in
        e ∙ sym (h.not_all (f ∙ sym y)) ∙ h.none f;
    all = λ _. ap (λ (v : Pending Part). v.flushed) x ∙ sym (ap (λ (v : Pending Part). length v.parts) x);
    not_all = λ _. e;
    ordered = omega (arith, ap (λ (v : Pending Part). v.flushed) x, ap (λ (v : Pending Part). length v.parts) x);
  }

  -- The flushed parts are let go.
  pub shows-fenced : (tags' numbers' : List ℕ) (w' : Pending Part) → tags' ≡ drop flushed tags → ((i : ℕ) → slice_index numbers' i ≡ slice_index numbers i - flushed) → w' ≡ pending_fenced w → Shows tags' 0 numbers' line w'
  shows-fenced tags' numbers' w' t s x = record {
    bytes = λ b i. ap (kept_at tags' 0) (s (b % 64)) ∙ ap (λ ts. kept_at ts 0 (slice_index numbers (b % 64) - flushed)) t ∙ kept-drop tags flushed (slice_index numbers (b % 64)) ∙ ap unflushed (h.bytes b i) ∙ sym (ap (λ v. shown v b) x ∙ shown-fenced w b);
    some = λ _. ap (λ (v : Pending Part). v.flushed) x;
    none = λ _. refl;
    all = λ z. ap (λ (v : Pending Part). v.flushed) x ∙ zero_is (length w'.parts) (ap (λ (v : Pending Part). length v.parts) x ∙ length-drop w.flushed w.parts) (h.all (tags_end z));
    not_all = λ z. zero_is' (ap length t ∙ length-drop flushed tags) (h.not_all (parts_end (sym (ap (λ (v : Pending Part). v.flushed) x) ∙ z)));
    ordered = omega (arith, ap (λ (v : Pending Part). v.flushed) x);
  }
    where
      zero_is : (n : ℕ) → n ≡ length w.parts - w.flushed → w.flushed ≡ length w.parts → 0 ≡ n
      zero_is n e f = omega (arith, e, f)

      zero_is' : length tags' ≡ length tags - flushed → flushed ≡ length tags → 0 ≡ length tags'
      zero_is' e f = omega (arith, e, f)

      tags_end : 0 ≡ length tags' → flushed ≡ length tags
      tags_end z = omega (arith, z, ap length t, length-drop flushed tags, within)

      parts_end : 0 ≡ length w'.parts → w.flushed ≡ length w.parts
      parts_end z = omega (arith, z, ap (λ (v : Pending Part). length v.parts) x, length-drop w.flushed w.parts, h.ordered)

  -- If there are no tags, no part is pending.
  pub none-left : tags ≡ [] → w ≡ none_pending
  none-left t =
      let f : flushed ≡ 0 = omega (arith, within, ap length t) in
      let g : w.flushed ≡ 0 = h.some f in
      let l : length w.parts ≡ 0 = sym (h.all (f ∙ sym (ap length t))) ∙ g in
      ap (λ n. record { parts = w.parts; flushed = n }) g ∙ ap (λ ps. record { parts = ps; flushed = 0 }) (nil w.parts l)
    where
      nil : (ps : List Part) → length ps ≡ 0 → ps ≡ []
      nil [] e = refl
      nil (p ∷ ps) e = absurd (omega (arith, e))

-- ---- only the tags that have a use are kept

module _ (uses news tags tags' numbers : List ℕ) (flushed : ℕ) (within : flushed ≤ length tags) (u : AreUses numbers flushed (length tags) uses) (r : IsRenumbered uses news tags tags') where
  -- A number that has a use is at most the number of tags that are kept.
  news-few : (m : ℕ) → m ≤ length tags → 0 < slice_index uses m → slice_index news m ≤ length tags'
  news-few m le p = go (split m (length tags))
    where
      split : (a b : ℕ) → (a < b) ⊎ (b ≤ a)
      split a b = grind arith

      go : (m < length tags) ⊎ (length tags ≤ m) → slice_index news m ≤ length tags'
      go (inl lt) = let less = r.rising m (length tags) lt (omega arith) p u.at_last in omega (arith, less, r.last u.at_last)
      go (inr ge) = subst (λ i. slice_index news i ≤ length tags') (let e : length tags ≡ m = omega (arith, ge, le) in e) (omega (arith, r.last u.at_last))

  kept-renumbered : (m : ℕ) → m ≤ length tags → 0 < slice_index uses m → kept_at tags' (slice_index news flushed) (slice_index news m) ≡ kept_at tags flushed m
  kept-renumbered zero le p = ap (kept_at tags' (slice_index news flushed)) r.zero
  kept-renumbered (suc k) le p =
      let x = r.moved k (omega arith) p in
      ap (kept_at tags' (slice_index news flushed)) x.1 ∙ ap (λ t. Some (t, nat_lt x.0 (slice_index news flushed))) x.2 ∙ ap (λ l. Some (slice_index tags k, l)) (go x.0 x.1 (split (suc k) flushed))
    where
      split : (a b : ℕ) → (a < b) ⊎ ((a ≡ b) ⊎ (b < a))
      split a b = grind arith

      go : (p' : ℕ) → slice_index news (suc k) ≡ suc p' → (suc k < flushed) ⊎ ((suc k ≡ flushed) ⊎ (flushed < suc k)) → nat_lt p' (slice_index news flushed) ≡ nat_lt k flushed
      go p' e (inl lt) = lt_true p' (slice_index news flushed) (let less = r.rising (suc k) flushed lt within p u.at_flushed in omega (arith, less, e)) ∙ sym (lt_true k flushed (omega arith))
      go p' e (inr (inl eq)) = lt_true p' (slice_index news flushed) (omega (arith, e, ap (slice_index news) eq)) ∙ sym (lt_true k flushed (omega arith))
      go p' e (inr (inr gt)) = lt_false p' (slice_index news flushed) (let less = r.rising flushed (suc k) gt le u.at_flushed p in omega (arith, less, e)) ∙ sym (lt_false k flushed (omega arith))

  pub flushed-renumbered : slice_index news flushed ≤ length tags'
  flushed-renumbered = news-few flushed within u.at_flushed

  module _ (numbers' : List ℕ) (numbered : AreNumbers (length tags) numbers) (size : length numbers' ≡ length numbers) (s : (i : ℕ) → i < length numbers → slice_index numbers' i ≡ slice_index news (slice_index numbers i)) where
    pub numbers-renumbered : AreNumbers (length tags') numbers'
    numbers-renumbered i = go (split i (length numbers))
      where
        split : (a b : ℕ) → (a < b) ⊎ (b ≤ a)
        split a b = grind arith

        beyond : (xs : List ℕ) (i : ℕ) → length xs ≤ i → slice_index xs i ≡ 0
        beyond [] i h = refl
        beyond (x ∷ xs) zero h = absurd (omega arith)
        beyond (x ∷ xs) (suc i) h = beyond xs i (omega arith)

        go : (i < length numbers) ⊎ (length numbers ≤ i) → slice_index numbers' i ≤ length tags'
        go (inl lt) = let few = news-few (slice_index numbers i) (numbered i) (u.at_bytes i lt) in omega (arith, s i lt, few)
        go (inr ge) = let none = beyond numbers' i (omega (arith, size, ge)) in omega (arith, none)

    pub shows-renumbered : (line : ℕ) (w : Pending Part) → length numbers ≡ 64 → Shows tags flushed numbers line w → Shows tags' (slice_index news flushed) numbers' line w
    shows-renumbered line w l h = record {
      bytes = λ b i.
          let lt : b % 64 < length numbers = omega (arith, l) in
          ap (kept_at tags' (slice_index news flushed)) (s (b % 64) lt) ∙ kept-renumbered (slice_index numbers (b % 64)) (numbered (b % 64)) (u.at_bytes (b % 64) lt) ∙ h.bytes b i;
      some = λ z. h.some (first z (split 0 flushed));
      none = λ z. ap (slice_index news) (h.none z) ∙ r.zero;
      all = λ z. h.all (end z (split flushed (length tags)));
      not_all = λ z. ap (slice_index news) (h.not_all z) ∙ r.last u.at_last;
      ordered = h.ordered;
    }
      where
        split : (a b : ℕ) → (a < b) ⊎ (b ≤ a)
        split a b = grind arith

        first : slice_index news flushed ≡ 0 → (0 < flushed) ⊎ (flushed ≤ 0) → flushed ≡ 0
        first z (inl lt) = absurd (let less = r.rising 0 flushed lt within u.at_zero u.at_flushed in omega (arith, less, z))
        first z (inr le) = omega (arith, le)

        end : slice_index news flushed ≡ length tags' → (flushed < length tags) ⊎ (length tags ≤ flushed) → flushed ≡ length tags
        end z (inl lt) = absurd (let less = r.rising flushed (length tags) lt (omega arith) u.at_flushed u.at_last in omega (arith, less, z, r.last u.at_last))
        end z (inr ge) = omega (arith, ge, within)

-- ---- the loose byte at an offset

loose-shown : (w : Pending Part) (b : ℕ) → loose_in w b ≡ option_map (λ (s : ℕ × Bool). record { offset = b; tag = s.0; flushed = s.1 }) (shown w b)
loose-shown w b = go (last_over part_covers b w.parts)
  where
    go : (o : Option (ℕ × Part)) → option_map (loose_by w b) o ≡ option_map (λ (s : ℕ × Bool). record { offset = b; tag = s.0; flushed = s.1 }) (option_map (shown_by w.flushed) o)
    go None = refl
    go (Some (k, x)) = refl

pub loose-none : (tags : List ℕ) (flushed m b : ℕ) (w : Pending Part) → kept_at tags flushed m ≡ shown w b → m ≡ 0 → None ≡ loose_in w b
loose-none tags flushed m b w e z = sym (loose-shown w b ∙ ap (option_map (λ (s : ℕ × Bool). record { offset = b; tag = s.0; flushed = s.1 })) (sym e ∙ ap (kept_at tags flushed) z))

pub loose-some : (tags : List ℕ) (flushed m b tag : ℕ) (w : Pending Part) → kept_at tags flushed m ≡ shown w b → (m ≡ 0 → ⊥) → m ≤ length tags → tag ≡ get_or tags (m - 1) tag → Some (record { offset = b; tag = tag; flushed = nat_lt (m - 1) flushed }) ≡ loose_in w b
loose-some tags flushed zero b tag w e ne le t = absurd (ne refl)
loose-some tags flushed (suc k) b tag w e ne le t = ap (λ x. Some (record { offset = b; tag = x; flushed = nat_lt (suc k - 1) flushed })) (t ∙ read tags (suc k - 1) tag (omega (arith, le))) ∙ sym (loose-shown w b ∙ ap (option_map (λ (s : ℕ × Bool). record { offset = b; tag = s.0; flushed = s.1 })) (sym e) ∙ ap (λ j. Some (record { offset = b; tag = slice_index tags j; flushed = nat_lt j flushed })) (let z : k ≡ suc k - 1 = omega arith in z))
  where
    read : (xs : List ℕ) (i d : ℕ) → i < length xs → get_or xs i d ≡ slice_index xs i
    read [] i d h = absurd (omega arith)
    read (x ∷ xs) zero d h = refl
    read (x ∷ xs) (suc i) d h = read xs i d (omega arith)
