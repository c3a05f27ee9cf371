-- The loose parts that a check reports, found by the loose bytes of its range.
use Rattle.std.proofs.Common.{◌≡◌, inl, ℕ, suc, ◌<◌, Bool, true, false, not, ◌||◌, nat_eq, List, [], ◌∷◌, Some, refl, sym, ap, ◌∙◌, subst, arith, ap₂, inr, zero, ◌++◌, ◌+◌, ◌≤◌, ◌⊎◌}
use Rattle.std.specs.List.{flat_map, range_with_len}
use Rattle.hip_grammar.specs.Spelling.{not_empty}
use Rattle.hip_tree.specs.declared.program.Program.{Program}
use Rattle.hip_lines.specs.declared.part.LooseByte.{LooseByte}
use Rattle.hip_runs.specs.declared.input.Input.{Input}
use Rattle.hip_runs.specs.Laws.HistoryLaws.{has_history}
use Rattle.hip_runs.specs.StoredParts.Parts.{In}
use Rattle.hip_runs.specs.Found.Reports.{LoosePart, Range, loose_parts, all_flushed, report_of, reports_for, check_reports}
use Rattle.hip_runs.specs.State.{levels_of}
use Rattle.hip_runs.specs.Step.{run}
use Rattle.hip_runs.specs.Laws.Found.LooseBytes.{part_loose, loose_there, are_alike}
use Rattle.hip_runs.specs.Laws.LineOrder.{in_lines}
use Rattle.hip_runs.specs.Found.Tags.{AreAlike, AreStatedBy, AscendWithin, HoldsTags, IsNoneBeside, has_tag, loose_bytes, tag_flushed}
use Rattle.hip_runs.specs.Laws.Members.{all_in, any_in, equal_true, in_all, in_any, true_equal}
use Rattle.std.specs.Cmp.{both_ways}

-- ---- a flat map over a range of numbers is one over those that give something

above : (a b : ℕ) (xs : List ℕ) → AscendWithin a b xs → (x : ℕ) → In x xs → a ≤ x
above a b [] h x i = absurd i
above a b (y ∷ xs) h x (inl e) = omega (arith, h.0, e)
above a b (y ∷ xs) h x (inr i) = omega (arith, h.0, above (y + 1) b xs h.2 x i)

split : (a x : ℕ) → a ≤ x → (a < x) ⊎ (a ≡ x)
split a x h = grind arith

module _ {A : Type 0} (f : ℕ → List A) where
  range_from : (n a b : ℕ) (xs : List ℕ) → b ≡ a + n → AscendWithin a b xs → IsNoneBeside f a b xs
      → flat_map f (range_with_len a n) ≡ flat_map f xs
  range_from zero a b [] e h none = refl
  range_from zero a b (x ∷ xs) e h none = absurd (omega (arith, h.0, h.1, e))
  range_from (suc n) a b [] e h none =
      ap₂ (λ p q. p ++ q) (none a (omega arith) (omega (arith, e)) (λ i. i))
      (range_from n (a + 1) b [] (omega (arith, e)) tt (λ y le lt i. none y (omega (arith, le)) lt i))
  range_from (suc n) a b (x ∷ xs) e h none =
      go (λ ys u v. range_from n (a + 1) b ys (omega (arith, e)) u v) (split a x h.0)
    where
      go : ((ys : List ℕ) → AscendWithin (a + 1) b ys → IsNoneBeside f (a + 1) b ys
          → flat_map f (range_with_len (a + 1) n) ≡ flat_map f ys) → (a < x) ⊎ (a
          ≡ x) → f a ++ flat_map f (range_with_len (a + 1) n) ≡ f x ++ flat_map f xs
      go next (inl lt) =
          let up : AscendWithin (a + 1) b (x ∷ xs) = (omega (arith, lt), h.1, h.2) in
          ap₂ (λ p q. p ++ q)
          (none a (omega arith) (omega (arith, e))
          (λ i. let k : a + 1 ≤ a = above (a + 1) b (x ∷ xs) up a i in absurd (omega (arith, k))))
          (next (x ∷ xs) up (λ y le low i. none y (omega (arith, le)) low i))
      go next (inr q) =
          ap₂ (λ p q. p ++ q) (ap f q)
          (next xs (subst (λ z. AscendWithin (z + 1) b xs) (sym q) h.2)
          (λ y le low i. none y (omega (arith, le)) low (not_there y le i)))
        where
          not_there : (y : ℕ) → a + 1 ≤ y → ¬ In y xs → In y (x ∷ xs) → ⊥
          not_there y le i (inl same) = absurd (omega (arith, le, same, q))
          not_there y le i (inr j) = i j

  pub range_flat : (n : ℕ) (xs : List ℕ) → AscendWithin 0 n xs → IsNoneBeside f 0 n xs
      → flat_map f (range_with_len 0 n) ≡ flat_map f xs
  range_flat n xs h none = range_from n 0 n xs (omega arith) h none

-- ---- tags

module _ (ps : List LoosePart) (bs : List LooseByte) (made : ℕ) (h : AreAlike ps bs made) where
  some_stated : not_empty ps ≡ has_tag made bs
  some_stated =
      both_ways _ _ (λ e. to ps (λ p i. h.byte_of p i) e) (λ e. from (any_in (λ b. nat_eq b.tag made) bs e))
    where
      to : (qs : List LoosePart)
          → ((p : LoosePart) → In p qs → (b : LooseByte) × In b bs × (b.tag ≡ made)
          × (b.flushed ≡ p.flushed))
          → not_empty qs ≡ true → has_tag made bs ≡ true
      to [] f e = absurd (let z : ⊥ = cc in z)
      to (p ∷ qs) f e =
          let r = f p (inl refl) in in_any (λ b. nat_eq b.tag made) bs r.0 r.1 (true_equal r.0.tag made r.2)

      there : (qs : List LoosePart) (p : LoosePart) → In p qs → not_empty qs ≡ true
      there [] p i = absurd i
      there (q ∷ qs) p i = refl

      from : (b : LooseByte) × In b bs × (nat_eq b.tag made ≡ true) → not_empty ps ≡ true
      from r = let q = h.part_of r.0 r.1 (equal_true r.0.tag made r.2) in there ps q.0 q.1

  flushed_stated : all_flushed ps ≡ tag_flushed made bs
  flushed_stated = both_ways _ _
      (λ e. all_in (λ b. not (nat_eq b.tag made) || b.flushed) bs (λ b i. to e b i (nat_eq b.tag made) refl))
      (λ e. all_in (λ (p : LoosePart). p.flushed) ps
      (λ p i. let r = h.byte_of p i in sym r.3
      ∙ use_it r.0 (true_equal r.0.tag made r.2) (in_all (λ b. not (nat_eq b.tag made) || b.flushed) bs e r.0 r.1)))
    where
      to : all_flushed ps ≡ true → (b : LooseByte) → In b bs → (t : Bool) → nat_eq b.tag made ≡ t
          → not t || b.flushed ≡ true
      to e b i false q = refl
      to e b i true q =
          let r = h.part_of b i (equal_true b.tag made q) in sym r.2
          ∙ in_all (λ (p : LoosePart). p.flushed) ps e r.0 r.1

      use_it : (b : LooseByte) → nat_eq b.tag made ≡ true → not (nat_eq b.tag made) || b.flushed ≡ true
          → b.flushed ≡ true
      use_it b q g = go (nat_eq b.tag made) q g
        where
          go : (t : Bool) → t ≡ true → not t || b.flushed ≡ true → b.flushed ≡ true
          go true q g = g
          go false q g = absurd (let z : ⊥ = cc in z)

pub loose_stated : (P : Program) (I : Input) (n o len made : ℕ)
    → AreStatedBy (loose_parts o len (run P I n).lines made) (loose_bytes (run P I n) o len) made
loose_stated P I n o len made =
    let h = are_alike (run P I n).lines (in_lines P I n) o len made in
    record { alike = h; some = some_stated _ _ made h; flushed = flushed_stated _ _ made h }

-- The tag of each loose byte is the number of a step that was taken.
pub tag_made : (P : Program) (I : Input) (n o len : ℕ) (b : LooseByte) → In b (loose_bytes (run P I n) o len)
    → b.tag < (run P I n).counts.steps
tag_made P I n o len b i =
    let h = are_alike (run P I n).lines (in_lines P I n) o len b.tag in
    let r = h.part_of b i refl in
    let k = part_loose o len b.tag (run P I n).lines r.0 r.1 in
    subst (λ m. m < (run P I n).counts.steps) k.step
    ((has_history P I n).made r.0.part (loose_there o len b.tag (run P I n).lines r.0 k))

-- A store has no loose part if no loose byte has its tag.
none_loose : (P : Program) (I : Input) (n o len made : ℕ)
    → ((b : LooseByte) → In b (loose_bytes (run P I n) o len) → b.tag ≡ made → ⊥)
    → loose_parts o len (run P I n).lines made ≡ []
none_loose P I n o len made none =
    go (loose_parts o len (run P I n).lines made) (are_alike (run P I n).lines (in_lines P I n) o len made)
  where
    go : (ps : List LoosePart) → AreAlike ps (loose_bytes (run P I n) o len) made → ps ≡ []
    go [] h = refl
    go (p ∷ ps) h = let r = h.byte_of p (inl refl) in absurd (none r.0 r.1 r.2)

pub reports_by_tags : (P : Program) (I : Input) (n : ℕ) (range : Range) (tags : List ℕ)
    → HoldsTags (run P I n) range tags
    → check_reports (run P I n) (Some range) ≡ flat_map (reports_for (run P I n) range) tags
reports_by_tags P I n range tags h =
    range_flat (reports_for (run P I n) range) (run P I n).counts.steps tags h.ascend
    (λ made le lt out. ap (report_of (levels_of (run P I n).frames) (suc (run P I n).counts.entries))
    (none_loose P I n range.offset range.size made (λ b i e. out (subst (λ m. In m tags) e (h.holds b i)))))
