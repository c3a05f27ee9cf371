-- Reports are well formed.
use Rattle.std.proofs.Common.{◌≡◌, ◌⊎◌, inl, inr, ℕ, zero, suc, ◌≤◌, Bool, true, false, cond, nat_lt, is_some, List, [], ◌∷◌, length, Option, Some, None, option_map, refl, sym, ap, ◌∙◌, subst, arith}
use Rattle.std.proofs.lemmas.List.{length-map}
use Rattle.hip_tree.specs.Sites.{instr_of}
use Rattle.hip_tree.specs.declared.program.Program.{Program}
use Rattle.hip_tree.specs.declared.site.Site.{Site}
use Rattle.hip_lines.specs.Laws.LooseLaws.{get-of_map}
use Rattle.hip_runs.specs.declared.input.Input.{Input}
use Rattle.hip_runs.specs.declared.report.Report.{Report}
use Rattle.hip_runs.specs.StoredParts.History.{HasHistory}
use Rattle.hip_runs.specs.Laws.HistoryLaws.{has_history}
use Rattle.hip_runs.specs.StoredParts.Parts.{In, PartOf}
use Rattle.hip_runs.specs.Laws.PartLaws.{in-append}
use Rattle.hip_runs.specs.Found.Reports.{LoosePart, Range, loose_parts, later_flush, latest_flush, kind_of, all_flushed, flush_site_of, is_open, closed_count, report_by, report_of, next_check, reports_for, check_reports, reports}
use Rattle.hip_runs.specs.Sites.{is_store, is_flush_call, is_defined_call, HasSites}
use Rattle.hip_runs.specs.State.{Level, Flush, State, levels_of}
use Rattle.hip_runs.specs.Step.{run}
use Rattle.hip_runs.specs.Found.WellFormed.{lacks_fence_alone, IsWellFormed}
use Rattle.hip_runs.specs.Laws.Found.LooseBytes.{part_loose, loose_there}
use Rattle.hip_runs.specs.Laws.SiteLaws.{has_sites}
use Rattle.hip_runs.specs.Laws.Members.{in_all, in_at, lt_true, of_flat}

closed_few : (standing levels : List Level) → closed_count standing levels ≤ length levels
closed_few standing [] = omega arith
closed_few standing (l ∷ ls) = go (is_open standing l) (closed_few standing ls)
  where
    go : (b : Bool) → closed_count standing ls ≤ length ls
        → cond b (closed_count standing ls) (suc (closed_count standing ls)) ≤ suc (length ls)
    go true h = omega (arith, h)
    go false h = omega (arith, h)

-- The later of two flushes is one of them.
later_one : (a b : Option Flush) (f : Flush) → later_flush a b ≡ Some f → (a ≡ Some f) ⊎ (b ≡ Some f)
later_one None b f e = inr e
later_one (Some a) None f e = inl e
later_one (Some a) (Some b) f e = go (nat_lt a.step b.step) e
  where
    go : (t : Bool) → cond t (Some b) (Some a) ≡ Some f → (Some a ≡ Some f) ⊎ (Some b ≡ Some f)
    go true e = inr e
    go false e = inl e

latest_of : (ps : List LoosePart) (f : Flush) → latest_flush ps ≡ Some f
    → (p : LoosePart) × In p ps × (p.part.first_flush ≡ Some f)
latest_of [] f e = absurd (let z : ⊥ = cc in z)
latest_of (p ∷ ps) f e = go (λ g. latest_of ps f g) (later_one p.part.first_flush (latest_flush ps) f e)
  where
    go : (latest_flush ps ≡ Some f → (q : LoosePart) × In q ps × (q.part.first_flush ≡ Some f))
        → (p.part.first_flush ≡ Some f) ⊎ (latest_flush ps ≡ Some f)
        → (q : LoosePart) × In q (p ∷ ps) × (q.part.first_flush ≡ Some f)
    go next (inl g) = (p, inl refl, g)
    go next (inr g) = let r = next g in (r.0, inr r.1, r.2)

latest_there : (f : Flush) (o : Option Flush) → is_some (later_flush (Some f) o) ≡ true
latest_there f None = refl
latest_there f (Some g) = go (nat_lt f.step g.step)
  where
    go : (t : Bool) → is_some (cond t (Some g) (Some f)) ≡ true
    go true = refl
    go false = refl

-- What holds of the loose parts of a store.
record LoosePartsAreKnown (P : Program) (s : State) (ps : List LoosePart) : Type 0 where
  there : (p : LoosePart) → In p ps → PartOf s.lines p.part
  flushed : (p : LoosePart) → In p ps → p.flushed ≡ true → (f : Flush) × (p.part.first_flush ≡ Some f)
  unfenced : (p : LoosePart) (f : Flush) → In p ps → p.part.first_flush ≡ Some f
      → is_flush_call (instr_of P f.site) ≡ true

module _ (P : Program) (s : State) (h : HasHistory P s) (at : HasSites P s) where
  known : (o n made : ℕ) → LoosePartsAreKnown P s (loose_parts o n s.lines made)
  known o n made = record {
    there = λ p i. loose_there o n made s.lines p (part_loose o n made s.lines p i);
    flushed =
        λ p i e. let k = part_loose o n made s.lines p i in
        h.flushed k.line k.place k.of p.part k.line_at k.loose.last_over.at
        (lt_true k.place k.of.flushed (sym k.flushed ∙ e));
    unfenced =
        λ p f i e. let k = part_loose o n made s.lines p i in
        at.unfenced k.line k.of k.place p.part f k.line_at k.loose.last_over.at k.loose.not_durable e;
  }

  by_formed : (check : ℕ) (p : LoosePart) (ps : List LoosePart) → LoosePartsAreKnown P s (p ∷ ps)
      → IsWellFormed P (report_by (levels_of s.frames) check p.part (p ∷ ps))
  by_formed check p ps k = record {
    flush_site = site (all_flushed (p ∷ ps)) refl;
    closed =
        omega (arith, closed_few (levels_of s.frames) p.part.levels, length-map p.part.levels (λ (l : Level). l.call));
    store =
        λ t e. subst (λ (x : Site). is_store (instr_of P x) ≡ true) (same_some p.part.site t e)
        (at.store p.part here);
    call = λ j t e.
        let r = get-of_map (λ (l : Level). l.call) p.part.levels j t e in
        subst (λ (x : Site). is_defined_call P (instr_of P x) ≡ true) r.2
        (at.call p.part r.0 here (in_at p.part.levels j r.0 r.1));
    flush = λ t e. flush t (all_flushed (p ∷ ps)) e;
  }
    where
      here : PartOf s.lines p.part
      here = k.there p (inl refl)

      same_some : (a b : Site) → Some a ≡ Some b → a ≡ b
      same_some a b e = cc

      fenced_kind : (b : Bool) → lacks_fence_alone (kind_of false b) ≡ false
      fenced_kind true = refl
      fenced_kind false = refl

      mapped : {A B : Type 0} (f : A → B) (o : Option A) → is_some (option_map f o) ≡ is_some o
      mapped f None = refl
      mapped f (Some a) = refl

      site : (b : Bool) → all_flushed (p ∷ ps) ≡ b
          → is_some (flush_site_of b (p ∷ ps)) ≡ lacks_fence_alone (kind_of b p.part.fenced)
      site true e =
          let f = k.flushed p (inl refl) (in_all (λ (q : LoosePart). q.flushed) (p ∷ ps) e p (inl refl)) in
          mapped (λ (g : Flush). g.site) (latest_flush (p ∷ ps))
          ∙ ap (λ o. is_some (later_flush o (latest_flush ps))) f.1 ∙ latest_there f.0 (latest_flush ps)
      site false e = sym (fenced_kind p.part.fenced)

      of_site : (o : Option Flush) (t : Site) → option_map (λ (g : Flush). g.site) o ≡ Some t
          → (f : Flush) × (o ≡ Some f) × (f.site ≡ t)
      of_site None t e = absurd (let z : ⊥ = cc in z)
      of_site (Some f) t e = (f, refl, let z : f.site ≡ t = cc in z)

      flush : (t : Site) (b : Bool) → flush_site_of b (p ∷ ps) ≡ Some t → is_flush_call (instr_of P t) ≡ true
      flush t true e =
          let f = of_site (latest_flush (p ∷ ps)) t e in
          let q = latest_of (p ∷ ps) f.0 f.1 in
          subst (λ (x : Site). is_flush_call (instr_of P x) ≡ true) f.2 (k.unfenced q.0 f.0 q.1 q.2)
      flush t false e = absurd (let z : ⊥ = cc in z)

  of_formed : (check : ℕ) (ps : List LoosePart) → LoosePartsAreKnown P s ps → (r : Report)
      → In r (report_of (levels_of s.frames) check ps) → IsWellFormed P r
  of_formed check [] k r i = absurd i
  of_formed check (p ∷ ps) k r (inl e) = subst (IsWellFormed P) (sym e) (by_formed check p ps k)
  of_formed check (p ∷ ps) k r (inr i) = absurd i

  check_formed : (o : Option Range) (r : Report) → In r (check_reports s o) → IsWellFormed P r
  check_formed None r i = absurd i
  check_formed (Some range) r i =
      let a = of_flat (reports_for s range) _ r i in
      of_formed (suc s.counts.entries) (loose_parts range.offset range.size s.lines a.1)
      (known range.offset range.size a.1) r a.3

pub reports_formed : (P : Program) (I : Input) (n : ℕ) (r : Report) → In r (reports P I n) → IsWellFormed P r
unfolding reports
reports_formed P I zero r i = absurd i
reports_formed P I (suc n) r i = go (λ j. reports_formed P I n r j) (in-append (reports P I n) _ r i)
  where
    go : (In r (reports P I n) → IsWellFormed P r)
        → In r (reports P I n) ⊎ In r (check_reports (run P I n) (next_check P I (run P I n))) → IsWellFormed P r
    go next (inl j) = next j
    go next (inr j) = check_formed P (run P I n) (has_history P I n) (has_sites P I n) (next_check P I (run P I n)) r j
