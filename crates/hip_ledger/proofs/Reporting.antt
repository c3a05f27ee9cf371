-- The reports of a check are those that the loose bytes and the ledger gives.
use Rattle.std.proofs.Common.{◌≡◌, inl, inr, ℕ, suc, ◌+◌, ◌<◌, ◌≤◌, Bool, true, false, ◌||◌, ◌/◌, nat_eq, nat_lt, List, [], ◌∷◌, ◌++◌, Option, Some, None, option_map, map, slice_get, refl, sym, ap, ap₂, ◌∙◌, subst, arith}
use Rattle.std.proofs.lemmas.Bool.Decides.{nat_tests}
use Rattle.std.proofs.lemmas.Cmp.{nat_cmp_total, ranked}
use Rattle.std.proofs.lemmas.List.{map-append}
use Rattle.std.proofs.lemmas.Map.Entries.{btree_map_get_place}
use Rattle.std.proofs.lemmas.Map.Made.{is_some-lookup}
use Rattle.std.specs.BTreeMap as tree
use Rattle.std.specs.BTreeMap.{BTreeMap, is_at}
use Rattle.std.specs.List.{AllByRecursion, flat_map}
use Rattle.std.specs.List.Sorted.{IsStrictlySortedBy}
use Rattle.std.specs.Map.{keys_of, lookup}
use Rattle.std.specs.Ordering.{nat_cmp, is_eq}
use Rattle.std.specs.declared.cmp.Ordering.{Ordering}
use Rattle.std.specs.declared.cmp.Ordering.TheVariants.{Less, Equal, Greater}
use Rattle.std.specs.Prelude.{is_some}
use Rattle.hip_tree.specs.declared.program.Program.{Program}
use Rattle.hip_tree.specs.declared.site.Site.{Site}
use Rattle.hip_lines.specs.declared.part.LooseByte.{LooseByte}
use Rattle.hip_runs.specs.Found.Reports.{LoosePart, all_flushed, check_reports, flush_site_of, kind_of, latest_flush, loose_parts, report_by, report_of, reports_for}
use Rattle.hip_runs.specs.Found.Tags.{AscendWithin, has_tag, loose_bytes}
use Rattle.hip_runs.specs.Laws.Found.LooseBytes.{loose_part, loose_there, part_loose}
use Rattle.hip_runs.specs.Laws.Found.TagLaws.{loose_stated, reports_by_tags, tag_made}
use Rattle.hip_runs.specs.Laws.HistoryLaws.{has_history}
use Rattle.hip_runs.specs.Laws.LineOrder.{fenced_by_last}
use Rattle.hip_runs.specs.Laws.Members.{any_in}
use Rattle.hip_runs.specs.Laws.SinceLaws.{flush_stated}
use Rattle.hip_runs.specs.State.{Flush, Level, StorePart, levels_of}
use Rattle.hip_runs.specs.Step.{header_entries, run}
use Rattle.hip_runs.specs.StoredParts.Order.{is_before, last_fence}
use Rattle.hip_runs.specs.StoredParts.Parts.{In}
use Rattle.hip_runs.specs.StoredParts.Since.{IsFirstFlush, top_site}
use Rattle.hip_runs.specs.declared.input.Input.{Input}
use Rattle.hip_runs.specs.declared.report.Kind.{Kind}
use Rattle.hip_runs.specs.declared.report.Report.{Report}
use Rattle.hip_findings.specs.CallPaths.{call_sites, closed_by}
use Rattle.hip_findings.specs.Shared.{report_at}
use Rattle.hip_ledger.specs.CallPaths.{births_of}
use Rattle.hip_ledger.specs.CheckGroups as stated
use Rattle.hip_ledger.specs.CheckGroups.{group_from, reports_stated, site_stated, store_in, store_stated, stores_stated}
use Rattle.hip_ledger.specs.Pending.{first_after, flushes_in, note_of}
use Rattle.hip_ledger.specs.Sufficiency.{IsLooseAt, TellsLoose, flush_of}
use Rattle.hip_ledger.specs.declared.checks.Group.{Group}
use Rattle.hip_ledger.specs.declared.pending.FlushNote.{FlushNote}
use Rattle.hip_ledger.specs.declared.pending.LineNote.{LineNote}
use Rattle.hip_ledger.specs.declared.pending.StoreNote.{StoreNote}
use Rattle.hip_ledger.proofs.ClosedCalls.{closed_alike}
use Rattle.hip_ledger.proofs.Groups.{OfBytes, group_flushed, latest_of_bytes, none_stated, some_stated}
use Rattle.hip_ledger.proofs.LatestFlushes.{OfParts, of_parts, one_site, widened}
use Rattle.hip_ledger.proofs.LoosePlaces.{at_place, byte_of_part, part_of_byte}

same_some : (s t : Site) → Some s ≡ Some t → s ≡ t
same_some s t e = cc

site_of_flush : (o : Option FlushNote) → option_map (λ f. f.site) (option_map flush_of o) ≡ option_map (λ f. f.site) o
site_of_flush None = refl
site_of_flush (Some f) = refl

site_by : (t : Bool) (o : Option FlushNote) (ps : List LoosePart) → option_map (λ f. f.site) o ≡ option_map (λ f. f.site) (latest_flush ps) → site_stated t o ≡ flush_site_of t ps
site_by true o ps e = e
site_by false o ps e = refl

-- The report with these fields.
abbrev made : ℕ → ℕ → Kind → Option Site → List Site → ℕ → Report
made check e kind f p c = record { entry = e; check_entry = check; kind = kind; flush_site = f; path = p; closed = c }

same_report : (check e e' : ℕ) → e ≡ e' → (kind kind' : Kind) → kind ≡ kind' → (f f' : Option Site) → f ≡ f' → (p p' : List Site) → p ≡ p' → (c c' : ℕ) → c ≡ c'
    → made check e kind f p c ≡ made check e' kind' f' p' c'
same_report check e e' a kind kind' b f f' d p p' g c c' h =
    ap (λ x. made check x kind f p c) a ∙ ap (λ x. made check e' x f p c) b ∙ ap (λ x. made check e' kind' x p c) d ∙ ap (λ x. made check e' kind' f' x c) g ∙ ap (λ x. made check e' kind' f' p' x) h

second : (x y : Bool) → x || y ≡ false → y ≡ false
second true y h = absurd (let z : ⊥ = cc in z)
second false y h = h

no_tag : (tag : ℕ) (bs : List LooseByte) (b : LooseByte) → In b bs → b.tag ≡ tag → has_tag tag bs ≡ false → ⊥
no_tag tag [] b i k q = i
no_tag tag (c ∷ bs) b (inl e) k q = let y : nat_eq c.tag tag ≡ true = (let w : c.tag ≡ tag = sym (ap (λ (x : LooseByte). x.tag) e) ∙ k in grind (arith, nat_tests)) in let x : true ≡ false = sym (ap (λ s. s || has_tag tag bs) y) ∙ q in let z : ⊥ = cc in z
no_tag tag (c ∷ bs) b (inr j) k q = no_tag tag bs b j k (second (nat_eq c.tag tag) (has_tag tag bs) q)

-- A group has a byte of its store.
byte_of_group : (lines : ℕ → Option LineNote) (tag : ℕ) (bs : List LooseByte) (g : Group) → group_from lines tag None bs ≡ Some g → (b : LooseByte) × In b bs × (b.tag ≡ tag)
byte_of_group lines tag bs g e = by (has_tag tag bs) refl
  where
    by : (s : Bool) → has_tag tag bs ≡ s → (b : LooseByte) × In b bs × (b.tag ≡ tag)
    by true q = let r = any_in (λ b. nat_eq b.tag tag) bs q in (r.0, r.1, (let h = r.2 in grind (arith, nat_tests)))
    by false q = absurd (let z : None ≡ Some g = sym (none_stated lines tag bs None (λ b i k. no_tag tag bs b i k q)) ∙ e in let w : ⊥ = cc in w)

module _ (P : Program) (I : Input) (n header : ℕ) (notes : List StoreNote) (lines : ℕ → Option LineNote) (t : TellsLoose P I n header notes lines) (o len tag : ℕ) where
  abbrev Bytes : List LooseByte
  Bytes = loose_bytes (run P I n) o len

  abbrev Parts : List LoosePart
  Parts = loose_parts o len (run P I n).lines tag

  -- ---- the first flushes of the parts are those that the bytes give

  stated_flush : (b k : ℕ) (x : StorePart) → IsLooseAt (run P I n).lines b k x → (c : LooseByte) → c.offset ≡ b → c.tag ≡ x.step
      → option_map flush_of (stated.flush_stated lines c) ≡ x.first_flush
  stated_flush b k x h c off step =
      let r = t.kept b k x h in
      ap₂ (λ i j. option_map flush_of (first_after i (flushes_in (lines (j / 64))))) step off
      ∙ ap (λ (l : Option LineNote). option_map flush_of (first_after x.step (flushes_in l))) r.line_there
      ∙ r.flush

  to_parts : (z : Option Flush) → OfBytes lines tag Bytes z → OfParts Parts z
  to_parts z r =
      let b = r.0 in
      let p = part_of_byte P I n o len b r.1 in
      let at = p.2 in
      let x = p.1 in
      let part : LoosePart = record { part = x; flushed = nat_lt p.0 at.line.flushed } in (
        part,
        loose_part o len tag (run P I n).lines part (record { line = b.offset / 64; of = at.line; place = p.0; byte = b.offset; line_at = at.line_at; loose = at.loose; low = p.4; high = p.5; step = p.3 ∙ r.2; flushed = refl }),
        sym (stated_flush b.offset p.0 x at b refl (sym p.3)) ∙ r.3,
      )

  to_bytes : (z : Option Flush) → OfParts Parts z → OfBytes lines tag Bytes z
  to_bytes z r =
      let a = at_place P I n o len tag r.0 (part_loose o len tag (run P I n).lines r.0 r.1) in
      let b = byte_of_part P I n o len a.0 a.1 r.0.part a.2 a.3 a.4 in
      (b.0, b.1, b.3 ∙ a.5, stated_flush a.0 a.1 r.0.part a.2 b.0 b.2 b.3 ∙ r.2)

  -- Two first flushes of one step are at one site.
  one : (f g : Flush) → OfParts Parts (Some f) → OfParts Parts (Some g) → f.step ≡ g.step → f.site ≡ g.site
  one f g h k e = same_some f.site g.site (sym (at f h) ∙ ap (λ i. top_site (run P I i).frames) e ∙ at g k)
    where
      at : (f : Flush) → OfParts Parts (Some f) → top_site (run P I f.step).frames ≡ Some f.site
      at f r =
          let x = r.0.part in
          let there = loose_there o len tag (run P I n).lines r.0 (part_loose o len tag (run P I n).lines r.0 r.1) in
          let first : IsFirstFlush P I (x.offset / 64) x.step n (Some f) = subst (λ (z : Option Flush). IsFirstFlush P I (x.offset / 64) x.step n z) r.2 (flush_stated P I n x there) in
          first.site

  -- ---- the report of a store

  module _ (births : List ℕ) (fence : Option ℕ) (is_births : births ≡ births_of (levels_of (run P I n).frames)) (is_fence : fence ≡ last_fence P I n) (is_header : header ≡ header_entries I) where
    abbrev Check : ℕ
    Check = suc (run P I n).counts.entries

    report_same : (g : Group) → group_from lines tag None Bytes ≡ Some g → (p : LoosePart) (ps : List LoosePart) → Parts ≡ p ∷ ps
        → (h : StoreNote) × (note_of notes tag ≡ Some h) × (report_at Check (store_stated births fence h g) ≡ report_by (levels_of (run P I n).frames) Check p.part (p ∷ ps))
    report_same g e p ps parts =
        let i : In p Parts = subst (λ (qs : List LoosePart). In p qs) (sym parts) (inl refl) in
        let loose = part_loose o len tag (run P I n).lines p i in
        let a = at_place P I n o len tag p loose in
        let h = t.kept a.0 a.1 p.part a.2 in
        let there = loose_there o len tag (run P I n).lines p loose in
        let flushed : g.flushed ≡ all_flushed (p ∷ ps) = group_flushed lines tag Bytes None g e ∙ sym (loose_stated P I n o len tag).flushed ∙ ap all_flushed parts in
        let fenced : is_before h.note.tag fence ≡ p.part.fenced = ap₂ is_before h.tag is_fence ∙ sym (fenced_by_last P I n p.part there) in
        let sites : option_map (λ f. f.site) g.latest ≡ option_map (λ f. f.site) (latest_flush (p ∷ ps)) =
        sym (site_of_flush g.latest)
        ∙ one_site (OfParts Parts) (option_map flush_of g.latest) (latest_flush Parts) one (widened (OfBytes lines tag Bytes) (OfParts Parts) (option_map flush_of g.latest) to_parts to_bytes (latest_of_bytes lines tag Bytes g e)) (of_parts Parts)
        ∙ ap (λ (qs : List LoosePart). option_map (λ f. f.site) (latest_flush qs)) parts in (
          h.note,
          ap (note_of notes) (sym a.5) ∙ h.there,
          same_report Check h.note.entry p.part.entry (h.entry is_header) _ _ (ap₂ kind_of flushed fenced) _ _ (ap (λ s. site_stated s g.latest) flushed ∙ site_by (all_flushed (p ∷ ps)) g.latest (p ∷ ps) sites) _ _ (ap₂ (λ (s : Site) (ls : List Level). s ∷ call_sites ls) h.site h.calls) _ _ (ap₂ closed_by is_births h.calls ∙ closed_alike (levels_of (run P I n).frames) p.part.levels ((has_history P I n).split p.part there)),
        )

    pub reports_same : (g : Group) → group_from lines tag None Bytes ≡ Some g
        → map (report_at Check) (store_in births fence (note_of notes tag) g) ≡ reports_for (run P I n) (record { offset = o; size = len }) tag
    reports_same g e = go Parts refl
      where
        not_none : Parts ≡ [] → ⊥
        not_none q =
            let b = byte_of_group lines tag Bytes g e in
            let r = (loose_stated P I n o len tag).alike.part_of b.0 b.1 b.2 in
            subst (λ (ps : List LoosePart). In r.0 ps) q r.1

        go : (ps : List LoosePart) → Parts ≡ ps → map (report_at Check) (store_in births fence (note_of notes tag) g) ≡ reports_for (run P I n) (record { offset = o; size = len }) tag
        go [] q = absurd (not_none q)
        go (p ∷ ps) q =
            let r = report_same g e p ps q in
            ap (λ (x : Option StoreNote). map (report_at Check) (store_in births fence x g)) r.1 ∙ ap (λ (x : Report). x ∷ []) r.2
            ∙ sym (ap (report_of (levels_of (run P I n).frames) Check) q)

-- ---- all reports of a check

in_keys : (es : List (ℕ × Group)) (k : ℕ) → In k (keys_of es) → (i : ℕ) × (e : ℕ × Group) × (slice_get es i ≡ Some e) × (e.0 ≡ k)
in_keys [] k i = absurd i
in_keys (e ∷ es) k (inl q) = (0, e, refl, sym q)
in_keys (e ∷ es) k (inr j) = let r = in_keys es k j in (suc r.0, r.1, r.2, r.3)

each : (Q : ℕ → Type 0) (xs : List ℕ) → AllByRecursion Q xs → (y : ℕ) → In y xs → Q y
each Q [] h y i = absurd i
each Q (x ∷ xs) h y (inl e) = subst Q (sym e) h.0
each Q (x ∷ xs) h y (inr i) = each Q xs h.1 y i

ascends : (a b : ℕ) (ks : List ℕ) → IsStrictlySortedBy nat_cmp ks → ((k : ℕ) → In k ks → a ≤ k) → ((k : ℕ) → In k ks → k < b) → AscendWithin a b ks
unfolding IsStrictlySortedBy
ascends a b [] h low high = tt
ascends a b (x ∷ xs) h low high = (
  low x (inl refl),
  high x (inl refl),
  ascends (x + 1) b xs h.1 (λ k i. let lt : x < k = ranked x k Less (sym (each (λ y. nat_cmp x y ≡ Less) xs h.0 k i)) in omega (arith, lt)) (λ k i. high k (inr i)),
)

same_key : (a k : ℕ) (r : Ordering) → r ≡ nat_cmp a k → is_eq r ≡ true → a ≡ k
same_key a k Less e h = absurd (let z : ⊥ = cc in z)
same_key a k Equal e h = ranked a k Equal e
same_key a k Greater e h = absurd (let z : ⊥ = cc in z)

module _ (P : Program) (I : Input) (n header : ℕ) (notes : List StoreNote) (lines : ℕ → Option LineNote) (t : TellsLoose P I n header notes lines) (o len : ℕ)
    (births : List ℕ) (fence : Option ℕ) (is_births : births ≡ births_of (levels_of (run P I n).frames)) (is_fence : fence ≡ last_fence P I n) (is_header : header ≡ header_entries I)
    (groups : BTreeMap ℕ Group) (ordered : tree.IsOrdered nat_cmp groups) (are : (tag : ℕ) → tree.get nat_cmp groups tag ≡ group_from lines tag None (loose_bytes (run P I n) o len)) where
  of_entries : (es : List (ℕ × Group)) → ((i : ℕ) (e : ℕ × Group) → slice_get es i ≡ Some e → group_from lines e.0 None (loose_bytes (run P I n) o len) ≡ Some e.1)
      → reports_stated births (suc (run P I n).counts.entries) fence notes es ≡ flat_map (reports_for (run P I n) (record { offset = o; size = len })) (keys_of es)
  of_entries [] h = refl
  of_entries (e ∷ es) h =
      map-append (report_at (suc (run P I n).counts.entries)) (store_in births fence (note_of notes e.0) e.1) (stores_stated births fence notes es)
      ∙ ap₂ (λ x y. x ++ y) (reports_same P I n header notes lines t o len e.0 births fence is_births is_fence is_header e.1 (h 0 e refl)) (of_entries es (λ i. h (suc i)))

  entry_stated : (i : ℕ) (e : ℕ × Group) → slice_get groups.entries i ≡ Some e → group_from lines e.0 None (loose_bytes (run P I n) o len) ≡ Some e.1
  entry_stated i e q = sym (are e.0) ∙ btree_map_get_place nat_cmp_total groups i e.0 e.1 ordered q

  key_below : (k : ℕ) → In k (keys_of groups.entries) → k < (run P I n).counts.steps
  key_below k j =
      let r = in_keys groups.entries k j in
      let b = byte_of_group lines r.1.0 (loose_bytes (run P I n) o len) r.1.1 (entry_stated r.0 r.1 r.2) in
      let lt = tag_made P I n o len b.0 b.1 in
      let same = b.2 in
      let key = r.3 in
      omega (arith, lt, same, key)

  key_there : (b : LooseByte) → In b (loose_bytes (run P I n) o len) → In b.tag (keys_of groups.entries)
  key_there b i =
      let s = some_stated lines b.tag (loose_bytes (run P I n) o len) None b i refl in
      let found : is_some (lookup (is_at (nat_cmp b.tag)) groups.entries) ≡ true = ap is_some (are b.tag ∙ s.1) in
      let r = any_in (is_at (nat_cmp b.tag)) (keys_of groups.entries) (sym (is_some-lookup (is_at (nat_cmp b.tag)) groups.entries) ∙ found) in
      subst (λ k. In k (keys_of groups.entries)) (sym (same_key b.tag r.0 (nat_cmp b.tag r.0) refl r.2)) r.1

  pub reports_of_check : reports_stated births (suc (run P I n).counts.entries) fence notes groups.entries ≡ check_reports (run P I n) (Some (record { offset = o; size = len }))
  reports_of_check =
      of_entries groups.entries entry_stated
      ∙ sym (reports_by_tags P I n (record { offset = o; size = len }) (keys_of groups.entries) (record {
        ascend = ascends 0 (run P I n).counts.steps (keys_of groups.entries) ordered (λ k i. omega arith) key_below;
        holds = key_there;
      }))
