-- The line of a report tells the report.
use Rattle.std.proofs.Common.{◌≡◌, ℕ, zero, suc, ◌<◌, ◌^◌, Bool, true, false, List, [], ◌∷◌, ◌++◌, Option, Some, None, slice_get, is_some, refl, sym, ap, ap₂, ◌∙◌, subst, append_assoc, arith}
use Rattle.std.specs.Prelude.{IfSome, All, codes}
use Rattle.std.specs.Fmt.{decimal}
use Rattle.std.specs.List.{list_all}
use Rattle.std.proofs.lemmas.List.Elements.{All-head, All-tail}
use Rattle.hip_report_lines.specs.Reports.{flush_text, kind_word, path_text, report_line, site_text}
use Rattle.hip_repair_laws.proofs.Cuts.{cut, digits_pass, is_decimal, same_head, same_number, same_tail}
use Rattle.hip_repair_laws.proofs.Sites.{site_cut}
use Rattle.hip_repair_laws.specs.ReadBack.{IsShort, IsShortSite}
use Rattle.hip_runs.specs.Found.WellFormed.{IsWellFormed}
use Rattle.hip_runs.specs.Sites.{is_defined_call, is_flush_call, is_store}
use Rattle.hip_runs.specs.declared.report.Kind.{Kind}
use Rattle.hip_runs.specs.declared.report.Kind.TheVariants.{MissingFlush, MissingFence, MissingBoth}
use Rattle.hip_runs.specs.declared.report.Report.{Report}
use Rattle.hip_sound.specs.Sound.{IsSound}
use Rattle.hip_tokens.specs.Bytes.{goes_on_name}
use Rattle.hip_tree.specs.Sites.{instr_of}
use Rattle.hip_tree.specs.declared.instr.Instr.{Instr}
use Rattle.hip_tree.specs.declared.program.Program.{Program}
use Rattle.hip_tree.specs.declared.site.Site.{Site}

strip : (w x y : List ℕ) → w ++ x ≡ w ++ y → x ≡ y
strip [] x y e = e
strip (a ∷ w) x y e = strip w x y (same_tail a a (w ++ x) (w ++ y) e)

three : (a b c : List ℕ) → (a ++ b) ++ c ≡ a ++ (b ++ c)
three a b c = simp append_assoc

four : (a b c d : List ℕ) → ((a ++ b) ++ c) ++ d ≡ a ++ (b ++ (c ++ d))
four a b c d = simp append_assoc

twelve : (a k b e c f d g h p q n : List ℕ)
    → (((((((a ++ k) ++ (b ++ e)) ++ (c ++ f)) ++ (d ++ g)) ++ h) ++ p) ++ q) ++ n
    ≡ a ++ (k ++ (b ++ (e ++ (c ++ (f ++ (d ++ (g ++ (h ++ (p ++ (q ++ n))))))))))
twelve a k b e c f d g h p q n = simp append_assoc

-- ---- kinds

kind_passes : (k : Kind) → list_all goes_on_name (kind_word k) ≡ true
kind_passes MissingFlush = refl
kind_passes MissingFence = refl
kind_passes MissingBoth = refl

abbrev second : List ℕ → ℕ
second [] = 0
second (a ∷ []) = 0
second (a ∷ b ∷ l) = b

same_kind : (k l : Kind) → kind_word k ≡ kind_word l → k ≡ l
same_kind MissingFlush MissingFlush e = refl
same_kind MissingFence MissingFence e = refl
same_kind MissingBoth MissingBoth e = refl
same_kind MissingFlush MissingFence e =
    absurd (let z : 108 ≡ 101 = ap second e in let f : ⊥ = omega (arith, z) in f)
same_kind MissingFence MissingFlush e =
    absurd (let z : 101 ≡ 108 = ap second e in let f : ⊥ = omega (arith, z) in f)
same_kind MissingFlush MissingBoth e =
    absurd (let z : 108 ≡ 111 = ap second e in let f : ⊥ = omega (arith, z) in f)
same_kind MissingBoth MissingFlush e =
    absurd (let z : 111 ≡ 108 = ap second e in let f : ⊥ = omega (arith, z) in f)
same_kind MissingFence MissingBoth e =
    absurd (let z : 101 ≡ 111 = ap second e in let f : ⊥ = omega (arith, z) in f)
same_kind MissingBoth MissingFence e =
    absurd (let z : 111 ≡ 101 = ap second e in let f : ⊥ = omega (arith, z) in f)

-- ---- sites that are there

store_there : (i : Option Instr) → is_store i ≡ true → is_some i ≡ true
store_there None e = absurd (let z : ⊥ = cc in z)
store_there (Some i) e = refl

call_there : (P : Program) (i : Option Instr) → is_defined_call P i ≡ true → is_some i ≡ true
call_there P None e = absurd (let z : ⊥ = cc in z)
call_there P (Some i) e = refl

flush_there : (i : Option Instr) → is_flush_call i ≡ true → is_some i ≡ true
flush_there None e = absurd (let z : ⊥ = cc in z)
flush_there (Some i) e = refl

path_there : (P : Program) (r : Report) → IsWellFormed P r → (k : ℕ) (s : Site) → slice_get r.path k ≡ Some s
    → is_some (instr_of P s) ≡ true
path_there P r w zero s at = store_there (instr_of P s) (w.store s at)
path_there P r w (suc k) s at = call_there P (instr_of P s) (w.call k s at)

module _ (P : Program) (sound : IsSound P) where
  -- ---- paths

  ends : (sites : List Site) → (c : ℕ) × (xs : List ℕ) × (path_text P sites ++ codes "\n" ≡ c ∷ xs)
      × (is_decimal c ≡ false)
  ends [] = (10, [], refl, refl)
  ends (s ∷ sites) = (32, (site_text P s ++ path_text P sites) ++ codes "\n", refl, refl)

  path_cut : (ss zz : List Site) → ((k : ℕ) (s : Site) → slice_get ss k ≡ Some s → is_some (instr_of P s) ≡ true)
      → ((k : ℕ) (s : Site) → slice_get zz k ≡ Some s → is_some (instr_of P s) ≡ true) → All IsShortSite ss
      → All IsShortSite zz → path_text P ss ++ codes "\n" ≡ path_text P zz ++ codes "\n" → ss ≡ zz
  path_cut [] [] there here a b e = refl
  path_cut [] (z ∷ zz) there here a b e =
      absurd (let differ : 10 ≡ 32 = same_head 10 32 [] ((site_text P z ++ path_text P zz) ++ codes "\n") e in
      let f : ⊥ = omega (arith, differ) in f)
  path_cut (s ∷ ss) [] there here a b e =
      absurd (let differ : 32 ≡ 10 = same_head 32 10 ((site_text P s ++ path_text P ss) ++ codes "\n") [] e in
      let f : ⊥ = omega (arith, differ) in f)
  path_cut (s ∷ ss) (z ∷ zz) there here a b e =
      let later = ends ss in
      let other = ends zz in
      let texts : site_text P s ++ (path_text P ss ++ codes "\n") ≡ site_text P z ++ (path_text P zz ++ codes "\n") =
      sym (three (site_text P s) (path_text P ss) (codes "\n"))
      ∙ same_tail 32 32 ((site_text P s ++ path_text P ss) ++ codes "\n")
      ((site_text P z ++ path_text P zz) ++ codes "\n") e
      ∙ three (site_text P z) (path_text P zz) (codes "\n") in
      let split = site_cut P sound s z later.0 other.0 later.1 other.1 (there 0 s refl) (here 0 z refl)
      (All-head IsShortSite s ss a) (All-head IsShortSite z zz b) later.3 other.3
      (sym (ap (λ t. site_text P s ++ t) later.2) ∙ texts ∙ ap (λ t. site_text P z ++ t) other.2) in
      ap₂ (λ (x : Site) (l : List Site). x ∷ l) split.0
      (path_cut ss zz (λ k x at. there (suc k) x at) (λ k x at. here (suc k) x at)
      (All-tail IsShortSite s ss a) (All-tail IsShortSite z zz b)
      (later.2 ∙ split.1 ∙ sym other.2))

  -- ---- the number of returned calls, and the flush

  flush_cut : (m n : ℕ) (o p : Option Site) (x y : List ℕ) → m < 2 ^ 64 → n < 2 ^ 64
      → IfSome o (λ s. (is_some (instr_of P s) ≡ true) × IsShortSite s)
      → IfSome p (λ s. (is_some (instr_of P s) ≡ true) × IsShortSite s)
      → decimal m ++ (flush_text P o ++ (codes " path" ++ x)) ≡ decimal n ++ (flush_text P p ++ (codes " path" ++ y))
      → (m ≡ n) × (o ≡ p) × (x ≡ y)
  flush_cut m n None None x y a b f g e =
      let c = cut is_decimal (decimal m) (decimal n) 32 32 (codes "path" ++ x) (codes "path" ++ y) (digits_pass m a)
      (digits_pass n b) refl refl e in
      (same_number m n a b c.0, refl, strip (codes " path") x y c.1)
  flush_cut m n None (Some z) x y a b f g e =
      let c = cut is_decimal (decimal m) (decimal n) 32 32 (codes "path" ++ x)
      ((codes "flush " ++ site_text P z) ++ (codes " path" ++ y)) (digits_pass m a) (digits_pass n b) refl refl e in
      absurd (let differ : 112 ≡ 102 = same_head 112 102 _ _ (same_tail 32 32 _ _ c.1) in let f : ⊥ = omega (arith, differ) in f)
  flush_cut m n (Some s) None x y a b f g e =
      let c = cut is_decimal (decimal m) (decimal n) 32 32 ((codes "flush " ++ site_text P s) ++ (codes " path" ++ x))
      (codes "path" ++ y) (digits_pass m a) (digits_pass n b) refl refl e in
      absurd (let differ : 102 ≡ 112 = same_head 102 112 _ _ (same_tail 32 32 _ _ c.1) in let f : ⊥ = omega (arith, differ) in f)
  flush_cut m n (Some s) (Some z) x y a b f g e =
      let c = cut is_decimal (decimal m) (decimal n) 32 32 ((codes "flush " ++ site_text P s) ++ (codes " path" ++ x))
      ((codes "flush " ++ site_text P z) ++ (codes " path" ++ y)) (digits_pass m a) (digits_pass n b) refl refl e in
      let sites : site_text P s ++ (codes " path" ++ x) ≡ site_text P z ++ (codes " path" ++ y) =
      strip (codes " flush ") (site_text P s ++ (codes " path" ++ x)) (site_text P z ++ (codes " path" ++ y))
      (sym (three (codes " flush ") (site_text P s) (codes " path" ++ x)) ∙ c.1
      ∙ three (codes " flush ") (site_text P z) (codes " path" ++ y)) in
      let d = site_cut P sound s z 32 32 (codes "path" ++ x) (codes "path" ++ y) f.0 g.0 f.1 g.1 refl refl sites in
      (same_number m n a b c.0, ap (λ (t : Site). Some t) d.0, strip (codes " path") x y d.1)

  flush_is_there : (r : Report) → IsWellFormed P r → IsShort r
      → IfSome r.flush_site (λ s. (is_some (instr_of P s) ≡ true) × IsShortSite s)
  flush_is_there r w short = go r.flush_site refl short.flush
    where
      go : (o : Option Site) → r.flush_site ≡ o → IfSome o IsShortSite
          → IfSome o (λ s. (is_some (instr_of P s) ≡ true) × IsShortSite s)
      go None is small = small
      go (Some s) is small = (flush_there (instr_of P s) (w.flush s is), small)

  -- ---- lines

  laid : (r : Report) → report_line P r
      ≡ codes "report " ++ (kind_word r.kind ++ (codes " entry " ++ (decimal r.entry ++ (codes " check "
      ++ (decimal r.check_entry ++ (codes " closed " ++ (decimal r.closed ++ (flush_text P r.flush_site
      ++ (codes " path" ++ (path_text P r.path ++ codes "\n"))))))))))
  laid r = twelve (codes "report ") (kind_word r.kind) (codes " entry ") (decimal r.entry) (codes " check ")
      (decimal r.check_entry) (codes " closed ") (decimal r.closed) (flush_text P r.flush_site) (codes " path")
      (path_text P r.path) (codes "\n")

  pub told : (r q : Report) → IsWellFormed P r → IsWellFormed P q → IsShort r → IsShort q
      → report_line P r ≡ report_line P q → r ≡ q
  told r q w v short small e =
      let closed_on : Report → List ℕ = λ (x : Report). decimal x.closed ++ (flush_text P x.flush_site
      ++ (codes " path" ++ (path_text P x.path ++ codes "\n"))) in
      let check_on : Report → List ℕ = λ (x : Report). decimal x.check_entry ++ (codes " closed " ++ closed_on x) in
      let entry_on : Report → List ℕ = λ (x : Report). decimal x.entry ++ (codes " check " ++ check_on x) in
      let kinds = cut goes_on_name (kind_word r.kind) (kind_word q.kind) 32 32 (codes "entry " ++ entry_on r)
      (codes "entry " ++ entry_on q) (kind_passes r.kind) (kind_passes q.kind) refl refl
      (strip (codes "report ") (kind_word r.kind ++ (codes " entry " ++ entry_on r))
      (kind_word q.kind ++ (codes " entry " ++ entry_on q)) (sym (laid r) ∙ e ∙ laid q)) in
      let entries = cut is_decimal (decimal r.entry) (decimal q.entry) 32 32 (codes "check " ++ check_on r)
      (codes "check " ++ check_on q) (digits_pass r.entry short.entry) (digits_pass q.entry small.entry) refl refl
      (strip (codes " entry ") (entry_on r) (entry_on q) kinds.1) in
      let checks = cut is_decimal (decimal r.check_entry) (decimal q.check_entry) 32 32 (codes "closed " ++ closed_on r)
      (codes "closed " ++ closed_on q) (digits_pass r.check_entry short.check) (digits_pass q.check_entry small.check)
      refl refl (strip (codes " check ") (check_on r) (check_on q) entries.1) in
      let rest = flush_cut r.closed q.closed r.flush_site q.flush_site (path_text P r.path ++ codes "\n")
      (path_text P q.path ++ codes "\n") short.closed small.closed (flush_is_there r w short) (flush_is_there q v small)
      (strip (codes " closed ") (closed_on r) (closed_on q) checks.1) in
      let paths = path_cut r.path q.path (path_there P r w) (path_there P q v) short.path small.path rest.2 in
      let kind = same_kind r.kind q.kind kinds.0 in
      let entry = same_number r.entry q.entry short.entry small.entry entries.0 in
      let check = same_number r.check_entry q.check_entry short.check small.check checks.0 in
      λ i. record {
        entry = entry i;
        check_entry = check i;
        kind = kind i;
        flush_site = rest.1 i;
        path = paths i;
        closed = rest.0 i;
      }
