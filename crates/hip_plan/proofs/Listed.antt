-- The lists of a plan have the sites that the reports ask for.
use Rattle.std.proofs.Common.{◌≡◌, ℕ, zero, suc, Bool, true, false, cond, ◌&&◌, ◌||◌, nat_eq, List, [], ◌∷◌, Option, None, refl, sym, ap, ◌∙◌, arith}
use Rattle.std.specs.Cmp.{both_ways}
use Rattle.std.specs.List.{filter, list_any}
use Rattle.std.specs.Prelude.{slice_get}
use Rattle.std.proofs.lemmas.Bool.Decides.{nat_tests}
use Rattle.hip_tree.specs.Sites.{has_site, sites_of}
use Rattle.hip_tree.specs.declared.program.Program.{Program}
use Rattle.hip_tree.specs.declared.site.Site.{Site}
use Rattle.hip_runs.specs.Laws.Members.{both_true, true_both}
use Rattle.hip_runs.specs.declared.report.Findings.{Findings}
use Rattle.hip_runs.specs.declared.report.Kind.{Kind}
use Rattle.hip_runs.specs.declared.report.Kind.TheVariants.{MissingFlush, MissingFence, MissingBoth}
use Rattle.hip_runs.specs.declared.report.Report.{Report}
use Rattle.hip_repairs.specs.Choice.{asks_fence, asks_flush, asks_hoist, is_site, plan_for}
use Rattle.hip_repairs.specs.Laws.SiteOrder.{filter_ascends, filtered_are, same_members}
use Rattle.hip_repairs.specs.Suits.{is_ascending}
use Rattle.hip_plan.specs.Asked.{call_at, fence_asked, flush_asked, hoist_asked, is_there}
use Rattle.hip_plan.proofs.Places.{sites_there}

-- ---- what one report asks for

site_where : (b : Bool) (o : Option Site) (s : Site) → is_site (cond b o None) s ≡ b && is_site o s
site_where true o s = refl
site_where false o s = refl

pub flush_is : (kind : Kind) (level : ℕ) (path : List Site) (s : Site) → is_site (flush_asked kind level path) s ≡ asks_flush kind level path s
flush_is MissingFence level path s = refl
flush_is MissingFlush level path s = site_where (nat_eq level 0) (slice_get path 0) s
flush_is MissingBoth level path s = site_where (nat_eq level 0) (slice_get path 0) s

pub fence_is : (kind : Kind) (level : ℕ) (flush : Option Site) (path : List Site) (s : Site) → is_site (fence_asked kind level flush path) s ≡ asks_fence kind level flush path s
fence_is MissingFence level flush path s = refl
fence_is MissingFlush level flush path s = refl
fence_is MissingBoth level flush path s = site_where (nat_eq level 0) (slice_get path 0) s

not_zero : (n : ℕ) → nat_eq (suc n) 0 ≡ false
not_zero n = grind (arith, nat_tests)

call_is : (level : ℕ) (path : List Site) (s : Site) → is_site (call_at (suc level) path) s ≡ is_site (slice_get path (suc level)) s
call_is level path s = ap (λ b. is_site (cond b None (slice_get path (suc level))) s) (not_zero level)

pub hoist_is : (kind : Kind) (level : ℕ) (path : List Site) (s : Site) → is_site (hoist_asked kind level path) s ≡ asks_hoist kind level path s
hoist_is MissingFence level path s = refl
hoist_is MissingFlush zero path s = refl
hoist_is MissingFlush (suc level) path s = call_is level path s
hoist_is MissingBoth zero path s = refl
hoist_is MissingBoth (suc level) path s = call_is level path s

-- ---- the list of all sites that reports ask for

-- The list has the program's sites that pass the test.
pub record HasAsked (P : Program) (test : Site → Bool) (list : List Site) : Type 0 where
  pub has : (s : Site) → has_site list s ≡ test s && is_there P s

-- Whether one of the reports asks for a site.
abbrev pub asked_by : (Report → Site → Bool) → List Report → Site → Bool
asked_by asks reports s = list_any (λ r. asks r s) reports

-- The list has the program's sites that all these reports ask for, perhaps without those that the reports left ask for.
pub record HasAllBut (P : Program) (asks : Report → Site → Bool) (all left : List Report) (list : List Site) : Type 0 where
  pub has : (s : Site) → (asked_by asks left s && is_there P s) || has_site list s ≡ asked_by asks all s && is_there P s

either_none : (b : Bool) → b || false ≡ b
either_none true = refl
either_none false = refl

pub all_left : (P : Program) (asks : Report → Site → Bool) (all left : List Report) (list : List Site) → left ≡ all → list ≡ [] → HasAllBut P asks all left list
all_left P asks all left list e none =
    record {
      has = λ s. ap (λ sites. (asked_by asks left s && is_there P s) || has_site sites s) none
          ∙ either_none (asked_by asks left s && is_there P s)
          ∙ ap (λ rs. asked_by asks rs s && is_there P s) e;
    }

-- The list after one more report.
pub asked_more : (P : Program) (asks : Report → Site → Bool) (all left rest : List Report) (r : Report) (o : Option Site) (old new : List Site) → left ≡ r ∷ rest →
    ((s : Site) → is_site o s ≡ asks r s) → ((s : Site) → has_site new s ≡ (is_site o s && is_there P s) || has_site old s) →
    HasAllBut P asks all left old → HasAllBut P asks all rest new
asked_more P asks all left rest r o old new are asked put before = record { has = by_site }
  where
    regroup : (a b t h : Bool) → (b && t) || ((a && t) || h) ≡ ((a || b) && t) || h
    regroup true true true h = refl
    regroup true false true h = refl
    regroup false true true h = refl
    regroup true true false h = refl
    regroup true false false h = refl
    regroup false true false h = refl
    regroup false false t h = refl

    by_site : (s : Site) → (asked_by asks rest s && is_there P s) || has_site new s ≡ asked_by asks all s && is_there P s
    by_site s =
        ap (λ h. (asked_by asks rest s && is_there P s) || h) (put s ∙ ap (λ a. (a && is_there P s) || has_site old s) (asked s))
        ∙ regroup (asks r s) (asked_by asks rest s) (is_there P s) (has_site old s)
        ∙ ap (λ rs. (asked_by asks rs s && is_there P s) || has_site old s) (sym are)
        ∙ before.has s

-- ---- the list in the program's order

filter_has : (P : Program) (test : Site → Bool) (s : Site) → has_site (filter test (sites_of P)) s ≡ test s && is_there P s
filter_has P test s =
    let are = filtered_are P test in
    both_ways (has_site (filter test (sites_of P)) s) (test s && is_there P s)
    (λ e. true_both (are.asked s e) (sym (sites_there P s) ∙ are.site s e))
    (λ e. let both = both_true (test s) (is_there P s) e in are.has s (sites_there P s ∙ both.1) both.0)

pub listed : (P : Program) (test : Site → Bool) (list : List Site) → HasAsked P test list → is_ascending list ≡ true → list ≡ filter test (sites_of P)
listed P test list asked up = same_members list (filter test (sites_of P)) up (filter_ascends P test) (λ s. asked.has s ∙ sym (filter_has P test s))

pub whole : (P : Program) (asks : Report → Site → Bool) (all left : List Report) (list : List Site) → left ≡ [] →
    HasAllBut P asks all left list → is_ascending list ≡ true → list ≡ filter (asked_by asks all) (sites_of P)
whole P asks all left list none asked up =
    listed P (asked_by asks all) list (record { has = λ s. ap (λ rs. (asked_by asks rs s && is_there P s) || has_site list s) (sym none) ∙ asked.has s }) up

-- A plan with the lists of the defined plan is that plan.
pub plan_is : (P : Program) (found : Findings) (flushes fences hoists : List Site) → flushes ≡ (plan_for P found).flush_after → fences ≡ (plan_for P found).fence_after → hoists ≡ (plan_for P found).hoist →
    record { flush_after = flushes; fence_after = fences; hoist = hoists } ≡ plan_for P found
plan_is P found flushes fences hoists f g h =
    let all = plan_for P found in
    ap (λ xs. record { flush_after = xs; fence_after = fences; hoist = hoists }) f
    ∙ ap (λ xs. record { flush_after = all.flush_after; fence_after = xs; hoist = hoists }) g
    ∙ ap (λ xs. record { flush_after = all.flush_after; fence_after = all.fence_after; hoist = xs }) h
