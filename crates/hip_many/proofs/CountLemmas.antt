-- Counts of sites, plan by plan.
use Rattle.std.proofs.Common.{◌≡◌, ℕ, ◌+◌, ◌-◌, ◌^◌, ◌<◌, ◌≤◌, min, Bool, true, false, cond, ◌||◌, nat_eq, List, [], ◌∷◌, length, take, get_or, Some, refl, sym, ap, ◌∙◌, subst, arith}
use Rattle.std.specs.Map.{lookup}
use Rattle.std.specs.Prelude.{unwrap_or}
use Rattle.std.proofs.lemmas.Bool.Decides.{nat_tests}
use Rattle.std.proofs.lemmas.List.{length-take, take_all, take_more}
use Rattle.std.proofs.lemmas.List.Folds.{list_any-append}
use Rattle.std.proofs.lemmas.List.Sums.{count_by-le-length, count_by_more_no, count_by_more_yes}
use Rattle.hip_tree.specs.Laws.SiteLaws.{same_site_equal}
use Rattle.hip_tree.specs.Sites.{has_site, same_site}
use Rattle.hip_tree.specs.declared.site.Site.{Site}
use Rattle.hip_repairs.specs.declared.plan.Plan.{Plan}
use Rattle.hip_many.specs.Counts.{count_at, counted, none_met}
use Rattle.hip_many.specs.Reasons.{plans_with, sites_in}
use Rattle.hip_many.specs.declared.counts.Count.{Count}
use Rattle.hip_many.specs.declared.reason.Sort.{Sort}

pub one_noted : (old new : List (Site × Count)) (x : Site) (v w : Count) (number : ℕ) → v ≡ counted w number → w ≡ count_at old x →
    ((q : Site) → lookup (same_site q) new ≡ cond (same_site q x) (Some v) (lookup (same_site q) old)) →
    (s : Site) → count_at new s ≡ cond (same_site s x) (counted (count_at old x) number) (count_at old s)
one_noted old new x v w number is from updates s =
    ap (λ o. unwrap_or o none_met) (updates s)
    ∙ by_test (same_site s x)
    ∙ ap (λ (c : Count). cond (same_site s x) c (count_at old s)) (is ∙ ap (λ (c : Count). counted c number) from)
  where
    by_test : (b : Bool) → unwrap_or (cond b (Some v) (lookup (same_site s) old)) none_met ≡ cond b v (count_at old s)
    by_test true = refl
    by_test false = refl

-- A second time in one plan counts nothing.
counted_twice : (c : Count) (number : ℕ) → counted (counted c number) number ≡ counted c number
counted_twice c number = by_test (nat_eq c.last number) refl
  where
    new : Count
    new = record { plans = min (c.plans + 1) (2 ^ 64 - 1); last = number }

    same : (n : ℕ) → nat_eq n n ≡ true
    same n = grind (arith, nat_tests)

    by_test : (b : Bool) → nat_eq c.last number ≡ b → counted (cond b c (record { plans = min (c.plans + 1) (2 ^ 64 - 1); last = number })) number ≡ cond b c (record { plans = min (c.plans + 1) (2 ^ 64 - 1); last = number })
    by_test true e = ap (λ t. cond t c (record { plans = min (c.plans + 1) (2 ^ 64 - 1); last = number })) e
    by_test false e = ap (λ t. cond t (record { plans = min (c.plans + 1) (2 ^ 64 - 1); last = number }) (record { plans = min (min (c.plans + 1) (2 ^ 64 - 1) + 1) (2 ^ 64 - 1); last = number })) (same number)

-- Each of the sites was met in the plan of that number.
pub record AreNoted (old : List (Site × Count)) (sites : List Site) (number : ℕ) (now : List (Site × Count)) : Type 0 where
  pub count : (s : Site) → count_at now s ≡ cond (has_site sites s) (counted (count_at old s) number) (count_at old s)

pub none_noted : (old : List (Site × Count)) (sites : List Site) (number : ℕ) → AreNoted old (take 0 sites) number old
none_noted old sites number = record { count = λ s. refl }

pub next_noted : (old now new : List (Site × Count)) (sites : List Site) (i : ℕ) (d : Site) (number : ℕ) → i < length sites →
    ((s : Site) → count_at new s ≡ cond (same_site s (get_or sites i d)) (counted (count_at now (get_or sites i d)) number) (count_at now s)) →
    AreNoted old (take i sites) number now → AreNoted old (take (i + 1) sites) number new
next_noted old now new sites i d number h put so_far = record { count = by_site }
  where
    by_test : (s : Site) (b c : Bool) → same_site s (get_or sites i d) ≡ b → has_site (take i sites) s ≡ c →
        cond b (counted (count_at now (get_or sites i d)) number) (count_at now s) ≡ cond (c || (b || false)) (counted (count_at old s) number) (count_at old s)
    by_test s true true e f =
        ap (λ (x : Site). counted (count_at now x) number) (sym (same_site_equal s (get_or sites i d) e))
        ∙ ap (λ (x : Count). counted x number) (so_far.count s ∙ ap (λ t. cond t (counted (count_at old s) number) (count_at old s)) f)
        ∙ counted_twice (count_at old s) number
    by_test s true false e f =
        ap (λ (x : Site). counted (count_at now x) number) (sym (same_site_equal s (get_or sites i d) e))
        ∙ ap (λ (x : Count). counted x number) (so_far.count s ∙ ap (λ t. cond t (counted (count_at old s) number) (count_at old s)) f)
    by_test s false true e f = so_far.count s ∙ ap (λ t. cond t (counted (count_at old s) number) (count_at old s)) f
    by_test s false false e f = so_far.count s ∙ ap (λ t. cond t (counted (count_at old s) number) (count_at old s)) f

    by_site : (s : Site) → count_at new s ≡ cond (has_site (take (i + 1) sites) s) (counted (count_at old s) number) (count_at old s)
    by_site s =
        put s
        ∙ by_test s (same_site s (get_or sites i d)) (has_site (take i sites) s) refl refl
        ∙ ap (λ t. cond t (counted (count_at old s) number) (count_at old s)) (sym (list_any-append (same_site s) (take i sites) (get_or sites i d ∷ [])))
        ∙ ap (λ xs. cond (has_site xs s) (counted (count_at old s) number) (count_at old s)) (sym (take_more sites i d h))

pub all_noted : (old now : List (Site × Count)) (sites : List Site) (i number : ℕ) → length sites ≤ i → AreNoted old (take i sites) number now → (s : Site) →
    count_at now s ≡ cond (has_site sites s) (counted (count_at old s) number) (count_at old s)
all_noted old now sites i number h so_far s = so_far.count s ∙ ap (λ xs. cond (has_site xs s) (counted (count_at old s) number) (count_at old s)) (take_all i sites h)

-- The entries count the sites of these plans, which have the numbers up to this one.
pub record Tallies (entries : List (Site × Count)) (sort : Sort) (plans : List Plan) (number : ℕ) : Type 0 where
  pub plans_are : (s : Site) → (count_at entries s).plans ≡ plans_with sort plans s
  pub last : (s : Site) → (count_at entries s).last ≤ number

pub none_tallied : (sort : Sort) (plans : List Plan) → Tallies [] sort (take 0 plans) 0
none_tallied sort plans = record { plans_are = λ s. refl; last = λ s. omega arith }

pub next_tallied : (old new : List (Site × Count)) (sort : Sort) (plans : List Plan) (i : ℕ) (d : Plan) (sites : List Site) → i < length plans → i + 1 < 2 ^ 64 → sites ≡ sites_in sort (get_or plans i d) →
    ((s : Site) → count_at new s ≡ cond (has_site sites s) (counted (count_at old s) (i + 1)) (count_at old s)) →
    Tallies old sort (take i plans) i → Tallies new sort (take (i + 1) plans) (i + 1)
next_tallied old new sort plans i d sites h fits same put before = record { plans_are = λ s. (by_site s).0; last = λ s. (by_site s).1 }
  where
    Fine : Site → Count → Type 0
    Fine s c = (c.plans ≡ plans_with sort (take (i + 1) plans) s) × (c.last ≤ i + 1)

    met : (s : Site) → has_site (sites_in sort (get_or plans i d)) s ≡ true → Fine s (counted (count_at old s) (i + 1))
    met s e =
        let l = before.last s in
        let later : nat_eq (count_at old s).last (i + 1) ≡ false = grind (arith, nat_tests) in
        let many = count_by-le-length (λ (p : Plan). has_site (sites_in sort p) s) (take i plans) in
        let front : length (take i plans) ≤ i = omega (arith, length-take i plans) in
        let is = before.plans_are s in
        let more = count_by_more_yes (λ (p : Plan). has_site (sites_in sort p) s) plans i d h e in
        let new_plans : min ((count_at old s).plans + 1) (2 ^ 64 - 1) ≡ plans_with sort (take (i + 1) plans) s = omega (arith, is, more, many, front) in
        subst (λ b. Fine s (cond b (count_at old s) (record { plans = min ((count_at old s).plans + 1) (2 ^ 64 - 1); last = i + 1 }))) (sym later) (new_plans, omega arith)

    by_test : (s : Site) (b : Bool) → has_site sites s ≡ b → Fine s (cond b (counted (count_at old s) (i + 1)) (count_at old s))
    by_test s true e = met s (ap (λ xs. has_site xs s) (sym same) ∙ e)
    by_test s false e =
        let l = before.last s in
        (before.plans_are s ∙ sym (count_by_more_no (λ (p : Plan). has_site (sites_in sort p) s) plans i d h (ap (λ xs. has_site xs s) (sym same) ∙ e)), omega arith)

    by_site : (s : Site) → Fine s (count_at new s)
    by_site s = subst (Fine s) (sym (put s)) (by_test s (has_site sites s) refl)

pub all_tallied : (entries : List (Site × Count)) (sort : Sort) (plans : List Plan) (i : ℕ) → length plans ≤ i → Tallies entries sort (take i plans) i → (s : Site) →
    (count_at entries s).plans ≡ plans_with sort plans s
all_tallied entries sort plans i h so_far s = so_far.plans_are s ∙ ap (λ ps. plans_with sort ps s) (take_all i plans h)
