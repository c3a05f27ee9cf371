-- The count of spared stores, by lists and by their definition.
use Rattle.std.proofs.Common.{◌≡◌, ◌+◌, ◌<◌, ◌≤◌, ℕ, suc, Bool, true, false, cond, not, ◌&&◌, ◌||◌, nat_eq, List, [], ◌∷◌, ◌++◌, length, drop, get_or, Option, Some, None, refl, sym, ap, ◌∙◌, subst}
use Rattle.std.specs.Prelude.{if◌then◌else◌}
use Rattle.std.specs.List.{filter, list_any}
use Rattle.std.proofs.Math.ListN.{drop_of_length-le}
use Rattle.std.proofs.lemmas.List.{drop_more}
use Rattle.std.proofs.lemmas.List.Folds.{list_any-append}
use Rattle.hip_tree.specs.Sites.{has_site, sites_of}
use Rattle.hip_tree.specs.declared.program.Program.{Program}
use Rattle.hip_tree.specs.declared.site.Site.{Site}
use Rattle.hip_repairs.specs.CloneNumbers.{clone_numbers, numbered_from}
use Rattle.hip_repairs.specs.Direct.{direct, stores_outside}
use Rattle.hip_sites.specs.Laws.SiteWalkLaws.{listed}
use Rattle.hip_repairs.specs.Repaired.{cloned}
use Rattle.hip_repairs.specs.declared.plan.CloneOf.{CloneOf}
use Rattle.hip_repairs.specs.declared.plan.Plan.{Plan}
use Rattle.hip_runs.specs.Laws.Members.{equal_true}
use Rattle.hip_runs.specs.Places.{blocks_of}
use Rattle.hip_run_repairs.specs.Spared.{has_original, is_spared, is_spared_by, spared_count}
use Rattle.hip_vol.specs.LowStores.{low_stores}

-- ---- stores, by the lists of their sites

direct_listed : (P : Program) (s : Site) → has_site (filter (direct P) (sites_of P)) s ≡ direct P s
direct_listed P = listed P (direct P) (λ s e. ap (stores_outside P (blocks_of P s.function)) e)

-- ---- cloned functions

numbered : (functions : List ℕ) (copy f : ℕ) → has_original (numbered_from copy functions) f ≡ list_any (nat_eq f) functions
numbered [] copy f = refl
numbered (x ∷ xs) copy f = ap (λ b. nat_eq f x || b) (numbered xs (suc copy) f)

-- The set of numbers has the originals of the clones, except of those that are still to come.
abbrev pub HasBut : List ℕ → List CloneOf → List CloneOf → Type 0
HasBut functions rest clones =
    (f : ℕ) → (list_any (nat_eq f) functions || has_original rest f) ≡ has_original clones f

put_in : (functions : List ℕ) (rest : List CloneOf) (x f : ℕ)
    → (list_any (nat_eq f) (if list_any (nat_eq x) functions then functions else functions ++ x ∷ [])
    || has_original rest f) ≡ (list_any (nat_eq f) functions || (nat_eq f x || has_original rest f))
put_in functions rest x f = by_test (list_any (nat_eq x) functions) refl
  where
    absorbed : (a b c : Bool) → (b ≡ true → a ≡ true) → (a || c) ≡ (a || (b || c))
    absorbed true b c h = refl
    absorbed false true c h = let t = h refl in cc
    absorbed false false c h = refl

    grouped : (a b c : Bool) → ((a || (b || false)) || c) ≡ (a || (b || c))
    grouped true b c = refl
    grouped false true c = refl
    grouped false false c = refl

    by_test : (b : Bool) → list_any (nat_eq x) functions ≡ b
        → (list_any (nat_eq f) (if b then functions else functions ++ x ∷ []) || has_original rest f)
        ≡ (list_any (nat_eq f) functions || (nat_eq f x || has_original rest f))
    by_test true e =
        absorbed (list_any (nat_eq f) functions) (nat_eq f x) (has_original rest f)
        (λ same. subst (λ g. list_any (nat_eq g) functions ≡ true) (sym (equal_true f x same)) e)
    by_test false e =
        ap (λ t. t || has_original rest f) (list_any-append (nat_eq f) functions (x ∷ []))
        ∙ grouped (list_any (nat_eq f) functions) (nat_eq f x) (has_original rest f)

pub functions_next : (functions more : List ℕ) (clones : List CloneOf) (k : ℕ) (x d : CloneOf) → k < length clones
    → x ≡ get_or clones k d → more ≡ (if list_any (nat_eq x.original) functions then functions else functions ++ x.original ∷ [])
    → HasBut functions (drop k clones) clones → HasBut more (drop (k + 1) clones) clones
functions_next functions more clones k x d h at e has = λ f.
    ap (λ fs. list_any (nat_eq f) fs || has_original (drop (k + 1) clones) f) e
    ∙ put_in functions (drop (k + 1) clones) x.original f
    ∙ ap (λ cs. list_any (nat_eq f) functions || has_original cs f)
    (ap (λ c. c ∷ drop (k + 1) clones) at ∙ sym (drop_more clones k d h))
    ∙ has f

pub functions_whole : (functions : List ℕ) (clones : List CloneOf) (k : ℕ) → length clones ≤ k
    → HasBut functions (drop k clones) clones → (f : ℕ) → list_any (nat_eq f) functions ≡ has_original clones f
functions_whole functions clones k h has f =
    or_false (list_any (nat_eq f) functions)
    ∙ ap (λ cs. list_any (nat_eq f) functions || has_original cs f) (sym (drop_of_length-le clones h)) ∙ has f
  where
    or_false : (b : Bool) → b ≡ (b || false)
    or_false true = refl
    or_false false = refl

-- ---- a test after a test

filtered_twice : (first second both : Site → Bool) → ((s : Site) → both s ≡ (first s && second s)) → (sites : List Site)
    → filter second (filter first sites) ≡ filter both sites
filtered_twice first second both is [] = refl
filtered_twice first second both is (s ∷ sites) =
    by_test (first s) (second s) refl (filtered_twice first second both is sites)
    ∙ ap (λ b. cond b (s ∷ filter both sites) (filter both sites)) (sym (is s))
  where
    by_test : (a b : Bool) → second s ≡ b → filter second (filter first sites) ≡ filter both sites
        → filter second (cond a (s ∷ filter first sites) (filter first sites))
        ≡ cond (a && b) (s ∷ filter both sites) (filter both sites)
    by_test true true e rest =
        ap (λ t. cond t (s ∷ filter second (filter first sites)) (filter second (filter first sites))) e
        ∙ ap (λ zs. s ∷ zs) rest
    by_test true false e rest =
        ap (λ t. cond t (s ∷ filter second (filter first sites)) (filter second (filter first sites))) e ∙ rest
    by_test false b e rest = rest

-- ---- the count

pub counted : (P : Program) (plan : Plan) (functions : List ℕ)
    → ((f : ℕ) → list_any (nat_eq f) functions ≡ has_original (clone_numbers P plan) f)
    → length (filter (is_spared_by functions (has_site (filter (direct P) (sites_of P))) (has_site plan.flush_after))
    (filter (low_stores P) (sites_of P)))
    ≡ spared_count P plan
counted P plan functions are =
    ap (λ (sites : List Site). length sites)
    (filtered_twice (low_stores P) (is_spared_by functions (has_site (filter (direct P) (sites_of P))) (has_site plan.flush_after))
    (is_spared P plan) same (sites_of P))
  where
    same : (s : Site) → is_spared P plan s
        ≡ (low_stores P s && is_spared_by functions (has_site (filter (direct P) (sites_of P))) (has_site plan.flush_after) s)
    same s =
        let here : list_any (nat_eq s.function) (cloned P plan) ≡ list_any (nat_eq s.function) functions =
        sym (are s.function ∙ numbered (cloned P plan) (length P.functions) s.function) in
        ap (λ b. low_stores P s && (b && not (direct P s) && not (has_site plan.flush_after s))) here
        ∙ ap (λ b. low_stores P s
        && (list_any (nat_eq s.function) functions && not b && not (has_site plan.flush_after s)))
        (sym (direct_listed P s))
