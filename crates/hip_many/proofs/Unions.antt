-- Lists that are put together plan by plan, and what their union does.
use Rattle.std.proofs.Common.{◌≡◌, ◌⊎◌, ℕ, ◌+◌, ◌<◌, ◌≤◌, Bool, true, false, ◌||◌, List, [], ◌∷◌, length, take, get_or, refl, sym, ap, ◌∙◌, inl, inr}
use Rattle.std.specs.List.{list_any}
use Rattle.std.proofs.lemmas.List.{take_all, take_more}
use Rattle.std.proofs.lemmas.List.Folds.{list_any-append}
use Rattle.hip_tree.specs.Sites.{has_site, instr_of}
use Rattle.hip_tree.specs.declared.program.Program.{Program}
use Rattle.hip_tree.specs.declared.site.Site.{Site}
use Rattle.hip_types.specs.Laws.DistinctLaws.{either, or_first, or_second}
use Rattle.hip_runs.specs.Laws.Members.{any_in, in_any}
use Rattle.hip_runs.specs.Sites.{is_flush_call}
use Rattle.hip_runs.specs.StoredParts.Parts.{In}
use Rattle.hip_repairs.specs.Choice.{Contains}
use Rattle.hip_repairs.specs.Suits.{IsSuiting, is_ascending}
use Rattle.hip_repairs.specs.declared.plan.Plan.{Plan}
use Rattle.hip_many.specs.Union.{HasAll, IsUnion}

-- ---- one item more

-- The list has each site that passes the test of one of the items, and the sites before.
pub record HasThose {A : Type 0} (test : A → Site → Bool) (items : List A) (before list : List Site) : Type 0 where
  pub has : (s : Site) → has_site list s ≡ list_any (λ x. test x s) items || has_site before s

pub none_put : {A : Type 0} (test : A → Site → Bool) (items : List A) (before : List Site) → HasThose test (take 0 items) before before
none_put test items before = record { has = λ s. refl }

pub one_put : {A : Type 0} (test : A → Site → Bool) (items : List A) (i : ℕ) (d : A) (before old new : List Site) → i < length items →
    ((s : Site) → has_site new s ≡ test (get_or items i d) s || has_site old s) → HasThose test (take i items) before old → HasThose test (take (i + 1) items) before new
one_put test items i d before old new h put so_far = record { has = by_site }
  where
    regroup : (a b c : Bool) → a || (b || c) ≡ (b || (a || false)) || c
    regroup true true c = refl
    regroup true false c = refl
    regroup false true c = refl
    regroup false false c = refl

    by_site : (s : Site) → has_site new s ≡ list_any (λ x. test x s) (take (i + 1) items) || has_site before s
    by_site s =
        put s
        ∙ ap (λ b. test (get_or items i d) s || b) (so_far.has s)
        ∙ regroup (test (get_or items i d) s) (list_any (λ x. test x s) (take i items)) (has_site before s)
        ∙ ap (λ b. b || has_site before s) (sym (list_any-append (λ x. test x s) (take i items) (get_or items i d ∷ [])))
        ∙ ap (λ xs. list_any (λ x. test x s) xs || has_site before s) (sym (take_more items i d h))

pub all_put : {A : Type 0} (test : A → Site → Bool) (items : List A) (i : ℕ) (before list : List Site) → length items ≤ i → HasThose test (take i items) before list →
    (s : Site) → has_site list s ≡ list_any (λ x. test x s) items || has_site before s
all_put test items i before list h so_far s = so_far.has s ∙ ap (λ xs. list_any (λ x. test x s) xs || has_site before s) (take_all i items h)

or_none : (b : Bool) → b || false ≡ b
or_none true = refl
or_none false = refl

pub united : (sites_in : Plan → List Site) (plans : List Plan) (i : ℕ) (list row : List Site) → length plans ≤ i → HasThose (λ p s. has_site (sites_in p) s) (take i plans) [] list → row ≡ list → is_ascending list ≡ true →
    HasAll sites_in plans row
united sites_in plans i list row h so_far same up = record {
  ascends = ap is_ascending same ∙ up;
  has = λ s. ap (λ xs. has_site xs s) same ∙ all_put (λ p s. has_site (sites_in p) s) plans i [] list h so_far s ∙ or_none _;
}

-- ---- what a union is good for

module _ (plans : List Plan) (plan : Plan) (union : IsUnion plans plan) where
  has_part : (sites_in : Plan → List Site) (list : List Site) → HasAll sites_in plans list → (part : Plan) → In part plans → (s : Site) → has_site (sites_in part) s ≡ true → has_site list s ≡ true
  has_part sites_in list all part i s e = all.has s ∙ in_any (λ p. has_site (sites_in p) s) plans part i e

  pub union_contains : (part : Plan) → In part plans → Contains plan part
  union_contains part i = record {
    flush_after = has_part (λ p. p.flush_after) plan.flush_after union.flush_after part i;
    fence_after = has_part (λ p. p.fence_after) plan.fence_after union.fence_after part i;
    hoist = has_part (λ p. p.hoist) plan.hoist union.hoist part i;
  }

  part_with : (sites_in : Plan → List Site) (list : List Site) → HasAll sites_in plans list → (s : Site) → has_site list s ≡ true → (part : Plan) × In part plans × (has_site (sites_in part) s ≡ true)
  part_with sites_in list all s e = any_in (λ p. has_site (sites_in p) s) plans (sym (all.has s) ∙ e)

  pub union_suits : (P : Program) → ((part : Plan) → In part plans → IsSuiting P part) → IsSuiting P plan
  union_suits P each = record {
    flushes = λ s e. let part = part_with (λ p. p.flush_after) plan.flush_after union.flush_after s e in (each part.0 part.1).flushes s part.2;
    fences = λ s e. let part = part_with (λ p. p.fence_after) plan.fence_after union.fence_after s e in fenced s part.0 part.1 (either _ _ ((each part.0 part.1).fences s part.2));
    hoists = λ s e. let part = part_with (λ p. p.hoist) plan.hoist union.hoist s e in (each part.0 part.1).hoists s part.2;
    flushes_ascend = union.flush_after.ascends;
    fences_ascend = union.fence_after.ascends;
    hoists_ascend = union.hoist.ascends;
  }
    where
      fenced : (s : Site) (part : Plan) → In part plans → (is_flush_call (instr_of P s) ≡ true) ⊎ (has_site part.flush_after s ≡ true) → (is_flush_call (instr_of P s) || has_site plan.flush_after s) ≡ true
      fenced s part i (inl e) = or_first _ _ e
      fenced s part i (inr e) = or_second (is_flush_call (instr_of P s)) _ (has_part (λ p. p.flush_after) plan.flush_after union.flush_after part i s e)
