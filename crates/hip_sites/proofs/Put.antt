-- A set as the sites of a list are put in, one after another.
use Rattle.std.proofs.Common.{◌≡◌, ℕ, ◌+◌, ◌<◌, ◌≤◌, Bool, true, false, ◌||◌, List, [], ◌∷◌, length, take, get_or, refl, sym, ap, ◌∙◌}
use Rattle.std.proofs.lemmas.List.{take_all, take_more}
use Rattle.std.proofs.lemmas.List.Folds.{list_any-append}
use Rattle.hip_tree.specs.Sites.{has_site, same_site}
use Rattle.hip_tree.specs.declared.site.Site.{Site}

-- The list has these sites, and those that it had before.
pub record HasPut (sites before list : List Site) : Type 0 where
  pub has : (s : Site) → has_site list s ≡ has_site sites s || has_site before s

pub none_put : (sites before : List Site) → HasPut (take 0 sites) before before
none_put sites before = record { has = λ s. refl }

pub one_put : (sites : List Site) (i : ℕ) (d : Site) (before old new : List Site) → i < length sites
    → ((s : Site) → has_site new s ≡ same_site s (get_or sites i d) || has_site old s)
    → HasPut (take i sites) before old → HasPut (take (i + 1) sites) before new
one_put sites i d before old new h put so_far = record { has = by_site }
  where
    regroup : (a b c : Bool) → a || (b || c) ≡ (b || (a || false)) || c
    regroup true true c = refl
    regroup true false c = refl
    regroup false true c = refl
    regroup false false c = refl

    by_site : (s : Site) → has_site new s ≡ has_site (take (i + 1) sites) s || has_site before s
    by_site s =
        put s
        ∙ ap (λ b. same_site s (get_or sites i d) || b) (so_far.has s)
        ∙ regroup (same_site s (get_or sites i d)) (has_site (take i sites) s) (has_site before s)
        ∙ ap (λ b. b || has_site before s) (sym (list_any-append (same_site s) (take i sites) (get_or sites i d ∷ [])))
        ∙ ap (λ xs. has_site xs s || has_site before s) (sym (take_more sites i d h))

pub all_put : (sites : List Site) (i : ℕ) (before list : List Site) → length sites ≤ i
    → HasPut (take i sites) before list → (s : Site) → has_site list s ≡ has_site sites s || has_site before s
all_put sites i before list h so_far s = so_far.has s ∙ ap (λ xs. has_site xs s || has_site before s) (take_all i sites h)
