-- Plans have one union, which is the defined one.
use Rattle.std.proofs.Common.{◌≡◌, ◌⊎◌, Bool, true, false, ◌||◌, List, [], ◌∷◌, refl, sym, ap, ◌∙◌, inl, inr}
use Rattle.std.specs.Cmp.{both_ways}
use Rattle.hip_tree.specs.Sites.{has_site, sites_of}
use Rattle.hip_tree.specs.declared.program.Program.{Program}
use Rattle.hip_tree.specs.declared.site.Site.{Site}
use Rattle.hip_types.specs.Laws.DistinctLaws.{either}
use Rattle.hip_repairs.specs.Laws.SiteOrder.{filter_ascends, filtered_are, same_members}
use Rattle.hip_repairs.specs.Planned.{PlanIsWithin, either_list, union}
use Rattle.hip_repairs.specs.Suits.{no_repairs}
use Rattle.hip_repairs.specs.declared.plan.Plan.{Plan}
use Rattle.hip_many.specs.Union.{HasAll, IsUnion}

same_list : (sites_in : Plan → List Site) (plans : List Plan) (xs ys : List Site) → HasAll sites_in plans xs → HasAll sites_in plans ys → xs ≡ ys
same_list sites_in plans xs ys h g = same_members xs ys h.ascends g.ascends (λ s. h.has s ∙ sym (g.has s))

pub one_union : (plans : List Plan) (a b : Plan) → IsUnion plans a → IsUnion plans b → a ≡ b
one_union plans a b h g =
    ap (λ xs. record { flush_after = xs; fence_after = a.fence_after; hoist = a.hoist }) (same_list (λ p. p.flush_after) plans a.flush_after b.flush_after h.flush_after g.flush_after)
    ∙ ap (λ xs. record { flush_after = b.flush_after; fence_after = xs; hoist = a.hoist }) (same_list (λ p. p.fence_after) plans a.fence_after b.fence_after h.fence_after g.fence_after)
    ∙ ap (λ xs. record { flush_after = b.flush_after; fence_after = b.fence_after; hoist = xs }) (same_list (λ p. p.hoist) plans a.hoist b.hoist h.hoist g.hoist)

pub no_union : IsUnion [] no_repairs
no_union = record {
  flush_after = record { ascends = refl; has = λ s. refl };
  fence_after = record { ascends = refl; has = λ s. refl };
  hoist = record { ascends = refl; has = λ s. refl };
}

module _ (P : Program) (a b : Plan) where
  in_both : (sites_in : Plan → List Site) → ((s : Site) → has_site (sites_in a) s ≡ true → has_site (sites_of P) s ≡ true) → ((s : Site) → has_site (sites_in b) s ≡ true → has_site (sites_of P) s ≡ true) →
      HasAll sites_in (a ∷ b ∷ []) (either_list P (sites_in a) (sites_in b))
  in_both sites_in first second = record { ascends = filter_ascends P (λ s. has_site (sites_in a) s || has_site (sites_in b) s); has = by_site }
    where
      within : (s : Site) → (has_site (sites_in a) s ≡ true) ⊎ (has_site (sites_in b) s ≡ true) → has_site (sites_of P) s ≡ true
      within s (inl e) = first s e
      within s (inr e) = second s e

      or_none : (c d : Bool) → c || (d || false) ≡ c || d
      or_none true d = refl
      or_none false true = refl
      or_none false false = refl

      by_site : (s : Site) → has_site (either_list P (sites_in a) (sites_in b)) s ≡ has_site (sites_in a) s || (has_site (sites_in b) s || false)
      by_site s =
          let are = filtered_are P (λ (x : Site). has_site (sites_in a) x || has_site (sites_in b) x) in
          both_ways (has_site (either_list P (sites_in a) (sites_in b)) s) (has_site (sites_in a) s || has_site (sites_in b) s)
          (are.asked s)
          (λ e. are.has s (within s (either (has_site (sites_in a) s) (has_site (sites_in b) s) e)) e)
          ∙ sym (or_none (has_site (sites_in a) s) (has_site (sites_in b) s))

  pub two_unite : PlanIsWithin P a → PlanIsWithin P b → IsUnion (a ∷ b ∷ []) (union P a b)
  two_unite h g = record {
    flush_after = in_both (λ p. p.flush_after) h.flush_after g.flush_after;
    fence_after = in_both (λ p. p.fence_after) h.fence_after g.fence_after;
    hoist = in_both (λ p. p.hoist) h.hoist g.hoist;
  }
