-- Which plans suit a program.
use Rattle.std.specs.Prelude.{◌≡◌, ◌⊎◌, Bool, true, false, ◌&&◌, ◌||◌, nat_lt, nat_eq, List, [], ◌∷◌}
use Rattle.hip_tree.specs.Sites.{instr_of, has_site}
use Rattle.hip_tree.specs.declared.program.Program.{Program}
use Rattle.hip_tree.specs.declared.site.Site.{Site}
use Rattle.hip_runs.specs.Sites.{is_store, is_flush_call, is_defined_call}
use Rattle.hip_repairs.specs.declared.plan.Plan.{Plan}

-- Sites are ordered by function, block and index.
abbrev pub site_before : Site → Site → Bool
site_before a b =
    nat_lt a.function b.function
    || (nat_eq a.function b.function && (nat_lt a.block b.block || (nat_eq a.block b.block && nat_lt a.index b.index)))

-- The order of sites is strict, and of two different sites one is before the other.
pub record IsStrictOrder : Type 0 where
  pub apart : (a : Site) → site_before a a ≡ false
  pub trans : (a b c : Site) → site_before a b ≡ true → site_before b c ≡ true → site_before a c ≡ true
  pub total : (a b : Site) → (site_before a b ≡ true) ⊎ ((a ≡ b) ⊎ (site_before b a ≡ true))

-- Each site is before the next one, so no site is there twice; an empty list and one of a single site ascend.
abbrev pub is_ascending : List Site → Bool
is_ascending [] = true
is_ascending (a ∷ []) = true
is_ascending (a ∷ b ∷ rest) = site_before a b && is_ascending (b ∷ rest)

-- Flushes are put after stores, fences after flush calls and after stores that the plan flushes, and the hoisted calls
-- are calls of defined functions; each list is strictly ascending.
pub record IsSuiting (P : Program) (plan : Plan) : Type 0 where
  pub flushes : (s : Site) → has_site plan.flush_after s ≡ true → is_store (instr_of P s) ≡ true
  pub fences : (s : Site) → has_site plan.fence_after s ≡ true →
      (is_flush_call (instr_of P s) || has_site plan.flush_after s) ≡ true
  pub hoists : (s : Site) → has_site plan.hoist s ≡ true → is_defined_call P (instr_of P s) ≡ true
  pub flushes_ascend : is_ascending plan.flush_after ≡ true
  pub fences_ascend : is_ascending plan.fence_after ≡ true
  pub hoists_ascend : is_ascending plan.hoist ≡ true

-- The plan that repairs nothing.
abbrev pub no_repairs : Plan
no_repairs = record { flush_after = []; fence_after = []; hoist = [] }
