-- The stores of cloned functions that their clones do not flush because they are low, though they are not direct.
use Rattle.std.specs.Prelude.{ℕ, Bool, ◌&&◌, not, nat_eq, List, length}
use Rattle.std.specs.List.{filter, list_any}
use Rattle.hip_tree.specs.Sites.{has_site, sites_of}
use Rattle.hip_tree.specs.declared.program.Program.{Program}
use Rattle.hip_tree.specs.declared.site.Site.{Site}
use Rattle.hip_repairs.specs.Direct.{direct}
use Rattle.hip_repairs.specs.Repaired.{cloned}
use Rattle.hip_repairs.specs.declared.plan.CloneOf.{CloneOf}
use Rattle.hip_repairs.specs.declared.plan.Plan.{Plan}
use Rattle.hip_vol.specs.LowStores.{low_stores}

-- Whether this is a low store of a function that is cloned, which is not direct and gets no flush by the plan: the
-- clone that `repair` makes flushes it, and the one that `thin` makes does not.
abbrev pub is_spared : Program → Plan → Site → Bool
is_spared P plan s =
    low_stores P s
    && (list_any (nat_eq s.function) (cloned P plan) && not (direct P s) && not (has_site plan.flush_after s))

-- How many spared stores there are; each cloned function is counted once.
abbrev pub spared_count : Program → Plan → ℕ
spared_count P plan = length (filter (is_spared P plan) (sites_of P))

-- ---- by lists

-- A clone was made of the function of that number.
abbrev pub has_original : List CloneOf → ℕ → Bool
has_original clones f = list_any (λ c. nat_eq f c.original) clones

-- The site is of one of these functions, and neither direct nor flushed, by these tests.
abbrev pub is_spared_by : List ℕ → (Site → Bool) → (Site → Bool) → Site → Bool
is_spared_by cloned direct flushed s = list_any (nat_eq s.function) cloned && not (direct s) && not (flushed s)
