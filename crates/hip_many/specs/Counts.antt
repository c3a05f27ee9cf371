-- In how many plans a site was met, as it is counted.
use Rattle.std.specs.Prelude.{ℕ, ◌+◌, ◌-◌, ◌^◌, min, cond, nat_eq, List, unwrap_or}
use Rattle.std.specs.Map.{lookup}
use Rattle.hip_tree.specs.Sites.{same_site}
use Rattle.hip_tree.specs.declared.site.Site.{Site}
use Rattle.hip_many.specs.declared.counts.Count.{Count}

-- The count of a site that no plan has; the plans are numbered from 1.
abbrev pub none_met : Count
none_met = record { plans = 0; last = 0 }

-- The count of a site.
abbrev pub count_at : List (Site × Count) → Site → Count
count_at entries s = unwrap_or (lookup (same_site s) entries) none_met

-- The count after the site was met in the plan of that number; a second time in that plan counts nothing.
abbrev pub counted : Count → ℕ → Count
counted c number = cond (nat_eq c.last number) c (record { plans = min (c.plans + 1) (2 ^ 64 - 1); last = number })
