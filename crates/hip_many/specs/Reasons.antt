-- Why a union of plans has each of its sites.
use Rattle.std.specs.Prelude.{ℕ, List, ◌++◌, map, count_by}
use Rattle.hip_tree.specs.Sites.{has_site}
use Rattle.hip_tree.specs.declared.site.Site.{Site}
use Rattle.hip_repairs.specs.declared.plan.Plan.{Plan}
use Rattle.hip_many.specs.declared.reason.Reason.{Reason}
use Rattle.hip_many.specs.declared.reason.Sort.{Sort}
use Rattle.hip_many.specs.declared.reason.Sort.TheVariants.{Flush, Fence, Hoist}

-- The sites at which a plan flushes, fences or hoists.
abbrev pub sites_in : Sort → Plan → List Site
sites_in Flush plan = plan.flush_after
sites_in Fence plan = plan.fence_after
sites_in Hoist plan = plan.hoist

-- How many of the plans have the site in that list.
abbrev pub plans_with : Sort → List Plan → Site → ℕ
plans_with sort plans site = count_by (λ p. has_site (sites_in sort p) site) plans

-- Why one list has a site: how many of the plans have it in that list.
abbrev pub reason_for : Sort → List Plan → Site → Reason
reason_for sort plans site = record { sort = sort; site = site; traces = plans_with sort plans site }

-- The reasons of one list of the plan, in that list's order.
abbrev pub reasons_in : Sort → List Plan → Plan → List Reason
reasons_in sort plans plan = map (reason_for sort plans) (sites_in sort plan)

-- One reason for each site of the plan, in the order of its lists.
abbrev pub reasons : List Plan → Plan → List Reason
reasons plans plan = reasons_in Flush plans plan ++ reasons_in Fence plans plan ++ reasons_in Hoist plans plan
