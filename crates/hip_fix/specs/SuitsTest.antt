-- The test whether a plan suits: it walks over two ascending lists side by side.
use Rattle.std.specs.Prelude.{Bool, true, false, cond, ◌&&◌, ◌||◌, is_none, List, [], ◌∷◌, Option, Some}
use Rattle.std.specs.List.{list_all}
use Rattle.hip_externs.specs.Externs.{call_of}
use Rattle.hip_tree.specs.Sites.{instr_of, same_site}
use Rattle.hip_tree.specs.declared.instr.Instr.{Instr}
use Rattle.hip_tree.specs.declared.instr.Instr.TheVariants.{Call}
use Rattle.hip_tree.specs.declared.program.Program.{Program}
use Rattle.hip_tree.specs.declared.site.Site.{Site}
use Rattle.hip_runs.specs.Sites.{is_flush_call, is_store}
use Rattle.hip_repairs.specs.Suits.{site_before, is_ascending}
use Rattle.hip_repairs.specs.declared.plan.Plan.{Plan}

-- The site is before the first of the list, or the list is empty.
abbrev pub is_before_first : Site → List Site → Bool
is_before_first s [] = true
is_before_first s (x ∷ xs) = site_before s x

-- The rest of a list of sites, without the first ones that are before a site.
abbrev pub not_before : Site → List Site → List Site
not_before s [] = []
not_before s (x ∷ xs) = cond (site_before x s) (not_before s xs) (x ∷ xs)

-- The first site of the list is this one.
abbrev pub begins_with : List Site → Site → Bool
begins_with [] s = false
begins_with (x ∷ xs) s = same_site s x

-- A call of a function that is not external; in a sound program that function is defined.
abbrev pub calls_defined : Option Instr → Bool
calls_defined (Some (Call dest ret callee args)) = is_none (call_of callee)
calls_defined _ = false

-- Each fenced site is a flush call or a flushed site; both lists ascend.
abbrev pub fences_pass : Program → List Site → List Site → Bool
fences_pass P flushes [] = true
fences_pass P flushes (s ∷ ss) =
    (is_flush_call (instr_of P s) || begins_with (not_before s flushes) s) && fences_pass P (not_before s flushes) ss

-- Each of the three lists of a plan ascends.
abbrev pub ascend : Plan → Bool
ascend plan = is_ascending plan.flush_after && is_ascending plan.fence_after && is_ascending plan.hoist

-- The test of a plan. If the program is sound, a plan passes exactly if it suits the program.
abbrev pub passes : Program → Plan → Bool
passes P plan =
    ascend plan && list_all (λ s. is_store (instr_of P s)) plan.flush_after
    && fences_pass P plan.flush_after plan.fence_after
    && list_all (λ s. calls_defined (instr_of P s)) plan.hoist
