-- The calls that a store was made in, as shared nodes, and which of them have returned.
use Rattle.std.specs.Prelude.{◌≡◌, ℕ, suc, ◌+◌, Bool, false, cond, nat_eq, List, [], ◌∷◌, length, map, Option, Some, None, slice_get}
use Rattle.hip_tree.specs.declared.site.Site.{Site}
use Rattle.hip_runs.specs.State.{Level}
use Rattle.hip_findings.specs.declared.call_path.CallLink.{CallLink}
use Rattle.hip_findings.specs.declared.call_path.CallLink.TheVariants.{End, Call}

-- The calls from a node outward, the innermost one first; none at the end.
abbrev pub levels_in : CallLink → List Level
levels_in End = []
levels_in (Call site birth count outer) = record { call = site; birth = birth } ∷ outer.value

-- The innermost call of the path has the number of calls of the path.
abbrev pub HasCount : CallLink → Type 0
HasCount End = Unit {0}
HasCount (Call site birth count outer) = count ≡ length outer.value + 1

-- The sites of calls.
abbrev pub call_sites : List Level → List Site
call_sites levels = map (λ l. l.call) levels

-- Whether the standing call at a depth has this birth; false if there is no call at that depth.
abbrev pub is_birth : ℕ → Option ℕ → Bool
is_birth birth None = false
is_birth birth (Some b) = nat_eq b birth

-- How many of the calls have returned, given the births of the standing calls. A call has returned if the standing call
-- at its depth has another birth, or if there is none. The returned calls are the innermost ones, since each call
-- outside of a standing call is standing too.
abbrev pub closed_by : List ℕ → List Level → ℕ
closed_by births [] = 0
closed_by births (l ∷ ls) = cond (is_birth l.birth (slice_get births (length ls))) 0 (suc (closed_by births ls))
