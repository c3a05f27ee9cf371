-- Assignments of levels that meet rules, and the least of them.
use Rattle.std.specs.Prelude.{ℕ, zero, suc, ◌*◌, ◌≤◌, cond, nat_lt, List, [], ◌∷◌, length, Some, None}
use Rattle.hip_invariants.specs.PointerLevels.{PointerLevel, is_at_most}
use Rattle.hip_runs.specs.StoredParts.Parts.{In}
use Rattle.hip_vol.specs.Bounds.{Variable, LevelRule, Assignment, same_variable, bound_in}

-- A level is a number from 0 to 32, or Free (this project's own, as all of this file).
abbrev pub is_level : PointerLevel → Type 0
is_level None = Unit {0}
is_level (Some t) = t ≤ 32

-- The variable of a rule has at least the least level of the rule.
abbrev pub IsMet : Assignment → LevelRule → Type 0
IsMet A r = is_at_most (bound_in A r.least) (A r.variable)

-- An assignment is closed under rules if it gives each variable a level and meets each rule.
pub record IsClosedUnder (rs : List LevelRule) (A : Assignment) : Type 0 where
  pub levels : (v : Variable) → is_level (A v)
  pub met : (r : LevelRule) → In r rs → IsMet A r

-- The least closed assignment gives each variable at most the level that any other closed assignment gives it.
pub record IsLeast (rs : List LevelRule) (A : Assignment) : Type 0 where
  pub closed : IsClosedUnder rs A
  pub below : (B : Assignment) → IsClosedUnder rs B → (v : Variable) → is_at_most (A v) (B v)

-- ---- the least one by rounds

-- The greater of two levels.
abbrev pub greater : PointerLevel → PointerLevel → PointerLevel
greater None b = None
greater (Some t) None = None
greater (Some t) (Some u) = cond (nat_lt t u) (Some u) (Some t)

-- Every level is 0.
abbrev pub lowest : Assignment
lowest v = Some 0

-- The variable of a rule is raised to the rule's least level, if its own is lower.
abbrev pub raised : LevelRule → Assignment → Assignment
raised r A v = cond (same_variable r.variable v) (greater (A v) (bound_in A r.least)) (A v)

-- A round: one rule after another.
unfoldable pub round : List LevelRule → Assignment → Assignment
round [] A = A
round (r ∷ rs) A = round rs (raised r A)

-- The assignment after n rounds, the first of which is on this assignment.
unfoldable pub rounds : ℕ → List LevelRule → Assignment → Assignment
rounds zero rs A = A
rounds (suc n) rs A = round rs (rounds n rs A)

-- The levels after 33 rounds for each rule, and one more. No rule raises a variable any further, since a variable rises
-- at most 33 times.
unfoldable pub least_of : List LevelRule → Assignment
least_of rs = rounds (suc (33 * length rs)) rs lowest
