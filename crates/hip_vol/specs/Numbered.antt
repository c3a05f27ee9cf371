-- Rules over variables that are numbered, and levels as numbers: 0 to 32, and 33 for Free.
use Rattle.std.specs.Prelude.{ℕ, suc, ◌+◌, ◌-◌, ◌*◌, ◌≤◌, ◌<◌, ◌≡◌, Bool, true, false, cond, nat_eq, nat_lt, List, [], ◌∷◌, length, slice_index, slice_set}
use Rattle.hip_runs.specs.StoredParts.Parts.{In}
use Rattle.hip_vol.specs.declared.numbered.Least.{Least}
use Rattle.hip_vol.specs.declared.numbered.Least.TheVariants as least
use Rattle.hip_vol.specs.declared.numbered.LevelRule.{LevelRule}

-- The number of the level at an offset.
abbrev pub offset_rank : ℕ → ℕ → ℕ
offset_rank level offset =
    cond (nat_eq offset 0) level (cond (nat_lt offset 67108864) (cond (nat_lt level 32) (suc level) 33) 33)

-- The level that a bound means, where the variables have these levels.
abbrev pub reached_by : (ℕ → ℕ) → Least → ℕ
reached_by levels (least.Known level) = level
reached_by levels (least.AtOffset offset variable) = offset_rank (levels variable) offset

-- The level that a table gives a variable.
abbrev pub at : List ℕ → ℕ → ℕ
at levels k = slice_index levels k

-- The level that a bound means, where the variables have the levels of a table, and 0 past its end.
abbrev pub reached : List ℕ → Least → ℕ
reached levels l = reached_by (at levels) l

-- Whether a rule raises its variable.
abbrev pub rises : List ℕ → LevelRule → Bool
rises levels r = nat_lt (at levels r.variable) (reached levels r.least)

-- The levels after a rule: its variable is raised to the rule's least level, if its own is lower.
abbrev pub risen : List ℕ → LevelRule → List ℕ
risen levels r = cond (rises levels r) (slice_set levels r.variable (reached levels r.least)) levels

-- A known level is at most 33, and a variable has a number below the count.
abbrev pub LeastIsWithin : ℕ → Least → Type 0
LeastIsWithin count (least.Known level) = level ≤ 33
LeastIsWithin count (least.AtOffset offset variable) = variable < count

-- The variable that a rule raises has a number below a count, and so has that of its least level; a known level is at
-- most 33.
pub record RuleIsWithin (count : ℕ) (r : LevelRule) : Type 0 where
  pub variable : r.variable < count
  pub least : LeastIsWithin count r.least

-- Each rule names only variables with numbers below the count, and no known level above 33.
pub record AreWithin (count : ℕ) (rules : List LevelRule) : Type 0 where
  pub each : (r : LevelRule) → In r rules → RuleIsWithin count r

-- Each rule is met.
pub record AreMetBy (levels : ℕ → ℕ) (rules : List LevelRule) : Type 0 where
  pub each : (r : LevelRule) → In r rules → reached_by levels r.least ≤ levels r.variable

-- These levels are at most those of every assignment that meets the rules.
pub record IsBelowAll (rules : List LevelRule) (levels : List ℕ) : Type 0 where
  pub small : (k : ℕ) → at levels k ≤ 33
  pub least : (other : ℕ → ℕ) → AreMetBy other rules → (k : ℕ) → at levels k ≤ other k

-- How far levels may still rise.
abbrev pub room : List ℕ → ℕ
room [] = 0
room (level ∷ levels) = (33 - level) + room levels

-- Levels have risen while a queue was in use: they can rise by no more than before, and the queue has grown by at most
-- two places for each rise.
pub record HasRisen (queue levels queue' levels' : List ℕ) : Type 0 where
  pub left : length queue' + 2 * room levels' ≤ length queue + 2 * room levels
  pub less : room levels' ≤ room levels

-- A rule was tried: either it raised its variable, or it is met and nothing has changed.
abbrev pub tried : Bool → List ℕ → List ℕ → LevelRule → Type 0
tried true old new r = room new < room old
tried false old new r = (new ≡ old) × (reached old r.least ≤ at old r.variable)

-- All rules were tried: either some variable has risen, or all rules are met and nothing has changed.
abbrev pub swept : Bool → List ℕ → List ℕ → List LevelRule → Type 0
swept true old new rules = room new < room old
swept false old new rules = (new ≡ old) × AreMetBy (at old) rules
