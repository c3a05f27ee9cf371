-- Rules and levels in tables: variables are given by their numbers, and levels are numbers from 0 to 32, or 33 for
-- Free.
use Rattle.std.specs.Prelude.{ℕ, ◌≡◌, ◌<◌, ◌≤◌, cond, nat_lt, List, [], ◌∷◌, length, Some, None, unwrap_or, slice_get}
use Rattle.std.specs.List.{IsDistinct}
use Rattle.hip_invariants.specs.PointerLevels.{PointerLevel}
use Rattle.hip_vol.specs.Bounds.{Variable, Bound, LevelRule, Assignment, Register, Result, Known, AtOffset, same_variable}
use Rattle.hip_vol.specs.Numbered.{AreWithin}
use Rattle.hip_vol.specs.declared.numbered.Least as numbered_least
use Rattle.hip_vol.specs.declared.numbered.Least.TheVariants as numbered
use Rattle.hip_vol.specs.declared.numbered.LevelRule as numbered_rule
use Rattle.hip_vol.specs.declared.variables.Bound as held_bound
use Rattle.hip_vol.specs.declared.variables.Bound.TheVariants as bounds
use Rattle.hip_vol.specs.declared.variables.Variable as held
use Rattle.hip_vol.specs.declared.variables.Variable.TheVariants as variables

-- The level of a number.
abbrev pub level_of : ℕ → PointerLevel
level_of n = cond (nat_lt n 33) (Some n) None

-- The variable that a variable of the code stands for.
abbrev pub variable_of : held.Variable → Variable
variable_of (variables.Register g name) = Register g name.now
variable_of (variables.Result g) = Result g

-- The bound that a bound of the code stands for. A known level is given by its number, and is Free from 33 on.
abbrev pub bound_of : held_bound.Bound → Bound
bound_of (bounds.Known level) = Known (level_of level)
bound_of (bounds.AtOffset offset variable) = AtOffset offset (variable_of variable)

-- A known level is at most 33, the number of Free.
abbrev pub IsSmall : held_bound.Bound → Type 0
IsSmall (bounds.Known level) = level ≤ 33
IsSmall (bounds.AtOffset offset variable) = Unit {0}

-- The variable of a number.
abbrev pub variable_at : List Variable → ℕ → Variable
variable_at vs k = unwrap_or (slice_get vs k) (Result 0)

-- The bound that a bound over numbers stands for, if the variables have these numbers.
abbrev pub least_named : List Variable → numbered_least.Least → Bound
least_named vs (numbered.Known level) = Known (level_of level)
least_named vs (numbered.AtOffset offset k) = AtOffset offset (variable_at vs k)

-- The rule that a rule over numbers stands for.
abbrev pub named : List Variable → numbered_rule.LevelRule → LevelRule
named vs r = record { variable = variable_at vs r.variable; least = least_named vs r.least }

-- Each variable has one number, and the rules name no others.
pub record IsNumberedTable (vs : List Variable) (rs : List numbered_rule.LevelRule) : Type 0 where
  pub distinct : IsDistinct same_variable vs
  pub within : AreWithin (length vs) rs

-- More variables have numbers; those that had one keep it.
pub record VariablesGrow (old new : List Variable) : Type 0 where
  pub kept : (k : ℕ) → k < length old → (k < length new) × (variable_at new k ≡ variable_at old k)
  pub distinct : IsDistinct same_variable old → IsDistinct same_variable new

-- A variable and its level.
pub record Leveled : Type 0 where
  pub variable : Variable
  pub level : PointerLevel

-- Variables with their levels.
abbrev pub leveled : List Variable → List ℕ → List Leveled
leveled [] levels = []
leveled (v ∷ vs) [] = []
leveled (v ∷ vs) (n ∷ levels) = record { variable = v; level = level_of n } ∷ leveled vs levels

-- The level that a variable has in the list; 0 if it is not there.
abbrev pub level_among : List Leveled → Assignment
level_among [] v = Some 0
level_among (x ∷ xs) v = cond (same_variable v x.variable) x.level (level_among xs v)
