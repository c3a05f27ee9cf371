-- What has a level, and what its least level may be.
use Rattle.std.specs.Prelude.{ℕ, Bool, false, ◌&&◌, nat_eq, List, Some, None}
use Rattle.std.specs.Str.{bytes_eq}
use Rattle.hip_invariants.specs.PointerLevels.{PointerLevel, after_offset}

-- What has a level: a register of a function, which may be a parameter, and the result of a function, each by the
-- function's number. (This project's own, as all of this file.)
pub data Variable : Type 0 where
  Register : ℕ → List ℕ → Variable
  Result : ℕ → Variable

-- Whether two variables are the same register of the same function, or the result of the same function.
abbrev pub same_variable : Variable → Variable → Bool
same_variable (Register g name) (Register h other) = nat_eq g h && bytes_eq name other
same_variable (Result g) (Result h) = nat_eq g h
same_variable _ _ = false

-- The least level that a rule allows: a known level, or the level at an offset from a variable's.
pub data Bound : Type 0 where
  Known : PointerLevel → Bound
  AtOffset : ℕ → Variable → Bound

-- A variable has at least the level that its rule allows.
pub record LevelRule : Type 0 where
  pub variable : Variable
  pub least : Bound

-- The bound of level 0.
abbrev pub low : Bound
low = Known (Some 0)

-- The bound that only the level Free meets, which is the greatest: nothing is known of such a pointer.
abbrev pub free : Bound
free = Known None

-- The level of a variable itself.
abbrev pub same_as : Variable → Bound
same_as v = AtOffset 0 v

-- A level for each variable.
abbrev pub Assignment : Type 0
Assignment = Variable → PointerLevel

-- The level that a bound means, by the levels of the variables.
abbrev pub bound_in : Assignment → Bound → PointerLevel
bound_in A (Known a) = a
bound_in A (AtOffset offset v) = after_offset (A v) offset
