-- Tables of values by names. The first value of a name counts.
use Rattle.std.specs.Prelude.{ℕ, ◌≡◌, List, [], ◌∷◌, ◌++◌, length, Option, Some, None, if◌then◌else◌, option_and_then, slice_get}
use Rattle.std.specs.Str.{bytes_eq}
use Rattle.hip_names.specs.Names.{number_of}

-- A value under a name.
pub record Entry (V : Type 0) : Type 0 where
  pub name : List ℕ
  pub value : V

-- The value of the first entry of that name.
abbrev pub value_of : {V : Type 0} → List (Entry V) → List ℕ → Option V
value_of [] name = None
value_of (e ∷ es) name = if bytes_eq e.name name then Some e.value else value_of es name

-- The value beside the first name that is this one.
abbrev pub value_beside : {V : Type 0} → List (List ℕ) → List V → List ℕ → Option V
value_beside names values name = option_and_then (slice_get values) (number_of names name)

-- Names and values are a table of these entries.
pub record TableStandsFor {V : Type 0} (names : List (List ℕ)) (values : List V) (entries : List (Entry V)) : Type 0 where
  pub as_long : length names ≡ length values
  pub finds : (name : List ℕ) → value_beside names values name ≡ value_of entries name

-- A table grows by these entries.
pub record Gains {V : Type 0} (names : List (List ℕ)) (values : List V) (more_names : List (List ℕ))
    (more_values : List V) (entries : List (Entry V)) : Type 0 where
  pub gains : (before : List (Entry V)) → TableStandsFor names values before
      → TableStandsFor more_names more_values (before ++ entries)
