-- Tables of a resolved program that grow at their ends, and facts that still hold when the tables grow.
use Rattle.std.specs.Prelude.{◌≡◌, List, ◌++◌}
use Rattle.hip_code.specs.Numbers.{Tables}

-- The second list is the first one with more after it.
pub record Extends {A : Type 0} (xs ys : List A) : Type 0 where
  pub rest : List A
  pub is : ys ≡ xs ++ rest

-- Each table is as it was, with more after it.
pub record TablesGrow (t u : Tables) : Type 0 where
  pub constants : Extends t.constants u.constants
  pub terms : Extends t.terms u.terms
  pub moves : Extends t.moves u.moves
  pub edges : Extends t.edges u.edges
  pub cases : Extends t.cases u.cases

-- The first tables grow to the second, and the fact holds of the second tables and of all tables to which the second
-- grow.
pub record Makes (t u : Tables) (Fact : Tables → Type 0) : Type 0 where
  pub grows : TablesGrow t u
  pub lasts : (v : Tables) → TablesGrow u v → Fact v

-- Only constants are put into the tables.
pub record OnlyConstants (t u : Tables) : Type 0 where
  pub terms : u.terms ≡ t.terms
  pub moves : u.moves ≡ t.moves
  pub edges : u.edges ≡ t.edges
  pub cases : u.cases ≡ t.cases
