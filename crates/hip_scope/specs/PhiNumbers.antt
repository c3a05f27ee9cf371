-- Tables that number the edges of phis by their labels.
use Rattle.std.specs.Prelude.{ℕ, ◌≡◌, List, Some, map, slice_get}
use Rattle.hip_tree.specs.declared.block.Phi.{Phi}
use Rattle.hip_names.specs.declared.table.NameTable.{NameTable}
use Rattle.hip_names.specs.Numbered.{NumbersNames}

-- The table at that place numbers the edges of a phi by their labels.
pub record HasNumbers (tables : List (NameTable ℕ)) (k : ℕ) (p : Phi) : Type 0 where
  pub table : NameTable ℕ
  pub here : slice_get tables k ≡ Some table
  pub numbers : NumbersNames table.names table.values (map (λ e. e.label) p.edges)

-- There is a table for each phi.
pub record NumbersPhis (tables : List (NameTable ℕ)) (ps : List Phi) : Type 0 where
  pub at : (k : ℕ) (p : Phi) → slice_get ps k ≡ Some p → HasNumbers tables k p

-- The list of tables at that place has a table for each of these phis.
pub record HasTables (sources : List (List (NameTable ℕ))) (k : ℕ) (ps : List Phi) : Type 0 where
  pub tables : List (NameTable ℕ)
  pub here : slice_get sources k ≡ Some tables
  pub numbers : NumbersPhis tables ps
