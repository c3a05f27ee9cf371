-- The meaning of the code's table of a phi's operands.
use Rattle.std.specs.Prelude.{ℕ, ◌≡◌, Bool, true, false, List, map, Option, Some, None}
use Rattle.std.specs.Borrow.{Bor}
use Rattle.hip_tree.specs.declared.block.Edge.{Edge}
use Rattle.hip_tree.specs.declared.instr.Operand.{Operand}
use Rattle.hip_sound.specs.Equal.{same_operand}
use Rattle.hip_sound.specs.Places.{repeats_agree}
use Rattle.hip_names.specs.Tables.{Entry, TableStandsFor}
use Rattle.hip_names.specs.declared.table.NameTable.{NameTable}

-- Whether the operand is the one that an earlier edge carries; true if there is no earlier edge.
abbrev pub carries_again : Option (Bor Operand) → Operand → Bool
carries_again None o = true
carries_again (Some first) o = same_operand first.now o

-- The operand of a phi's edge, under the edge's label.
abbrev pub edge_entry : Edge → Entry Operand
edge_entry e = record { name = e.label; value = e.value }

-- An entry of the code's table, with the operand that is borrowed there.
abbrev pub carried_seen : Entry (Bor Operand) → Entry Operand
carried_seen e = record { name = e.name; value = e.value.now }

-- Names and values are a table of what the edges carry, and the edges agree.
pub record EdgesCarry (names : List (List ℕ)) (values : List (Bor Operand)) (edges : List Edge) : Type 0 where
  pub entries : List (Entry (Bor Operand))
  pub stands : TableStandsFor names values entries
  pub are : map carried_seen entries ≡ map edge_entry edges
  pub agree : repeats_agree edges ≡ true

-- There is a table exactly if the edges agree.
abbrev pub CarriesWhere : List Edge → Option (NameTable (Bor Operand)) → Type 0
CarriesWhere edges None = repeats_agree edges ≡ false
CarriesWhere edges (Some t) = EdgesCarry t.names t.values edges
