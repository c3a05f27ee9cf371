-- What the names of a function denote, in the order of their declarations, and the function's graph by numbers.
use Rattle.std.specs.Prelude.{ℕ, ◌+◌, List, [], ◌∷◌, map, Option, Some}
use Rattle.std.specs.List.{flat_map}
use Rattle.hip_tree.specs.declared.program.Function.{Function}
use Rattle.hip_sound.specs.Registers.{end_labels}
use Rattle.hip_sound.specs.Declarations.{Declares, declared_by}
use Rattle.hip_names.specs.Tables.{Entry, value_of, value_beside}
use Rattle.hip_typing.specs.declared.tables.inner_table.Inner.{Inner}
use Rattle.hip_typing.specs.declared.tables.inner_table.Inner.TheVariants.{Parameter, Label, Assigned}

-- A name of a function, with what it denotes.
abbrev pub entry : List ℕ → Inner → Entry Inner
entry name value = record { name = name; value = value }

-- How declarations become entries. A phi assigns its register before the body begins. The register that an instruction
-- assigns can be used from the next instruction on.
abbrev pub entries : Declares (Entry Inner)
entries = record {
  parameter = λ p. entry p.name Parameter;
  label = λ b label. entry label (Label b);
  phi = λ b i p. entry p.dest (Assigned b 0);
  instr = λ b i r. entry r.name (Assigned b (i + 1));
}

-- Each name that a function declares, with what it denotes, in the order of its text.
abbrev pub inner_entries : Function → List (Entry Inner)
inner_entries f = declared_by entries f

-- ---- the graph of the blocks

-- The number of the block that a label denotes, as a list; empty if the name denotes something else or nothing.
abbrev pub block_number : Option Inner → List ℕ
block_number (Some (Label n)) = n ∷ []
block_number _ = []

-- The numbers of the blocks of these labels, in order, with repeats. Labels of no block are left out.
abbrev pub successor_numbers : List (Entry Inner) → List (List ℕ) → List ℕ
successor_numbers entries labels = flat_map (λ label. block_number (value_of entries label)) labels

-- For each block the numbers of the blocks that its end names.
abbrev pub graph_of : Function → List (List ℕ)
graph_of f = map (λ block. successor_numbers (inner_entries f) (end_labels block.end)) f.blocks

-- The numbers of the blocks of these labels, found by a table; `successor_numbers` finds them by the entries.
abbrev pub label_numbers : List (List ℕ) → List Inner → List (List ℕ) → List ℕ
label_numbers names values labels = flat_map (λ label. block_number (value_beside names values label)) labels
