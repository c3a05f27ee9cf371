-- The addresses of globals, as they are laid one after another.
use Rattle.std.specs.Prelude.{ℕ, ◌+◌, List, [], ◌∷◌, unwrap_or, if◌then◌else◌}
use Rattle.hip_types.specs.Layout.{size_of}
use Rattle.hip_tree.specs.declared.program.GlobalVar.{GlobalVar}
use Rattle.hip_globals.specs.Addresses.{global_start}
use Rattle.hip_names.specs.Tables.{Entry, value_beside}
use Rattle.hip_names.specs.declared.table.NameTable.{NameTable}

-- A name with its address.
abbrev pub address_entry : List ℕ → ℕ → Entry ℕ
address_entry name value = record { name = name; value = value }

-- Each name with its address, where persistent globals are laid from one place on and the others from another.
abbrev pub laid_entries : ℕ → ℕ → List GlobalVar → List (Entry ℕ)
laid_entries persistent volatile [] = []
laid_entries persistent volatile (g ∷ gs) =
    if g.persistent
    then
    (address_entry g.name (global_start persistent g)
    ∷ laid_entries (global_start persistent g + size_of g.ty) volatile gs)
    else
    (address_entry g.name (global_start volatile g)
    ∷ laid_entries persistent (global_start volatile g + size_of g.ty) gs)

-- The address that a table has for a name; 0 if it does not have the name.
abbrev pub address_beside : NameTable ℕ → List ℕ → ℕ
address_beside table name = unwrap_or (value_beside table.names table.values name) 0
