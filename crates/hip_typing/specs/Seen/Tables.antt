-- The meaning of the tables of registers and of callees.
use Rattle.std.specs.Prelude.{ℕ, ◌≡◌, List, ◌++◌, map, Option, option_map}
use Rattle.hip_types.specs.declared.number.Scalar.{Scalar}
use Rattle.hip_tree.specs.declared.program.Extern.{Extern}
use Rattle.hip_tree.specs.declared.program.Function.{Function}
use Rattle.hip_tree.specs.declared.program.Program.{Program}
use Rattle.hip_names.specs.Tables.{Entry, value_beside, TableStandsFor}
use Rattle.hip_externs.specs.Externs.{Signature}
use Rattle.hip_sound.specs.Places.{callee_of}
use Rattle.hip_sound.specs.Registers.{Register, find_register}
use Rattle.hip_typing.specs.declared.tables.callees.Callee.{Callee}
use Rattle.hip_typing.specs.declared.tables.callees.Params.{Params}
use Rattle.hip_typing.specs.declared.tables.callees.Params.TheVariants.{Scalars, Named}

-- ---- registers

-- The entry of a register: its type under its name.
abbrev pub register_entry : Register → Entry (Option Scalar)
register_entry r = record { name = r.name; value = r.ty }

-- A table grows by these registers.
pub record Adds (names : List (List ℕ)) (values : List (Option Scalar)) (more_names : List (List ℕ))
    (more_values : List (Option Scalar)) (registers : List Register) : Type 0 where
  pub adds : (entries : List (Entry (Option Scalar))) → TableStandsFor names values entries →
      TableStandsFor more_names more_values (entries ++ map register_entry registers)

-- The table finds each register of the list.
pub record Finds (names : List (List ℕ)) (values : List (Option Scalar)) (registers : List Register) : Type 0 where
  pub finds : (name : List ℕ) → value_beside names values name ≡ find_register registers name

-- ---- callees

-- The entry of an external function: its signature under its name.
abbrev pub extern_entry : Extern → Entry Signature
extern_entry e = record { name = e.name; value = record { ret = e.ret; params = e.params } }

-- The entry of a function: its signature under its name. The signature has only the types of the parameters.
abbrev pub function_entry : Function → Entry Signature
function_entry f = record { name = f.name; value = record { ret = f.ret; params = map (λ p. p.ty) f.params } }

-- The types of parameters, in order. Parameters of a function have names too, and those of an external function have
-- none.
abbrev pub params_seen : Params → List Scalar
params_seen (Scalars types) = types.now
params_seen (Named params) = map (λ p. p.ty) params.now

-- The signature that a callee in the code's table denotes.
abbrev pub callee_seen : Callee → Signature
callee_seen c = record { ret = c.ret; params = params_seen c.params }

-- A name in the code's table of callees, with the signature that its callee denotes.
abbrev pub entry_seen : Entry Callee → Entry Signature
entry_seen e = record { name = e.name; value = callee_seen e.value }

-- Names and values are a table of the entries and some more entries, which have these names and signatures.
pub record Grown (names : List (List ℕ)) (values : List Callee) (entries : List (Entry Callee))
    (signatures : List (Entry Signature)) : Type 0 where
  pub more : List (Entry Callee)
  pub stands : TableStandsFor names values (entries ++ more)
  pub are : map entry_seen more ≡ signatures

-- A table grows by callees with these names and signatures.
pub record AddsCallees (names : List (List ℕ)) (values : List Callee) (more_names : List (List ℕ))
    (more_values : List Callee) (signatures : List (Entry Signature)) : Type 0 where
  pub adds : (entries : List (Entry Callee)) → TableStandsFor names values entries →
      Grown more_names more_values entries signatures

-- The table finds what a program calls by a name.
pub record FindsCallees (names : List (List ℕ)) (values : List Callee) (P : Program) : Type 0 where
  pub finds : (name : List ℕ) → option_map callee_seen (value_beside names values name) ≡ callee_of P name
