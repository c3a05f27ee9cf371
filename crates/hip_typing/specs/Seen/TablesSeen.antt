-- The meaning of the code's tables of a program and of a function.
use Rattle.std.specs.Prelude.{map}
use Rattle.hip_typing.specs.Seen.Arrivals.{FindsPredecessors}
use Rattle.hip_names.specs.Names.{Knows}
use Rattle.hip_sound.specs.Places.{Scope, scope_of}
use Rattle.hip_sound.specs.Registers.{registers_of}
use Rattle.hip_typing.specs.Seen.Tables.{Finds, FindsCallees}
use Rattle.hip_typing.specs.declared.tables.FunctionTables.{FunctionTables}
use Rattle.hip_typing.specs.declared.tables.ProgramTables.{ProgramTables}

-- The tables have the names of the program's globals, and find what its calls may name.
pub record DescribesProgram (t : ProgramTables) : Type 0 where
  pub globals : Knows t.globals (map (λ g. g.name) t.program.now.globals)
  pub callees : FindsCallees t.callees.names t.callees.values t.program.now

-- The tables find the function's registers, have its labels, and find the predecessors of its blocks.
pub record DescribesFunction (t : FunctionTables) : Type 0 where
  pub registers : Finds t.registers.names t.registers.values (registers_of t.function.now)
  pub labels : Knows t.labels (map (λ b. b.label) t.function.now.blocks)
  pub before : FindsPredecessors t.before.sets t.function.now.blocks

-- The scope of the places in the function: its program, itself and its registers.
abbrev pub scope_in : ProgramTables → FunctionTables → Scope
scope_in p f = scope_of p.program.now f.function.now
