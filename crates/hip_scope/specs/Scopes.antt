-- What the code knows of a function while it is resolved.
use Rattle.std.specs.Prelude.{ℕ, ◌≡◌, ◌<◌, List, length, map, Some, slice_get}
use Rattle.hip_tree.specs.declared.instr.Instr.{Instr}
use Rattle.hip_tree.specs.declared.block.Block.{Block}
use Rattle.hip_tree.specs.declared.block.End.{End}
use Rattle.hip_tree.specs.declared.instr.Operand as named
use Rattle.hip_tree.specs.declared.program.Program.{Program}
use Rattle.hip_globals.specs.AddressesSeen.{address_beside}
use Rattle.hip_globals.specs.Values.{global_address}
use Rattle.hip_runs.specs.declared.input.Input.{Input}
use Rattle.hip_sound.specs.NumberedNames.{function_names}
use Rattle.hip_sound.specs.Sound.{IsSound}
use Rattle.hip_runs.specs.Places.{block_at, blocks_of}
use Rattle.hip_code.specs.Entries.{entry}
use Rattle.hip_code.specs.Frames.{names_at}
use Rattle.hip_code.specs.Numbers.{Tables}
use Rattle.hip_code.specs.Resolved.{IsOperandIn, Resolves, EndResolves}
use Rattle.hip_code.specs.declared.op.Op.{Op}
use Rattle.hip_code.specs.declared.op.OpOperand.{OpOperand}
use Rattle.hip_scope.specs.Listed.{HasExtents, Lists}
use Rattle.hip_scope.specs.PhiNumbers.{HasTables}
use Rattle.hip_scope.specs.declared.scope.Known.{Known}
use Rattle.hip_scope.specs.declared.scope.Scope.{Scope}

-- The names of the function's registers.
abbrev pub names_of : Scope → List (List ℕ)
names_of s = names_at s.program.now s.number

-- The list has a number for each function.
abbrev pub OfFunctions : Program → List ℕ → (ℕ → ℕ) → Type 0
OfFunctions P numbers number = Lists numbers (length P.functions) number

-- The program is sound, and the tables of names, addresses and places are the program's.
pub record IsKnown (k : Known) : Type 0 where
  pub sound : IsSound k.program.now
  pub addresses : address_beside k.addresses.now ≡ global_address k.program.now.globals k.base
  pub functions : k.functions.now ≡ function_names k.program.now.functions
  pub starts : OfFunctions k.program.now k.starts.now (λ g. entry k.program.now g 0)
  pub sizes : OfFunctions k.program.now k.sizes.now (λ g. length (names_at k.program.now g))

-- The program is sound, and the tables of names, addresses and places are those of the program and of the function.
pub record DescribesScope (s : Scope) : Type 0 where
  pub sound : IsSound s.program.now
  pub addresses : address_beside s.addresses.now ≡ global_address s.program.now.globals s.base
  pub functions : s.functions.now ≡ function_names s.program.now.functions
  pub starts : OfFunctions s.program.now s.starts.now (λ g. entry s.program.now g 0)
  pub sizes : OfFunctions s.program.now s.sizes.now (λ g. length (names_at s.program.now g))
  pub function : slice_get s.program.now.functions s.number ≡ Some s.function.now
  pub registers : s.registers ≡ names_at s.program.now s.number
  pub labels : s.labels ≡ map (λ b. b.label) (blocks_of s.program.now s.number)
  pub as_long : length s.places ≡ length (blocks_of s.program.now s.number)
  pub places : (b : ℕ) → b < length s.places → slice_get s.places b ≡ Some (entry s.program.now s.number b)
  pub sources : (b : ℕ) (block : Block) → block_at s.program.now s.number b ≡ Some block
      → HasTables s.sources b block.phis
  pub extents : HasExtents s.program.now s.number s.extents

-- The operand resolves an operand of the function.
abbrev pub OperandStandsFor : Scope → Tables → OpOperand → named.Operand → Type 0
OperandStandsFor s t o x = IsOperandIn s.program.now s.base s.number t o x

-- The op does what the instruction does, on each input whose region begins at the base.
pub record DoesInstr (P : Program) (base f : ℕ) (t : Tables) (o : Op) (i : Instr) : Type 0 where
  pub on : (I : Input) → I.base ≡ base → Resolves P I f t o i

-- The op does what the end of block b does, on each input whose region begins at the base.
pub record DoesEnd (P : Program) (base f b : ℕ) (t : Tables) (o : Op) (e : End) : Type 0 where
  pub on : (I : Input) → I.base ≡ base → EndResolves P I f b t o e

-- The op does what an instruction of the function does, on each input whose region begins at the base.
abbrev pub DoesHere : Scope → Tables → Op → Instr → Type 0
DoesHere s t o i = DoesInstr s.program.now s.base s.number t o i
